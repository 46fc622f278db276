-- What is printed of an accepted proof: a format of this project.
use Rattle.std.specs.Prelude.{ℕ, List, [], ◌∷◌, ◌++◌, codes, Option, None, Some}
use Rattle.tl_hash.specs.Bytes.{Bytes}
use Rattle.tl_text.specs.Text.{line, number_text}
use Rattle.tl_policy.specs.Terms.{WitnessTerm}

-- the line of a witness, by its name in the policy, if it cosigned
abbrev pub witness_line : Bytes → Option ℕ → Bytes
witness_line name None = []
witness_line name (Some time) = line (codes "witness " ++ name ++ codes " " ++ number_text time)

-- those of all witnesses, in order
abbrev pub witness_lines : List WitnessTerm → List (Option ℕ) → Bytes
witness_lines (w ∷ ws) (time ∷ times) = witness_line w.name time ++ witness_lines ws times
witness_lines _ _ = []

-- the size of the checkpoint and the entry's index, and the witnesses
abbrev pub accepted_text : List WitnessTerm → ℕ → ℕ → List (Option ℕ) → Bytes
accepted_text witnesses size index times =
    line (codes "accepted " ++ number_text size ++ codes " " ++ number_text index) ++ witness_lines witnesses times
