-- This many of given witnesses, as a policy: one group of them all.
use Rattle.std.specs.Prelude.{ℕ, List, [], ◌∷◌, map, codes, Some}
use Rattle.std.specs.List.{enumerate_from}
use Rattle.tl_policy.specs.declared.policy.Member.TheVariants.{Witness, Group}
use Rattle.tl_policy.specs.Terms.{LogTerm, Terms, WitnessTerm}

-- this many of the witnesses have to have cosigned
abbrev pub need_terms : ℕ → List LogTerm → List WitnessTerm → Terms
need_terms count logs witnesses = record {
  logs = logs;
  witnesses = witnesses;
  groups = record { name = codes "need"; threshold = count; members = map (λ w. Witness w.0) (enumerate_from 0 witnesses) } ∷ [];
  quorum = Some (Group 0);
}
