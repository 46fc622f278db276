-- Steps of finding the first cosignature by each witness.
use Rattle.std.specs.Prelude.{◌≡◌, ℕ, ◌<◌, slice_index_or, ◌⊎◌, List, [], ◌∷◌, ◌++◌, Option, Some, None}
use Rattle.std.specs.List.{Any}
use Rattle.tl_hash.specs.Bytes.{Bytes}
use Rattle.tl_note.specs.Key.{Key}
use Rattle.tl_note.specs.Note.{Signature}
use Rattle.tl_checkpoint.specs.Quorum.{IsOfSome}
use Rattle.tl_checkpoint.specs.declared.quorum.Cosigned.{Cosigned}

-- the line is a cosignature by no witness
abbrev pub IsOfNone : Bytes → List Key → Signature → Type 0
IsOfNone text witnesses line = (place time : ℕ) → IsOfSome text witnesses line place time → ⊥

-- the list has a cosignature by this witness and doesn't change, or this one is added
abbrev pub Keeps : Cosigned → List Cosigned → List Cosigned → Type 0
Keeps c old new = (Any (λ d. d.witness ≡ c.witness) old × (new ≡ old)) ⊎ ((Any (λ d. d.witness ≡ c.witness) old → ⊥) × (new ≡ old ++ c ∷ []))

abbrev pub KeepsNew : Option Cosigned → List Cosigned → List Cosigned → Type 0
KeepsNew None old new = new ≡ old
KeepsNew (Some c) old new = Keeps c old new

-- an earlier witness has the name of the one at this index
abbrev pub IsRepeated : List Key → ℕ → Type 0
IsRepeated witnesses place =
    (i : ℕ) × (i < place) × ((d : Key) → (slice_index_or witnesses i d).name ≡ (slice_index_or witnesses place d).name)
