-- Answers of a witness that are no cosignature.
use Rattle.std.specs.Prelude.{◌⊎◌, ℕ, List, All}
use Rattle.tl_hash.specs.Bytes.{Bytes}
use Rattle.tl_note.specs.Key.{Key}
use Rattle.tl_note.specs.Note.{Signature}
use Rattle.tl_note.specs.View.{AreLines}
use Rattle.tl_checkpoint.specs.Cosignature.{IsCosignature}

-- the line isn't a cosignature of this text by any of these keys
abbrev pub IsOther : Bytes → List Key → Signature → Type 0
IsOther text keys line = All (λ key. (time : ℕ) → ¬ (IsCosignature text key line time)) keys

-- the bytes are signature lines, none of them a cosignature by these keys, or they aren't signature lines
abbrev pub AreOthers : Bytes → List Key → Bytes → Type 0
AreOthers text keys bytes =
    ((lines : List Signature) × AreLines bytes lines × All (IsOther text keys) lines)
    ⊎ ((lines : List Signature) → ¬ (AreLines bytes lines))
