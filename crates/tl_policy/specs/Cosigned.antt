-- Which witnesses of a policy cosigned a checkpoint's text (C2SP tlog-cosignature).
use Rattle.std.specs.Prelude.{◌≡◌, ℕ, ◌⊎◌, Bool, List, [], ◌∷◌, map, is_some, Option, None, Some}
use Rattle.std.specs.List.{AllZip}
use Rattle.tl_hash.specs.Bytes.{Bytes}
use Rattle.tl_key.specs.NoteKey.{PublicKey, verifier_key}
use Rattle.tl_note.specs.Note.{Signature}
use Rattle.tl_checkpoint.specs.Cosignature.{IsCosignature}
use Rattle.tl_policy.specs.Terms.{WitnessTerm}

-- the line is no cosignature of the text by this key
abbrev pub IsNone : Bytes → PublicKey → Signature → Type 0
IsNone text key line = (time : ℕ) → ¬ (IsCosignature text (verifier_key key) line time)

-- the time of the key's first cosignature of the text among these lines, if there is one
abbrev pub IsFirstTime : Bytes → PublicKey → List Signature → Option ℕ → Type 0
IsFirstTime text key [] time = time ≡ None
IsFirstTime text key (line ∷ lines) time =
    ((t : ℕ) × IsCosignature text (verifier_key key) line t × (time ≡ Some t)) ⊎ (IsNone text key line × IsFirstTime text key lines time)

-- so for each witness, in order
abbrev pub AreTimes : Bytes → List Signature → List WitnessTerm → List (Option ℕ) → Type 0
AreTimes text lines witnesses times = AllZip (λ w time. IsFirstTime text w.key lines time) witnesses times

-- the set of those that cosigned
abbrev pub cosigners : List (Option ℕ) → List Bool
cosigners times = map is_some times
