-- What parsing one line answers.
use Rattle.std.specs.Prelude.{◌≡◌, ◌⊎◌, [], ◌∷◌, ◌++◌, Result, Ok, Err, Option, Some, None, string_bytes}
use Rattle.tl_hash.specs.Bytes.{Bytes}
use Rattle.tl_note.specs.Key.{IsKeyName}
use Rattle.tl_key.specs.KeyText.{IsVerifierText}
use Rattle.tl_key.specs.Reading.{IsNoVerifierText}
use Rattle.tl_key.specs.NoteKey.{PublicKey, note_kind}
use Rattle.tl_logs.specs.declared.line.KeyLine.{KeyLine}
use Rattle.tl_logs.specs.declared.line.LineFault.{LineFault}
use Rattle.tl_logs.specs.declared.line.LineFault.TheVariants.{Malformed, Twice, OutOfMemory}
use Rattle.tl_logs.specs.LogsFile.{GivesKey, IsInOneLine, IsNoLine, IsPassedOver, LogKey, NamesKey}

-- the bytes are cut after their first line
abbrev pub CutsLine : Bytes → Bytes → Bytes → Type 0
CutsLine bytes words rest = IsInOneLine words × ((bytes ≡ words ++ 10 ∷ rest) ⊎ ((bytes ≡ words) × (rest ≡ [])))

-- the key and log that a line was parsed as
abbrev pub given_by : {A : Type 0} → KeyLine A → LogKey
given_by l = record { origin = string_bytes l.origin; key = l.key }

-- the key that a text is, or that it is none
abbrev pub ReadsText : Bytes → Result PublicKey LineFault → Type 0
ReadsText text (Ok k) = IsVerifierText note_kind text k
ReadsText text (Err Malformed) = IsNoVerifierText note_kind text
ReadsText text (Err Twice) = ⊥
ReadsText text (Err OutOfMemory) = (k : PublicKey) × IsVerifierText note_kind text k

-- the words are a key, whose name is the log's
abbrev pub IsAlone : Bytes → LogKey → Type 0
IsAlone words k = IsVerifierText note_kind words k.key × (k.origin ≡ k.key.name)

abbrev pub ReadsAlone : {A : Type 0} → Bytes → Result (KeyLine A) LineFault → Type 0
ReadsAlone words (Ok l) = IsAlone words (given_by l)
ReadsAlone words (Err Malformed) = (k : LogKey) → ¬ (IsAlone words k)
ReadsAlone words (Err Twice) = ⊥
ReadsAlone words (Err OutOfMemory) = (k : LogKey) × IsAlone words k

-- the words are a log's name, a space and a key
abbrev pub IsBehind : Bytes → LogKey → Type 0
IsBehind words k = (text : Bytes) × IsKeyName k.origin × IsVerifierText note_kind text k.key × (words ≡ k.origin ++ 32 ∷ text)

abbrev pub ReadsBehind : {A : Type 0} → Bytes → Result (KeyLine A) LineFault → Type 0
ReadsBehind words (Ok l) = IsBehind words (given_by l)
ReadsBehind words (Err Malformed) = (k : LogKey) → ¬ (IsBehind words k)
ReadsBehind words (Err Twice) = ⊥
ReadsBehind words (Err OutOfMemory) = (k : LogKey) × IsBehind words k

-- the key that a text gives in either form
abbrev pub ReadsNamed : {A : Type 0} → Bytes → Result (KeyLine A) LineFault → Type 0
ReadsNamed words (Ok l) = NamesKey words (given_by l)
ReadsNamed words (Err Malformed) = (k : LogKey) → ¬ (NamesKey words k)
ReadsNamed words (Err Twice) = ⊥
ReadsNamed words (Err OutOfMemory) = (k : LogKey) × NamesKey words k

-- the key that a line gives, or none if the line is skipped
abbrev pub ReadsLine : {A : Type 0} → Bytes → Result (Option (KeyLine A)) LineFault → Type 0
ReadsLine words (Ok None) = IsPassedOver words
ReadsLine words (Ok (Some l)) = GivesKey words (given_by l)
ReadsLine words (Err Malformed) = IsNoLine words
ReadsLine words (Err Twice) = ⊥
ReadsLine words (Err OutOfMemory) = (k : LogKey) × GivesKey words k
