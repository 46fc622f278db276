-- What reading a log of a list answers, and how it changes the logs.
use Rattle.std.specs.Prelude.{◌≡◌, List, Option, Some, None, option_map, Result, Ok, Err}
use Rattle.std.specs.Borrow.{Bor}
use Rattle.tl_hash.specs.Bytes.{Bytes}
use Rattle.tl_key.specs.KeyText.{IsVerifierText}
use Rattle.tl_key.specs.NoteKey.{note_kind}
use Rattle.tl_logs.specs.declared.entry.ListEntry.{ListEntry}
use Rattle.tl_logs.specs.declared.fault.LogsFault.{LogsFault}
use Rattle.tl_logs.specs.declared.fault.LogsFault.TheVariants as why
use Rattle.tl_logs.specs.declared.line.KeyLine.{KeyLine}
use Rattle.tl_logs.specs.declared.line.LineFault.{LineFault}
use Rattle.tl_logs.specs.declared.line.LineFault.TheVariants.{Malformed, Twice, OutOfMemory}
use Rattle.tl_logs.specs.LogList.{Entry, IsLog}
use Rattle.tl_logs.specs.LogsFile.{Log, LogKey}
use Rattle.tl_logs.specs.Inner.Lines.{given_by}
use Rattle.tl_logs.specs.Inner.Placing.{HasKey, PutsKey}

-- what stands behind a reference, if there is one
abbrev pub name_of : Option (Bor Bytes) → Option Bytes
name_of name = option_map (λ text. text.now) name

-- the log that an entry in memory is
abbrev pub entry_of : ListEntry → Entry
entry_of e = record { number = e.line; key = e.key.now; name = name_of e.name }

abbrev pub entry_in : Option ListEntry → Option Entry
entry_in waiting = option_map entry_of waiting

-- a key, which is given to the log of this name
abbrev pub IsUnder : Bytes → Bytes → LogKey → Type 0
IsUnder name text k = IsVerifierText note_kind text k.key × (k.origin ≡ name)

abbrev pub ReadsUnder : {A : Type 0} → Bytes → Bytes → Result (KeyLine A) LineFault → Type 0
ReadsUnder name text (Ok l) = IsUnder name text (given_by l)
ReadsUnder name text (Err Malformed) = (k : LogKey) → ¬ (IsUnder name text k)
ReadsUnder name text (Err Twice) = ⊥
ReadsUnder name text (Err OutOfMemory) = (k : LogKey) × IsUnder name text k

-- the key that a log of a list has
abbrev pub ReadsEntry : {A : Type 0} → Entry → Result (KeyLine A) LineFault → Type 0
ReadsEntry e (Ok l) = IsLog e (given_by l)
ReadsEntry e (Err Malformed) = (k : LogKey) → ¬ (IsLog e k)
ReadsEntry e (Err Twice) = ⊥
ReadsEntry e (Err OutOfMemory) = (k : LogKey) × IsLog e k

-- a log of a list, if there is one, is taken: its key is added to those of its log
abbrev pub TakesEntry : Option Entry → List Log → List Log → Result (Unit {0}) LogsFault → Type 0
TakesEntry None old new (Ok done) = new ≡ old
TakesEntry None old new (Err fault) = ⊥
TakesEntry (Some e) old new (Ok done) = (k : LogKey) × IsLog e k × PutsKey k old new
TakesEntry (Some e) old new (Err (why.Malformed number)) = (e.number ≡ number) × ((k : LogKey) → ¬ (IsLog e k))
TakesEntry (Some e) old new (Err (why.Twice number)) = (e.number ≡ number) × ((k : LogKey) × IsLog e k × HasKey k old)
TakesEntry (Some e) old new (Err why.OutOfMemory) = (k : LogKey) × IsLog e k
