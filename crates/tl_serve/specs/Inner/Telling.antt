-- What a server reports: a line for each event, and how much of it the writer took.
use Rattle.std.specs.Prelude.{◌≡◌, ◌⊎◌, ℕ, suc, zero, ◌++◌, Result, Ok, Err, codes}
use Rattle.tl_hash.specs.Bytes.{Bytes}
use Rattle.tl_text.specs.Text.{line, number_text}
use Rattle.tl_device.specs.Device.{IsUnwritten, Passage, WrotePart, WroteWhole}
use Rattle.tl_run.specs.declared.fault.RunFault.{RunFault}
use Rattle.tl_run.specs.declared.fault.RunFault.TheVariants as run
use Rattle.tl_append.specs.Appending.{head_line}

-- the writer took this text; or a part of it, and then failed; or nothing, since allocation failed
abbrev pub Tells : Bytes → Passage → Result (Unit {0}) RunFault → Type 0
Tells text o (Ok done) = WroteWhole o text
Tells text o (Err fault) = ((fault ≡ run.Write) × WrotePart o text) ⊎ ((fault ≡ run.OutOfMemory) × IsUnwritten o)

-- the lines: of a publication, after this word
abbrev pub told_head : Bytes → ℕ → Bytes → Bytes
told_head word size root = word ++ head_line size root

-- of a log that is closed with this many entries
abbrev pub told_closed : ℕ → Bytes
told_closed size = line (codes "closed " ++ number_text size)

-- of the line with this number, which is too long
abbrev pub told_too_long : ℕ → Bytes
told_too_long number = codes "line " ++ number_text number ++ line (codes " too long")

-- of the end of the input
abbrev pub told_input_ended : Bytes
told_input_ended = line (codes "input ended")

-- of this many lines that came and were not published
abbrev pub told_not_published : ℕ → Bytes
told_not_published count = line (codes "lines not published: " ++ number_text count)

-- what is reported of this many lines that were not published, if there are any
abbrev pub TellsRest : ℕ → Passage → Result (Unit {0}) RunFault → Type 0
TellsRest zero o told = IsUnwritten o × (told ≡ Ok tt)
TellsRest (suc n) o told = Tells (told_not_published (suc n)) o told
