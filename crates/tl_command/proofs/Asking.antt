-- When a command allocates: something was read, or something is printed for an empty input.
use Rattle.std.proofs.Common.{◌≡◌, ℕ, suc, ◌+◌, ◌<◌, ◌≤◌, inl, inr, List, [], ◌∷◌, length, None, refl, sym, ap, ◌∙◌, arith, Some}
use Rattle.std.proofs.lemmas.Bool.{cases_lt}
use Rattle.std.specs.Prelude.{Err}
use Rattle.tl_text.specs.Text.{IsOneLine}
use Rattle.tl_device.specs.Device.{Passage, IsUnwritten, GaveSome, ReadWhole}
use Rattle.tl_command.specs.Inner.Cuts.{BeginsWithLines, IsMarkFault}
use Rattle.sha2.specs.Sha256.{sha256}
use Rattle.tl_hash.specs.Tree.{tree_hash}
use Rattle.tl_tile.specs.RightEdge.{EdgeContents, IsEdgeOf}
use Rattle.tl_checkpoint.specs.Checkpoint.{checkpoint_text}
use Rattle.tl_command.specs.Inner.Growing.{ReadEdge, ReadsEdge}
use Rattle.tl_run.specs.declared.fault.RunFault.{RunFault}
use Rattle.tl_run.specs.declared.fault.RunFault.TheVariants.{Refused, Read, Write, TooLarge, EntryTooLong, BadOrigin, BadIndex, BadOld, BadPath, NotThere, Malformed, Chain, Sign, Operator, Listen, Accept, OutOfMemory, BadName, BadKey, BadCheckpoint, WrongSignature, Unverified, Device, BadKeyFile, NothingThere}
use Rattle.tl_command.specs.Lines.{entries_of, first_too_long}
use Rattle.tl_run.specs.Run.{Output, Prints, Fails, Runs, CameOf, IsAsking, most_input}
use Rattle.tl_command.specs.Entries.{ReadEntries}
use Rattle.tl_command.specs.Head.{HeadComes, RunsHead, head_text}
use Rattle.tl_command.specs.ProofText.{consistency_text}
use Rattle.tl_command.specs.ProofCommands.{ConsistencyComes, consistency_of}
use Rattle.tl_command.proofs.LinesLemmas.{entries_of_nothing}
use Rattle.tl_command.proofs.WholeLines.{lines_within}

-- an input with a line has a byte
pub lines_some : (input : List ℕ) → 0 < length (entries_of input) → 0 < length input
lines_some [] some = let none : length (entries_of []) ≡ 0 = ap length (entries_of_nothing [] refl) in absurd (omega (arith, none, some))
lines_some (x ∷ xs) some = let count : length (x ∷ xs) ≡ 1 + length xs = omega arith in omega (arith, count)

pub none_too_long : first_too_long (entries_of []) ≡ None
none_too_long = ap first_too_long (entries_of_nothing [] refl)

-- a reader that gave an entry gave some bytes
pub gave_entry : (p : Passage) (most : ℕ) (entries : List (List ℕ)) → ReadEntries p most entries → 0 < length entries → GaveSome p
gave_entry p most entries read some = (read.input, read.whole.consumed, lines_some read.input (omega (arith, some, ap length read.lines)))

-- a reader that gave a line gave some bytes
pub gave_line : (p : Passage) (most : ℕ) (input : List ℕ) → ReadWhole p most input → 0 < length (entries_of input) → GaveSome p
gave_line p most input whole some = (input, whole.consumed, lines_some input some)

-- a consistency proof is printed for no lines if the old size is 0
pub asks_of_old : (old : ℕ) (p : Passage) (most : ℕ) (input : List ℕ) → ReadWhole p most input → old ≤ length (entries_of input) → IsAsking (ConsistencyComes old) p
asks_of_old old p most input whole within =
    elim (cases_lt 0 old) as (λ _. IsAsking (ConsistencyComes old) p) [
      | inl some ↦ inl (gave_line p most input whole (omega (arith, some, within)))
      | inr none ↦ inr (consistency_text (consistency_of old (entries_of [])), (none_too_long, omega (arith, none), refl))
    ]

-- a checkpoint is printed for any input
pub asks_of_head : (origin : List ℕ) (p : Passage) → IsAsking (HeadComes origin) p
asks_of_head origin p = inr (head_text origin (entries_of []), (none_too_long, refl))

-- the text of the checkpoint of the log of an input's lines, whose edge was read
pub head_came : (origin : List ℕ) (i : Passage) (edge : EdgeContents) (size : ℕ) (root text bytes : List ℕ) → ReadEdge i edge → size ≡ edge.size
    → ((entries : List (List ℕ)) → IsEdgeOf edge sha256 entries → root ≡ tree_hash sha256 entries)
    → bytes ≡ checkpoint_text (record { origin = origin; size = size; root = root; extensions = [] }) → text ≡ bytes → CameOf (HeadComes origin) i (Prints text)
head_came origin i edge size root text bytes read counted hashed is same =
    let count : size ≡ length (entries_of read.input) = counted ∙ sym read.stands.0 in
    let tree : root ≡ tree_hash sha256 (entries_of read.input) = hashed (entries_of read.input) read.stands in
    record {
      input = read.input;
      whole = read.whole;
      so = (read.short, same ∙ is ∙ (λ j. checkpoint_text (record { origin = origin; size = count j; root = tree j; extensions = [] })));
    }

-- a fault of reading an input's edge is one of `head`
pub head_fault : (origin : List ℕ) (i o : Passage) (fault : RunFault) → IsOneLine origin → IsUnwritten o → ReadsEdge i (Err fault) → RunsHead origin i o (Err fault)
head_fault origin i o Refused line none reads = absurd reads
head_fault origin i o Read line none reads = (line, (reads, none))
head_fault origin i o Write line none reads = absurd reads
head_fault origin i o TooLarge line none reads = (line, (reads, none))
head_fault origin i o (EntryTooLong place) line none reads = (line, (record { input = reads.input; whole = reads.whole; so = reads.first }, none))
head_fault origin i o BadOrigin line none reads = absurd reads
head_fault origin i o BadIndex line none reads = absurd reads
head_fault origin i o BadOld line none reads = absurd reads
head_fault origin i o BadPath line none reads = absurd reads
head_fault origin i o NotThere line none reads = absurd reads
head_fault origin i o Malformed line none reads = absurd reads
head_fault origin i o (Chain place) line none reads = absurd reads
head_fault origin i o Sign line none reads = absurd reads
head_fault origin i o Operator line none reads = absurd reads
head_fault origin i o Listen line none reads = absurd reads
head_fault origin i o Accept line none reads = absurd reads
head_fault origin i o (Device place why) line none reads = absurd reads
head_fault origin i o OutOfMemory line none reads = (line, (reads, none, asks_of_head origin i))
head_fault origin i o BadName line none reads = absurd reads
head_fault origin i o BadKey line none reads = absurd reads
head_fault origin i o BadKeyFile line none reads = absurd reads
head_fault origin i o (NothingThere _) line none reads = absurd reads
head_fault origin i o (BadCheckpoint place) line none reads = absurd reads
head_fault origin i o (WrongSignature place) line none reads = absurd reads
head_fault origin i o Unverified line none reads = absurd reads

-- the lines of the whole input, none of which is too long
pub read_lines : (p : Passage) (most : ℕ) (input text : List ℕ) (lines : List (List ℕ)) → ReadWhole p most input → text ≡ input → lines ≡ entries_of text
    → first_too_long (entries_of text) ≡ None → ReadEntries p most lines
read_lines p most input text lines whole same is short =
    record { input = input; whole = whole; lines = is ∙ ap entries_of same; short = ap first_too_long is ∙ short }

-- a text that begins with a line has a byte
pub begins_some : (text : List ℕ) (count : ℕ) → BeginsWithLines text (suc count) → 0 < length text
begins_some text count some = omega (arith, lines_within text some.lines some.rest some.begins, some.number)

-- why the lines of the whole input weren't counted is a fault of the run
pub entry_fails : (Comes : List ℕ → Output → Type 0) (i o : Passage) (input text : List ℕ) (fault : RunFault) → ReadWhole i most_input input → text ≡ input → IsUnwritten o
    → ((place : ℕ) → first_too_long (entries_of input) ≡ Some place → Comes input (Fails (EntryTooLong place))) → IsMarkFault text fault → Runs Comes i o (Err fault)
entry_fails Comes i o input text (EntryTooLong place) whole same none comes given =
    (record { input = input; whole = whole; so = comes place (ap (λ (t : List ℕ). first_too_long (entries_of t)) (sym same) ∙ given) }, none)
entry_fails Comes i o input text Refused whole same none comes given = absurd given
entry_fails Comes i o input text Read whole same none comes given = absurd given
entry_fails Comes i o input text Write whole same none comes given = absurd given
entry_fails Comes i o input text TooLarge whole same none comes given = absurd given
entry_fails Comes i o input text BadOrigin whole same none comes given = absurd given
entry_fails Comes i o input text BadIndex whole same none comes given = absurd given
entry_fails Comes i o input text BadOld whole same none comes given = absurd given
entry_fails Comes i o input text BadPath whole same none comes given = absurd given
entry_fails Comes i o input text NotThere whole same none comes given = absurd given
entry_fails Comes i o input text Malformed whole same none comes given = absurd given
entry_fails Comes i o input text (Chain place) whole same none comes given = absurd given
entry_fails Comes i o input text Sign whole same none comes given = absurd given
entry_fails Comes i o input text Operator whole same none comes given = absurd given
entry_fails Comes i o input text Listen whole same none comes given = absurd given
entry_fails Comes i o input text Accept whole same none comes given = absurd given
entry_fails Comes i o input text (Device place why) whole same none comes given = absurd given
entry_fails Comes i o input text OutOfMemory whole same none comes given = (whole.steady, none, inl (input, whole.consumed, omega (arith, begins_some text 255 given, ap length same)))
entry_fails Comes i o input text BadName whole same none comes given = absurd given
entry_fails Comes i o input text BadKey whole same none comes given = absurd given
entry_fails Comes i o input text BadKeyFile whole same none comes given = absurd given
entry_fails Comes i o input text (NothingThere _) whole same none comes given = absurd given
entry_fails Comes i o input text (BadCheckpoint place) whole same none comes given = absurd given
entry_fails Comes i o input text (WrongSignature place) whole same none comes given = absurd given
entry_fails Comes i o input text Unverified whole same none comes given = absurd given
