-- Bringing a log's checkpoint before witnesses (C2SP tlog-witness, tlog-cosignature).
use Rattle.std.specs.Prelude.{◌≡◌, ◌⊎◌, ◌++◌}
use Rattle.tl_hash.specs.Bytes.{Bytes}
use Rattle.tl_hash.specs.declared.head.Head.{Head}
use Rattle.tl_device.specs.Device.{Passage, IsUnwritten}
use Rattle.tl_tile.specs.declared.resource.Resource.TheVariants.{Checkpoint}
use Rattle.tl_run.specs.declared.fault.RunFault.TheVariants.{OutOfMemory}
use Rattle.tl_fetch.specs.declared.fault.FetchFault.{FetchFault}
use Rattle.tl_fetch.specs.declared.fault.FetchFault.TheVariants.{Run}
use Rattle.tl_fetch.specs.Faults.{IsNoAccusation, bad_checkpoint}
use Rattle.tl_fetch.specs.Fetching.{Grounds, LacksTrust, RefusesTwo}
use Rattle.tl_fetch.specs.Opening.{RefusesNote}
use Rattle.tl_fetch.specs.Printed.{FailsWriting, PrintedSome, PrintedWhole}
use Rattle.tl_fetch.specs.Trusting.{AreTwo, IsGrown, IsNoteOf, Policy, Two, alone}

-- ---- what is printed

-- the text is this note and more lines behind it, and it is trusted, of the same log, size and root: enough of the
-- witnesses cosigned this very checkpoint
pub record IsFedNote (policy : Policy) (note : Bytes) (head : Head) (text : Bytes) : Type 0 where
  pub lines : Bytes
  pub joined : text ≡ note ++ lines
  pub trusted : IsNoteOf policy text head

-- the source's note, which the log's key signed, extends the state's and is kept there, and was printed with the
-- lines of enough witnesses
pub record HasFed (has_kept : Bytes → Type 0) (policy : Policy) (two : Two) (o : Passage) : Type 0 where
  pub grown : IsGrown two.old two.new
  pub kept : has_kept two.note
  pub printed : PrintedWhole (IsFedNote policy two.note two.new) o

-- ---- why nothing is printed, or not all

-- the note with the witnesses' lines isn't trusted, for a reason that has this fault; or memory ran out
abbrev pub IsUnfed : Policy → Bytes → FetchFault → Type 0
IsUnfed policy note fault =
    ((lines : Bytes) × RefusesNote policy (note ++ lines) fault)
    ⊎ ((fault ≡ Run OutOfMemory) ⊎ (fault ≡ Run bad_checkpoint))

-- not enough witnesses cosign, and nothing is printed; or the writer fails
abbrev pub BreaksOffFeeding : Policy → Two → FetchFault → Passage → Type 0
BreaksOffFeeding policy two fault o =
    (IsUnfed policy two.note fault × IsUnwritten o) ⊎ (FailsWriting fault o × PrintedSome (IsFedNote policy two.note two.new) o)

-- the log extends what was known, and the state fails before anything is printed, or it has kept the note and that
-- isn't printed
pub record RefusesFed (grounds : Grounds) (policy : Policy) (two : Two) (fault : FetchFault) (o : Passage) : Type 0 where
  pub grown : IsGrown two.old two.new
  pub why : (grounds.fails fault × IsUnwritten o) ⊎ (grounds.keeps two.note × BreaksOffFeeding policy two fault o)
  pub fair : IsNoAccusation fault

-- a run fails, as `RefusesFetch` says: before there is trust; or over two checkpoints of which one doesn't extend the
-- other; or after that
abbrev pub RefusesFeed : Grounds → Policy → FetchFault → Passage → Type 0
RefusesFeed grounds policy fault o =
    (LacksTrust grounds (alone policy) fault × IsNoAccusation fault × grounds.still × IsUnwritten o)
    ⊎ ((two : Two) × AreTwo grounds.has (grounds.answers Checkpoint) (alone policy) two
    × ((RefusesTwo grounds (alone policy) two fault o × grounds.still) ⊎ RefusesFed grounds policy two fault o))
