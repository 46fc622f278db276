-- Fetching from a log that isn't trusted.
use Rattle.std.specs.Prelude.{◌≡◌, ◌⊎◌, ◌<◌, ◌≤◌, ℕ, true, false, Option, Some, None}
use Rattle.tl_hash.specs.Bytes.{Bytes}
use Rattle.tl_device.specs.Device.{Passage, IsUnwritten}
use Rattle.tl_tile.specs.declared.resource.Resource.{Resource}
use Rattle.tl_tile.specs.declared.resource.Resource.TheVariants.{Checkpoint}
use Rattle.tl_fetch.specs.declared.fault.FetchFault.{FetchFault}
use Rattle.tl_fetch.specs.declared.fault.FetchFault.TheVariants.{Run, Older, Forked}
use Rattle.tl_fetch.specs.declared.options.FetchRequest.{FetchRequest}
use Rattle.tl_fetch.specs.declared.options.FetchRequest.TheVariants as wanted
use Rattle.tl_client.specs.declared.fault.ClientFault.{ClientFault}
use Rattle.tl_hash.specs.declared.head.Head.{Head}
use Rattle.tl_fetch.specs.Evidence.{IsEvidenceOf, IsOfNoLog, RefusesComparison}
use Rattle.tl_fetch.specs.Faults.{IsNoAccusation, after_client, bad_checkpoint}
use Rattle.tl_fetch.specs.Opening.{RefusesCheckpoint, RefusesState}
use Rattle.tl_fetch.specs.Trusting.{Policy, AreTwo, IsGrown, IsKnown, Two}
use Rattle.tl_fetch.specs.Printed.{IsWanted, IsBegun, FailsWriting, PrintedSome, PrintedWhole, RefusesWanted}

-- what a reader of a log relies on and doesn't trust: which texts the source may answer for a resource, and which
-- resources it may lack; which note the state may have, with which faults it may fail, that it is as it was, and
-- which note it has kept
pub record Grounds : Type 1 where
  pub answers : Resource → Bytes → Type 0
  pub lacks : Resource → Type 0
  pub has : Option Bytes → Type 0
  pub fails : FetchFault → Type 0
  pub still : Type 0
  pub keeps : Bytes → Type 0

abbrev pub grounds_of : (Resource → Bytes → Type 0) → (Resource → Type 0) → (Option Bytes → Type 0) → (FetchFault → Type 0) → Type 0 → (Bytes → Type 0) → Grounds
grounds_of answers lacks has fails still keeps =
    record { answers = answers; lacks = lacks; has = has; fails = fails; still = still; keeps = keeps }

-- the same, if nobody sees what the state keeps
abbrev pub unseen_of : (Resource → Bytes → Type 0) → (Resource → Type 0) → (Option Bytes → Type 0) → (FetchFault → Type 0) → Grounds
unseen_of answers lacks has fails = grounds_of answers lacks has fails (Unit {0}) (λ note. Unit {0})

-- up to where all entries were printed: the note that was trusted then, if there is one, and its head, which the log
-- extends
pub record IsMarked (may_have : Option Bytes → Type 0) (policy : Policy) (new : Head) (last : Option Bytes) (old : Head) : Type 0 where
  pub had : may_have last
  pub known : IsKnown policy last old
  pub grown : IsGrown old new

-- the first entry to print if all are asked for: the one behind those that were printed, or, without a note of these,
-- behind those of the state
abbrev pub first_wanted : Option Bytes → Head → Head → ℕ
first_wanted None marked known = known.size
first_wanted (Some note) marked known = marked.size

-- what was asked for was printed. If that is all entries, they start with the first that wasn't printed yet, and the
-- new note is kept as that of what was printed
abbrev pub HasPrinted : (Option Bytes → Type 0) → (Bytes → Type 0) → Policy → Two → FetchRequest → Passage → Type 0
HasPrinted may_have has_kept policy two wanted.All o =
    (last : Option Bytes) × (old : Head) × IsMarked may_have policy two.new last old
    × PrintedWhole (IsWanted policy.origin (first_wanted last old two.old) two.new wanted.All) o
    × has_kept two.note
HasPrinted may_have has_kept policy two what o =
    PrintedWhole (IsWanted policy.origin two.old.size two.new what) o

-- a store of a note: which one it may have had, and which it has kept
pub record Store : Type 1 where
  pub may_have : Option Bytes → Type 0
  pub has_kept : Bytes → Type 0

-- what was asked for was printed of a log that is trusted and extends what was known, by a note that the source may
-- answer, and the state has kept that note
pub record HasFetched (answers : Resource → Bytes → Type 0) (state marks : Store) (policy : Policy) (what : FetchRequest) (o : Passage) : Type 0 where
  pub two : Two
  pub are : AreTwo state.may_have (answers Checkpoint) policy two
  pub grown : IsGrown two.old two.new
  pub printed : HasPrinted marks.may_have marks.has_kept policy two what o
  pub kept : state.has_kept two.note

-- ---- why nothing is fetched, or not all of it

-- the note that was kept last gives no size and root: it can't be read, or it isn't the log's
abbrev pub LacksLast : (FetchFault → Type 0) → (Option Bytes → Type 0) → Policy → FetchFault → Type 0
LacksLast fails has policy fault = fails fault ⊎ ((last : Option Bytes) × has last × RefusesState policy last fault)

-- there is no trust: the state gives nothing, or the source no checkpoint that is trusted
abbrev pub LacksTrust : Grounds → Policy → FetchFault → Type 0
LacksTrust grounds policy fault =
    LacksLast grounds.fails grounds.has policy fault ⊎ RefusesCheckpoint grounds.answers grounds.lacks policy fault

-- evidence accuses the log, and was printed, or the writer failed after some of it; or no note was trusted before,
-- the new checkpoint is of no log, and nobody is accused
abbrev pub IsAccusation : Policy → Two → FetchFault → Passage → Type 0
IsAccusation policy two fault o =
    ((fault ≡ Forked) × PrintedWhole (IsEvidenceOf policy two) o)
    ⊎ ((FailsWriting fault o × ((text : Bytes) × IsEvidenceOf policy two text × PrintedSome (λ t. t ≡ text) o))
    ⊎ ((two.last ≡ None) × IsOfNoLog two.new × (fault ≡ Run bad_checkpoint) × IsUnwritten o))

-- nobody is accused: the new checkpoint is smaller, and is shown to be older or wasn't compared with the other; or
-- the two can't be judged, for the reason of a check
abbrev pub IsUnaccused : (Resource → Bytes → Type 0) → (Resource → Type 0) → Two → FetchFault → Type 0
IsUnaccused answers lacks two (Older size of true) =
    (size ≡ two.new.size) × (of ≡ two.old.size) × (size < of) × IsGrown two.new two.old
IsUnaccused answers lacks two (Older size of false) =
    (size ≡ two.new.size) × (of ≡ two.old.size) × (size < of)
    × ((why : ClientFault) × RefusesComparison answers lacks two.new two.old why)
IsUnaccused answers lacks two fault =
    (two.old.size ≤ two.new.size)
    × ((why : ClientFault) × RefusesComparison answers lacks two.old two.new why × (fault ≡ after_client why))

-- one of two checkpoints doesn't extend the other
abbrev pub RefusesTwo : Grounds → Policy → Two → FetchFault → Passage → Type 0
RefusesTwo grounds policy two fault o =
    IsAccusation policy two fault o ⊎ (IsUnaccused grounds.answers grounds.lacks two fault × IsUnwritten o)

-- both stores are as they were
abbrev pub AreStill : Grounds → Grounds → Type 0
AreStill grounds marks = grounds.still × marks.still

-- not all of what is asked for is printed of the new log, of which `known` entries were known
abbrev pub BreaksOff : Grounds → Policy → FetchRequest → ℕ → Two → FetchFault → Passage → Type 0
BreaksOff grounds policy what known two fault o =
    RefusesWanted grounds.answers grounds.lacks known two.new what fault o × PrintedSome (IsBegun policy.origin known two.new what) o

-- the log extends what was known, and what was asked for, which isn't all entries, isn't printed whole: the state
-- fails before anything is printed, or it has kept the note
pub record FailsGrown (grounds : Grounds) (policy : Policy) (what : FetchRequest) (two : Two) (fault : FetchFault) (o : Passage) : Type 0 where
  pub why : (grounds.fails fault × IsUnwritten o) ⊎ (grounds.keeps two.note × BreaksOff grounds policy what two.old.size two fault o)
  pub fair : IsNoAccusation fault

-- the log extends what was known, and not all entries from this index on are printed, and no note is kept; or all
-- are, and a note isn't kept: the state's, or, once the state has kept it, that of what was printed
pub record FailsAll (grounds marks : Grounds) (policy : Policy) (from : ℕ) (two : Two) (fault : FetchFault) (o : Passage) : Type 0 where
  pub why : (AreStill grounds marks × BreaksOff grounds policy wanted.All from two fault o)
      ⊎ (PrintedWhole (IsWanted policy.origin from two.new wanted.All) o × ((grounds.fails fault × marks.still) ⊎ (grounds.keeps two.note × marks.fails fault)))
  pub fair : IsNoAccusation fault

-- the same checkpoint, compared with the one up to which all entries were printed
abbrev pub since : Two → Option Bytes → Head → Two
since two last old = record { last = last; old = old; note = two.note; new = two.new }

-- the log extends what was known, and what was asked for isn't printed whole. If that is all entries, this is because
-- it isn't known up to where they were printed, or the log doesn't extend that, or a later step fails
abbrev pub RefusesGrown : Grounds → Grounds → Policy → FetchRequest → Two → FetchFault → Passage → Type 0
RefusesGrown grounds marks policy wanted.All two fault o =
    (LacksLast marks.fails marks.has policy fault × IsNoAccusation fault × AreStill grounds marks × IsUnwritten o)
    ⊎ ((last : Option Bytes) × (old : Head) × marks.has last × IsKnown policy last old
    × ((RefusesTwo grounds policy (since two last old) fault o × AreStill grounds marks)
    ⊎ (IsGrown old two.new × FailsAll grounds marks policy (first_wanted last old two.old) two fault o)))
RefusesGrown grounds marks policy what two fault o = FailsGrown grounds policy what two fault o

-- a run fails: before there is trust, and nothing is printed; or over two trusted checkpoints, because one doesn't
-- extend the other; both stores are as they were then. Or it fails after that
abbrev pub RefusesFetch : Grounds → Grounds → Policy → FetchRequest → FetchFault → Passage → Type 0
RefusesFetch grounds marks policy what fault o =
    (LacksTrust grounds policy fault × IsNoAccusation fault × AreStill grounds marks × IsUnwritten o)
    ⊎ ((two : Two) × AreTwo grounds.has (grounds.answers Checkpoint) policy two
    × ((RefusesTwo grounds policy two fault o × AreStill grounds marks)
    ⊎ (IsGrown two.old two.new × RefusesGrown grounds marks policy what two fault o)))
