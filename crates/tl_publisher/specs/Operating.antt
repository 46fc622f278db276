-- The operator as its contracts see it, and what is true of every operator that was opened, whatever calls it has
-- had.
use Rattle.std.specs.Prelude.{◌≡◌, ℕ, ◌+◌, ◌≤◌, List, [], length, Option, Some, None}
use Rattle.std.specs.List.{All}
use Rattle.tl_note.specs.Key.{SigningKey}
use Rattle.tl_text.specs.Text.{IsOneLine}
use Rattle.tl_sequencer.specs.Log.{Log, Sender, entries_of, rings_of}
use Rattle.tl_sequencer.specs.Merge.{IsMerge}
use Rattle.tl_sequencer.specs.Opened.{IsOpened}
use Rattle.tl_sequencer.specs.Steps.{IsComplete, sent_of}
use Rattle.tl_checkpoint.specs.Quorum.{AreApart}
use Rattle.tl_log.specs.Histories.{Prefix, AreOf, BeginWith, Begins, IsGrowing, last_of}
use Rattle.tl_publisher.specs.Pasts.{Past}
use Rattle.tl_log.specs.Checkpoints.{text_of_log}
use Rattle.tl_publisher.specs.Signed.{AreSigners, AreSignedBy, IsSignedNote, Quorum, no_quorum}
use Rattle.tl_publisher.specs.Stages.{IsNextOf}
use Rattle.tl_publisher.specs.Encoded.{AreEncoded}

-- the log's origin, the signers' keys, who must cosign, the log, what is proposed to the witnesses, and the history
-- of publications
pub record Operated (A : Type 0) : Type 0 where
  pub origin : List ℕ
  pub signers : List SigningKey
  pub quorum : Quorum
  pub log : Log A
  pub proposal : Option Prefix
  pub past : Past

-- the operator was just opened: its log has these entries and submitters, it has this origin and these signers, and
-- nothing is published
pub record IsNew {A : Type 0} (words : List ℕ) (keys : List SigningKey) (base : List (List ℕ)) (lanes capacity limit : ℕ) (o : Operated A) (submitters : List (Sender A)) : Type 0 where
  pub origin : o.origin ≡ words
  pub signers : o.signers ≡ keys
  pub free : o.quorum ≡ no_quorum
  pub log : IsOpened base lanes capacity limit o.log submitters
  pub unproposed : o.proposal ≡ None
  pub unpublished : o.past.log ≡ []

-- The proposal is of a beginning of the log that has all that the log began with. It continues the last publication.
-- Its note is that of its own checkpoint, with one line by each signer, in order.
pub record IsProposal {A : Type 0} (o : Operated A) (p : Prefix) : Type 0 where
  pub beginning : Begins p.entries (entries_of o.log)
  pub based : Begins o.log.base p.entries
  pub next : IsNextOf (last_of o.past.log) p
  pub signed : IsSignedNote o.signers no_quorum (text_of_log o.origin p.entries) p.note

-- The operator can sign its checkpoints and have them cosigned. Each publication is of a beginning of the log that
-- has all that the log began with, and continues the publication before. Its note is that of its own checkpoint, with
-- one line by each signer, in order, then lines of as many witnesses as must cosign. There is a proposal only if
-- witnesses must cosign.
pub record IsOperating {A : Type 0} (o : Operated A) : Type 0 where
  pub origin : IsOneLine o.origin
  pub signers : AreSigners o.signers
  pub apart : AreApart o.quorum.witnesses
  pub few : length o.signers + length o.quorum.witnesses ≤ 100
  pub free : o.quorum.need ≡ 0 → o.proposal ≡ None
  pub proposed : (p : Prefix) → o.proposal ≡ Some p → IsProposal o p
  pub beginnings : AreOf (entries_of o.log) o.past.log
  pub based : BeginWith o.log.base o.past.log
  pub growing : IsGrowing o.past.log
  pub signed : AreSignedBy o.origin o.signers o.quorum o.past.log

-- origin, signers and who must cosign stay the same
pub record IsOfSame {A : Type 0} (a b : Operated A) : Type 0 where
  pub origin : b.origin ≡ a.origin
  pub signers : b.signers ≡ a.signers
  pub quorum : b.quorum ≡ a.quorum

-- only the log's entries change: the keys, the proposal, the publications and the submitters of the lanes stay the
-- same
pub record LeavesAllElse {A : Type 0} (a b : Operated A) : Type 0 where
  pub keys : IsOfSame a b
  pub proposal : b.proposal ≡ a.proposal
  pub past : b.past ≡ a.past
  pub rings : rings_of b.log ≡ rings_of a.log

-- there are `count` readers, and each has seen this history
pub record HaveSeen (past : Past) (count : ℕ) (readers : List Past) : Type 0 where
  pub all : length readers ≡ count
  pub each : All (λ seen. seen ≡ past) readers

-- The log was closed as complete. After its base it has each lane's entries once, in the order in which they were
-- sent. Everything published is the standards' encoding of beginnings of the log that have its base, each longer than
-- the one before, under notes signed by this operator's keys.
pub record IsClosed {A : Type 0} (o : Operated A) (whole : Log A) (kept : Past) : Type 0 where
  pub log : whole ≡ o.log
  pub past : kept ≡ o.past
  pub complete : IsComplete whole
  pub merge : IsMerge (entries_of whole) whole.base (sent_of whole)
  pub beginnings : AreOf (entries_of whole) kept.log
  pub based : BeginWith whole.base kept.log
  pub growing : IsGrowing kept.log
  pub signed : AreSignedBy o.origin o.signers o.quorum kept.log
  pub encoded : AreEncoded o.origin o.signers o.quorum (entries_of whole) kept.log
