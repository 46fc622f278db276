-- Which checkpoints of a log are trusted, and when one replaces the last (C2SP tlog-checkpoint, tlog-cosignature; RFC
-- 6962, section 2.1.2).
use Rattle.std.specs.Prelude.{◌≡◌, ℕ, ◌≤◌, Bool, true, false, List, [], Contains, Option, Some, None, map, nat_le, option_map}
use Rattle.std.specs.List.{list_any}
use Rattle.std.specs.Global.{Global}
use Rattle.std.specs.declared.dyn_box.DynBox.{DynBox}
use Rattle.sha2.specs.Sha256.{sha256}
use Rattle.tl_hash.specs.Bytes.{Bytes}
use Rattle.tl_key.specs.NoteKey.{verifier_key}
use Rattle.tl_note.specs.Key.{Key}
use Rattle.tl_note.specs.Note.{Note, Signature}
use Rattle.tl_proof.specs.Acceptance.{AcceptsConsistency}
use Rattle.tl_checkpoint.specs.Checkpoint as checkpoint
use Rattle.tl_checkpoint.specs.Cosignature.{IsCosignature}
use Rattle.tl_client.specs.Trusted.{Trust, IsTrusted}
use Rattle.tl_policy.specs.Terms.{Terms, terms_of}
use Rattle.tl_policy.specs.Trust as file
use Rattle.tl_hash.specs.declared.head.Head.{Head}
use Rattle.tl_fetch.specs.declared.under.Under as memory
use Rattle.tl_fetch.specs.declared.policy.Policy as keys

-- the text of a policy that has to trust a checkpoint, too (C2SP tlog-policy), and the time, in seconds since 1970,
-- from which on one of its witnesses has to have cosigned, if there is one
pub record Under : Type 0 where
  pub terms : Terms
  pub since : Option ℕ

-- which checkpoints are trusted: the log's name and keys, the witnesses and how many of them have to cosign, the time
-- from which on one of them has to, if there is one, and what a text says beside that
pub record Policy : Type 0 where
  pub origin : Bytes
  pub trust : Trust
  pub since : Option ℕ
  pub under : Option Under

-- the same policy without witnesses
abbrev pub alone : Policy → Policy
alone policy = record {
  origin = policy.origin;
  trust = record { keys = policy.trust.keys; witnesses = []; need = 0 };
  since = None;
  under = None;
}

-- ---- what a policy in memory says

abbrev pub under_of : memory.Under → Under
under_of u = record { terms = terms_of u.policy.now; since = u.since }

-- the log's keys are those of these boxes
abbrev pub policy_in : {G : Type 0} {F : G → Type 0} → (DynBox G Global F → Key) → keys.Policy G F → Policy
policy_in key p = record {
  origin = p.origin.now;
  trust = record { keys = map key p.log.now; witnesses = map verifier_key p.witnesses.now; need = p.need };
  since = p.since;
  under = option_map under_of p.under;
}

-- ---- when a note is trusted

-- one of the witnesses cosigned the note at this time or later
pub record IsCosignedSince (note : Bytes) (witnesses : List Key) (since : ℕ) : Type 0 where
  pub text : Bytes
  pub lines : List Signature
  pub noted : Note note text lines
  pub line : Signature
  pub stands : Contains lines line
  pub key : Key
  pub known : Contains witnesses key
  pub time : ℕ
  pub valid : IsCosignature text key line time
  pub late : since ≤ time

-- the note is fresh, if that is asked for
abbrev pub IsFresh : Bytes → List Key → Option ℕ → Type 0
IsFresh note witnesses None = Unit {0}
IsFresh note witnesses (Some since) = IsCosignedSince note witnesses since

-- the time of a cosignature is this one or later
abbrev pub is_late : ℕ → Option ℕ → Bool
is_late since None = false
is_late since (Some time) = nat_le since time

-- one of the times is, if that is asked for
abbrev pub AreFresh : List (Option ℕ) → Option ℕ → Type 0
AreFresh times None = Unit {0}
AreFresh times (Some since) = list_any (is_late since) times ≡ true

-- a text trusts the note's checkpoint, which one of its witnesses cosigned at one of these times
abbrev pub IsUnder : Option Under → Bytes → Type 0
IsUnder None note = Unit {0}
IsUnder (Some under) note =
    (c : checkpoint.Head) × (place : ℕ) × (times : List (Option ℕ)) × file.IsTrusted under.terms note c place times × AreFresh times under.since

-- the bytes are a note of the log's checkpoint of this size and root, which is trusted
pub record IsNoteOf (policy : Policy) (note : Bytes) (head : Head) : Type 0 where
  pub checkpoint : checkpoint.Head
  pub trusted : IsTrusted note policy.trust checkpoint
  pub origin : checkpoint.origin ≡ policy.origin
  pub size : checkpoint.size ≡ head.size
  pub root : checkpoint.root ≡ head.root
  pub fresh : IsFresh note policy.trust.witnesses policy.since
  pub under : IsUnder policy.under note

-- what is known by the note that was trusted last, or without a note a log of no entries. A kept note was cosigned
-- when it came
abbrev pub IsKnown : Policy → Option Bytes → Head → Type 0
IsKnown policy None head = head ≡ record { size = 0; root = sha256 [] }
IsKnown policy (Some note) head = IsNoteOf (alone policy) note head

-- a consistency proof from the old head to the new one is accepted
abbrev pub IsGrown : Head → Head → Type 0
IsGrown old new = (proof : List Bytes) × AcceptsConsistency sha256 proof new.size new.root old.size old.root

-- a note that may take the place of the last one
pub record IsNext (policy : Policy) (last : Option Bytes) (note : Bytes) : Type 0 where
  pub old : Head
  pub new : Head
  pub known : IsKnown policy last old
  pub trusted : IsNoteOf policy note new
  pub grown : IsGrown old new

-- two checkpoints of a log: the note that was trusted last, if there is one, and the one that is trusted now
pub record Two : Type 0 where
  pub last : Option Bytes
  pub old : Head
  pub note : Bytes
  pub new : Head

-- the two are what a state that may have this has, and what a source that may answer these notes answered, which is
-- trusted under the policy
pub record AreTwo (may_have : Option Bytes → Type 0) (may_answer : Bytes → Type 0) (policy : Policy) (c : Two) : Type 0 where
  pub had : may_have c.last
  pub known : IsKnown policy c.last c.old
  pub answered : may_answer c.note
  pub trusted : IsNoteOf policy c.note c.new
