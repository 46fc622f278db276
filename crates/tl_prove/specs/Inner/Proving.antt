-- Steps of making a proof.
use Rattle.std.specs.Prelude.{◌≡◌, ◌≢◌, ◌⊎◌, ℕ, ◌*◌, ◌+◌, ◌<◌, ◌≤◌, List, [], length, slice_index_or, IsUtf8, Result, Ok, Err, Option, None, Some, String, string_bytes, vec_items}
use Rattle.std.specs.Global.{Global}
use Rattle.std.specs.declared.vec.Vec.{Vec}
use Rattle.tl_hash.specs.Bytes.{Bytes}
use Rattle.tl_hash.specs.declared.head.Head.{Head}
use Rattle.tl_tile.specs.declared.resource.Resource.{Resource}
use Rattle.tl_tile.specs.declared.resource.Resource.TheVariants.{Checkpoint}
use Rattle.tl_checkpoint.specs.Checkpoint as checkpoint
use Rattle.tl_fetch.specs.declared.fault.FetchFault.TheVariants as fetch
use Rattle.tl_prove.specs.Faults.{out_of_memory}
use Rattle.tl_prove.specs.declared.fault.ProveFault.TheVariants.{Fetch, Untrusted}
use Rattle.tl_client.specs.declared.fault.ClientFault.{ClientFault}
use Rattle.tl_fetch.specs.Entries.{RefusesBundle}
use Rattle.tl_policy.specs.Terms.{Terms}
use Rattle.tl_policy.specs.declared.trust_fault.TrustFault.TheVariants as trust
use Rattle.tl_prove.specs.Prove.{IsFound, IsOpened, IsOther, RefusesFinding, RefusesSource, tree_of}
use Rattle.tl_prove.specs.SubmitCommand.{RefusesLook}
use Rattle.tl_prove.specs.declared.fault.ProveFault.{ProveFault}
use Rattle.tl_prove.specs.declared.proving.TrustedNote.{TrustedNote}
use Rattle.tl_prove.specs.declared.proving.Found.{Found}
use Rattle.tl_prove.specs.declared.proving.Wanted.{Wanted}

-- the checkpoint, and the size and the root, of a note that was opened
abbrev pub checkpoint_of : TrustedNote → checkpoint.Head
checkpoint_of t = checkpoint.head_of t.trusted.checkpoint

abbrev pub head_of : TrustedNote → Head
head_of t = tree_of (checkpoint_of t)

-- the bytes that the source has for its checkpoint
abbrev pub ReadsCheckpoint : {A : Type 0} → (Resource → Bytes → Type 0) → (Resource → Type 0) → Result (Vec ℕ A) ProveFault → Type 0
ReadsCheckpoint answers lacks (Ok bytes) = answers Checkpoint (vec_items bytes)
ReadsCheckpoint answers lacks (Err fault) = ((fault ≡ Fetch fetch.Unavailable) × lacks Checkpoint) ⊎ (fault ≡ out_of_memory)

-- the note of these bytes
abbrev pub IsNoteOf : {A : Type 0} → Bytes → Result (String A) ProveFault → Type 0
IsNoteOf bytes (Ok note) = string_bytes note ≡ bytes
IsNoteOf bytes (Err fault) = ¬ (IsUtf8 bytes) × (fault ≡ Untrusted trust.NoNote)

-- opening the source's checkpoint
abbrev pub OpensSource : (Resource → Bytes → Type 0) → (Resource → Type 0) → Terms → Result TrustedNote ProveFault → Type 0
OpensSource answers lacks p (Ok t) = IsOpened answers p (string_bytes t.note) (checkpoint_of t) t.trusted.log (vec_items t.trusted.times)
OpensSource answers lacks p (Err fault) = RefusesSource answers lacks p fault

-- finding the entry
abbrev pub Finds : (Resource → Bytes → Type 0) → (Resource → Type 0) → Head → Wanted → Result Found ProveFault → Type 0
Finds answers lacks head wanted (Ok found) = IsFound head wanted found.index found.leaf
Finds answers lacks head wanted (Err fault) = RefusesFinding answers lacks head wanted fault

-- none of these entries is this one
abbrev pub HasNone : List Bytes → Bytes → Type 0
HasNone entries wanted = (place : ℕ) → place < length entries → slice_index_or entries place [] ≢ wanted

-- the log's entries from this index on are others
abbrev pub AreOthersFrom : Head → Bytes → ℕ → Type 0
AreOthersFrom head wanted from = (index : ℕ) → from ≤ index → index < head.size → IsOther head wanted index

-- those of a bundle are
abbrev pub AreOthersIn : Head → Bytes → ℕ → Type 0
AreOthersIn head wanted bundle = (index : ℕ) → 256 * bundle ≤ index → index < 256 * bundle + 256 → index < head.size → IsOther head wanted index

-- a bundle can't be read, for this reason
abbrev pub RefusesSome : (Resource → Bytes → Type 0) → (Resource → Type 0) → Head → ClientFault → Type 0
RefusesSome answers lacks head why = (bundle : ℕ) × RefusesBundle answers lacks head bundle why

-- looking through a bundle, and through all of them
abbrev pub LooksIn : (Resource → Bytes → Type 0) → (Resource → Type 0) → Head → Bytes → ℕ → Result (Option ℕ) ClientFault → Type 0
LooksIn answers lacks head wanted bundle (Ok None) = AreOthersIn head wanted bundle
LooksIn answers lacks head wanted bundle (Ok (Some index)) = Unit {0}
LooksIn answers lacks head wanted bundle (Err why) = RefusesSome answers lacks head why

abbrev pub LooksFor : (Resource → Bytes → Type 0) → (Resource → Type 0) → Head → Bytes → Result (Option ℕ) ClientFault → Type 0
LooksFor answers lacks head wanted (Ok None) = AreOthersFrom head wanted 0
LooksFor answers lacks head wanted (Ok (Some index)) = Unit {0}
LooksFor answers lacks head wanted (Err why) = RefusesSome answers lacks head why

-- looking for a checkpoint that the policy trusts and that has the entry with this index
abbrev pub LooksAt : (Resource → Bytes → Type 0) → (Resource → Type 0) → Terms → ℕ → Result TrustedNote ProveFault → Type 0
LooksAt answers lacks p index (Ok t) = OpensSource answers lacks p (Ok t)
LooksAt answers lacks p index (Err fault) = RefusesLook answers lacks p index fault
