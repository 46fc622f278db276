-- What `submit` does: which proof is printed, or why none is.
use Rattle.std.specs.Prelude.{◌≡◌, ◌⊎◌, ℕ, ◌≤◌, ◌++◌, List, [], ◌∷◌, Option, Result, Ok, Err, codes, string_bytes}
use Rattle.sha2.specs.Sha256.{sha256}
use Rattle.tl_hash.specs.Bytes.{Bytes}
use Rattle.tl_hash.specs.Tree.{leaf_input}
use Rattle.tl_text.specs.Text.{number_text}
use Rattle.tl_tile.specs.declared.resource.Resource.{Resource}
use Rattle.tl_tile.specs.declared.resource.Resource.TheVariants.{Checkpoint}
use Rattle.tl_checkpoint.specs.Checkpoint as checkpoint
use Rattle.tl_device.specs.Device.{Passage, IsUnwritten, WroteWhole}
use Rattle.tl_http.specs.Exchange.{Sought}
use Rattle.tl_http.specs.Message.{Sent}
use Rattle.tl_http.specs.Post.{Given}
use Rattle.tl_offline.specs.ProofText.{TlogProof}
use Rattle.tl_policy.specs.Terms.{Terms}
use Rattle.tl_policy.specs.ReadPolicy.{ReadsPolicy}
use Rattle.tl_source.specs.Asking.{IsFront, MayGive}
use Rattle.tl_source.specs.Calling.{MayExchange}
use Rattle.tl_source.specs.Fulls.{may_answer_front}
use Rattle.tl_source.specs.Url.{IsNoUrl, IsUrl}
use Rattle.tl_source.specs.declared.url.Url.{Url}
use Rattle.tl_fetch.specs.declared.fault.Address.TheVariants.{From}
use Rattle.tl_fetch.specs.declared.fault.FetchFault.TheVariants as fetch
use Rattle.tl_prove.specs.Entry.{IsGiven}
use Rattle.tl_prove.specs.Faults.{IsOfFile, IsOfPolicy, out_of_memory}
use Rattle.tl_prove.specs.Policies.{RefusesPolicy}
use Rattle.tl_prove.specs.Prove.{IsOpened, RefusesLeaf, RefusesSource, tree_of}
use Rattle.tl_prove.specs.ProveCommand.{FailsWriting, HasExtra, IsShownAs}
use Rattle.tl_prove.specs.Verify.{IsAccepted}
use Rattle.tl_prove.specs.declared.fault.NamedFile.TheVariants as file
use Rattle.tl_prove.specs.declared.fault.ProveFault.{ProveFault}
use Rattle.tl_prove.specs.declared.fault.ProveFault.TheVariants.{Fetch, NoIndex, NotPosted, TooLate}
use Rattle.tl_prove.specs.declared.options.SubmitOptions.{SubmitOptions}

-- the request that posts an entry, with the field Host
abbrev pub post_of : Bytes → Bytes → Bytes → Sent
post_of host target entry =
    record { method = codes "POST"; target = target; fields = (codes "Host", host) ∷ []; body = entry }

-- the responses that are wanted: those with status 200, whose body has at most 64 bytes
abbrev pub wanted : Sought
wanted = record { statuses = 200 ∷ []; field = codes "Content-Type"; limit = 64 }

-- the target under an address with this prefix to which entries are posted
pub record IsAddTarget (prefix target : Bytes) : Type 0 where
  pub front : Bytes
  pub cut : IsFront prefix front
  pub is : target ≡ front ++ codes "/add"

-- the log at this address may answer a post of the entry, one request, with this index
pub record MayTake (url : Url) (entry : Bytes) (index : ℕ) : Type 0 where
  pub target : Bytes
  pub target_is : IsAddTarget url.prefix.now target
  pub given : Given
  pub exchange : MayExchange (post_of url.authority.now target entry) wanted (Ok given)
  pub index_is : given.body ≡ number_text index

-- the log didn't take the entry, or its answer is no index, or memory ran out
abbrev pub IsNotTaken : ProveFault → Type 0
IsNotTaken (NotPosted why) = Unit {0}
IsNotTaken NoIndex = Unit {0}
IsNotTaken fault = fault ≡ out_of_memory

-- what the host may answer, whose full tiles and bundles stand for partial ones that are gone
abbrev pub host_answers : Url → Resource → Bytes → Type 0
host_answers url = may_answer_front (λ r text. MayGive url.authority.now url.prefix.now r text) (λ r. Unit {0})

-- The source may answer a checkpoint that the policy trusts, and that has no entry with this index.
pub record IsTooSmall (answers : Resource → Bytes → Type 0) (p : Terms) (index : ℕ) : Type 0 where
  pub note : Bytes
  pub c : checkpoint.Head
  pub log : ℕ
  pub times : List (Option ℕ)
  pub opened : IsOpened answers p note c log times
  pub small : c.size ≤ index

-- why the source has no checkpoint that the policy trusts and that has the entry with this index
abbrev pub RefusesLook : (Resource → Bytes → Type 0) → (Resource → Type 0) → Terms → ℕ → ProveFault → Type 0
RefusesLook answers lacks p index fault = RefusesSource answers lacks p fault ⊎ ((fault ≡ TooLate) × IsTooSmall answers p index)

-- The text is a proof, which the policy accepts, that the entry has this index under a checkpoint that the source may
-- answer, with these extra data.
pub record IsProofOf
    (answers : Resource → Bytes → Type 0) (p : Terms) (entry : Bytes) (index : ℕ) (extra : Option Bytes) (text : Bytes) : Type 0 where
  pub proof : TlogProof
  pub c : checkpoint.Head
  pub log : ℕ
  pub times : List (Option ℕ)
  pub accepted : IsAccepted p text (sha256 (leaf_input entry)) proof c log times
  pub answered : answers Checkpoint proof.note
  pub index_is : proof.index ≡ index
  pub extra_is : proof.extra ≡ extra

-- There is no proof of the entry, with the index that the log answered, under a checkpoint that the policy trusts.
pub record IsNotProved (answers : Resource → Bytes → Type 0) (lacks : Resource → Type 0) (p : Terms) (entry : Bytes) (index : ℕ) (fault : ProveFault) : Type 0 where
  pub note : Bytes
  pub c : checkpoint.Head
  pub log : ℕ
  pub times : List (Option ℕ)
  pub opened : IsOpened answers p note c log times
  pub refused : RefusesLeaf answers lacks (tree_of c) index (sha256 (leaf_input entry)) fault

-- why a log that took the entry with this index gives no proof of it
abbrev pub RefusesTaken : (Resource → Bytes → Type 0) → (Resource → Type 0) → Terms → Bytes → ℕ → ProveFault → Type 0
RefusesTaken answers lacks p entry index fault =
    RefusesLook answers lacks p index fault ⊎ IsNotProved answers lacks p entry index fault

-- a proof of an entry that the log took with this index, or why there is none
abbrev pub ProvesTaken
    : (Resource → Bytes → Type 0) → (Resource → Type 0) → Terms → Bytes → ℕ → Option Bytes → Result Bytes ProveFault → Type 0
ProvesTaken answers lacks p entry index extra (Ok text) = IsProofOf answers p entry index extra text
ProvesTaken answers lacks p entry index extra (Err fault) = RefusesTaken answers lacks p entry index fault

-- the log took the entry, and there is no proof of it
pub record IsTakenUnproved (url : Url) (p : Terms) (entry : Bytes) (shown : ProveFault) : Type 0 where
  pub index : ℕ
  pub takes : MayTake url entry index
  pub fault : ProveFault
  pub refused : RefusesTaken (host_answers url) (λ r. Unit {0}) p entry index fault
  pub shown_as : IsShownAs fault shown

-- posting the entry, and a proof of it once the log took it, or why there is none
abbrev pub Submits : Url → Terms → Bytes → Option Bytes → Result Bytes ProveFault → Type 0
Submits url p entry extra (Ok text) =
    (index : ℕ) × MayTake url entry index × IsProofOf (host_answers url) p entry index extra text
Submits url p entry extra (Err shown) = IsNotTaken shown ⊎ IsTakenUnproved url p entry shown

-- the texts of an address
abbrev pub IsUrlOf : Bytes → Url → Type 0
IsUrlOf text url = IsUrl text url.authority.now url.host.now url.port url.prefix.now

-- what comes of the files and the address of the options
abbrev pub SubmitsFor : SubmitOptions → Bytes → Bytes → Option Bytes → Result Bytes ProveFault → Type 0
SubmitsFor options policy entry extra outcome =
    (p : Terms) × ReadsPolicy policy (Ok p) × ((url : Url) × IsUrlOf (string_bytes options.to) url × Submits url p entry extra outcome)

-- a file or the address of the options is refused
abbrev pub RefusesOptions : SubmitOptions → ProveFault → Type 0
RefusesOptions options fault =
    IsOfPolicy fault
    ⊎ (((policy : Bytes) × RefusesPolicy policy fault)
    ⊎ (IsOfFile file.Entry fault
    ⊎ (IsOfFile file.Extra fault
    ⊎ ((fault ≡ Fetch (fetch.BadAddress From)) × IsNoUrl (string_bytes options.to)))))

-- a run of `submit`: the proof is printed whole; or a part of it, and the writer failed; or nothing
abbrev pub RunsSubmit : SubmitOptions → Passage → Result (Unit {0}) ProveFault → Type 0
RunsSubmit options o (Ok done) =
    (policy : Bytes) × ((entry : Bytes) × IsGiven options.entry entry × ((extra : Option Bytes) × HasExtra options.extra extra
    × ((text : Bytes) × SubmitsFor options policy entry extra (Ok text) × WroteWhole o text)))
RunsSubmit options o (Err fault) =
    (RefusesOptions options fault × IsUnwritten o)
    ⊎ ((policy : Bytes) × ((entry : Bytes) × IsGiven options.entry entry × ((extra : Option Bytes) × HasExtra options.extra extra
    × ((SubmitsFor options policy entry extra (Err fault) × IsUnwritten o)
    ⊎ FailsWriting (λ text. SubmitsFor options policy entry extra (Ok text)) o fault))))
