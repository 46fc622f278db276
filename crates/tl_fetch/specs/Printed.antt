-- What is printed of a log that isn't trusted.
use Rattle.std.specs.Prelude.{◌≡◌, ◌⊎◌, ◌<◌, ◌*◌, ◌+◌, ℕ, ◌++◌, take}
use Rattle.sha2.specs.Sha256.{sha256}
use Rattle.std.specs.Io.KnownBytes.{Appends}
use Rattle.tl_hash.specs.Bytes.{Bytes}
use Rattle.tl_hash.specs.Tree.{leaf_input}
use Rattle.tl_text.specs.Text.{line, number_text, base64_text}
use Rattle.tl_device.specs.Device.{Passage, HasFailed, IsUnwritten, WroteWhole}
use Rattle.tl_proof.specs.Acceptance.{AcceptsInclusion}
use Rattle.tl_command.specs.ProofText.{Inclusion, inclusion_text}
use Rattle.tl_fetch.specs.declared.fault.FetchFault.{FetchFault}
use Rattle.tl_fetch.specs.declared.fault.FetchFault.TheVariants.{Run}
use Rattle.tl_run.specs.declared.fault.RunFault.TheVariants.{Write, BadIndex, OutOfMemory}
use Rattle.tl_fetch.specs.declared.options.FetchRequest.{FetchRequest}
use Rattle.tl_fetch.specs.declared.options.FetchRequest.TheVariants as wanted
use Rattle.tl_tile.specs.declared.resource.Resource.{Resource}
use Rattle.tl_client.specs.declared.fault.ClientFault.{ClientFault}
use Rattle.tl_hash.specs.declared.head.Head.{Head}
use Rattle.tl_fetch.specs.Faults.{after_client}
use Rattle.tl_fetch.specs.Entries.{IsCheckedEntry, AreLinesBetween, RefusesBundle, RefusesOne, RefusesProof}

-- the lines of the log's name, its size and its root
abbrev pub head_text : Bytes → Head → Bytes
head_text origin head = line origin ++ line (number_text head.size) ++ line (base64_text head.root)

-- a checked entry and a newline
abbrev pub IsEntryText : Head → ℕ → Bytes → Type 0
IsEntryText head index text = (entry : Bytes) × IsCheckedEntry sha256 head index entry × (text ≡ line entry)

-- an accepted inclusion proof of an entry
pub record IsProofOf (head : Head) (index : ℕ) (entry : Bytes) (p : Inclusion) : Type 0 where
  pub index_is : p.index ≡ index
  pub size_is : p.size ≡ head.size
  pub root_is : p.root ≡ head.root
  pub leaf_is : p.leaf ≡ sha256 (leaf_input entry)
  pub accepted : AcceptsInclusion sha256 p.proof p.size p.root p.index p.leaf

-- the text of an inclusion proof of a checked entry
pub record IsProofText (head : Head) (index : ℕ) (text : Bytes) : Type 0 where
  pub entry : Bytes
  pub checked : IsCheckedEntry sha256 head index entry
  pub proof : Inclusion
  pub of : IsProofOf head index entry proof
  pub is : text ≡ inclusion_text proof

-- what is asked for of a log of this name and head, of which `known` entries were known: if that is all entries,
-- those from there on
abbrev pub IsWanted : Bytes → ℕ → Head → FetchRequest → Bytes → Type 0
IsWanted origin known head wanted.Head text = text ≡ head_text origin head
IsWanted origin known head (wanted.Entry index) text = IsEntryText head index text
IsWanted origin known head (wanted.Raw index) text = IsCheckedEntry sha256 head index text
IsWanted origin known head wanted.All text = AreLinesBetween head known head.size text
IsWanted origin known head (wanted.Proof index) text = IsProofText head index text

-- what may be printed before a fault: if all entries are asked for, some of the first
abbrev pub IsBegun : Bytes → ℕ → Head → FetchRequest → Bytes → Type 0
IsBegun origin known head wanted.All text = (upto : ℕ) × AreLinesBetween head known upto text
IsBegun origin known head what text = IsWanted origin known head what text

-- such a text was printed
abbrev pub PrintedWhole : (Bytes → Type 0) → Passage → Type 0
PrintedWhole Is o = (text : Bytes) × Is text × WroteWhole o text

-- nothing was printed, or some of the first bytes of such a text and no others
abbrev pub PrintedSome : (Bytes → Type 0) → Passage → Type 0
PrintedSome Is o = IsUnwritten o ⊎ ((text : Bytes) × Is text × (count : ℕ) × Appends o.old o.new (take count text))

-- ---- why not all of it was printed

-- a check failed for a reason that has this fault, or memory ran out
abbrev pub FailsChecking : (ClientFault → Type 0) → FetchFault → Type 0
FailsChecking Why fault = (fault ≡ Run OutOfMemory) ⊎ ((why : ClientFault) × Why why × (fault ≡ after_client why))

-- the writer failed
abbrev pub FailsWriting : FetchFault → Passage → Type 0
FailsWriting fault o = (fault ≡ Run Write) × HasFailed o

-- the writer failed, or what is to be printed isn't had
abbrev pub FailsPrinting : (ClientFault → Type 0) → FetchFault → Passage → Type 0
FailsPrinting Why fault o = FailsWriting fault o ⊎ FailsChecking Why fault

-- the log has the bundle, which has entries with this index or a later one
pub record IsBundleFrom (head : Head) (from bundle : ℕ) : Type 0 where
  pub within : 256 * bundle < head.size
  pub later : from < 256 * bundle + 256

-- not all entries from this index on are printed: it is above the size, or a bundle can't be read
abbrev pub RefusesAll : (Resource → Bytes → Type 0) → (Resource → Type 0) → Head → ℕ → FetchFault → Passage → Type 0
RefusesAll answers lacks head from fault o =
    ((head.size < from) × (fault ≡ Run BadIndex))
    ⊎ FailsPrinting (λ why. (bundle : ℕ) × IsBundleFrom head from bundle × RefusesBundle answers lacks head bundle why) fault o

-- what is asked for of a log of which `known` entries were known isn't printed whole, for this reason
abbrev pub RefusesWanted : (Resource → Bytes → Type 0) → (Resource → Type 0) → ℕ → Head → FetchRequest → FetchFault → Passage → Type 0
RefusesWanted answers lacks known head wanted.Head fault o = FailsWriting fault o ⊎ (fault ≡ Run OutOfMemory)
RefusesWanted answers lacks known head (wanted.Entry index) fault o = FailsPrinting (RefusesOne answers lacks head index) fault o
RefusesWanted answers lacks known head (wanted.Raw index) fault o = FailsPrinting (RefusesOne answers lacks head index) fault o
RefusesWanted answers lacks known head wanted.All fault o = RefusesAll answers lacks head known fault o
RefusesWanted answers lacks known head (wanted.Proof index) fault o = FailsPrinting (RefusesProof answers lacks head index) fault o
