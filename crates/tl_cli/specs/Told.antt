-- What is printed to standard error when a job ends.
use Rattle.std.specs.Prelude.{◌≡◌, ◌⊎◌, ◌==◌, Bool, true, false, [], ◌++◌, codes, Result, Ok, Err, Option, Some, None}
use Rattle.std.specs.List.{starts_with}
use Rattle.tl_hash.specs.Bytes.{Bytes}
use Rattle.tl_text.specs.Text.{line}
use Rattle.tl_tile.specs.Path.{IsResource}
use Rattle.tl_tile.specs.declared.resource.Resource.{Resource}
use Rattle.tl_device.specs.Device.{Passage, IsUnwritten, WroteWhole, WrotePart}
use Rattle.tl_device.specs.Faults.{device_words}
use Rattle.tl_run.specs.Faults.{fault_text, nothing_words, place_words}
use Rattle.tl_run.specs.declared.place.Place.{Place}
use Rattle.tl_run.specs.declared.place.Place.TheVariants as place
use Rattle.tl_run.specs.declared.fault.RunFault.{RunFault}
use Rattle.tl_run.specs.declared.fault.RunFault.TheVariants.{Device, BadCheckpoint, BadKey, BadKeyFile, NothingThere}
use Rattle.tl_fetch.specs.FaultWords.{fetch_text}
use Rattle.tl_fetch.specs.declared.fault.FetchFault.TheVariants as fetch
use Rattle.tl_fetch.specs.declared.fault.FetchFault.{FetchFault}
use Rattle.tl_fetch.specs.declared.fault.Address.TheVariants.{From}
use Rattle.tl_prove.specs.FaultWords.{prove_words}
use Rattle.tl_prove.specs.declared.fault.ProveFault.{ProveFault}
use Rattle.tl_prove.specs.declared.fault.ProveFault.TheVariants as prove
use Rattle.tl_prove.specs.declared.fault.NamedFile.TheVariants.{Policy}
use Rattle.tl_source.specs.Asking.{IsTarget}
use Rattle.tl_serve.specs.declared.witness_fault.WitnessFault.{WitnessFault}
use Rattle.tl_serve.specs.declared.witness_fault.WitnessFault.TheVariants as why
use Rattle.tl_logs.specs.FaultWords.{logs_words}
use Rattle.tl_bucket.specs.FaultWords.{bucket_words}
use Rattle.tl_device.specs.declared.fault.DeviceFault.{DeviceFault}
use Rattle.tl_cli.specs.declared.job.Job.{Job}
use Rattle.tl_cli.specs.Named.{address_of, base_of, credentials_of, file_of, key_option, log_of, logs_file, named_file, new_key_of}
use Rattle.tl_cli.specs.declared.fault.CommandFault.{CommandFault}
use Rattle.tl_cli.specs.declared.fault.KeyFile.{KeyFile}
use Rattle.tl_cli.specs.declared.fault.KeyFile.TheVariants.{Private, Public}
use Rattle.tl_cli.specs.declared.fault.CommandFault.TheVariants as fault

-- the resource of a place, if it has one
abbrev pub resource_of : Place → Option Resource
resource_of place.File = None
resource_of place.State = None
resource_of (place.Log resource) = resource
resource_of (place.Source resource) = Some resource

-- ---- the line of a fault

-- the path of a resource under the base, or the base itself if there is no resource or it has no path
abbrev pub IsWhere : Bytes → Option Resource → Bytes → Type 0
IsWhere base None path = path ≡ base
IsWhere base (Some resource) path = IsTarget base resource path ⊎ ((IsResource resource → ⊥) × (path ≡ base))

-- the line of a fault at a place: the place, and the words for the fault
abbrev pub IsLineAt : Option Bytes → Place → Bytes → Bytes → Type 0
IsLineAt None place words text = text ≡ line (codes "tlog: " ++ place_words place ++ codes ": " ++ words)
IsLineAt (Some base) place words text =
    (path : Bytes) × IsWhere base (resource_of place) path × (text ≡ line (codes "tlog: " ++ path ++ codes ": " ++ words))

-- the path of a file of a new key
abbrev pub key_path : Option Bytes → KeyFile → Bytes
key_path None which = codes "file"
key_path (Some out) Private = out
key_path (Some out) Public = out ++ codes ".pub"

-- a line, or nothing
abbrev pub line_or_none : Option Bytes → Bytes
line_or_none None = []
line_or_none (Some text) = line text

-- the line of a fault that other commands have, too, if it has one: of a device; of bytes that are no checkpoint or
-- no key; of a text that is no key's; of a place where nothing is; or of another kind
abbrev pub IsLineOfRun : Job → RunFault → Bytes → Type 0
IsLineOfRun job (Device place why) text = IsLineAt (base_of job place) place (device_words why) text
IsLineOfRun job (BadCheckpoint place) text = IsLineAt (base_of job place) place (codes "bad checkpoint") text
IsLineOfRun job BadKey text = text ≡ line (codes "tlog: " ++ key_option job ++ codes ": " ++ codes "bad key")
IsLineOfRun job BadKeyFile text = IsLineAt (file_of job) place.File (codes "bad key") text
IsLineOfRun job (NothingThere place) text = IsLineAt (base_of job place) place (nothing_words place) text
IsLineOfRun job other text = text ≡ line_or_none (fault_text other)

-- the line of a fault with these words, at a path, if there is one
abbrev pub line_under : Option Bytes → Bytes → Bytes
line_under None words = line (codes "tlog: " ++ codes "file" ++ codes ": " ++ words)
line_under (Some path) words = line (codes "tlog: " ++ path ++ codes ": " ++ words)

-- the line of a fault of `witness`
abbrev pub IsLineOfWitness : Job → WitnessFault → Bytes → Type 0
IsLineOfWitness job (why.Run other) text = IsLineOfRun job other text
IsLineOfWitness job (why.LogsFile other) text = text ≡ line_under (logs_file job) (device_words other)
IsLineOfWitness job (why.Logs other) text = text ≡ line_under (logs_file job) (logs_words other)

-- the line of a fault of the key that signs requests to a bucket, with the reason if its file can't be read
abbrev pub credentials_line : Option Bytes → Option DeviceFault → Bytes
credentials_line None why = line (codes "tlog: no credentials")
credentials_line (Some path) None = line (codes "tlog: " ++ path ++ codes ": " ++ codes "bad credentials")
credentials_line (Some path) (Some why) = line (codes "tlog: " ++ path ++ codes ": " ++ device_words why)

-- the address is one over TLS
abbrev pub is_secure : Bytes → Bool
is_secure address = starts_with (λ a b. a == b) address (codes "https://")

-- the words for an address that isn't accepted, which may be one over TLS
abbrev pub address_words : Bool → Bytes
address_words true = codes "bad address (TLS needs a proxy: see docs/OPERATING.md)"
address_words false = codes "bad address"

-- the line of an address that isn't accepted
abbrev pub address_line : Option Bytes → Bytes
address_line None = line (codes "tlog: " ++ codes "address" ++ codes ": " ++ codes "bad address")
address_line (Some address) = line (codes "tlog: " ++ address ++ codes ": " ++ address_words (is_secure address))

-- the line of a fault of `fetch` or `feed`, if it has one
abbrev pub IsLineOfFetch : Job → FetchFault → Bytes → Type 0
IsLineOfFetch job (fetch.Run other) text = IsLineOfRun job other text
IsLineOfFetch job (fetch.BadAddress which) text = text ≡ address_line (address_of job which)
IsLineOfFetch job other text = text ≡ line_or_none (fetch_text other)

-- the line of a fault of `verify`, `prove` or `submit`, if it has one: of a file or an address, which is named, or
-- of another kind
abbrev pub IsLineOfProve : Job → ProveFault → Bytes → Type 0
IsLineOfProve job (prove.Fetch other) text = IsLineOfFetch job other text
IsLineOfProve job (prove.File which why) text = text ≡ line_under (named_file job which) (prove_words (prove.File which why))
IsLineOfProve job prove.PolicyNotText text = text ≡ line_under (named_file job Policy) (prove_words prove.PolicyNotText)
IsLineOfProve job (prove.Policy why) text = text ≡ line_under (named_file job Policy) (prove_words (prove.Policy why))
IsLineOfProve job (prove.NotPosted why) text = text ≡ line_under (address_of job From) (prove_words (prove.NotPosted why))
IsLineOfProve job other text = text ≡ line (codes "tlog: " ++ prove_words other)

-- the line of a fault of a job, if it has one
abbrev pub IsLineOf : Job → CommandFault → Bytes → Type 0
IsLineOf job (fault.Run other) text = IsLineOfRun job other text
IsLineOf job (fault.Fetch other) text = IsLineOfFetch job other text
IsLineOf job (fault.Prove other) text = IsLineOfProve job other text
IsLineOf job (fault.Witness other) text = IsLineOfWitness job other text
IsLineOf job (fault.Bucket why) text = IsLineAt (log_of job) (place.Log None) (bucket_words why) text
IsLineOf job (fault.Credentials why) text = text ≡ credentials_line (credentials_of job) why
IsLineOf job (fault.KeyFile which why) text =
    text ≡ line (codes "tlog: " ++ key_path (new_key_of job) which ++ codes ": " ++ device_words why)

-- a text was written to standard error, or a part of it until that failed
abbrev pub Wrote : Bytes → Passage → Type 0
Wrote text e = WroteWhole e text ⊎ WrotePart e text

-- the line of a fault of a job was written; or nothing was, because allocation failed
abbrev pub TellsFault : Job → CommandFault → Passage → Type 0
TellsFault job fault e = IsUnwritten e ⊎ ((text : Bytes) × IsLineOf job fault text × Wrote text e)

-- what a job prints to standard error at its end: nothing if it succeeded, else the fault
abbrev pub Tells : Job → Result (Unit {0}) CommandFault → Passage → Type 0
Tells job (Ok done) e = IsUnwritten e
Tells job (Err fault) e = TellsFault job fault e
