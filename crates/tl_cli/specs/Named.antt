-- What the options of a job name: the file, the folder, the address or the option of a fault.
use Rattle.std.specs.Prelude.{ℕ, List, Option, Some, None, String, codes, option_map, slice_get, string_bytes, vec_items}
use Rattle.tl_hash.specs.Bytes.{Bytes}
use Rattle.tl_run.specs.declared.place.Place.{Place}
use Rattle.tl_run.specs.declared.place.Place.TheVariants as place
use Rattle.tl_run.specs.declared.keys.LogKey.{LogKey}
use Rattle.tl_run.specs.declared.keys.LogKey.TheVariants as key
use Rattle.tl_fetch.specs.declared.fault.Address.{Address}
use Rattle.tl_fetch.specs.declared.fault.Address.TheVariants.{From, To}
use Rattle.tl_prove.specs.declared.fault.NamedFile.{NamedFile}
use Rattle.tl_prove.specs.declared.fault.NamedFile.TheVariants as named
use Rattle.tl_prove.specs.declared.options.EntryOptions.{EntryOptions}
use Rattle.tl_prove.specs.declared.options.EntryOptions.TheVariants as entry
use Rattle.tl_prove.specs.declared.options.ProveRequest.{ProveRequest}
use Rattle.tl_prove.specs.declared.options.ProveRequest.TheVariants as request
use Rattle.tl_serve.specs.declared.options.WitnessSignerKey.{WitnessSignerKey}
use Rattle.tl_serve.specs.declared.options.WitnessSignerKey.TheVariants as cosigner
use Rattle.tl_serve.specs.declared.options.KnownLogs.{KnownLogs}
use Rattle.tl_serve.specs.declared.options.KnownLogs.TheVariants.{One, Listed}
use Rattle.tl_cli.specs.declared.job.Job.{Job}
use Rattle.tl_cli.specs.declared.job.Job.TheVariants.{BuildSigned, Append, AppendTo, CheckFork, CheckUnder, KeygenTo, Serve, ServeFrom, Witness, Fetch, FetchBy, Feed, FeedBy, Verify, Prove, Submit}

-- the file of a key
abbrev pub key_file : LogKey → Option Bytes
key_file (key.Secret text) = None
key_file (key.File path) = Some (string_bytes path)

abbrev pub witness_file : WitnessSignerKey → Option Bytes
witness_file (cosigner.Secret name text) = None
witness_file (cosigner.File path) = Some (string_bytes path)

-- the file of a key or of a checkpoint
abbrev pub file_of : Job → Option Bytes
file_of (BuildSigned options) = Some (string_bytes options.key)
file_of (CheckUnder options) = Some (string_bytes options.checkpoint)
file_of (Append options) = key_file options.key
file_of (AppendTo options) = key_file options.append.key
file_of (Serve options) = key_file options.key
file_of (ServeFrom options) = key_file options.serve.key
file_of (Witness options) = witness_file options.key
file_of job = None

-- the file of a state
abbrev pub state_of : Job → Option Bytes
state_of (Witness options) = option_map string_bytes options.state
state_of (Fetch options) = option_map string_bytes options.state
state_of (FetchBy options) = option_map string_bytes options.fetch.state
state_of (FeedBy options) = option_map string_bytes options.fetch.state
state_of (Feed options) = option_map string_bytes options.log.state
state_of job = None

-- the folder of a log, or the address of its bucket
abbrev pub log_of : Job → Option Bytes
log_of (Append options) = Some (string_bytes options.dir)
log_of (AppendTo options) = Some (string_bytes options.bucket.address)
log_of (Serve options) = option_map string_bytes options.dir
log_of (ServeFrom options) = Some (string_bytes options.bucket.address)
log_of job = None

-- the folder or the address that is fetched from
abbrev pub source_of : Job → Option Bytes
source_of (Fetch options) = Some (string_bytes options.from)
source_of (FetchBy options) = Some (string_bytes options.fetch.from)
source_of (FeedBy options) = Some (string_bytes options.fetch.from)
source_of (Feed options) = Some (string_bytes options.log.from)
source_of (Prove options) = Some (string_bytes options.from)
source_of (Submit options) = Some (string_bytes options.to)
source_of job = None

-- the file of the logs that a witness knows
abbrev pub listed_file : KnownLogs → Option Bytes
listed_file (One origin key) = None
listed_file (Listed path) = Some (string_bytes path)

abbrev pub logs_file : Job → Option Bytes
logs_file (Witness options) = listed_file options.logs
logs_file job = None

-- the file of the key that signs requests to a bucket
abbrev pub credentials_of : Job → Option Bytes
credentials_of (AppendTo options) = option_map string_bytes options.bucket.credentials
credentials_of (ServeFrom options) = option_map string_bytes options.bucket.credentials
credentials_of job = None

-- the file of a new private key
abbrev pub new_key_of : Job → Option Bytes
new_key_of (KeygenTo options) = Some (string_bytes options.out)
new_key_of job = None

-- the file of an entry, and that of the entry of which a proof is made
abbrev pub entry_file : EntryOptions → Option Bytes
entry_file (entry.Text text) = None
entry_file (entry.File path) = Some (string_bytes path)
entry_file (entry.Digest file name) = Some (string_bytes file)

abbrev pub wanted_file : ProveRequest → Option Bytes
wanted_file (request.Index index) = None
wanted_file (request.Entry given) = entry_file given

-- the files of `verify`, `prove`, `submit`, `fetch` and `feed`: that of the policy, of the entry, and of the extra data
abbrev pub policy_file : Job → Option Bytes
policy_file (FetchBy options) = Some (string_bytes options.policy)
policy_file (FeedBy options) = Some (string_bytes options.policy)
policy_file (Verify options) = Some (string_bytes options.policy)
policy_file (Prove options) = Some (string_bytes options.policy)
policy_file (Submit options) = Some (string_bytes options.policy)
policy_file job = None

abbrev pub given_file : Job → Option Bytes
given_file (Verify options) = entry_file options.entry
given_file (Prove options) = wanted_file options.wanted
given_file (Submit options) = entry_file options.entry
given_file job = None

abbrev pub extra_file : Job → Option Bytes
extra_file (Verify options) = option_map string_bytes options.extra
extra_file (Prove options) = option_map string_bytes options.extra
extra_file (Submit options) = option_map string_bytes options.extra
extra_file job = None

abbrev pub named_file : Job → NamedFile → Option Bytes
named_file job named.Policy = policy_file job
named_file job named.Entry = given_file job
named_file job named.Extra = extra_file job

-- what the options name for a place
abbrev pub base_of : Job → Place → Option Bytes
base_of job place.File = file_of job
base_of job place.State = state_of job
base_of job (place.Log resource) = log_of job
base_of job (place.Source resource) = source_of job

-- the address of the witness with an index, or the file of the policy that has it, and an address that the options
-- name
abbrev pub text_at : {A : Type 0} → List (String A) → ℕ → Option Bytes
text_at texts place = option_map string_bytes (slice_get texts place)

abbrev pub witness_address : Job → ℕ → Option Bytes
witness_address (Feed options) place = text_at (vec_items options.to) place
witness_address (FeedBy options) place = Some (string_bytes options.policy)
witness_address job place = None

abbrev pub address_of : Job → Address → Option Bytes
address_of job From = source_of job
address_of job (To place) = witness_address job place

-- the option that takes the texts of keys
abbrev pub key_option : Job → Bytes
key_option (Serve options) = codes "--witness"
key_option (ServeFrom options) = codes "--witness"
key_option (Witness options) = codes "--log-key"
key_option (CheckFork key) = codes "--fork"
key_option job = codes "--key"
