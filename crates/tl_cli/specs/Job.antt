-- What the program does with a job: which command runs, with which options, and how the run ends.
use Rattle.std.specs.Prelude.{◌≡◌, ◌⊎◌, ℕ, Bool, true, false, List, Option, Some, None, Result, Ok, Err, string_bytes, option_map}
use Rattle.sha2.specs.Sha256.{sha256}
use Rattle.tl_device.specs.Device.{Passage, IsUnread, IsUnwritten}
use Rattle.tl_archive.specs.Shelves.{Held}
use Rattle.tl_folder.specs.Folders.{Reached}
use Rattle.tl_run.specs.Run.{Runs}
use Rattle.tl_command.specs.Head.{RunsHead}
use Rattle.tl_command.specs.ProofCommands.{InclusionComes, ConsistencyComes, CheckComes}
use Rattle.tl_command.specs.AuditCommand.{AuditComes}
use Rattle.tl_run.specs.declared.fault.RunFault.{RunFault}
use Rattle.tl_cli.specs.declared.job.Job.{Job}
use Rattle.tl_cli.specs.declared.job.Job.TheVariants.{Head, Build, BuildSigned, Append, AppendTo, Inclusion, Consistency, Check, CheckUnder, CheckFork, Keygen, KeygenTo, Open, Audit, Serve, ServeFrom, Witness, Fetch, FetchBy, Feed, FeedBy, Verify, Prove, Submit, Version, Help}
use Rattle.tl_run.specs.Signing.{demo_log_key}
use Rattle.tl_command.specs.Build.{RunsBuild}
use Rattle.tl_command.specs.Signed.{RunsSigned}
use Rattle.tl_key.specs.NoteKey.{note_kind, cosignature_kind}
use Rattle.tl_command.specs.CheckOpened.{IsIdle, RunsCheckOpened}
use Rattle.tl_run.specs.Keys.{IsFileFault}
use Rattle.tl_command.specs.Keygen.{GivesKey}
use Rattle.tl_command.specs.Open.{RunsOpen}
use Rattle.tl_fetch.specs.Command.{RunsFetch}
use Rattle.tl_fetch.specs.FeedCommand.{RunsFeed}
use Rattle.tl_prove.specs.VerifyCommand.{RunsVerify}
use Rattle.tl_prove.specs.ProveCommand.{RunsProve}
use Rattle.tl_prove.specs.FetchCommand.{RunsFeedBy, RunsFetchBy}
use Rattle.tl_prove.specs.SubmitCommand.{RunsSubmit}
use Rattle.tl_prove.specs.declared.fault.ProveFault.{ProveFault}
use Rattle.tl_run.specs.Origins.{RefusesOrigin}
use Rattle.tl_hash.specs.Bytes.{Bytes}
use Rattle.tl_fetch.specs.declared.fault.FetchFault.{FetchFault}
use Rattle.tl_cli.specs.declared.fault.CommandFault.{CommandFault}
use Rattle.tl_serve.specs.Knowing.{RefusesLog}
use Rattle.tl_serve.specs.declared.witness_fault.WitnessFault.{WitnessFault}
use Rattle.tl_cli.specs.Ending.{by_fetch, by_prove, by_run, by_witness, status_of}
use Rattle.tl_cli.specs.InBucket.{AppendsTo, ServesFrom}
use Rattle.tl_cli.specs.Lasting.{Folder, AppendsIn, ServesIn, SparesStreams}
use Rattle.tl_cli.specs.Told.{Tells}
use Rattle.tl_cli.specs.Version.{PrintsText, PrintsVersion}
use Rattle.tl_evidence.specs.ForkCommand.{RunsFork}
use Rattle.tl_command.specs.declared.commands.checking.GivenEntry.{GivenEntry}
use Rattle.tl_command.specs.declared.commands.checking.GivenEntry.TheVariants.{Text, File}

-- the result is the fault of a file that can't be read
abbrev pub IsUnopened : Result (Unit {0}) RunFault → Type 0
IsUnopened (Ok done) = ⊥
IsUnopened (Err fault) = IsFileFault fault

-- a run against the checkpoint in a file: its bytes decide, or it can't be read, and then nothing else is done
abbrev pub ChecksFile : Bytes → Option Bytes → Passage → Passage → Result (Unit {0}) RunFault → Type 0
ChecksFile key entry i o result =
    ((bytes : Bytes) × RunsCheckOpened key bytes entry i o result) ⊎ (IsUnopened result × IsIdle i o)

-- a run against that checkpoint about the entry in a file: the file's bytes decide, or it can't be read, and then
-- nothing else is done
abbrev pub ChecksEntryIn : Bytes → Passage → Passage → Result (Unit {0}) RunFault → Type 0
ChecksEntryIn key i o result =
    ((entry : Bytes) × ChecksFile key (Some entry) i o result) ⊎ (IsUnopened result × IsIdle i o)

-- a run against that checkpoint about the given entry: none, a text, or the bytes of a file
abbrev pub ChecksGiven : Bytes → Option GivenEntry → Passage → Passage → Result (Unit {0}) RunFault → Type 0
ChecksGiven key None i o result = ChecksFile key None i o result
ChecksGiven key (Some (Text entry)) i o result = ChecksFile key (Some (string_bytes entry)) i o result
ChecksGiven key (Some (File path)) i o result = ChecksEntryIn key i o result

-- a run signed by the demonstration key of an origin and a secret
abbrev pub BuildsDemo : Bytes → Bytes → Option Bytes → Passage → Passage → Result (Unit {0}) RunFault → Type 0
BuildsDemo origin secret get = RunsBuild (demo_log_key (record { name = origin; secret = secret })) get

-- a run signed by the key in a file
abbrev pub BuildsSigned : Bytes → Option Bytes → Passage → Passage → Result (Unit {0}) RunFault → Type 0
BuildsSigned origin get i o result =
    ((bytes : Bytes) × RunsSigned origin bytes get i o result) ⊎ (IsUnopened result × IsIdle i o)

-- the type of a key: a witness's, or a log's
abbrev pub key_kind : Bool → ℕ
key_kind true = cosignature_kind
key_kind false = note_kind

-- the outcome of a command has this property; that of `fetch` or `feed` has; that of `verify`, `prove` or `submit`, or
-- of `fetch` or `feed` under a policy, has; that of `witness` has
abbrev pub IsRun : (Result (Unit {0}) RunFault → Type 0) → Result (Unit {0}) CommandFault → Type 0
IsRun Is result = (outcome : Result (Unit {0}) RunFault) × Is outcome × (result ≡ by_run outcome)

abbrev pub IsFetched : (Result (Unit {0}) FetchFault → Type 0) → Result (Unit {0}) CommandFault → Type 0
IsFetched Is result = (outcome : Result (Unit {0}) FetchFault) × Is outcome × (result ≡ by_fetch outcome)

abbrev pub IsProved : (Result (Unit {0}) ProveFault → Type 0) → Result (Unit {0}) CommandFault → Type 0
IsProved Is result = (outcome : Result (Unit {0}) ProveFault) × Is outcome × (result ≡ by_prove outcome)

abbrev pub IsWitness : (Result (Unit {0}) WitnessFault → Type 0) → Result (Unit {0}) CommandFault → Type 0
IsWitness Is result = (outcome : Result (Unit {0}) WitnessFault) × Is outcome × (result ≡ by_witness outcome)

-- a run of a job's command: `i` is its reader, `o` its writer, and `e` standard error, to which only `keygen`,
-- `fetch`, `feed`, `submit` and the servers write; `folder` is the folder of a log that it had to itself, if it had
-- one, whatever was there at first
abbrev pub RunsJob : Held → Reached → Job → Option Folder → Passage → Passage → Passage → Result (Unit {0}) CommandFault → Type 0
RunsJob held reached (Head options) folder i o e result = IsRun (RunsHead (string_bytes options.origin) i o) result × IsUnwritten e
RunsJob held reached (Build options) folder i o e result =
    IsRun (BuildsDemo (string_bytes options.origin) (string_bytes options.secret) (option_map string_bytes options.get) i o) result
    × IsUnwritten e
RunsJob held reached (BuildSigned options) folder i o e result =
    IsRun (BuildsSigned (string_bytes options.origin) (option_map string_bytes options.get) i o) result × IsUnwritten e
RunsJob held reached (Append options) folder i o e result =
    IsRun (λ ran. RefusesOrigin (string_bytes options.origin) i ran × AppendsIn held reached options i o folder ran) result
    × IsUnwritten e
RunsJob held reached (AppendTo options) folder i o e result = AppendsTo held reached options i o result × IsUnwritten e
RunsJob held reached (Inclusion options) folder i o e result = IsRun (Runs (InclusionComes options.index) i o) result × IsUnwritten e
RunsJob held reached (Consistency options) folder i o e result = IsRun (Runs (ConsistencyComes options.old) i o) result × IsUnwritten e
RunsJob held reached Check folder i o e result = IsRun (Runs CheckComes i o) result × IsUnwritten e
RunsJob held reached (CheckUnder options) folder i o e result =
    IsRun (ChecksGiven (string_bytes options.key) options.entry i o) result × IsUnwritten e
RunsJob held reached (CheckFork key) folder i o e result = IsRun (RunsFork (string_bytes key) i o) result × IsUnwritten e
RunsJob held reached (Keygen options) folder i o e result =
    IsRun (GivesKey (string_bytes options.name) (key_kind options.is_cosigner) o e) result × IsUnread i
RunsJob held reached (KeygenTo options) folder i o e result = IsUnread i × IsUnwritten o × IsUnwritten e
RunsJob held reached (Open key) folder i o e result = IsRun (RunsOpen (string_bytes key) i o) result × IsUnwritten e
RunsJob held reached Audit folder i o e result = IsRun (Runs (AuditComes sha256) i o) result × IsUnwritten e
RunsJob held reached (Serve options) folder i o e result =
    IsRun (λ ran. RefusesOrigin (string_bytes options.origin) i ran × ServesIn held reached options i folder ran) result
    × IsUnwritten o
RunsJob held reached (ServeFrom options) folder i o e result = ServesFrom held reached options i result × IsUnwritten o
RunsJob held reached (Witness options) folder i o e result =
    IsWitness (RefusesLog options.logs i) result × SparesStreams options i o
RunsJob held reached (Fetch options) folder i o e result = IsFetched (RunsFetch options o) result × IsUnread i
RunsJob held reached (FetchBy options) folder i o e result = IsProved (RunsFetchBy options o) result × IsUnread i
RunsJob held reached (FeedBy options) folder i o e result = IsProved (RunsFeedBy options o) result × IsUnread i
RunsJob held reached (Feed options) folder i o e result = IsFetched (RunsFeed options o) result × IsUnread i
RunsJob held reached (Verify options) folder i o e result = IsProved (RunsVerify options i o) result × IsUnwritten e
RunsJob held reached (Prove options) folder i o e result = IsProved (RunsProve options o) result × IsUnread i × IsUnwritten e
RunsJob held reached (Submit options) folder i o e result = IsProved (RunsSubmit options o) result × IsUnread i
RunsJob held reached Version folder i o e result = IsRun (PrintsVersion o) result × IsUnread i × IsUnwritten e
RunsJob held reached (Help text) folder i o e result =
    IsRun (PrintsText (string_bytes text) o) result × IsUnread i × IsUnwritten e

-- the job's command ran, its fault was reported, and the exit status is that of its outcome. In between standard
-- error held these bytes, or had failed
pub record EndsJob (held : Held) (reached : Reached) (job : Job) (i o e : Passage) (status : ℕ) : Type 0 where
  pub bytes : Option (List ℕ)
  pub failed : Bool
  pub folder : Option Folder
  pub result : Result (Unit {0}) CommandFault
  pub runs : RunsJob held reached job folder i o (record { old = e.old; new = bytes; had_failed = e.had_failed; has_failed = failed }) result
  pub ended : status ≡ status_of result
  pub told : Tells job result (record { old = bytes; new = e.new; had_failed = failed; has_failed = e.has_failed })

-- nothing was read or written, and this is the exit status
abbrev pub EndsBefore : Passage → Passage → ℕ → ℕ → Type 0
EndsBefore i o wanted status = IsUnread i × IsUnwritten o × (status ≡ wanted)

-- the words name a job, whose command ran; or they name none, and the status is 2; or the file of a public key or a
-- policy can't be read, and it is 3; or that file has no such text, or allocation failed, and it is 1
abbrev pub EndsWords : Held → Reached → Passage → Passage → Passage → ℕ → Type 0
EndsWords held reached i o e status =
    ((job : Job) × EndsJob held reached job i o e status)
    ⊎ (EndsBefore i o 2 status ⊎ (EndsBefore i o 3 status ⊎ EndsBefore i o 1 status))
