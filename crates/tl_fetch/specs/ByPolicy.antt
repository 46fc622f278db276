-- The commands `fetch` and `feed` under the text of a policy (C2SP tlog-policy).
use Rattle.std.specs.Prelude.{◌≡◌, ◌⊎◌, ◌&&◌, Bool, false, List, [], ◌∷◌, if◌then◌else◌, not, bytes_eq, map, Option, None, Some, Result, Ok, Err, string_bytes}
use Rattle.tl_hash.specs.Bytes.{Bytes}
use Rattle.tl_key.specs.NoteKey.{PublicKey, note_kind, verifier_key}
use Rattle.tl_device.specs.Device.{Passage, IsUnwritten}
use Rattle.tl_policy.specs.Terms.{LogTerm, Terms}
use Rattle.tl_policy.specs.declared.trust_fault.TrustFault.TheVariants.{Unsigned}
use Rattle.tl_run.specs.declared.fault.RunFault.TheVariants.{OutOfMemory}
use Rattle.tl_fetch.specs.declared.fault.FetchFault.{FetchFault}
use Rattle.tl_fetch.specs.declared.fault.FetchFault.TheVariants.{Run, Untrusted}
use Rattle.tl_fetch.specs.declared.options.FetchOptions.{FetchOptions}
use Rattle.tl_fetch.specs.Command.{IsSinceOf, RunsUnder, keys_of}
use Rattle.tl_fetch.specs.FeedCommand.{RunsFeedUnder}
use Rattle.tl_fetch.specs.Trusting.{Policy, Under}

-- ---- which log is fetched from

-- the key of a log's line, which signs notes
abbrev pub note_key : LogTerm → PublicKey
note_key log = record { name = log.key.name; kind = note_kind; key = log.key.key }

-- the log is served here
abbrev pub is_url : Bytes → Option Bytes → Bool
is_url from None = false
is_url from (Some url) = bytes_eq url from

-- the key of the first log that is
abbrev pub key_at : Bytes → List LogTerm → Option PublicKey
key_at from [] = None
key_at from (log ∷ logs) = if is_url from log.url then Some (note_key log) else key_at from logs

-- the key of the log that is fetched from here: of the first that is served here, or else of the first of all
abbrev pub or_first : Option PublicKey → List LogTerm → Option PublicKey
or_first (Some key) logs = Some key
or_first None [] = None
or_first None (log ∷ logs) = Some (note_key log)

abbrev pub key_for : Bytes → List LogTerm → Option PublicKey
key_for from logs = or_first (key_at from logs) logs

-- the first other key of the same log
abbrev pub is_twin : PublicKey → LogTerm → Bool
is_twin key log = bytes_eq log.key.name key.name && not (bytes_eq log.key.key key.key)

abbrev pub twin_of : PublicKey → List LogTerm → Option PublicKey
twin_of key [] = None
twin_of key (log ∷ logs) = if is_twin key log then Some (note_key log) else twin_of key logs

-- ---- the policy of a run

-- these are the keys of the log that is fetched from here
pub record AreKeysBy (terms : Terms) (from : Bytes) (key : PublicKey) (other : Option PublicKey) : Type 0 where
  pub first : key_for from terms.logs ≡ Some key
  pub second : other ≡ twin_of key terms.logs

-- a checkpoint is trusted if the text trusts it, one of these keys of the log signed it, and one of the text's
-- witnesses cosigned it lately enough, if that is asked for
pub record IsPolicyBy (terms : Terms) (options : FetchOptions) (policy : Policy) : Type 0 where
  pub key : PublicKey
  pub other : Option PublicKey
  pub chosen : AreKeysBy terms (string_bytes options.from) key other
  pub origin : policy.origin ≡ key.name
  pub keys : policy.trust.keys ≡ map verifier_key (keys_of key other)
  pub none_needed : policy.trust.need ≡ 0
  pub under : Under
  pub asked : policy.under ≡ Some under
  pub text : under.terms ≡ terms
  pub since : IsSinceOf options.fresh under.since

-- no log is named, or memory ran out
abbrev pub NamesNone : Terms → Bytes → FetchFault → Type 0
NamesNone terms from fault =
    ((fault ≡ Untrusted Unsigned) × (key_for from terms.logs ≡ None)) ⊎ (fault ≡ Run OutOfMemory)

-- a run under the policy that the text and the options describe
abbrev pub RunsBy : Terms → FetchOptions → Passage → Result (Unit {0}) FetchFault → Type 0
RunsBy terms options o result = (policy : Policy) × IsPolicyBy terms options policy × RunsUnder policy options o result

-- a run of `fetch` under the text of a policy: if no log is named, nothing is printed
abbrev pub FetchesBy : Terms → FetchOptions → Passage → Result (Unit {0}) FetchFault → Type 0
FetchesBy terms options o (Ok done) = RunsBy terms options o (Ok done)
FetchesBy terms options o (Err fault) = RunsBy terms options o (Err fault) ⊎ (NamesNone terms (string_bytes options.from) fault × IsUnwritten o)

-- a run of `feed` under the policy that the text and the options describe, before witnesses at these addresses
abbrev pub RunsFeedBy : Terms → List Bytes → FetchOptions → Passage → Result (Unit {0}) FetchFault → Type 0
RunsFeedBy terms addresses options o result =
    (policy : Policy) × IsPolicyBy terms options policy × RunsFeedUnder policy addresses options o result

-- a run of `feed` under the text of a policy: if no log is named, nothing is printed
abbrev pub FeedsBy : Terms → FetchOptions → Passage → Result (Unit {0}) FetchFault → Type 0
FeedsBy terms options o (Ok done) = (addresses : List Bytes) × RunsFeedBy terms addresses options o (Ok done)
FeedsBy terms options o (Err fault) =
    ((addresses : List Bytes) × RunsFeedBy terms addresses options o (Err fault))
    ⊎ (NamesNone terms (string_bytes options.from) fault × IsUnwritten o)
