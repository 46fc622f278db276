-- The command `fetch` (C2SP signed-note, "Verifier keys").
use Rattle.std.specs.Prelude.{◌≡◌, ◌≢◌, ◌⊎◌, ℕ, ◌-◌, ◌<◌, ◌≤◌, [], ◌∷◌, ◌++◌, List, Option, Some, None, Result, Ok, Err, String, Contains, IsSomeAnd, codes, length, map, string_bytes, vec_items, slice_index_or}
use Rattle.std.specs.List.{Any}
use Rattle.tl_hash.specs.Bytes.{Bytes}
use Rattle.tl_key.specs.KeyText.{IsVerifierText}
use Rattle.tl_key.specs.NoteKey.{PublicKey, note_kind, cosignature_kind, verifier_key}
use Rattle.tl_key.specs.Reading.{IsNoVerifierText}
use Rattle.tl_device.specs.Device.{Passage, IsUnwritten}
use Rattle.tl_device.specs.declared.fault.DeviceFault.{DeviceFault}
use Rattle.tl_tile.specs.declared.resource.Resource.{Resource}
use Rattle.tl_source.specs.Caches.{may_answer_either, may_lack_both}
use Rattle.tl_source.specs.Fulls.{may_answer_front}
use Rattle.tl_folder.specs.Limits.{most_bytes}
use Rattle.tl_source.specs.Sources.{Origin, Folder, Host, any_answers}
use Rattle.tl_source.specs.Url.{IsNoUrl, IsUrl}
use Rattle.tl_run.specs.Faults.{after_device}
use Rattle.tl_run.specs.declared.place.Place.TheVariants.{State, Source}
use Rattle.tl_run.specs.declared.fault.RunFault.{RunFault}
use Rattle.tl_run.specs.declared.fault.RunFault.TheVariants.{BadCheckpoint, BadKey, Device, OutOfMemory}
use Rattle.tl_fetch.specs.declared.fault.Address.TheVariants.{From}
use Rattle.tl_fetch.specs.declared.fault.FetchFault.{FetchFault}
use Rattle.tl_fetch.specs.declared.fault.FetchFault.TheVariants.{Run, BadAddress, OtherKey, BadWitness, SharedKey, Unavailable}
use Rattle.tl_fetch.specs.declared.options.FetchOptions.{FetchOptions}
use Rattle.tl_fetch.specs.Trusting.{Policy}
use Rattle.tl_fetch.specs.Fetching.{Grounds, HasFetched, RefusesFetch, Store, unseen_of}

-- ---- whose checkpoints are trusted

-- the public keys of keys
abbrev pub public_keys : List PublicKey → List Bytes
public_keys keys = map (λ k. k.key) keys

-- one key, or two
abbrev pub keys_of : PublicKey → Option PublicKey → List PublicKey
keys_of key None = key ∷ []
keys_of key (Some other) = key ∷ other ∷ []

-- the texts of the log's keys, one or two
abbrev pub other_texts : {A : Type 0} → Option (String A) → List Bytes
other_texts None = []
other_texts (Some text) = string_bytes text ∷ []

abbrev pub log_texts : FetchOptions → List Bytes
log_texts options = string_bytes options.key ∷ other_texts options.other_key

-- each text is of one of these keys, in order, which have this name and no public key twice
abbrev pub HaveLogKeys : Bytes → List Bytes → List PublicKey → Type 0
HaveLogKeys name [] [] = Unit {0}
HaveLogKeys name [] (k ∷ keys) = ⊥
HaveLogKeys name (text ∷ texts) [] = ⊥
HaveLogKeys name (text ∷ texts) (k ∷ keys) =
    IsVerifierText note_kind text k × (k.name ≡ name) × ¬ (Contains (public_keys keys) k.key) × HaveLogKeys name texts keys

-- the texts of the witnesses' keys, and the text with an index
abbrev pub witness_texts : FetchOptions → List Bytes
witness_texts options = map string_bytes (vec_items options.witnesses)

abbrev pub witness_text : FetchOptions → ℕ → Bytes
witness_text options place = slice_index_or (witness_texts options) place []

-- each text is of one of these keys, in order, whose public key is neither one of those nor that of a text before it
abbrev pub HaveOwnKeys : List Bytes → List Bytes → List PublicKey → Type 0
HaveOwnKeys others [] [] = Unit {0}
HaveOwnKeys others [] (k ∷ keys) = ⊥
HaveOwnKeys others (text ∷ texts) [] = ⊥
HaveOwnKeys others (text ∷ texts) (k ∷ keys) =
    IsVerifierText cosignature_kind text k × ¬ (Contains others k.key) × HaveOwnKeys (others ++ k.key ∷ []) texts keys

-- the time from which on a cosignature is fresh: this many seconds before what the clock read, if that is asked for
abbrev pub IsSinceOf : Option ℕ → Option ℕ → Type 0
IsSinceOf None since = since ≡ None
IsSinceOf (Some seconds) since = (now : ℕ) × (since ≡ Some (now - seconds))

-- the policy of these options: a checkpoint is trusted if one of the log's keys signed it, and this many of the
-- witnesses cosigned it, one of them lately enough; no two of the keys are one public key
pub record IsPolicyOf (options : FetchOptions) (policy : Policy) : Type 0 where
  pub keys : List PublicKey
  pub spelled : HaveLogKeys policy.origin (log_texts options) keys
  pub trusted : policy.trust.keys ≡ map verifier_key keys
  pub need : policy.trust.need ≡ options.need
  pub since : IsSinceOf options.fresh policy.since
  pub no_text : policy.under ≡ None
  pub witnesses : List PublicKey
  pub own : HaveOwnKeys (public_keys keys) (witness_texts options) witnesses
  pub asked : policy.trust.witnesses ≡ map verifier_key witnesses

-- ---- the grounds of a run

-- where a log is read from: a text with a scheme is an address over HTTP, any other is a folder
abbrev pub HasScheme : Bytes → Type 0
HasScheme text = (before : Bytes) × (after : Bytes) × (text ≡ before ++ (codes "://" ++ after))

abbrev pub IsOriginOf : Bytes → Origin → Type 0
IsOriginOf from (Folder folder) = (folder ≡ from) × ¬ (HasScheme from)
IsOriginOf from (Host url) = IsUrl from url.authority.now url.host.now url.port url.prefix.now

-- what may be answered and what may be lacking if tiles are kept in a folder: it may have any tile that isn't too
-- long
abbrev pub cached_answers : {A : Type 0} → Option A → (Resource → Bytes → Type 0) → Resource → Bytes → Type 0
cached_answers None answers = answers
cached_answers (Some folder) answers = may_answer_either (λ r text. length text ≤ most_bytes r) answers

abbrev pub cached_lacks : {A : Type 0} → Option A → (Resource → Type 0) → Resource → Type 0
cached_lacks None lacks = lacks
cached_lacks (Some folder) lacks = may_lack_both (λ r. Unit {0}) lacks

-- what the state may have: nothing without a file, and anything in a file
abbrev pub may_have : {A : Type 0} → Option A → Option Bytes → Type 0
may_have None had = had ≡ None
may_have (Some path) had = Unit {0}

-- what is known of the file of a state, and of the file beside it that says up to where all entries were printed:
-- nothing of what they keep
abbrev pub file_of : {A : Type 0} → Option A → Store
file_of state = record { may_have = may_have state; has_kept = λ note. Unit {0} }

-- the file of a state fails: its device fails, memory runs out, or its bytes are no text
abbrev pub IsStateFault : FetchFault → Type 0
IsStateFault (Run (Device State why)) = Unit {0}
IsStateFault (Run (BadCheckpoint State)) = Unit {0}
IsStateFault (Run OutOfMemory) = Unit {0}
IsStateFault fault = ⊥

-- a state fails only if it is in a file
abbrev pub state_fails : {A : Type 0} → Option A → FetchFault → Type 0
state_fails None fault = ⊥
state_fails (Some path) fault = IsStateFault fault

-- the grounds over a source that may answer these texts and may lack these resources
abbrev pub grounds_over : (Resource → Bytes → Type 0) → (Resource → Type 0) → FetchOptions → Grounds
grounds_over answers lacks options = unseen_of answers lacks (may_have options.state) (state_fails options.state)

-- what may be answered over the folder or the host, whose full tiles and bundles stand for partial ones that are
-- gone, and over its kept tiles
abbrev pub run_answers : Origin → FetchOptions → Resource → Bytes → Type 0
run_answers origin options = cached_answers options.cache (may_answer_front (any_answers origin) (λ r. Unit {0}))

-- the grounds over these
abbrev pub run_grounds : Origin → FetchOptions → Grounds
run_grounds origin options =
    grounds_over (run_answers origin options) (cached_lacks options.cache (λ r. Unit {0})) options

-- ---- how a run ends

-- the fault that is reported: if it was only known that something isn't available, it may name the resource and the
-- reason
abbrev pub IsToldAs : FetchFault → FetchFault → Type 0
IsToldAs fault told =
    (told ≡ fault)
    ⊎ ((fault ≡ Unavailable) × ((r : Resource) × (why : DeviceFault) × (told ≡ Run (after_device (Source r) why))))

-- a run under a policy fails: the address is none, and nothing is printed; or as `RefusesFetch` says
abbrev pub RefusesRun : Policy → FetchOptions → FetchFault → Passage → Type 0
RefusesRun policy options told o =
    ((told ≡ BadAddress From) × HasScheme (string_bytes options.from) × IsNoUrl (string_bytes options.from) × IsUnwritten o)
    ⊎ ((origin : Origin) × IsOriginOf (string_bytes options.from) origin
    × ((fault : FetchFault) × IsToldAs fault told
    × RefusesFetch (run_grounds origin options) (run_grounds origin options) policy options.wanted fault o))

-- a run under a policy
abbrev pub RunsUnder : Policy → FetchOptions → Passage → Result (Unit {0}) FetchFault → Type 0
RunsUnder policy options o (Ok done) =
    (origin : Origin) × IsOriginOf (string_bytes options.from) origin
    × HasFetched (run_answers origin options) (file_of options.state) (file_of options.state) policy options.wanted o
RunsUnder policy options o (Err fault) = RefusesRun policy options fault o

-- reading the log's keys fails: a text is of no key, or memory ran out
abbrev pub IsLogKeyFault : FetchOptions → RunFault → Type 0
IsLogKeyFault options BadKey = Any (λ text. IsNoVerifierText note_kind text) (log_texts options)
IsLogKeyFault options OutOfMemory = Unit {0}
IsLogKeyFault options fault = ⊥

-- the second text is a key with another name than the first, or with the same public key
pub record IsOtherKey (options : FetchOptions) : Type 0 where
  pub key : PublicKey
  pub other : PublicKey
  pub spelled : IsVerifierText note_kind (string_bytes options.key) key
  pub other_spelled : IsSomeAnd options.other_key (λ text. IsVerifierText note_kind (string_bytes text) other)
  pub differs : (other.name ≢ key.name) ⊎ (other.key ≡ key.key)

-- the text is a key with this public key
abbrev pub IsTextOf : ℕ → Bytes → Bytes → Type 0
IsTextOf kind key text = (k : PublicKey) × IsVerifierText kind text k × (k.key ≡ key)

-- the public key is one of the log's, or that of a witness's text before this one
abbrev pub IsEarlierKey : FetchOptions → ℕ → Bytes → Type 0
IsEarlierKey options place key =
    Any (IsTextOf note_kind key) (log_texts options)
    ⊎ ((earlier : ℕ) × (earlier < place) × IsTextOf cosignature_kind key (witness_text options earlier))

-- a fault before there is a policy: a text is no key, or one that came before, or memory ran out
abbrev pub IsKeyFault : FetchOptions → FetchFault → Type 0
IsKeyFault options (Run fault) = IsLogKeyFault options fault
IsKeyFault options OtherKey = IsOtherKey options
IsKeyFault options (BadWitness place) =
    (place < length (witness_texts options)) × IsNoVerifierText cosignature_kind (witness_text options place)
IsKeyFault options (SharedKey place) =
    (place < length (witness_texts options))
    × ((k : PublicKey) × IsVerifierText cosignature_kind (witness_text options place) k × IsEarlierKey options place k.key)
IsKeyFault options fault = ⊥

-- a run under the policy that the options describe
abbrev pub RunsAsTold : FetchOptions → Passage → Result (Unit {0}) FetchFault → Type 0
RunsAsTold options o result = (policy : Policy) × IsPolicyOf options policy × RunsUnder policy options o result

-- a run of `fetch`: if a text is no key, or one that came before, nothing is printed
abbrev pub RunsFetch : FetchOptions → Passage → Result (Unit {0}) FetchFault → Type 0
RunsFetch options o (Ok done) = RunsAsTold options o (Ok done)
RunsFetch options o (Err fault) = RunsAsTold options o (Err fault) ⊎ (IsKeyFault options fault × IsUnwritten o)
