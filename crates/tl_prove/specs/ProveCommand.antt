-- What `prove` and `submit` do: which proof is printed, or why none is.
use Rattle.std.specs.Prelude.{◌≡◌, ◌⊎◌, ℕ, Option, None, Some, Result, Ok, Err, String, option_map, string_bytes}
use Rattle.sha2.specs.Sha256.{sha256}
use Rattle.tl_hash.specs.Bytes.{Bytes}
use Rattle.tl_hash.specs.Tree.{leaf_input}
use Rattle.tl_tile.specs.declared.resource.Resource.{Resource}
use Rattle.tl_device.specs.Device.{Passage, IsUnwritten, WrotePart, WroteWhole}
use Rattle.tl_device.specs.declared.fault.DeviceFault.{DeviceFault}
use Rattle.tl_run.specs.declared.fault.RunFault.TheVariants as run
use Rattle.tl_source.specs.Sources.{Origin, any_answers}
use Rattle.tl_source.specs.Fulls.{may_answer_front}
use Rattle.tl_source.specs.Url.{IsNoUrl}
use Rattle.tl_fetch.specs.Command.{HasScheme, IsOriginOf, IsToldAs}
use Rattle.tl_fetch.specs.declared.fault.Address.TheVariants.{From}
use Rattle.tl_fetch.specs.declared.fault.FetchFault.TheVariants as fetch
use Rattle.tl_policy.specs.Terms.{Terms}
use Rattle.tl_policy.specs.ReadPolicy.{ReadsPolicy}
use Rattle.tl_prove.specs.Entry.{IsGiven}
use Rattle.tl_prove.specs.Faults.{IsOfFile, IsOfPolicy, out_of_memory}
use Rattle.tl_prove.specs.Policies.{RefusesPolicy}
use Rattle.tl_prove.specs.Prove.{Proves, RefusesProving}
use Rattle.tl_prove.specs.declared.fault.NamedFile.TheVariants as file
use Rattle.tl_prove.specs.declared.fault.ProveFault.{ProveFault}
use Rattle.tl_prove.specs.declared.fault.ProveFault.TheVariants.{Fetch}
use Rattle.tl_prove.specs.declared.options.ProveOptions.{ProveOptions}
use Rattle.tl_prove.specs.declared.options.ProveRequest.{ProveRequest}
use Rattle.tl_prove.specs.declared.options.ProveRequest.TheVariants as request
use Rattle.tl_prove.specs.declared.proving.Wanted.{Wanted}
use Rattle.tl_prove.specs.declared.proving.Wanted.TheVariants as wanted

-- the fault that is reported: if it was only known that something isn't available, it may name the resource and why
abbrev pub IsShownAs : ProveFault → ProveFault → Type 0
IsShownAs (Fetch fault) (Fetch shown) = IsToldAs fault shown
IsShownAs fault shown = shown ≡ fault

-- what a folder or a host may answer, whose full tiles and bundles stand for partial ones that are gone
abbrev pub source_answers : Origin → Resource → Bytes → Type 0
source_answers origin = may_answer_front (any_answers origin) (λ r. Unit {0})

-- which entry is asked for, by the options
abbrev pub IsRequested : ProveRequest → Wanted → Type 0
IsRequested (request.Index n) asked = asked ≡ wanted.Index n
IsRequested (request.Entry given) (wanted.Index n) = ⊥
IsRequested (request.Entry given) (wanted.Entry entry) = IsGiven given entry.now

-- a text that is such a proof under the policy of a text, or why there is none
abbrev pub ProvesBy : (Resource → Bytes → Type 0) → (Resource → Type 0) → Bytes → Wanted → Option Bytes → Result Bytes ProveFault → Type 0
ProvesBy answers lacks policy asked extra (Ok text) = (p : Terms) × ReadsPolicy policy (Ok p) × Proves answers p asked extra text
ProvesBy answers lacks policy asked extra (Err shown) =
    RefusesPolicy policy shown
    ⊎ ((p : Terms) × ReadsPolicy policy (Ok p) × ((fault : ProveFault) × IsShownAs fault shown × RefusesProving answers lacks p asked fault))

-- a text, as its bytes
abbrev pub text_of : {A : Type 0} → Result (String A) ProveFault → Result Bytes ProveFault
text_of (Ok text) = Ok (string_bytes text)
text_of (Err fault) = Err fault

-- the address isn't one over HTTP
abbrev pub IsBadAddress : Bytes → ProveFault → Type 0
IsBadAddress from fault = (fault ≡ Fetch (fetch.BadAddress From)) × HasScheme from × IsNoUrl from

-- the proof that the options ask for, over the source that they name; or a file of the options, or the address, is
-- refused
abbrev pub ProvesFor : ProveOptions → Bytes → Option Bytes → Result Bytes ProveFault → Type 0
ProvesFor options policy extra (Ok text) =
    (origin : Origin) × IsOriginOf (string_bytes options.from) origin
    × ((asked : Wanted) × IsRequested options.wanted asked
    × ProvesBy (source_answers origin) (λ r. Unit {0}) policy asked extra (Ok text))
ProvesFor options policy extra (Err fault) =
    IsBadAddress (string_bytes options.from) fault
    ⊎ (IsOfFile file.Entry fault
    ⊎ ((origin : Origin) × IsOriginOf (string_bytes options.from) origin
    × ((asked : Wanted) × IsRequested options.wanted asked
    × ProvesBy (source_answers origin) (λ r. Unit {0}) policy asked extra (Err fault))))

-- the writer failed after it took a part of a text
abbrev pub FailsWriting : (Bytes → Type 0) → Passage → ProveFault → Type 0
FailsWriting Is o fault = (fault ≡ Fetch (fetch.Run run.Write)) × ((text : Bytes) × Is text × WrotePart o text)

-- the extra data are those of a file, if one is named
abbrev pub HasExtra : {A : Type 0} → Option A → Option Bytes → Type 0
HasExtra None extra = extra ≡ None
HasExtra (Some path) extra = (bytes : Bytes) × (extra ≡ Some bytes)

-- a run of `prove`: the proof is printed whole; or a part of it, and the writer failed; or nothing, and a file or the
-- log is refused
abbrev pub RunsProve : ProveOptions → Passage → Result (Unit {0}) ProveFault → Type 0
RunsProve options o (Ok done) =
    (policy : Bytes) × ((extra : Option Bytes) × HasExtra options.extra extra
    × ((text : Bytes) × ProvesFor options policy extra (Ok text) × WroteWhole o text))
RunsProve options o (Err fault) =
    ((IsOfPolicy fault ⊎ IsOfFile file.Extra fault) × IsUnwritten o)
    ⊎ ((policy : Bytes) × ((extra : Option Bytes) × HasExtra options.extra extra
    × ((ProvesFor options policy extra (Err fault) × IsUnwritten o) ⊎ FailsWriting (λ text. ProvesFor options policy extra (Ok text)) o fault)))
