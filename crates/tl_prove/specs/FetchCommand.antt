-- The commands `fetch` and `feed` under the policy of a file (C2SP tlog-policy).
use Rattle.std.specs.Prelude.{◌≡◌, ◌⊎◌, Result, Ok, Err}
use Rattle.tl_hash.specs.Bytes.{Bytes}
use Rattle.tl_device.specs.Device.{Passage, IsUnwritten}
use Rattle.tl_fetch.specs.ByPolicy.{FeedsBy, FetchesBy}
use Rattle.tl_fetch.specs.declared.fault.FetchFault.{FetchFault}
use Rattle.tl_fetch.specs.declared.options.FetchOptions.{FetchOptions}
use Rattle.tl_policy.specs.Terms.{Terms}
use Rattle.tl_policy.specs.ReadPolicy.{ReadsPolicy}
use Rattle.tl_prove.specs.Faults.{IsOfPolicy}
use Rattle.tl_prove.specs.Policies.{RefusesPolicy}
use Rattle.tl_prove.specs.declared.fault.ProveFault.{ProveFault}
use Rattle.tl_prove.specs.declared.fault.ProveFault.TheVariants.{Fetch}
use Rattle.tl_prove.specs.declared.options.PolicyFetchOptions.{PolicyFetchOptions}

-- a run under the policy that a text is; or the text is none, and nothing is printed
abbrev pub FetchesUnder : Bytes → FetchOptions → Passage → Result (Unit {0}) ProveFault → Type 0
FetchesUnder text options o (Ok done) = (p : Terms) × ReadsPolicy text (Ok p) × FetchesBy p options o (Ok done)
FetchesUnder text options o (Err shown) =
    (RefusesPolicy text shown × IsUnwritten o)
    ⊎ ((p : Terms) × ReadsPolicy text (Ok p) × ((fault : FetchFault) × (shown ≡ Fetch fault) × FetchesBy p options o (Err fault)))

-- a run of `fetch` under the policy of a file; or the file failed, and nothing is printed
abbrev pub RunsFetchBy : PolicyFetchOptions → Passage → Result (Unit {0}) ProveFault → Type 0
RunsFetchBy options o (Ok done) = (text : Bytes) × FetchesUnder text options.fetch o (Ok done)
RunsFetchBy options o (Err fault) =
    (IsOfPolicy fault × IsUnwritten o) ⊎ ((text : Bytes) × FetchesUnder text options.fetch o (Err fault))

-- `feed` in the same way
abbrev pub FeedsUnder : Bytes → FetchOptions → Passage → Result (Unit {0}) ProveFault → Type 0
FeedsUnder text options o (Ok done) = (p : Terms) × ReadsPolicy text (Ok p) × FeedsBy p options o (Ok done)
FeedsUnder text options o (Err shown) =
    (RefusesPolicy text shown × IsUnwritten o)
    ⊎ ((p : Terms) × ReadsPolicy text (Ok p) × ((fault : FetchFault) × (shown ≡ Fetch fault) × FeedsBy p options o (Err fault)))

abbrev pub RunsFeedBy : PolicyFetchOptions → Passage → Result (Unit {0}) ProveFault → Type 0
RunsFeedBy options o (Ok done) = (text : Bytes) × FeedsUnder text options.fetch o (Ok done)
RunsFeedBy options o (Err fault) =
    (IsOfPolicy fault × IsUnwritten o) ⊎ ((text : Bytes) × FeedsUnder text options.fetch o (Err fault))
