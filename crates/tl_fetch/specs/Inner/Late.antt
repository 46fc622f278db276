-- A step of checking that a witness of a policy's text cosigned lately enough.
use Rattle.std.specs.Prelude.{◌≡◌, ℕ, false, List, Option, Some}
use Rattle.std.specs.List.{list_any}
use Rattle.tl_fetch.specs.declared.fault.FetchFault.{FetchFault}
use Rattle.tl_fetch.specs.declared.fault.FetchFault.TheVariants.{Stale}
use Rattle.tl_fetch.specs.Trusting.{is_late}

-- a time is asked for, and all of these are earlier
abbrev pub IsEarlyBy : List (Option ℕ) → Option ℕ → FetchFault → Type 0
IsEarlyBy times asked fault = (since : ℕ) × (fault ≡ Stale since) × (asked ≡ Some since) × (list_any (is_late since) times ≡ false)
