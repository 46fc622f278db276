-- What a shelf's mark says about a log.
use Rattle.std.specs.Prelude.{◌≡◌, ℕ, ◌<◌, ◌≤◌, Bool, true, Option, Some, None, ⊤}
use Rattle.tl_ledger.specs.declared.marking.MarkFault.{MarkFault}
use Rattle.tl_ledger.specs.declared.marking.MarkFault.TheVariants as marking

-- no more than `size` entries were marked as published
abbrev pub IsWithin : ℕ → Option ℕ → Type 0
IsWithin size None = ⊤
IsWithin size (Some n) = n ≤ size

-- `Older n`: n entries were marked, more than `size`, and if the shelf is honest n is its mark
abbrev pub MarkFails : Bool → ℕ → Option ℕ → MarkFault → Type 0
MarkFails honest size mark (marking.Older n) = (size < n) × (honest ≡ true → mark ≡ Some n)
MarkFails honest size mark (marking.Shelf fault) = ⊤
