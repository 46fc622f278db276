-- The entries of a bundle, and that they can be written.
use Rattle.std.proofs.Common.{◌≡◌, ℕ, ◌≤◌, inl, inr, Bool, true, false, cond, get_or, List, length, refl, sym, ap, subst, ◌∙◌, arith}
use Rattle.std.specs.Prelude.{Err, None, Some, not}
use Rattle.std.specs.List.{position_or_len}
use Rattle.std.proofs.lemmas.Bool.{cases_lt, lt-ltb, ltb-false, not-true}
use Rattle.std.proofs.lemmas.List.Sums.{prefix_len_passes}
use Rattle.std.proofs.lemmas.List.Elements.{All-get_or}
use Rattle.tl_tile.specs.Bundle.{IsShortEntry, AreShortEntries}
use Rattle.tl_tile.specs.ReadBundle.{WritesBundle}
use Rattle.tl_command.specs.Lines.{first_too_long, is_too_long}
use Rattle.tl_tile.specs.declared.bundle.BundleFault.{BundleFault}
use Rattle.tl_tile.specs.declared.bundle.BundleFault.TheVariants.{EntryTooLong, Truncated, Trailing, OutOfMemory}

-- writing entries that are not too long fails only if allocation fails
pub short_fault : (A : Type 0) (entries : List (List ℕ)) (fault : BundleFault) → AreShortEntries entries → WritesBundle {A = A} entries (Err fault) → fault ≡ OutOfMemory
short_fault A entries EntryTooLong short (k, entry, less, at, long) =
    let here : IsShortEntry entry = subst IsShortEntry at (All-get_or IsShortEntry entries k entry less short) in
    absurd (omega (arith, here, long))
short_fault A entries Truncated short given = absurd given
short_fault A entries Trailing short given = absurd given
short_fault A entries OutOfMemory short given = refl

-- if no entry is the first that is too long, none is
pub none_too_long : (entries : List (List ℕ)) → first_too_long entries ≡ None → AreShortEntries entries
none_too_long entries none = λ k d lt.
    elim (cases_lt (position_or_len is_too_long entries) (length entries)) as (λ _. IsShortEntry (get_or entries k d)) [
      | inl found ↦
          let bad : Some (position_or_len is_too_long entries) ≡ None =
          ap (λ (b : Bool). cond b (Some (position_or_len is_too_long entries)) None) (sym (lt-ltb (position_or_len is_too_long entries) (length entries) found)) ∙ none in
          absurd cc
      | inr past ↦
          let passes : not (is_too_long (get_or entries k d)) ≡ true = prefix_len_passes (λ x. not (is_too_long x)) entries k d (omega (arith, past, lt)) in
          let short : is_too_long (get_or entries k d) ≡ false = not-true (is_too_long (get_or entries k d)) passes in
          let fits : length (get_or entries k d) ≤ 65535 = ltb-false 65535 (length (get_or entries k d)) short in
          omega (arith, fits)
    ]
