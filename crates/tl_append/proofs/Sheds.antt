-- Removing spent partial tiles and bundles.
use Rattle.std.proofs.Common.{inl, ℕ, List, [], refl, sym}
use Rattle.std.proofs.lemmas.List.{append-nil}
use Rattle.std.proofs.lemmas.List.Elements.{All-nil}
use Rattle.sha2.specs.Sha256.{sha256}
use Rattle.tl_archive.specs.Shelves.{Kept}
use Rattle.tl_archive.specs.Complete.{IsSafe}
use Rattle.tl_append.specs.Inner.Shedding.{ShedsSpent}

-- nothing was removed
pub none_shed : (size : ℕ) (a : Kept) (saw : List Kept) → ShedsSpent size a a saw saw
none_shed size a saw = record {
  kept = λ h log ledger keeps shown. keeps;
  safe = λ h log ledger keeps shown. record { steps = []; trace = sym (append-nil saw); each = All-nil (IsSafe sha256 h) };
  spent = record { others = λ r. inl refl; staged = refl };
}
