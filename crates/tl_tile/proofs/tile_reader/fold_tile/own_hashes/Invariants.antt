use Rattle.std.proofs.Common.{◌≡◌, ◌<◌, ℕ, [], length, get_or}
use Rattle.tl_tile.specs.Folds.{IsHashAt}
use Rattle.tl_tile.proofs.tile_reader.fold_tile.own_hashes.Given as goal

abbrev pub invariant-loop-number : goal.invariant-loop-number
invariant-loop-number g l = record {
  many : length l.hashes.items ≡ l.number;
  own : (n : ℕ) → n < l.number → IsHashAt l.text n (get_or l.hashes.items n []);
}
