use Rattle.std.proofs.Common.{◌≡◌, ◌+◌, drop}
use Rattle.std.specs.List.{prefix_len}
use Rattle.tl_tile.specs.Fetched.{is_on_path, texts_of}
use Rattle.tl_tile.proofs.tile_reader.fetched.path_len.Given as goal

abbrev pub invariant-loop-fetched : goal.invariant-loop-fetched
invariant-loop-fetched g l = record {
  count : l.count ≡ l.fetched-index;
  rest : prefix_len (λ f. is_on_path l.index f.0) (texts_of l.tiles) ≡ l.count + prefix_len (λ f. is_on_path l.index f.0) (texts_of (drop l.fetched-index l.tiles));
}
