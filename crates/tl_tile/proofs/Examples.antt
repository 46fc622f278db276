-- Worked examples, computed.
use Rattle.std.proofs.Common.{◌≡◌, [], ◌∷◌, length, refl}
use Rattle.std.specs.Prelude.{codes}
use Rattle.std.specs.Fmt.{digits}
use Rattle.tl_tile.specs.declared.resource.Resource.TheVariants as resource
use Rattle.tl_tile.specs.Path.{path_text}
use Rattle.tl_tile.specs.Needed.{tile_at, needed_resources}
use Rattle.tl_tile.specs.TileText.{full_tile}
use Rattle.tl_tile.specs.RightEdge.{filled_tiles}
use Rattle.tl_tile.specs.Bundle.{bundle_text}

large_index : path_text (tile_at 0 1234067 256) ≡ codes "tile/0/x001/x234/067"
large_index = refl

narrow_bundle : path_text (resource.Entries 0 1) ≡ codes "tile/entries/000.p/1"
unfolding digits
narrow_bundle = refl

needed_of_none : needed_resources 0 ≡ []
needed_of_none = refl

needed_of_256 : needed_resources 256 ≡ tile_at 0 0 256 ∷ tile_at 1 0 1 ∷ resource.Entries 0 256 ∷ []
needed_of_256 = refl

needed_of_70000 : length (needed_resources 70000) ≡ 551
needed_of_70000 = refl

two_entries : bundle_text ([] ∷ codes "a" ∷ []) ≡ 0 ∷ 0 ∷ 0 ∷ 1 ∷ 97 ∷ []
two_entries = refl

filled_by_255 : filled_tiles 255 ≡ []
filled_by_255 = refl

filled_by_256 : filled_tiles 256 ≡ full_tile 0 0 ∷ []
filled_by_256 = refl

filled_by_65536 : filled_tiles 65536 ≡ full_tile 0 255 ∷ full_tile 1 0 ∷ []
filled_by_65536 = refl
