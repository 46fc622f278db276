use Rattle.std.proofs.Common.{ap, subst, sym, ◌∙◌}
use Rattle.std.specs.List.{prefix_len, take_while}
use Rattle.tl_tile.specs.Fetched.{is_on_path, texts_of}
use Rattle.tl_tile.specs.Verified.{HavePassed}
use Rattle.tl_tile.proofs.Paths.{path-kept, path-passed}
use Rattle.tl_tile.proofs.tile_reader.fetched.FetchedTiles.keep_path.Goals as goal

pub returns-clause-path : goal.returns-clause-path
returns-clause-path g c =
    path-kept c.args.index c.path_len-count.result c.self.inside.tiles.items c.truncate.new.self.items
    (c.path_len-count.ensures ∙ ap (λ xs. prefix_len (λ f. is_on_path c.args.index f.0) (texts_of xs)) c.deref.ensures.value) c.truncate.ensures.items
    ∙ ap (take_while (λ f. is_on_path c.args.index f.0)) c.self.view_is

pub returns-clause-passed : goal.returns-clause-passed
returns-clause-passed g c H size root before = subst (HavePassed H size root) (sym (returns-clause-path g c)) (path-passed H size root c.args.index c.args.self.now before)
