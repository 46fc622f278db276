use Rattle.std.proofs.Common.{◌≡◌, List, ap, ◌∙◌, subst}
use Rattle.std.specs.Prelude.{Contains, MatchOption}
use Rattle.tl_archive.specs.Shelves.{Item}
use Rattle.tl_ledger.specs.Inner.Reads.{LacksItem, items_of}
use Rattle.tl_ledger.proofs.opened.shelf_source.ShelfSource.text_of.Goals as goal

pub returns : goal.returns
returns g c =
    let same : items_of c.deref.result.now ≡ c.args.self.now = ap items_of c.deref.ensures.value ∙ c.self.view_is in
    subst (λ (xs : List Item). MatchOption c.text_in.result (LacksItem xs c.args.resource.now) (λ text. Contains xs (c.args.resource.now, text.now))) same c.text_in.ensures
