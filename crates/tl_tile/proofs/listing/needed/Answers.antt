use Rattle.std.proofs.Common.{◌≡◌, List, IfOk, subst}
use Rattle.tl_tile.specs.declared.resource.Resource.{Resource}
use Rattle.tl_tile.proofs.NeededSince.{since_nothing}
use Rattle.tl_tile.proofs.listing.needed.Goals as goal

pub returns-clause-resources : goal.returns-clause-resources
returns-clause-resources g c =
    subst (λ (xs : List Resource). IfOk c.added_resources.result (λ resources. resources.items ≡ xs)) (since_nothing c.args.size) c.added_resources.ensures.resources
