use Rattle.std.proofs.Common.{sym, ap, ◌∙◌, ◌++◌, Some, arith}
use Rattle.std.proofs.lemmas.Grind.{common_steps}
use Rattle.std.specs.Prelude.{codes}
use Rattle.tl_tile.specs.declared.resource.Resource.TheVariants as resource
use Rattle.tl_tile.proofs.OnePath.{only_path, only_tile}
use Rattle.tl_tile.proofs.PathLemmas.{no_resource, unlike}
use Rattle.tl_tile.proofs.path.parse_path.Goals as goal

pub returns-clause-none : goal.returns-clause-none
returns-clause-none c = no_resource c.args.text.now c.in-Some-after.rest.now c.tile_of.result (unlike c.args.text.now _ c.eq.result c.eq.ensures c.if-eq.false)
    (λ more e. c.in_default.ensures more (c.as_bytes-bytes.ensures.value ∙ e)) (sym c.as_bytes-bytes.ensures.value ∙ c.in-Some-after.ensures) c.tile_of.ensures

pub returns-clause-only : goal.returns-clause-only
returns-clause-only c = only_tile c.args.text.now c.in-Some-after.rest.now c.tile_of.result (unlike c.args.text.now _ c.eq.result c.eq.ensures c.if-eq.false)
    (λ more e. c.in_default.ensures more (c.as_bytes-bytes.ensures.value ∙ e)) (sym c.as_bytes-bytes.ensures.value ∙ c.in-Some-after.ensures) c.tile_of.ensures

pub returns-in-Some-piece_of-clause-only : goal.returns-in-Some-piece_of-clause-only
returns-in-Some-piece_of-clause-only c =
    let place = c.in-Some-piece_of.ensures in
    let path = sym c.as_bytes-bytes.ensures.value ∙ c.in-Some.ensures ∙ ap (λ t. codes "tile/entries/" ++ t) place.3 in
    only_path c.args.text.now (Some (resource.Entries c.in-Some-piece_of.index c.in-Some-piece_of.width)) ((place.0, place.1, place.2), sym path) tt

pub returns-clause-found : goal.returns-clause-found
returns-clause-found c = grind (arith, common_steps)

pub returns-in-None-clause-none : goal.returns-in-None-clause-none
returns-in-None-clause-none c = grind (arith, common_steps)

pub returns-in_default-after-clause-none : goal.returns-in_default-after-clause-none
returns-in_default-after-clause-none c = grind (arith, common_steps)

pub returns-in_default-after-clause-only : goal.returns-in_default-after-clause-only
returns-in_default-after-clause-only c = grind (arith, common_steps)
