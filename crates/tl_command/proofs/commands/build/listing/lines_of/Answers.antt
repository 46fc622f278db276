use Rattle.std.proofs.Common.{◌∙◌, ap, arith}
use Rattle.std.proofs.lemmas.List.{take_all}
use Rattle.tl_command.specs.Mirror.{listing_text}
use Rattle.tl_command.proofs.Lengths.{listing_more}
use Rattle.tl_command.proofs.commands.build.listing.lines_of.Goals as goal

pub loop-resource-preserved : goal.loop-resource-preserved
loop-resource-preserved g c = λ entries few are served.
    listing_more c.args.note.now entries c.args.resources.now c.loop-resource.resource-index c.resource_length-count.result _ _ _ c.loop-resource-test.true
    (c.resource_length-count.ensures entries few are (served c.loop-resource.resource-index _ c.loop-resource-test.true))
    (c.loop-resource.invariant entries few are served) c.in_ok-push_line.ensures

pub returns : goal.returns
returns g c = λ entries few are served.
    c.loop-resource.invariant entries few are served
    ∙ ap (listing_text c.args.note.now entries) (take_all c.loop-resource.resource-index c.args.resources.now (omega (arith, c.loop-resource-test.false)))
