use Rattle.std.proofs.Common.{map, vec_items, sym, ◌∙◌, arith}
use Rattle.std.proofs.lemmas.Grind.{common_steps}
use Rattle.std.proofs.lemmas.List.{length-map}
use Rattle.tl_publisher.proofs.Resumptions.{read_next, read_whole}
use Rattle.tl_publisher.proofs.resuming.read_all.Goals as goal

pub loop-place-preserved : goal.loop-place-preserved
loop-place-preserved c =
    read_next (map vec_items c.args.bundles.now) c.args.size c.loop-place.place c.loop-place.base.items c.in_ok-entries.entries.items c.append.new.self.items
    (omega (arith, c.requires, c.loop-place-test.true)) c.loop-place.invariant c.in_ok-entries.ensures.entries c.in_ok-entries.ensures.text c.in_ok-append.ensures.items

pub returns-clause-length : goal.returns-clause-length
returns-clause-length c =
    let many = length-map c.args.bundles.now vec_items in
    let whole = read_whole (map vec_items c.args.bundles.now) c.args.size c.loop-place.place (map vec_items c.loop-place.base.items) (many ∙ c.requires) (omega (arith, many, c.loop-place-test.false)) c.loop-place.invariant in
    sym (length-map c.loop-place.base.items vec_items) ∙ whole.0

pub returns-clause-entries : goal.returns-clause-entries
returns-clause-entries c =
    let many = length-map c.args.bundles.now vec_items in
    (read_whole (map vec_items c.args.bundles.now) c.args.size c.loop-place.place (map vec_items c.loop-place.base.items) (many ∙ c.requires) (omega (arith, many, c.loop-place-test.false)) c.loop-place.invariant).1

pub loop-place-init : goal.loop-place-init
loop-place-init c = grind (arith, common_steps)
