use Rattle.std.proofs.Common.{List, map, arith}
use Rattle.std.proofs.lemmas.Grind.{common_steps}
use Rattle.tl_note.specs.Key.{Key}
use Rattle.tl_checkpoint.proofs.Quorums.{next_line}
use Rattle.tl_checkpoint.proofs.quorum.cosignatures_by.Goals as goal

pub loop-place-preserved : goal.loop-place-preserved
loop-place-preserved g c =
    let keys : List Key = map (λ b. (goal.Verifier-dyn g (b.vtable, b.value)).key b.value) c.args.witnesses.now in
    next_line c.args.text.now keys c.args.lines.now c.loop-place.place c.loop-place.found.items c.keep.new.found.items c.in_ok-cosigned.cosigned c.requires c.loop-place.invariant c.in_ok-cosigned.ensures c.in_ok-keep.ensures

pub loop-place-init : goal.loop-place-init
loop-place-init g c = grind (arith, common_steps)

pub returns : goal.returns
returns g c = grind (arith, common_steps)
