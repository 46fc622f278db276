use Rattle.std.proofs.Common.{List, length, map, refl, arith}
use Rattle.std.proofs.lemmas.List.{length-map}
use Rattle.std.proofs.lemmas.Option.{slice_get_read}
use Rattle.tl_note.specs.Key.{Key}
use Rattle.tl_checkpoint.proofs.Quorums.{key_at, none_more, none_all}
use Rattle.tl_checkpoint.proofs.quorum.cosigned_at.Goals as goal

pub loop-witness-preserved : goal.loop-witness-preserved
loop-witness-preserved g c =
    let keys : List Key = map (λ b. (goal.Verifier-dyn g (b.vtable, b.value)).key b.value) c.args.witnesses.now in
    let told = rw c.in_default.is at c.in_ok-time.ensures in
    none_more c.args.text.now keys c.index-lines-place.result c.loop-witness.witness _
    (key_at (λ b. (goal.Verifier-dyn g (b.vtable, b.value)).key b.value) c.args.witnesses.now c.loop-witness.witness c.index-witnesses-witness.result (omega arith) c.index-witnesses-witness.is) told c.loop-witness.invariant

pub returns : goal.returns
returns g c =
    let keys : List Key = map (λ b. (goal.Verifier-dyn g (b.vtable, b.value)).key b.value) c.args.witnesses.now in (
      c.index-lines-place.result,
      slice_get_read c.args.lines.now (length c.args.lines.now) c.args.place c.index-lines-place.result refl c.requires c.index-lines-place.is,
      none_all c.args.text.now keys c.index-lines-place.result c.loop-witness.witness (omega (arith, length-map c.args.witnesses.now (λ b. (goal.Verifier-dyn g (b.vtable, b.value)).key b.value), c.loop-witness-test.false)) c.loop-witness.invariant,
    )
