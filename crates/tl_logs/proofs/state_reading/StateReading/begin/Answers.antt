use Rattle.std.proofs.Common.{arith, inl, refl}
use Rattle.std.proofs.lemmas.Grind.{common_steps}
use Rattle.tl_logs.proofs.StreamLaws.{begun_more, too_long}
use Rattle.tl_logs.proofs.state_reading.StateReading.begin.Goals as goal

pub returns-then-part-saturating_sub : goal.returns-then-part-saturating_sub
returns-then-part-saturating_sub g c = rw (← c.self.view_is)
    (λ counts input after some read.
    inl (too_long g.T.TreeHash.digest_of counts _ input c.args.part.now after read c.requires
    (omega (arith, c.if-part-saturating_sub.true, c.len.ensures, c.self.inside.begun.ok.0, c.saturating_sub.ensures))))

pub returns : goal.returns
returns g c = rw (← c.self.view_is)
    (λ counts input after some read.
    begun_more g.T.TreeHash.digest_of counts _ _ input c.args.part.now read c.requires refl refl c.in_ok-extend_from_slice.ensures.items)

pub returns-in_err-extend_from_slice : goal.returns-in_err-extend_from_slice
returns-in_err-extend_from_slice g c = grind (arith, common_steps)
