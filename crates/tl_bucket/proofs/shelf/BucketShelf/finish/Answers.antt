use Rattle.std.proofs.Common.{◌≡◌, refl, subst, ◌∙◌, arith, rules}
use Rattle.std.proofs.lemmas.Grind.{common_steps}
use Rattle.tl_s3.specs.Objects.{Place}
use Rattle.tl_bucket.specs.Finishing.{FinishesSome}
use Rattle.tl_bucket.proofs.Finishes.{HasFinished, between, ended, none_finished, none_put, one_more, part_more}
use Rattle.tl_bucket.proofs.shelf.BucketShelf.finish.Goals as goal

pub returns-in-Err-clause-finishes : goal.returns-in-Err-clause-finishes
returns-in-Err-clause-finishes g c =
    (0, none_put g.D.CrashOutcome.held g.D.CrashOutcome.reached (g.K.LogSigner.log_key c.args.key.now) c.args.self.now.objects.at 0 c.args.self.now c.failed.new.self c.args.ledger.now c.failed.ensures.events)

pub loop-number-init : goal.loop-number-init
loop-number-init g c = record {
  so_far = none_finished g.D.CrashOutcome.held g.D.CrashOutcome.reached (g.K.LogSigner.log_key c.args.key.now) c.again-client.result c.in-Ok.first c.args.self.now c.args.self.now c.args.ledger.now refl;
  place = refl;
}

pub loop-number-preserved : goal.loop-number-preserved
loop-number-preserved g c = record {
  so_far = one_more g.D.CrashOutcome.held g.D.CrashOutcome.reached (g.K.LogSigner.log_key c.args.key.now) c.again-client.result c.in-Ok.first c.loop-number.number
      c.args.self.now c.loop-number.self c.finish_one.new.self c.args.ledger.now c.loop-number.ledger c.finish_one.new.ledger
      c.loop-number.invariant.so_far c.in-Ok-finish_one.ensures.finishes;
  place = c.finish_one.ensures.place ∙ c.loop-number.invariant.place;
}

pub returns-in-Err-finish_one-clause-finishes : goal.returns-in-Err-finish_one-clause-finishes
returns-in-Err-finish_one-clause-finishes g c =
    let at : c.again-client.result ≡ c.args.self.now.objects.at = search rules in
    let course = between g.D.CrashOutcome.held g.D.CrashOutcome.reached c.args.self.now c.finish_one.new.self c.args.ledger.now c.finish_one.new.ledger in (
      c.in-Ok.first,
      subst (λ (p : Place). FinishesSome (g.K.LogSigner.log_key c.args.key.now) p c.in-Ok.first course) at
          (part_more g.D.CrashOutcome.held g.D.CrashOutcome.reached (g.K.LogSigner.log_key c.args.key.now) c.again-client.result c.in-Ok.first c.loop-number.number
          c.args.self.now c.loop-number.self c.finish_one.new.self c.args.ledger.now c.loop-number.ledger c.finish_one.new.ledger
          c.loop-number.invariant.so_far c.in-Err-finish_one.ensures.finishes),
    )

pub returns-clause-finishes : goal.returns-clause-finishes
returns-clause-finishes g c =
    let at : c.again-client.result ≡ c.args.self.now.objects.at = search rules in
    let end : c.number-end.result ≡ c.args.self.now.objects.claims.number = search rules in
    let course = between g.D.CrashOutcome.held g.D.CrashOutcome.reached c.args.self.now c.loop-number.self c.args.ledger.now c.loop-number.ledger in
    let all = subst (λ (p : Place). HasFinished g.D.CrashOutcome.held g.D.CrashOutcome.reached (g.K.LogSigner.log_key c.args.key.now) p c.in-Ok.first c.loop-number.number course) at c.loop-number.invariant.so_far in
    let last : c.loop-number.number ≡ c.args.self.now.objects.claims.number = omega (arith, c.in-Ok.ensures.below, c.loop-number.auto.number-end, c.loop-number-test.false, end) in
    ended g.D.CrashOutcome.held g.D.CrashOutcome.reached (g.K.LogSigner.log_key c.args.key.now) c.args.self.now.objects.at c.size.result c.in-Ok.first c.loop-number.number c.args.self.now.objects.claims.number
    c.args.self.now c.loop-number.self c.check_size.new.self c.args.ledger.now c.loop-number.ledger c.check_size.result
    c.size.ensures last c.in-Ok.ensures all c.check_size.ensures.events

pub returns-clause-even : goal.returns-clause-even
returns-clause-even g c = grind (arith, common_steps)

pub returns-clause-place : goal.returns-clause-place
returns-clause-place g c = grind (arith, common_steps)

pub returns-in-Err-clause-place : goal.returns-in-Err-clause-place
returns-in-Err-clause-place g c = grind (arith, common_steps)

pub returns-in-Err-finish_one-clause-even : goal.returns-in-Err-finish_one-clause-even
returns-in-Err-finish_one-clause-even g c = grind (arith, common_steps)

pub returns-in-Err-finish_one-clause-place : goal.returns-in-Err-finish_one-clause-place
returns-in-Err-finish_one-clause-place g c = grind (arith, common_steps)
