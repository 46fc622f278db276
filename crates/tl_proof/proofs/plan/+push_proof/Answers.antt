use Rattle.std.proofs.Common.{arith, [], Bool, refl, sym, subst}
use Rattle.tl_proof.specs.Inner.Segments.{IsProofPlan}
use Rattle.tl_proof.proofs.Plans.{appends-none, appends-one, proof-known, proof-whole_at, pushed_proof-left, pushed_proof-right}
use Rattle.tl_proof.proofs.plan.+push_proof.Goals as goal

pub returns-in_ok-push : goal.returns-in_ok-push
returns-in_ok-push g t c =
    appends-one (IsProofPlan c.args.old c.args.start c.args.end c.args.known) c.args.segments.now.items c.push.new.self.items _ c.in_ok-push.ensures.items
    (proof-whole_at c.args.old c.args.start c.args.end c.args.known _ c.requires.first c.if-old-end.true c.if-not-known.true refl refl)

pub returns-else-not-known : goal.returns-else-not-known
returns-else-not-known g t c =
    appends-none (IsProofPlan c.args.old c.args.start c.args.end c.args.known) c.args.segments.now.items c.args.segments.now.items refl
    (subst (λ (b : Bool). IsProofPlan c.args.old c.args.start c.args.end b []) (sym c.if-not-known.false) (proof-known c.args.old c.args.start c.args.end c.requires.first c.if-old-end.true))

pub returns-in_ok-push-2 : goal.returns-in_ok-push-2
returns-in_ok-push-2 g t c =
    pushed_proof-left c.args.old c.args.start c.args.end c.split_point.result c.args.known c.args.segments.now.items c.push_proof.new.segments.items c.push-then-old-middle.new.self.items _
    c.requires.first c.split_point.ensures c.if-old-middle.true c.in_ok-push_proof.ensures c.in_ok-push-2.ensures.items refl refl

pub returns-in_ok-push-3 : goal.returns-in_ok-push-3
returns-in_ok-push-3 g t c =
    pushed_proof-right c.args.old c.args.start c.args.end c.split_point.result c.args.known c.args.segments.now.items c.push_proof-else-old-middle.new.segments.items c.push-else-old-middle.new.self.items _
    c.split_point.ensures c.if-old-middle.false (omega (arith, c.requires.last, c.if-old-end.false)) c.in_ok-push_proof-2.ensures c.in_ok-push-3.ensures.items refl refl
