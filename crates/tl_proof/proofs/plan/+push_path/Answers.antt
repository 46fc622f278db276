use Rattle.std.proofs.Common.{refl}
use Rattle.tl_proof.specs.Inner.Segments.{IsPathPlan}
use Rattle.tl_proof.proofs.Plans.{appends-none, path-one, pushed_path-left, pushed_path-right}
use Rattle.tl_proof.proofs.plan.+push_path.Goals as goal

pub returns-then-end-start-eq1-clause-added : goal.returns-then-end-start-eq1-clause-added
returns-then-end-start-eq1-clause-added g t c =
    appends-none (IsPathPlan c.args.index c.args.start c.args.end) c.args.segments.now.items c.args.segments.now.items refl
    (path-one c.args.index c.args.start c.args.end c.requires.first c.requires.last c.if-end-start-eq1.true)

pub returns-in_ok-push-clause-added : goal.returns-in_ok-push-clause-added
returns-in_ok-push-clause-added g t c =
    pushed_path-left c.args.index c.args.start c.args.end c.split_point.result c.args.segments.now.items c.push_path.new.segments.items c.push.new.self.items _
    c.requires.first c.split_point.ensures c.if-index-middle.true c.in_ok-push_path.ensures.added c.in_ok-push.ensures.items refl refl

pub returns-in_ok-push-2-clause-added : goal.returns-in_ok-push-2-clause-added
returns-in_ok-push-2-clause-added g t c =
    pushed_path-right c.args.index c.args.start c.args.end c.split_point.result c.args.segments.now.items c.push_path-else-index-middle.new.segments.items c.push-else-index-middle.new.self.items _
    c.split_point.ensures c.if-index-middle.false c.requires.last c.in_ok-push_path-2.ensures.added c.in_ok-push-2.ensures.items refl refl
