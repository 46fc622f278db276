use Rattle.std.proofs.Common.{◌-◌, ◌∙◌, ap, subst, map, vec_items, refl, arith}
use Rattle.std.proofs.lemmas.Grind.{common_steps}
use Rattle.tl_s3.specs.Objects.{Place}
use Rattle.tl_bucket.specs.Buckets.{Bucketed}
use Rattle.tl_bucket.specs.Commits.{Commit}
use Rattle.tl_bucket.specs.Opened.{WasReadAs}
use Rattle.tl_bucket.specs.declared.shelf.BucketShelf.TheInside.{Inside}
use Rattle.tl_bucket.proofs.Finishes.{one_behind}
use Rattle.tl_bucket.proofs.shelf.BucketShelf.first_behind.Goals as goal

pub loop-preserved : goal.loop-preserved
loop-preserved g c =
    let at = ap (λ (i : Inside g.row.D.Denot g.row.H.Denot). i.objects.at) c.self-inside.view_is ∙ ap (λ (b : Bucketed). b.objects.at) c.self.view_is in
    let commit : Commit = record { start = c.in_ok-commit.commit.start; token = c.in_ok-commit.commit.token.items; entries = map vec_items c.in_ok-commit.commit.entries.items } in
    let read = subst (λ (p : Place). WasReadAs p (c.loop.number - 1) commit) at c.in_ok-commit.ensures in
    record {
      below = omega (arith, c.loop.invariant.below);
      behind = one_behind c.args.self.now.objects.at c.args.size c.args.self.now.objects.claims.number c.loop.number (c.loop.number - 1) commit refl c.if-number-le1.false read c.if-commit-size.false c.loop.invariant.behind;
    }

pub loop-init : goal.loop-init
loop-init g c = grind (arith, common_steps)

pub returns-then-commit-size : goal.returns-then-commit-size
returns-then-commit-size g c = grind (arith, common_steps)

pub returns-then-number-le1 : goal.returns-then-number-le1
returns-then-number-le1 g c = grind (arith, common_steps)
