use Rattle.std.proofs.Common.{◌≡◌, ℕ, ◌+◌, ◌-◌, subst, arith}
use Rattle.tl_s3.specs.Objects.{Place}
use Rattle.tl_bucket.specs.Opened.{IsLastFound, LacksCommit}
use Rattle.tl_bucket.specs.Inner.Searches.{AreBounds}
use Rattle.tl_bucket.proofs.opening.last_commit.Goals as goal

last_found : (p : Place) (low high : ℕ) → AreBounds p low high → high - low ≡ 1 → IsLastFound p low
last_found p low high bounds apart = record {
  there = bounds.below;
  none = subst (LacksCommit p) (let next : high ≡ low + 1 = omega (arith, apart) in next) bounds.above;
}

pub returns-then-saturating_sub-eq1 : goal.returns-then-saturating_sub-eq1
returns-then-saturating_sub-eq1 g c =
    last_found c.args.client.now c.loop.low c.loop.high c.loop.invariant (omega (arith, c.saturating_sub.ensures, c.if-saturating_sub-eq1.true))
