-- Looking for the last commit.
use Rattle.std.specs.Prelude.{◌≡◌, ◌⊎◌, ℕ}
use Rattle.tl_s3.specs.Objects.{Place}
use Rattle.tl_bucket.specs.Opened.{HasCommit, LacksCommit}

-- the commit with the lower number was there, or that number is 0, and the one with the higher number wasn't
pub record AreBounds (p : Place) (low high : ℕ) : Type 0 where
  pub below : (low ≡ 0) ⊎ HasCommit p low
  pub above : LacksCommit p high
