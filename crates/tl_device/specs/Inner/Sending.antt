-- The steps of writing a text in pieces.
use Rattle.std.specs.Prelude.{◌≡◌, ℕ, List, ◌++◌}
use Rattle.std.specs.Io.KnownBytes.{Appends}
use Rattle.tl_device.specs.Device.{Passage, IsSteady}

-- a prefix of what was kept and of the bytes was written, and the rest is kept
pub record PutSome (o : Passage) (old new bytes : List ℕ) : Type 0 where
  pub written : List ℕ
  pub joined : written ++ new ≡ old ++ bytes
  pub appended : Appends o.old o.new written
  pub steady : IsSteady o
