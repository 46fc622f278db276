-- What a reader gave, and which inputs it may have.
use Rattle.std.specs.Prelude.{◌≡◌, ℕ, List, [], ◌++◌, Bool, true}
use Rattle.std.specs.Io.KnownBytes.{Consumes, IsAtEnd}
use Rattle.tl_device.specs.Device.{Passage, IsSteady}

-- the reader gave these bytes; if `ended`, it was at its end after them
pub record Gave (i : Passage) (bytes : List ℕ) (ended : Bool) : Type 0 where
  pub consumed : Consumes i.old i.new bytes
  pub at_end : ended ≡ true → IsAtEnd i.new
  pub steady : IsSteady i

-- this may be the whole input, of which these bytes are read
pub record MayBe (bytes : List ℕ) (ended : Bool) (input : List ℕ) : Type 0 where
  pub more : List ℕ
  pub joined : input ≡ bytes ++ more
  pub none : ended ≡ true → more ≡ []
