-- The steps of finding a body's length.
use Rattle.std.specs.Prelude.{ℕ, ◌≤◌, List}
use Rattle.tl_hash.specs.Bytes.{Bytes}
use Rattle.tl_server.specs.Head.{IsSized}
use Rattle.tl_server.specs.declared.fields.Length.{Length}
use Rattle.tl_server.specs.declared.fields.Length.TheVariants as lengths

-- the length that the fields give to a body of at most `most` bytes
abbrev pub SizesBody : ℕ → List (Bytes × Bytes) → Length → Type 0
SizesBody most fields lengths.Unknown = (n : ℕ) → ¬ (IsSized fields n)
SizesBody most fields lengths.TooLarge = (n : ℕ) × IsSized fields n × ¬ (n ≤ most)
SizesBody most fields (lengths.Is n) = IsSized fields n × (n ≤ most)
