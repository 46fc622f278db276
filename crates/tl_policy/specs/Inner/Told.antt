-- What is wrong, with the number of its line if it has one.
use Rattle.std.specs.Prelude.{ℕ, Option, Some, None}
use Rattle.tl_hash.specs.Bytes.{Bytes}
use Rattle.tl_policy.specs.FaultWords.{line_words}

abbrev pub told : Option ℕ → Bytes → Bytes
told (Some line) words = line_words line words
told None words = words
