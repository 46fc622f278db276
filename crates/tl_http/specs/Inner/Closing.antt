-- The steps of finding the option `close`.
use Rattle.std.specs.Prelude.{◌≡◌, ℕ, length}
use Rattle.tl_hash.specs.Bytes.{Bytes}
use Rattle.tl_http.specs.Persistence.{NamesClose}

-- the option `close` stands at this index of the value
abbrev pub NamesCloseAt : Bytes → ℕ → Type 0
NamesCloseAt value start = (is : NamesClose value) × (length is.before ≡ start)
