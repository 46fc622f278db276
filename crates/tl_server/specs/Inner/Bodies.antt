-- The steps of reading a body.
use Rattle.std.specs.Prelude.{◌≡◌, ℕ, ◌<◌, [], ◌++◌, true, false, length, take, vec_items}
use Rattle.tl_device.specs.Device.{Passage, HasFailed}
use Rattle.tl_hash.specs.Bytes.{Bytes}
use Rattle.tl_server.specs.Head.{HasBody}
use Rattle.tl_device.specs.Reading.{Gave}
use Rattle.tl_server.specs.declared.body.Body.{Body}
use Rattle.tl_server.specs.declared.body.Body.TheVariants as body
use Rattle.tl_server.specs.declared.body.Filled.{Filled}
use Rattle.tl_server.specs.declared.body.Filled.TheVariants as filled

-- the bytes read continue the beginning of a body, and nothing follows it
pub record GrownBody (i : Passage) (begun body : Bytes) : Type 0 where
  pub bytes : Bytes
  pub gave : Gave i bytes false
  pub joined : begun ++ bytes ≡ body

-- the bytes read complete a body of n bytes
pub record ReadBody (i : Passage) (begun : Bytes) (n : ℕ) (body : Bytes) : Type 0 where
  pub bytes : Bytes
  pub gave : Gave i bytes false
  pub has : HasBody (begun ++ bytes) n body

-- the input ended before n bytes of the body came
pub record ReadCut (i : Passage) (begun : Bytes) (n : ℕ) : Type 0 where
  pub bytes : Bytes
  pub gave : Gave i bytes true
  pub short : length (begun ++ bytes) < n

-- filling a buffer from the index `from` on
abbrev pub Fills : Passage → ℕ → Bytes → Bytes → Filled → Type 0
Fills i from old new filled.Failed = HasFailed i
Fills i from old new filled.Cut = ReadCut i (take from old) (length old)
Fills i from old new filled.Whole = GrownBody i (take from old) new

-- reading a body of n bytes, of which `begun` came before; if allocation fails nothing is read
abbrev pub ReadsBody : {A : Type 0} → Passage → Bytes → ℕ → Body A → Type 0
ReadsBody i begun n body.Failed = HasFailed i
ReadsBody i begun n (body.Whole bytes) = ReadBody i begun n (vec_items bytes)
ReadsBody i begun n body.Cut = ReadCut i begun n
ReadsBody i begun n body.NoMemory = Gave i [] false × (0 < n)
