-- The steps of reading a body.
use Rattle.std.specs.Prelude.{◌≡◌, ℕ, ◌<◌, [], ◌++◌, ◌∷◌, true, false, Bool, Option, Some, None, ⊤, length, drop, vec_items}
use Rattle.tl_device.specs.Device.{Passage, HasFailed}
use Rattle.tl_hash.specs.Bytes.{Bytes}
use Rattle.tl_device.specs.Reading.{Gave}
use Rattle.tl_http.specs.declared.body.Body.{Body}
use Rattle.tl_http.specs.declared.body.Body.TheVariants.{Failed, NoMemory, Ended, Full}
use Rattle.tl_http.specs.declared.framing.Framing.{Framing}
use Rattle.tl_http.specs.declared.framing.Framing.TheVariants.{Sized, UntilEnd, Chunked}

-- the bytes read continue the beginning of a body, and nothing follows it
pub record GrownBody (i : Passage) (begun body : Bytes) : Type 0 where
  pub bytes : Bytes
  pub gave : Gave i bytes false
  pub joined : begun ++ bytes ≡ body

-- the bytes read complete a body of `most` bytes
pub record FullBody (i : Passage) (begun : Bytes) (most : ℕ) (body : Bytes) : Type 0 where
  pub bytes : Bytes
  pub gave : Gave i bytes false
  pub joined : begun ++ bytes ≡ body ++ drop most begun
  pub whole : length body ≡ most

-- the input ended with a body of fewer than `most` bytes
pub record EndedBody (i : Passage) (begun : Bytes) (most : ℕ) (body : Bytes) : Type 0 where
  pub bytes : Bytes
  pub gave : Gave i bytes true
  pub joined : begun ++ bytes ≡ body
  pub short : length body < most

-- some of a body of `most` bytes came
pub record SomeBody (i : Passage) (begun : Bytes) (most : ℕ) : Type 0 where
  pub bytes : Bytes
  pub gave : Gave i bytes false
  pub some : 0 < length (begun ++ bytes)
  pub wanted : 0 < most

-- reading a body up to `most` bytes, of which `begun` came before
abbrev pub ReadsUpTo : {A : Type 0} → Passage → Bytes → ℕ → Body A → Type 0
ReadsUpTo i begun most Failed = HasFailed i
ReadsUpTo i begun most NoMemory = SomeBody i begun most
ReadsUpTo i begun most (Ended body) = EndedBody i begun most (vec_items body)
ReadsUpTo i begun most (Full body) = FullBody i begun most (vec_items body)

-- whether the input has ended, or a read failed
abbrev pub TellsEnd : Passage → Option Bool → Type 0
TellsEnd i None = HasFailed i
TellsEnd i (Some true) = Gave i [] true
TellsEnd i (Some false) = (b : ℕ) × Gave i (b ∷ []) false

-- a body with a length was read, and no byte behind it except those that came with the head
abbrev pub FillsSized : Framing → Passage → Bytes → Bytes → Type 0
FillsSized (Sized n) i begun body = FullBody i begun n body
FillsSized UntilEnd i begun body = ⊤
FillsSized Chunked i begun body = ⊤
