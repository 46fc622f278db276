-- A GET request over a reader and a writer.
use Rattle.std.specs.Prelude.{◌≡◌, ◌⊎◌, ℕ, Bool, Result, Err}
use Rattle.tl_device.specs.Device.{Passage, HasFailed, IsUnread, IsUnwritten, WroteWhole, WrotePart}
use Rattle.tl_device.specs.Reading.{Gave, MayBe}
use Rattle.tl_hash.specs.Bytes.{Bytes}
use Rattle.tl_http.specs.Request.{IsAskable, request_text}
use Rattle.tl_http.specs.Response.{Outcome, Responds, Unless}
use Rattle.tl_http.specs.declared.fault.HttpFault.{HttpFault}
use Rattle.tl_http.specs.declared.fault.HttpFault.TheVariants.{BadTarget, Read, Write}

-- this holds of the whole input, whatever follows the bytes that were read
pub record Came (Holds : Bytes → Type 0) (i : Passage) : Type 0 where
  pub bytes : Bytes
  pub ended : Bool
  pub gave : Gave i bytes ended
  pub so : (input : Bytes) → MayBe bytes ended input → Holds input

-- a read failed, or the bytes read decide, whatever follows them
abbrev pub Receives : {R : Type 0} → (Bytes → Result R HttpFault → Type 0) → Passage → Result R HttpFault → Type 0
Receives Decides i r = ((r ≡ Err Read) × HasFailed i) ⊎ Came (λ input. Decides input r) i

-- the result of `get`, by the first case that applies; i is the reader, o the writer:
--     BadTarget  host and target can't be sent; nothing is written or read
--     Write      a write failed, after a part of the request; nothing is read
--     Read       the request was written, and a read failed
--     else       the request was written, and the response decides
abbrev pub Gets : Bytes → Bytes → ℕ → Passage → Passage → Outcome → Type 0
Gets host target limit i o r =
    Unless (IsAskable host target) ((r ≡ Err BadTarget) × IsUnwritten o × IsUnread i)
    (((r ≡ Err Write) × WrotePart o (request_text host target) × IsUnread i)
    ⊎ (WroteWhole o (request_text host target) × Receives (Responds limit) i r))
