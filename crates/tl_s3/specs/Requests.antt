-- A signed request over a reader and a writer.
use Rattle.std.specs.Prelude.{◌≡◌, ◌⊎◌, Result, Ok, Err}
use Rattle.tl_device.specs.Device.{Passage, IsUnread, IsUnwritten}
use Rattle.tl_http.specs.Exchange.{Exchanges, Sought}
use Rattle.tl_http.specs.Post.{Given, Replied}
use Rattle.tl_http.specs.Response.{Unless}
use Rattle.tl_hash.specs.Bytes.{Bytes}
use Rattle.tl_s3.specs.Signed.{signed_sent}
use Rattle.tl_s3.specs.declared.fault.ObjectFault.{ObjectFault}
use Rattle.tl_s3.specs.declared.fault.ObjectFault.TheVariants.{BadField, Get, OutOfMemory}
use Rattle.tl_s3.specs.Canonical.{IsCanonical, Signed}
use Rattle.tl_s3.specs.Signing.{Scoped}
use Rattle.tl_s3.specs.Time.{Civil}

-- the result of an exchange, with this of its response
abbrev pub told_by : {T : Type 0} → (Given → T) → Replied → Result T ObjectFault
told_by tell (Ok given) = Ok (tell given)
told_by tell (Err fault) = Err (Get fault)

-- the result of a signed request with this body, by the first case that applies; i is the reader, o the writer:
--     OutOfMemory  an allocation for the request failed; nothing is written or read
--     BadField     its fields aren't in canonical form; nothing is written or read
--     else         the very request is sent with its signature, and the exchange decides
abbrev pub Asks : {T : Type 0} → (Given → T) → Signed → Scoped → Civil → Bytes → Sought → Passage → Passage
    → Result T ObjectFault → Type 0
Asks tell r c t body s i o told =
    ((told ≡ Err OutOfMemory) × IsUnwritten o × IsUnread i)
    ⊎ Unless (IsCanonical r.fields) ((told ≡ Err BadField) × IsUnwritten o × IsUnread i)
    ((reply : Replied) × Exchanges (signed_sent r c t body) s i o reply × (told ≡ told_by tell reply))
