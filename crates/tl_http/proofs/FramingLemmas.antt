-- How fields frame a body.
use Rattle.std.proofs.Common.{◌≡◌, ◌≤◌, ℕ, List, [], ◌∷◌, Option, Some, None, Err, ap, codes, inl, inr}
use Rattle.tl_http.specs.FieldValues.{values_of}
use Rattle.tl_http.specs.Fields.{HasFraming, HasLength, IsChunked, IsIdentity, IsSent}
use Rattle.tl_http.specs.Response.{HeadDecides}
use Rattle.tl_http.specs.Inner.Framings.{FramesBody}
use Rattle.tl_http.specs.Inner.Heads.{faulty}
use Rattle.tl_http.specs.declared.fault.HttpFault.{HttpFault}
use Rattle.tl_http.specs.declared.framing.Framing.{Framing}
use Rattle.tl_http.specs.declared.framing.Framing.TheVariants.{Sized, UntilEnd, Chunked}

-- if no length is clear, no framing is
pub unclear : (fields : List (List ℕ × List ℕ)) → ((n : Option ℕ) → ¬ (HasLength fields n)) → (framing : Framing) → ¬ (HasFraming fields framing)
unclear fields none (Sized n) has = none (Some n) has.1
unclear fields none UntilEnd has = none None has.1
unclear fields none Chunked has = none None has.1

-- one value isn't none
pub one_value : (values : List (List ℕ)) (value : List ℕ) → values ≡ value ∷ [] → ¬ (values ≡ [])
one_value values value one none = absurd cc

-- if there is a length beside chunks, no framing is clear
pub both : (fields : List (List ℕ × List ℕ)) → IsChunked (values_of (codes "Transfer-Encoding") fields) → ¬ (HasLength fields None)
    → (framing : Framing) → ¬ (HasFraming fields framing)
both fields chunked some (Sized n) has = one_value (values_of (codes "Transfer-Encoding") fields) chunked.0 chunked.1 has.0
both fields chunked some UntilEnd has = one_value (values_of (codes "Transfer-Encoding") fields) chunked.0 chunked.1 has.0
both fields chunked some Chunked has = some has.1

-- the body is sent in another form
pub unsent : (minor : ℕ) (fields : List (List ℕ × List ℕ)) → ¬ (values_of (codes "Transfer-Encoding") fields ≡ [])
    → ¬ ((minor ≡ 1) × IsChunked (values_of (codes "Transfer-Encoding") fields)) → ¬ (IsSent minor fields)
unsent minor fields some other (inl none) = some none
unsent minor fields some other (inr chunked) = other chunked

-- fields that don't frame a body decide
pub framing_decides : (Wanted : ℕ → Type 0) (minor status : ℕ) (fields : List (List ℕ × List ℕ)) (fault : HttpFault)
    → minor ≤ 1 → Wanted status → IsIdentity (values_of (codes "Content-Encoding") fields) → FramesBody minor fields (Err fault)
    → HeadDecides Wanted minor status fields (λ _. ⊥) (faulty fault)
framing_decides Wanted minor status fields fault version found kept (inl encoded) =
    inr (version, inr (found, inl ((λ plain. encoded.1 plain.sent), ap Err encoded.0)))
framing_decides Wanted minor status fields fault version found kept (inr bad) =
    inr (version, inr (found, inr (record { sent = bad.1; kept = kept }, inl (bad.2, ap Err bad.0))))
