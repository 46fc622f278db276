use Rattle.std.proofs.Common.{◌≡◌, ℕ, List, length, take, sym, ap, subst, ◌∙◌, arith, Ok}
use Rattle.base64.specs.GeneralPurpose.{IsBytes}
use Rattle.tl_text.specs.Text.{base64_text}
use Rattle.tl_text.specs.Base64.{IsSpelled, IsRead}
use Rattle.tl_text.proofs.Base64Lemmas.{array_spelled, slice_reads, length-text, spelled_once}
use Rattle.tl_text.proofs.pieces.parse_hash.Goals as goal

pub returns-in_default : goal.returns-in_default
returns-in_default c = λ hash is e.
    let text = c.as_bytes.result.now in
    let same : text ≡ c.args.text.now = c.as_bytes.ensures.value in
    let spelled : IsSpelled text hash = record { fit = is.bytes; spelled = same ∙ e } in
    let read : c.decode_slice.result ≡ Ok (length hash) = c.decode_slice.ensures.value ∙ slice_reads text hash 33 spelled (omega (arith, is.length, length-text hash, ap (λ (t : List ℕ). length t) (same ∙ e))) in
    let bad = sym c.in_default.is ∙ read in
    cc

pub returns-in_default-try_from : goal.returns-in_default-try_from
returns-in_default-try_from c = λ hash is e.
    let text = c.as_bytes.result.now in
    let same : text ≡ c.args.text.now = c.as_bytes.ensures.value in
    let bytes : IsBytes text = subst IsBytes (sym same) (λ i. let fits = c.type_inv.text i in omega arith) in
    let read : IsRead text c.in-Ok.count c.decode_slice.new.output = array_spelled text _ c.decode_slice.new.output 33 c.in-Ok.count bytes c.in-Ok.ensures.bytes (sym c.decode_slice.ensures.value ∙ c.in-Ok.is) c.in-Ok.ensures.written in
    let spelled : IsSpelled text hash = record { fit = is.bytes; spelled = same ∙ e } in
    let one : take c.in-Ok.count c.decode_slice.new.output ≡ hash = spelled_once text (take c.in-Ok.count c.decode_slice.new.output) hash read.spelled spelled in
    c.in_default-try_from.ensures.1 (ap (λ (b : List ℕ). length b) one ∙ is.length)

pub returns : goal.returns
returns c =
    let text = c.as_bytes.result.now in
    let same : text ≡ c.args.text.now = c.as_bytes.ensures.value in
    let bytes : IsBytes text = subst IsBytes (sym same) (λ i. let fits = c.type_inv.text i in omega arith) in
    let read : IsRead text c.in-Ok.count c.decode_slice.new.output = array_spelled text _ c.decode_slice.new.output 33 c.in-Ok.count bytes c.in-Ok.ensures.bytes (sym c.decode_slice.ensures.value ∙ c.in-Ok.is) c.in-Ok.ensures.written in
    (c.from_bytes.ensures.hash, sym same ∙ read.spelled.spelled ∙ ap base64_text (sym c.in-Ok-try_from.ensures.1.same ∙ sym c.from_bytes.ensures.value))
