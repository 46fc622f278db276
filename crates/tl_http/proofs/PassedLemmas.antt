-- Interim heads that were passed.
use Rattle.std.proofs.Common.{◌≡◌, ◌+◌, ◌-◌, ◌<◌, ◌≤◌, ℕ, List, [], ◌∷◌, ◌++◌, append-nil, append_assoc, ap, arith, drop, length, length-append, length-drop, length-take, min, refl, slice_range, subst, sym, take, ◌∙◌}
use Rattle.std.proofs.lemmas.List.{drop-append-le, drop-drop, length-map, length-take-le}
use Rattle.std.proofs.lemmas.List.Concat.{flat_map-append}
use Rattle.std.proofs.lemmas.List.Elements.{All-nil, All-push}
use Rattle.std.proofs.lemmas.Slice.{between_is}
use Rattle.std.specs.List.{flat_map}
use borrow.Rule.Slice.PartMut.{put_mid}
use Rattle.httparse.specs.declared.spans.HeaderSpan.{HeaderSpan}
use Rattle.httparse.specs.declared.spans.ResponseSpans.{ResponseSpans}
use Rattle.httparse.specs.Grammar.{ResponseHead, print_response}
use Rattle.httparse.specs.Spans.{IsResponseAt, IsResponseOf, IsResponseWithin, header_bytes, name_and_value}
use Rattle.tl_device.proofs.ReadLemmas.{take_read}
use Rattle.tl_http.specs.Response.{IsInterim, IsInterimStatus}
use Rattle.tl_http.specs.Inner.Heads.{Passed}

-- a head that was found has no more fields than there was room for
pub few_fields : (part : List ℕ) (headers : List HeaderSpan) (spans : ResponseSpans) (head : ResponseHead) → IsResponseAt part headers spans head → length headers ≡ 64
    → length head.fields ≤ 64
few_fields part headers spans head at room =
    let fields : length (take spans.headers headers) ≡ length head.fields =
    sym (length-map (take spans.headers headers) (header_bytes part)) ∙ (ap (λ (l : List (List ℕ × List ℕ)). length l) at.fields ∙ length-map head.fields name_and_value) in
    let taken : length (take spans.headers headers) ≡ min spans.headers (length headers) = length-take spans.headers headers in
    omega (arith, fields, taken, room)

-- a head has some bytes
some_bytes : (head : ResponseHead) → 0 < length (print_response head)
unfolding print_response
some_bytes head = grind (arith, length-append)

-- none was passed
pub passed_none : (buf : List ℕ) → Passed buf 0 0
passed_none buf = record { heads = []; interim = All-nil IsInterim; joined = refl }

-- the part between two places
part_length : (buf : List ℕ) (start len : ℕ) → len ≤ length buf → length (slice_range buf start len) ≡ len - start
part_length buf start len within =
    let long = length-take-le len buf within in
    let same = ap (λ (l : List ℕ). length l) (between_is buf start len) in
    omega (arith, same, length-drop start (take len buf), long)

-- a head in the part ends in it, and has some bytes
pub head_within : (buf : List ℕ) (headers : List HeaderSpan) (start len : ℕ) (spans : ResponseSpans) → start ≤ len → len ≤ length buf
    → IsResponseWithin (slice_range buf start len) headers spans → IsResponseOf (slice_range buf start len) headers spans
    → (start + spans.len ≤ len) × (0 < spans.len)
head_within buf headers start len spans ordered within fits of =
    let long = part_length buf start len within in
    let inside = fits.section.len_fits in
    let print = of.1.len in
    (omega (arith, long, inside, ordered), omega (arith, print, some_bytes of.0))

-- one more was passed
pub passed_more : (buf : List ℕ) (headers : List HeaderSpan) (start len : ℕ) (spans : ResponseSpans) → Passed buf start len → length headers ≡ 64
    → IsResponseOf (slice_range buf start len) headers spans → IsInterimStatus spans.code → Passed buf (start + spans.len) len
passed_more buf headers start len spans passed room of status =
    let head : ResponseHead = of.0 in
    let at = of.1 in
    let part : List ℕ = slice_range buf start len in
    let past : List ℕ = flat_map print_response passed.heads in
    let is : IsInterim head = record {
      valid = at.reads.0;
      status = subst (λ (s : ℕ). IsInterimStatus s) at.code status;
      few = few_fields part headers spans head at room;
    } in
    let rest : drop spans.len part ≡ slice_range buf (start + spans.len) len =
    ap (λ (l : List ℕ). drop spans.len l) (between_is buf start len)
    ∙ (drop-drop spans.len start (take len buf) ∙ sym (between_is buf (start + spans.len) len)) in
    let texts : past ++ print_response head ≡ flat_map print_response (passed.heads ++ head ∷ []) =
    ap (λ (l : List ℕ). past ++ l) (sym (append-nil (print_response head))) ∙ sym (flat_map-append print_response passed.heads (head ∷ [])) in
    record {
      heads = passed.heads ++ head ∷ [];
      interim = All-push IsInterim passed.heads head passed.interim is;
      joined = passed.joined
          ∙ (ap (λ (l : List ℕ). past ++ l) (at.reads.1 ∙ ap (λ (l : List ℕ). print_response head ++ l) rest)
          ∙ (sym (append_assoc past (print_response head) (slice_range buf (start + spans.len) len))
          ∙ ap (λ (l : List ℕ). l ++ slice_range buf (start + spans.len) len) texts));
    }

-- more was read behind the part
part_grown : (buf ys : List ℕ) (start len k n : ℕ) → start ≤ len → len ≤ length buf → n ≤ length ys
    → slice_range (put_mid len k buf ys) start (len + n) ≡ slice_range buf start len ++ take n ys
part_grown buf ys start len k n ordered within fits =
    let long = length-take-le len buf within in
    between_is (put_mid len k buf ys) start (len + n)
    ∙ (ap (λ (l : List ℕ). drop start l) (take_read len k n buf ys within fits)
    ∙ (drop-append-le start (take len buf) (take n ys) (omega (arith, long, ordered))
    ∙ ap (λ (l : List ℕ). l ++ take n ys) (sym (between_is buf start len))))

-- the buffer keeps its length
pub put_length : (buf ys : List ℕ) (len : ℕ) → len ≤ length buf → length ys ≡ length (take (length buf - len) (drop len buf)) → length (put_mid len (length buf - len) buf ys) ≡ length buf
put_length buf ys len within same =
    let rest : List ℕ = drop (length buf - len) (drop len buf) in
    omega (
      arith,
      same,
      length-append (take len buf) (ys ++ rest),
      length-append ys rest,
      length-take-le len buf within,
      length-take (length buf - len) (drop len buf),
      length-drop (length buf - len) (drop len buf),
      length-drop len buf,
    )

-- the interim heads that were passed stay the same as more is read
pub passed_grown : (buf ys : List ℕ) (start len k n : ℕ) → start ≤ len → len ≤ length buf → n ≤ length ys → Passed buf start len
    → Passed (put_mid len k buf ys) start (len + n)
passed_grown buf ys start len k n ordered within fits passed =
    let past : List ℕ = flat_map print_response passed.heads in
    record {
      heads = passed.heads;
      interim = passed.interim;
      joined = take_read len k n buf ys within fits
          ∙ (ap (λ (l : List ℕ). l ++ take n ys) passed.joined
          ∙ (append_assoc past (slice_range buf start len) (take n ys)
          ∙ ap (λ (l : List ℕ). past ++ l) (sym (part_grown buf ys start len k n ordered within fits))));
    }
