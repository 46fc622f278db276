-- Base64, read a block at a time into an array.
use Rattle.std.proofs.Common.{◌≡◌, ℕ, zero, suc, ◌+◌, ◌*◌, ◌/◌, ◌<◌, ◌≤◌, Bool, true, false, cond, List, [], ◌∷◌, ◌++◌, length, take, drop, refl, sym, ap, subst, ◌∙◌, arith, inl, inr, Option, Some, None, Result, Ok, Err}
use Rattle.std.specs.Prelude.{◌≢◌, ◌↔◌, nat_lt, replicate, MatchOption, IsTrue, is_some}
use Rattle.std.proofs.lemmas.Bool.{cases_lt, le-ltb}
use Rattle.std.proofs.lemmas.List.{length-append, length-replicate, length-take-le, take_all, take_at, take-append-drop, get_or-drop}
use Rattle.std.proofs.Math.Seq.{drop-append_seam}
use Rattle.base64.specs.declared.decode.DecodeError.{DecodeError}
use Rattle.base64.specs.declared.decode.DecodeSliceError.{DecodeSliceError}
use Rattle.base64.specs.declared.decode.DecodeSliceError.TheVariants.{OutputSliceTooSmall}
use Rattle.base64.specs.Decode.{or_else, or_error, bytes_fit, decode_outcome, groups_before_last}
use Rattle.base64.specs.GeneralPurpose.{IsBytes, decode_of, decode_slice_of, decoded_bytes_of}
use Rattle.base64.specs.Engines.{standard}
use Rattle.base64.specs.Rfc4648.{encode_symbols, padding_len, unpadded_len}
use Rattle.base64.proofs.EngineFacts.{decode_of-encode_of, decode_of_strict, encode_of-append, front_bytes}
use Rattle.base64.proofs.RoundTrip.{length-encode_symbols}
use Rattle.tl_text.specs.declared.blocks.Block.{Block}
use Rattle.tl_text.specs.Text.{base64_text}
use Rattle.tl_text.specs.Base64.{IsSpelled, IsRead, IsBase64, IsNoBase64}
use Rattle.tl_text.proofs.PlainText.{base64_once}

-- how many characters bytes take
pub length-text : (b : List ℕ) → length (base64_text b) ≡ unpadded_len (length b) + padding_len (length b)
length-text b = omega (arith, length-append (encode_symbols standard.encode_table b) (replicate (padding_len (length b)) 61), length-encode_symbols standard.encode_table b, length-replicate {A = ℕ} (padding_len (length b)) 61)

-- ---- what decoding into a slice answers, by its tests

fitting : (n room m : ℕ) → bytes_fit n room ≡ Ok m → m ≡ n
fitting n room m e =
    let P : Bool → Type 0 = λ b. cond {A = Result ℕ DecodeSliceError} b (Err OutputSliceTooSmall) (Ok n) ≡ Ok m → m ≡ n in
    elim (nat_lt room n) as P [ true ↦ λ h. (cc) | false ↦ λ h. (cc) ] e

slice_ok : (lone rest : Option DecodeError) (few : Bool) (bytes : List ℕ) (room n : ℕ) → or_error lone (cond few (Err OutputSliceTooSmall) (or_error rest (bytes_fit (length bytes) room))) ≡ Ok n → (decode_outcome (or_else lone rest) bytes ≡ Ok bytes) × (n ≡ length bytes)
slice_ok (Some e) rest few bytes room n h = cc
slice_ok None rest true bytes room n h = cc
slice_ok None (Some e) false bytes room n h = cc
slice_ok None None false bytes room n h = (refl, fitting (length bytes) room n h)

slice_reads_bytes : (lone rest : Option DecodeError) (few : Bool) (bytes b : List ℕ) (room : ℕ) → decode_outcome (or_else lone rest) bytes ≡ Ok b → few ≡ false → nat_lt room (length b) ≡ false → or_error lone (cond few (Err OutputSliceTooSmall) (or_error rest (bytes_fit (length bytes) room))) ≡ Ok (length b)
slice_reads_bytes (Some e) rest few bytes b room ok enough fits = cc
slice_reads_bytes None (Some e) few bytes b room ok enough fits = cc
slice_reads_bytes None None few bytes b room ok enough fits =
    let same : bytes ≡ b = cc in
    ap (λ (t : Bool). cond {A = Result ℕ DecodeSliceError} t (Err OutputSliceTooSmall) (bytes_fit (length bytes) room)) enough ∙ ap (λ (l : List ℕ). bytes_fit (length l) room) same ∙ ap (λ (t : Bool). cond {A = Result ℕ DecodeSliceError} t (Err OutputSliceTooSmall) (Ok (length b))) fits

-- if a text decodes into a slice, it is base64 of what was decoded
pub slice_spelled : (s : List ℕ) (room n : ℕ) → IsBytes s → IsBytes (decoded_bytes_of standard s) → decode_slice_of standard s room ≡ Ok n → IsSpelled s (decoded_bytes_of standard s) × (n ≡ length (decoded_bytes_of standard s))
slice_spelled s room n bytes fit ok =
    let parts = slice_ok _ _ (nat_lt (room / 3) (groups_before_last (length s))) (decoded_bytes_of standard s) room n ok in
    (record { fit = fit; spelled = decode_of_strict standard s (decoded_bytes_of standard s) (refl, refl) bytes parts.0 }, parts.1)

-- base64 of bytes that fit decodes
pub slice_reads : (s b : List ℕ) (room : ℕ) → IsSpelled s b → length s ≤ room / 3 * 4 → decode_slice_of standard s room ≡ Ok (length b)
slice_reads s b room is enough =
    let ok : decode_of standard s ≡ Ok b = subst (λ (t : List ℕ). decode_of standard t ≡ Ok b) (sym is.spelled) (decode_of-encode_of standard b refl is.fit) in
    let len : length s ≡ unpadded_len (length b) + padding_len (length b) = ap (λ (t : List ℕ). length t) is.spelled ∙ length-text b in
    slice_reads_bytes _ _ (nat_lt (room / 3) (groups_before_last (length s))) (decoded_bytes_of standard s) b room ok (le-ltb _ _ (omega arith)) (le-ltb _ _ (omega arith))

-- what an array holds after decoding
pub array_spelled : (s old new : List ℕ) (room n : ℕ) → IsBytes s → IsBytes (decoded_bytes_of standard s) → decode_slice_of standard s room ≡ Ok n → new ≡ decoded_bytes_of standard s ++ drop (length (decoded_bytes_of standard s)) old → IsRead s n new
array_spelled s old new room n bytes fit ok written =
    let read = slice_spelled s room n bytes fit ok in
    let kept : take n new ≡ decoded_bytes_of standard s = ap (take n) written ∙ take_at (decoded_bytes_of standard s) (drop (length (decoded_bytes_of standard s)) old) n (sym read.1) in
    record { spelled = subst (IsSpelled s) (sym kept) read.0; counted = ap (λ (l : List ℕ). length l) kept ∙ sym read.1 }

-- ---- a block of eight characters, and what follows it

bytes_rest : (n : ℕ) (b : List ℕ) → IsBytes b → IsBytes (drop n b)
bytes_rest n b fit i = subst (λ (x : ℕ). x < 256) (sym (get_or-drop n b i 0)) (fit (n + i))

bytes_front : (n : ℕ) (b : List ℕ) → IsBytes b → IsBytes (take n b)
bytes_front n b fit = front_bytes (take n b) (drop n b) (subst IsBytes (sym (take-append-drop n b)) fit)

bytes_joined : (a b : List ℕ) → IsBytes a → IsBytes b → IsBytes (a ++ b)
bytes_joined [] b fit_a fit_b i = fit_b i
bytes_joined (x ∷ a) b fit_a fit_b zero = fit_a 0
bytes_joined (x ∷ a) b fit_a fit_b (suc i) = bytes_joined a b (λ k. fit_a (suc k)) fit_b i

-- two texts that are base64, the first of whole groups, are base64
pub joined : (s t a b : List ℕ) → IsSpelled s a → IsSpelled t b → length a ≡ 6 → IsSpelled (s ++ t) (a ++ b)
joined s t a b is_s is_t six = record {
  fit = bytes_joined a b is_s.fit is_t.fit;
  spelled = ap (λ (x : List ℕ). x ++ t) is_s.spelled ∙ ap (λ (y : List ℕ). base64_text a ++ y) is_t.spelled ∙ sym (encode_of-append standard a b (omega arith));
}

-- more than eight characters are more than six bytes
long_text : (s b : List ℕ) → IsSpelled s b → 8 < length s → 6 < length b
long_text s b is long = omega (arith, ap (λ (t : List ℕ). length t) is.spelled, length-text b)

short_text : (s b : List ℕ) → IsSpelled s b → length s ≤ 8 → length b ≤ 6
short_text s b is short = omega (arith, ap (λ (t : List ℕ). length t) is.spelled, length-text b)

halves : (s b : List ℕ) → IsSpelled s b → 6 < length b → (s ≡ base64_text (take 6 b) ++ base64_text (drop 6 b)) × (length (base64_text (take 6 b)) ≡ 8)
halves s b is long =
    let six : length (take 6 b) ≡ 6 = length-take-le 6 b (omega arith) in
    (is.spelled ∙ ap base64_text (sym (take-append-drop 6 b)) ∙ encode_of-append standard (take 6 b) (drop 6 b) (omega (arith, six)), omega (arith, six, length-text (take 6 b)))

pub block_front : (s b : List ℕ) → IsSpelled s b → IsSpelled (take 8 s) (take 6 b)
block_front s b is = elim (cases_lt 8 (length s)) [
  | inl long ↦
      let parts = halves s b is (long_text s b is long) in
      record { fit = bytes_front 6 b is.fit; spelled = ap (take 8) parts.0 ∙ take_at (base64_text (take 6 b)) (base64_text (drop 6 b)) 8 parts.1 }
  | inr short ↦
      let few : length b ≤ 6 = short_text s b is short in
      record { fit = bytes_front 6 b is.fit; spelled = take_all 8 s short ∙ is.spelled ∙ ap base64_text (sym (take_all 6 b few)) }
]

pub block_rest : (s b : List ℕ) → IsSpelled s b → 8 < length s → IsSpelled (drop 8 s) (drop 6 b)
block_rest s b is long =
    let parts = halves s b is (long_text s b is long) in
    record {
      fit = bytes_rest 6 b is.fit;
      spelled = ap (drop 8) parts.0 ∙ ap (λ (n : ℕ). drop n (base64_text (take 6 b) ++ base64_text (drop 6 b))) (sym parts.1) ∙ drop-append_seam (base64_text (take 6 b)) (base64_text (drop 6 b));
    }

-- a text is base64 of one list of bytes
pub spelled_once : (s a b : List ℕ) → IsSpelled s a → IsSpelled s b → a ≡ b
spelled_once s a b is_a is_b = base64_once a b is_a.fit is_b.fit (sym is_a.spelled ∙ is_b.spelled)

-- reading on: the whole is base64 exactly if what is left is
pub record ReadsOn (text left : List ℕ) : Type 0 where
  pub whole : (b : List ℕ) → IsSpelled left b → IsBase64 text
  pub part : (b : List ℕ) → IsSpelled text b → IsBase64 left

pub reads_all : (text : List ℕ) → ReadsOn text text
reads_all text = record { whole = λ b is. (b, is); part = λ b is. (b, is) }

pub reads_block : (text left : List ℕ) (bytes : List ℕ) → ReadsOn text left → 8 < length left → IsSpelled (take 8 left) bytes → length bytes ≡ 6 → ReadsOn text (drop 8 left)
reads_block text left bytes on long is six = record {
  whole = λ b rest. on.whole (bytes ++ b) (subst (λ (s : List ℕ). IsSpelled s (bytes ++ b)) (take-append-drop 8 left) (joined (take 8 left) (drop 8 left) bytes b is rest six));
  part = λ b all. let here = on.part b all in (drop 6 here.0, block_rest left here.0 here.1 long);
}

-- a block that isn't the last has six bytes
pub whole_block : (left b : List ℕ) → IsSpelled left b → 8 < length left → length (take 6 b) ≡ 6
whole_block left b is long = let more : 6 < length b = long_text left b is long in length-take-le 6 b (omega arith)

-- a block that is no base64, or that isn't whole and isn't the last
pub no_block : (text left block : List ℕ) → ReadsOn text left → block ≡ take 8 left → IsNoBase64 block → IsBase64 text → ⊥
no_block text left block on is none all =
    let here = on.part all.0 all.1 in
    none (take 6 here.0) (subst (λ (s : List ℕ). IsSpelled s (take 6 here.0)) (sym is) (block_front left here.0 here.1))

pub short_block : (text left block bytes : List ℕ) → ReadsOn text left → 8 < length left → block ≡ take 8 left → IsSpelled block bytes → length bytes ≢ 6 → IsBase64 text → ⊥
short_block text left block bytes on long is read short all =
    let here = on.part all.0 all.1 in
    let front : IsSpelled block (take 6 here.0) = subst (λ (s : List ℕ). IsSpelled s (take 6 here.0)) (sym is) (block_front left here.0 here.1) in
    short (ap (λ (b : List ℕ). length b) (spelled_once block bytes (take 6 here.0) read front) ∙ whole_block left here.0 here.1 long)

-- the test fails if the fact doesn't hold
pub is_refused : {P : Type 0} → (P → ⊥) → IsTrue false ↔ P
is_refused none = (λ t. absurd (let e : false ≡ true = t in cc), λ p. absurd (none p))

-- the last block decides
pub last_block : (text left : List ℕ) (r : Option Block) → ReadsOn text left → MatchOption r (IsNoBase64 left) (λ block. IsRead left block.count block.bytes) → IsTrue (is_some r) ↔ IsBase64 text
last_block text left None on none = is_refused (λ all. let here = on.part all.0 all.1 in none here.0 here.1)
last_block text left (Some block) on is = (λ t. on.whole (take block.count block.bytes) is.spelled, λ all. refl)
