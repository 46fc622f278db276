-- Parts cut from a text.
use Rattle.std.proofs.Common.{◌≡◌, ◌≢◌, ℕ, ◌+◌, ◌<◌, ◌≤◌, List, [], ◌∷◌, ◌++◌, length, sym, ap, subst, ◌∙◌, append_assoc, arith, Some, None, Bor, Err, take}
use Rattle.std.specs.Prelude.{codes, IsUtf8, slice_set}
use Rattle.std.proofs.lemmas.List.{append_cancel_left, length-append, length-set, length-take-le, take_more_set}
use Rattle.std.proofs.lemmas.List.Elements.{All-from_get_or}
use Rattle.std.proofs.lemmas.Str.Pattern.{IsSplitOnceResult, split_parts}
use Rattle.tl_hash.specs.Bytes.{IsHash}
use Rattle.tl_text.specs.Base64.{IsBase64}
use Rattle.tl_text.specs.Pieces.{IsNoLine, IsNoSize}
use Rattle.tl_text.specs.Text.{line, number_text, base64_text, HasNoControl}
use Rattle.tl_text.proofs.Lines.{one_line}
use Rattle.tl_text.proofs.PlainText.{base64_plain}
use Rattle.tl_offline.specs.declared.proof.ProofFault.{ProofFault}
use Rattle.tl_offline.specs.declared.proof.ProofFault.TheVariants.{NoHeader, BadExtra, NoIndex, NoHash, TooMany, NoCheckpoint, OutOfMemory}
use Rattle.tl_offline.specs.ProofText.{extra_line}
use Rattle.tl_offline.specs.ParseProof.{HasNoData, HasNoIndexLine, HasNoNewline}
use Rattle.tl_offline.specs.Inner.Cutting.{CutsHash, CutsHashes, HasRead}
use Rattle.tl_offline.proofs.TextLemmas.{index_plain, index_words}
use Rattle.tl_offline.proofs.HashLemmas.{reads_more, reads_none}

-- ---- the line of an index

pub no_first_line : (text : List ℕ) → IsNoLine text → HasNoIndexLine text
no_first_line text none = λ n rest small e. none (index_words n) rest (index_plain n small) e

pub no_index : (text words rest : List ℕ) → HasNoControl words → text ≡ line words ++ rest → ((digits : List ℕ) → words ≢ codes "index " ++ digits) → HasNoIndexLine text
no_index text words rest plain cut none = λ n after small e.
    none (number_text n) (one_line words (index_words n) rest after plain (index_plain n small) (sym cut ∙ e)).0

pub no_number : (text words rest digits : List ℕ) → HasNoControl words → text ≡ line words ++ rest → words ≡ codes "index " ++ digits → IsNoSize digits → HasNoIndexLine text
no_number text words rest digits plain cut begins none = λ n after small e.
    let same = (one_line words (index_words n) rest after plain (index_plain n small) (sym cut ∙ e)).0 in
    none n small (append_cancel_left (codes "index ") digits (number_text n) (sym begins ∙ same))

-- ---- the line of extra data

-- what follows `extra ` in a line of extra data
behind_extra : (text rest extra after : List ℕ) → text ≡ codes "extra " ++ rest → text ≡ extra_line (Some extra) ++ after → rest ≡ line (base64_text extra) ++ after
behind_extra text rest extra after begins e = append_cancel_left (codes "extra ") rest (line (base64_text extra) ++ after) (sym begins ∙ e)

pub no_extra_line : (text rest : List ℕ) → text ≡ codes "extra " ++ rest → IsNoLine rest → HasNoData text
no_extra_line text rest begins none = record {
  rest = rest;
  begins = begins;
  bad = λ extra after fits e. none (base64_text extra) after (base64_plain extra fits) (behind_extra text rest extra after begins e);
}

pub no_base64 : (text line_text words rest : List ℕ) → text ≡ codes "extra " ++ line_text → HasNoControl words → line_text ≡ line words ++ rest → (IsBase64 words → ⊥) → HasNoData text
no_base64 text line_text words rest begins plain cut none = record {
  rest = line_text;
  begins = begins;
  bad = λ extra after fits e.
      let same = one_line words (base64_text extra) rest after plain (base64_plain extra fits) (sym cut ∙ behind_extra text line_text extra after begins e) in
      none (extra, record { fit = fits; spelled = same.0 });
}

pub extra_begins : (text line_text words rest extra : List ℕ) → text ≡ codes "extra " ++ line_text → line_text ≡ line words ++ rest → words ≡ base64_text extra → text ≡ extra_line (Some extra) ++ rest
extra_begins text line_text words rest extra begins cut spelled =
    begins ∙ ap (λ (t : List ℕ). codes "extra " ++ t) (cut ∙ ap (λ (w : List ℕ). line w ++ rest) spelled)

-- ---- a line, by the first newline

pub has_no_newline : (text : List ℕ) → IsSplitOnceResult 10 text None → HasNoNewline text
has_no_newline text none = All-from_get_or (λ (b : ℕ). b ≢ 10) text 0 (split_parts 10 text None none (omega arith))

pub first_line : (text : List ℕ) (words rest : Bor (List ℕ)) → IsSplitOnceResult 10 text (Some (words, rest)) → (text ≡ line words.now ++ rest.now) × HasNoNewline words.now
first_line text words rest split =
    let parts = split_parts 10 text (Some (words, rest)) split (omega arith) in
    (parts.0 ∙ sym (append_assoc words.now (10 ∷ []) rest.now), All-from_get_or (λ (b : ℕ). b ≢ 10) words.now 0 parts.1)

-- ---- where reading hashes stops

pub stops : (text left : List ℕ) (done : List (List ℕ)) (first n : ℕ) (fault : ProofFault) → length done ≤ 63 → n ≡ first + length done → HasRead text done left → ((rest : List ℕ) → left ≢ 10 ∷ rest)
    → CutsHash left n (Err fault) → CutsHashes text first (Err fault)
stops text left done first n NoHeader few place read other cut = cut
stops text left done first n BadExtra few place read other cut = cut
stops text left done first n (NoIndex m) few place read other cut = cut
stops text left done first n (NoHash m) few place read other cut =
    (left, record { hashes = done; few = few; read = read; place = cut.0 ∙ place }, cut.1, other)
stops text left done first n (TooMany m) few place read other cut = absurd cut
stops text left done first n (NoCheckpoint m) few place read other cut =
    (left, record { hashes = done; few = few; read = read; place = cut.0 ∙ place }, cut.1)
stops text left done first n OutOfMemory few place read other cut = cut

pub too_many : (text left rest hash : List ℕ) (done : List (List ℕ)) (first n : ℕ) → length done ≡ 63 → n ≡ first + 63 → HasRead text done left → IsHash hash → left ≡ line (base64_text hash) ++ rest
    → (rest' : List ℕ) × (hashes : List (List ℕ)) × HasRead text hashes rest' × (length hashes ≡ 64) × (n + 1 ≡ first + 64)
too_many text left rest hash done first n full place read is e =
    (rest, done ++ hash ∷ [], reads_more text left rest hash done read is e, omega (arith, full, length-append done (hash ∷ [])), omega (arith, place))

-- ---- the hashes so far, at the front of those found

pub record HasFound (text : List ℕ) (found : List (List ℕ)) (count : ℕ) (left : List ℕ) : Type 0 where
  pub few : count ≤ 63
  pub room : length found ≡ 63
  pub utf8 : IsUtf8 left
  pub read : HasRead text (take count found) left

pub found_few : (text left : List ℕ) (found : List (List ℕ)) (count : ℕ) → HasFound text found count left → length (take count found) ≡ count
found_few text left found count has = let few = has.few in length-take-le count found (omega (arith, few, has.room))

pub found_none : (text : List ℕ) (found : List (List ℕ)) → length found ≡ 63 → IsUtf8 text → HasFound text found 0 text
found_none text found room utf8 = record { few = omega arith; room = room; utf8 = utf8; read = reads_none text }

pub found_more : (text left rest hash : List ℕ) (found : List (List ℕ)) (count : ℕ) → HasFound text found count left → count ≢ 63 → IsHash hash
    → left ≡ line (base64_text hash) ++ rest → IsUtf8 rest → HasFound text (slice_set found count hash) (count + 1) rest
found_more text left rest hash found count has other is e utf8 =
    let few : count < 63 = omega (arith, has.few, other) in
    record {
      few = omega arith;
      room = length-set found count hash ∙ has.room;
      utf8 = utf8;
      read = subst (λ (hs : List (List ℕ)). HasRead text hs rest) (sym (take_more_set found count hash (omega (arith, few, has.room)))) (reads_more text left rest hash (take count found) has.read is e);
    }
