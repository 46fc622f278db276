-- A proof, by the parts of its text.
use Rattle.std.proofs.Common.{◌≡◌, ℕ, ◌+◌, ◌≤◌, List, ◌∷◌, ◌++◌, length, take, refl, sym, ap, subst, ◌∙◌, append_assoc, arith, Option, Some, None, Result, Ok, Err, Bor}
use Rattle.std.specs.Prelude.{IfNone, IfSome, IsErrAnd, IsSome}
use Rattle.std.proofs.lemmas.List.{length-take}
use Rattle.base64.specs.GeneralPurpose.{IsBytes}
use Rattle.tl_text.specs.Text.{line}
use Rattle.tl_text.proofs.Base64Lemmas.{spelled_once}
use Rattle.tl_offline.specs.declared.parsing.Extra.{Extra}
use Rattle.tl_offline.specs.declared.parsing.Front.{Front}
use Rattle.tl_offline.specs.declared.parsing.Hashes.{Hashes}
use Rattle.tl_offline.specs.declared.proof.OfflineProof.{OfflineProof}
use Rattle.tl_offline.specs.declared.proof.ProofFault.{ProofFault}
use Rattle.tl_offline.specs.declared.proof.ProofFault.TheVariants.{NoHeader, BadExtra, NoIndex, NoHash, TooMany, NoCheckpoint, OutOfMemory}
use Rattle.tl_offline.specs.ProofText.{TlogProof, version_line, extra_line, index_line, hash_lines}
use Rattle.tl_offline.specs.ParseProof.{HasBadIndex, HasHashes, HasNoExtra, HasNoIndexLine, IsProofText, ParsesProof, TakesMemory}
use Rattle.tl_offline.specs.Inner.Cutting.{CutsHashes, HasCutExtra, HasCutFront, HasCutHashes, HasRead, Spells}
use Rattle.tl_offline.proofs.TextLemmas.{three}

-- ---- extra data that are spelled

spelled_lawful : (x : Option (Bor (List ℕ))) (b : Option (List ℕ)) → Spells x b → IfSome b IsBytes
spelled_lawful None None is = tt
spelled_lawful None (Some b) is = absurd is
spelled_lawful (Some x) None is = absurd is
spelled_lawful (Some x) (Some b) is = is.fit

spelled_same : (x : Option (Bor (List ℕ))) (b c : Option (List ℕ)) → Spells x b → Spells x c → b ≡ c
spelled_same None None None one other = refl
spelled_same None None (Some c) one other = absurd other
spelled_same None (Some b) c one other = absurd one
spelled_same (Some x) None c one other = absurd one
spelled_same (Some x) (Some b) None one other = absurd other
spelled_same (Some x) (Some b) (Some c) one other = ap Some (spelled_once x.now b c one other)

pub spelled_some : (x : Option (Bor (List ℕ))) (words : Bor (List ℕ)) (b : Option (List ℕ)) → x ≡ Some words → Spells x b → IsSome b
spelled_some x words b e is = some_of b (subst (λ (y : Option (Bor (List ℕ))). Spells y b) e is) where
  some_of : (b : Option (List ℕ)) → Spells (Some words) b → IsSome b
  some_of None is = absurd is
  some_of (Some b) is = refl

-- ---- the lines before the hashes

whole_of : (b : Option (List ℕ)) (text rest : List ℕ) → text ≡ extra_line b ++ rest → IfNone b (HasNoExtra text) → IfNone b (HasNoExtra rest)
whole_of None text rest e whole = subst HasNoExtra e whole
whole_of (Some b) text rest e whole = tt

pub bad_index : (text after : List ℕ) (extra : Extra) → text ≡ version_line ++ after → HasCutExtra after extra → HasNoIndexLine extra.rest.now → HasBadIndex text (2 + extra.lines)
bad_index text after extra begins cut bad = record {
  extra = cut.bytes;
  rest = extra.rest.now;
  begins = begins ∙ ap (λ (t : List ℕ). version_line ++ t) cut.begins ∙ sym (three version_line (extra_line cut.bytes) extra.rest.now);
  lawful = spelled_lawful extra.words cut.bytes cut.spelled;
  whole = whole_of cut.bytes after extra.rest.now cut.begins cut.whole;
  place = cut.place;
  bad = bad;
}

-- ---- the hashes

-- the text, by the lines before the hashes, the hashes and what follows
begins_so : (text : List ℕ) (front : Front) (hashes : List (List ℕ)) (left : List ℕ) → (cut : HasCutFront text front) → HasRead front.rest.now hashes left
    → text ≡ version_line ++ extra_line cut.bytes ++ index_line front.index ++ hash_lines hashes ++ left
begins_so text front hashes left cut read =
    cut.begins ∙ ap (λ (t : List ℕ). version_line ++ extra_line cut.bytes ++ index_line front.index ++ t) read.whole
    ∙ sym (append_assoc (version_line ++ extra_line cut.bytes ++ index_line front.index) (hash_lines hashes) left)

has_hashes : (text : List ℕ) (front : Front) (hashes : List (List ℕ)) (n : ℕ) (left : List ℕ) → HasCutFront text front → HasRead front.rest.now hashes left → n ≡ front.next + length hashes → HasHashes text hashes n left
has_hashes text front hashes n left cut read place = record {
  extra = cut.bytes;
  index = front.index;
  lawful = spelled_lawful front.extra cut.bytes cut.spelled;
  small = cut.small;
  each = read.each;
  begins = begins_so text front hashes left cut read;
  place = place ∙ ap (λ (k : ℕ). k + length hashes) cut.place;
}

-- a fault of the hashes, as one of the text
pub hashes_fault : (A : Type 0) (text : List ℕ) (front : Front) (fault : ProofFault) → HasCutFront text front → CutsHashes front.rest.now front.next (Err fault) → ParsesProof {A = A} text (Err fault)
hashes_fault A text front NoHeader cut bad = absurd bad
hashes_fault A text front BadExtra cut bad = absurd bad
hashes_fault A text front (NoIndex n) cut bad = absurd bad
hashes_fault A text front (NoHash n) cut bad =
    let stopped = bad.1 in
    let line_is = bad.2 in
    record {
      hashes = stopped.hashes;
      words = line_is.0;
      rest = line_is.1;
      few = stopped.few;
      before = subst (λ (t : List ℕ). HasHashes text stopped.hashes n t) line_is.2 (has_hashes text front stopped.hashes n bad.0 cut stopped.read stopped.place);
      whole = line_is.3;
      some = λ empty. bad.3 line_is.1 (line_is.2 ∙ ap (λ (w : List ℕ). line w ++ line_is.1) empty);
      bad = line_is.4;
    }
hashes_fault A text front (TooMany n) cut bad =
    (bad.1, bad.0, bad.3, has_hashes text front bad.1 (n + 1) bad.0 cut bad.2 (bad.4 ∙ ap (λ (k : ℕ). front.next + k) (sym bad.3)))
hashes_fault A text front (NoCheckpoint n) cut bad =
    let stopped = bad.1 in
    record {
      hashes = stopped.hashes;
      rest = bad.0;
      few = stopped.few;
      before = has_hashes text front stopped.hashes n bad.0 cut stopped.read stopped.place;
      ended = bad.2;
    }
hashes_fault A text front OutOfMemory cut bad = absurd bad

-- ---- the proof

few_taken : (found : List (List ℕ)) (count : ℕ) → count ≤ 63 → length (take count found) ≤ 63
few_taken found count few = omega (arith, few, length-take count found)

abbrev pub made : Option (List ℕ) → ℕ → List (List ℕ) → List ℕ → TlogProof
made extra index hashes note = record { extra = extra; index = index; hashes = hashes; note = note }

-- the proof that the parts make
pub proof_of_parts : (text : List ℕ) (front : Front) (hashes : Hashes) (extra : Option (List ℕ)) (list : List (List ℕ)) → HasCutFront text front → HasCutHashes front.rest.now hashes → Spells front.extra extra
    → list ≡ take hashes.count hashes.found → IsProofText text (made extra front.index list hashes.note.now)
proof_of_parts text front hashes extra list cut ends spelled same =
    let few : length list ≤ 63 = subst (λ (hs : List (List ℕ)). length hs ≤ 63) (sym same) (few_taken hashes.found hashes.count ends.few) in
    let read : HasRead front.rest.now list (10 ∷ hashes.note.now) = subst (λ (hs : List (List ℕ)). HasRead front.rest.now hs (10 ∷ hashes.note.now)) (sym same) ends.read in
    let has = has_hashes text front list (front.next + length list) (10 ∷ hashes.note.now) cut read refl in (
      record { extra = spelled_lawful front.extra extra spelled; index = cut.small; few = few; hashes = read.each; utf8 = ends.utf8 },
      begins_so text front list (10 ∷ hashes.note.now) cut read ∙ ap (λ (b : Option (List ℕ)). version_line ++ extra_line b ++ index_line front.index ++ hash_lines list ++ 10 ∷ hashes.note.now) (spelled_same front.extra cut.bytes extra cut.spelled spelled),
    )

-- memory ran out, once the text is known to be a proof that takes some
pub parses_refused : (A : Type 0) (text : List ℕ) (p : TlogProof) (r : Result (OfflineProof A) ProofFault) → IsErrAnd r (λ e. e ≡ OutOfMemory) → IsProofText text p → TakesMemory p → ParsesProof text r
parses_refused A text p (Ok read) refused is takes = absurd refused
parses_refused A text p (Err fault) refused is takes = subst (λ (f : ProofFault). ParsesProof {A = A} text (Err f)) (sym refused) (p, is, takes)
