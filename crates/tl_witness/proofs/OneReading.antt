-- Bytes are saved links in one way at most.
use Rattle.std.proofs.Common.{◌≡◌, ◌≢◌, ℕ, List, [], ◌∷◌, ◌++◌, length, refl, sym, ap, ◌∙◌, append_assoc, append-nil, arith, All}
use Rattle.std.proofs.lemmas.List.{length-append}
use Rattle.std.proofs.lemmas.List.Concat.{flat_map-cons}
use Rattle.std.proofs.lemmas.List.Elements.{All-head, All-tail}
use Rattle.tl_text.specs.Text.{base64_text}
use Rattle.tl_text.proofs.PlainText.{base64_once}
use Rattle.tl_witness.specs.ChainLine.{ChainLine, IsChainLine, IsChainText, chain_line, chain_text}
use Rattle.tl_witness.specs.ChainFields.{chain_words}
use Rattle.tl_witness.specs.Inner.Laws.{SavedLinksAreOne}
use Rattle.tl_witness.proofs.FieldTexts.{one_end}
use Rattle.tl_witness.proofs.FieldLaws.{hash_without}
use Rattle.tl_witness.proofs.HashFields.{hashes_once}
use Rattle.tl_witness.proofs.LineText.{line_of_words, words_plain}
use Rattle.tl_witness.proofs.LineWords.{number_cut, count_size, after_size, after_root, after_count}

abbrev made : List ℕ → ℕ → List ℕ → List (List ℕ) → ChainLine
made origin size root proof = record { origin = origin; step = record { size = size; root = root; proof = proof } }

same_line : (o p : List ℕ) (m n : ℕ) (r s : List ℕ) (xs ys : List (List ℕ)) → o ≡ p → m ≡ n → r ≡ s → xs ≡ ys → made o m r xs ≡ made p n s ys
same_line o p m n r s xs ys a b c d =
    ap (λ (q : List ℕ). made q m r xs) a ∙ ap (λ (k : ℕ). made p k r xs) b ∙ ap (λ (h : List ℕ). made p n h xs) c ∙ ap (λ (zs : List (List ℕ)). made p n s zs) d

-- the words are those of one line only
words_once : (l m : ChainLine) → IsChainLine l → IsChainLine m → chain_words l ≡ chain_words m → l ≡ m
words_once l m is_l is_m e =
    let size = number_cut l.step.size m.step.size (after_size l) (after_size m) is_l.size is_m.size e in
    let root = one_end 32 (base64_text l.step.root) (base64_text m.step.root) (after_root l) (after_root m) (hash_without l.step.root is_l.root) (hash_without m.step.root is_m.root) size.1 in
    let count = number_cut (length l.step.proof) (length m.step.proof) (after_count l) (after_count m) (count_size l is_l) (count_size m is_m) root.1 in
    let proof = hashes_once l.step.proof m.step.proof l.origin m.origin is_l.hashes is_m.hashes count.0 count.1 in
    same_line l.origin m.origin l.step.size m.step.size l.step.root m.step.root l.step.proof m.step.proof proof.1 size.0
    (base64_once l.step.root m.step.root is_l.root.bytes is_m.root.bytes root.0) proof.0

-- a line in front is one
line_once : (l m : ChainLine) (x y : List ℕ) → IsChainLine l → IsChainLine m → chain_line l ++ x ≡ chain_line m ++ y → (l ≡ m) × (x ≡ y)
line_once l m x y is_l is_m e =
    let cut = one_end 10 (chain_words l) (chain_words m) x y (words_plain l is_l) (words_plain m is_m) (sym (line_of_words l x) ∙ e ∙ line_of_words m y) in
    (words_once l m is_l is_m cut.0, cut.1)

-- no line is in front
abbrev HasNoChainLine : List ℕ → Type 0
HasNoChainLine text = (l : ChainLine) (after : List ℕ) → IsChainLine l → text ≢ chain_line l ++ after

nothing_has_none : HasNoChainLine []
nothing_has_none l after is e =
    absurd (omega (arith, ap length (e ∙ line_of_words l after), length-append (chain_words l) (10 ∷ after)))

open_text : (l : ChainLine) (lines : List ChainLine) (x : List ℕ) → chain_text (l ∷ lines) ++ x ≡ chain_line l ++ (chain_text lines ++ x)
open_text l lines x = ap (λ (t : List ℕ). t ++ x) (flat_map-cons chain_line l lines) ∙ append_assoc (chain_line l) (chain_text lines) x

-- lines, and what follows them that begins with none, are one
lines_once : (xs ys : List ChainLine) (x y : List ℕ) → All IsChainLine xs → All IsChainLine ys → HasNoChainLine x → HasNoChainLine y
    → chain_text xs ++ x ≡ chain_text ys ++ y → (xs ≡ ys) × (x ≡ y)
lines_once [] [] x y each others none_x none_y e = (refl, e)
lines_once [] (m ∷ ys) x y each others none_x none_y e =
    absurd (none_x m (chain_text ys ++ y) (All-head IsChainLine m ys others) (e ∙ open_text m ys y))
lines_once (l ∷ xs) [] x y each others none_x none_y e =
    absurd (none_y l (chain_text xs ++ x) (All-head IsChainLine l xs each) (sym e ∙ open_text l xs x))
lines_once (l ∷ xs) (m ∷ ys) x y each others none_x none_y e =
    let cut = line_once l m (chain_text xs ++ x) (chain_text ys ++ y) (All-head IsChainLine l xs each) (All-head IsChainLine m ys others) (sym (open_text l xs x) ∙ e ∙ open_text m ys y) in
    let rest = lines_once xs ys x y (All-tail IsChainLine l xs each) (All-tail IsChainLine m ys others) none_x none_y cut.1 in
    (ap (λ (n : ChainLine). n ∷ xs) cut.0 ∙ ap (λ (ns : List ChainLine). m ∷ ns) rest.0, rest.1)

whole : (bytes : List ℕ) (xs : List ChainLine) → IsChainText bytes xs → bytes ≡ chain_text xs ++ []
whole bytes xs is = is.spelled ∙ sym (append-nil (chain_text xs))

pub saved_links_are_one : SavedLinksAreOne
saved_links_are_one = record {
  lines = λ bytes xs ys a b.
      (lines_once xs ys [] [] a.each b.each nothing_has_none nothing_has_none (sym (whole bytes xs a) ∙ whole bytes ys b)).0;
  place = λ bytes j k a b.
      let same = (lines_once a.before b.before a.rest b.rest a.each b.each a.no_line b.no_line (sym a.joined ∙ b.joined)).0 in
      sym a.count ∙ ap length same ∙ b.count;
  apart = λ bytes xs place a b.
      b.more (sym (lines_once xs b.before [] b.rest a.each b.each nothing_has_none b.no_line (sym (whole bytes xs a) ∙ b.joined)).1);
}
