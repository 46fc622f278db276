-- Reading the lines of saved links, one after the other.
use Rattle.std.proofs.Common.{◌≡◌, ◌≢◌, ℕ, ◌+◌, ◌≤◌, ◌<◌, true, false, List, [], ◌∷◌, ◌++◌, length, refl, sym, ap, subst, ◌∙◌, append_assoc, append-nil, arith, All, Ok, Err, Result}
use Rattle.std.specs.Prelude.{nat_eq, IsErrAnd, String}
use Rattle.std.proofs.lemmas.Bool.{eqb-true}
use Rattle.std.proofs.lemmas.List.{length-append}
use Rattle.std.proofs.lemmas.List.Concat.{flat_map-cons, flat_map-append}
use Rattle.std.proofs.lemmas.List.Elements.{All-head, All-nil, All-push}
use Rattle.tl_witness.specs.ChainLine.{ChainLine, IsChainLine, IsMalformedAt, chain_line, chain_text, chains}
use Rattle.std.specs.declared.vec.Vec.{Vec}
use Rattle.tl_proof.specs.Acceptance.{Step}
use Rattle.tl_proof.specs.declared.link.Link.{Link}
use Rattle.tl_witness.specs.declared.chain_reading.ChainFault.{ChainFault}
use Rattle.tl_witness.specs.declared.chain_reading.ChainFault.TheVariants.{OutOfMemory}
use Rattle.tl_witness.specs.ReadChain.{AreChainsOf, BeginsWithLine, IsLineOf, ReadsChain}
use Rattle.tl_witness.specs.ChainFields.{PutsStep, chain_words}
use Rattle.tl_witness.specs.Open.{SavedChain}
use Rattle.tl_witness.proofs.LineText.{line_of_words}
use Rattle.tl_witness.proofs.Grouping.{Grouped, grouped_none, grouped_more, puts_line}

-- what was read, and what is left to read
pub record HasRead (bytes : List ℕ) (saved : List SavedChain) (count : ℕ) (left : List ℕ) : Type 0 where
  pub lines : List ChainLine
  pub each : All IsChainLine lines
  pub number : length lines ≡ count
  pub whole : bytes ≡ chain_text lines ++ left
  pub few : count + length left ≤ length bytes
  pub grouped : Grouped lines
  pub same : saved ≡ chains lines

pub read_none : (bytes : List ℕ) → HasRead bytes [] 0 bytes
read_none bytes = record { lines = []; each = All-nil IsChainLine; number = refl; whole = refl; few = omega arith; grouped = grouped_none; same = refl }

-- one line more
pub read_more : (bytes : List ℕ) (saved new : List SavedChain) (count : ℕ) (left words rest : List ℕ) (l : ChainLine) → HasRead bytes saved count left
    → left ≡ words ++ 10 ∷ rest → words ≡ chain_words l → IsChainLine l → PutsStep l.origin l.step saved new → HasRead bytes new (count + 1) rest
read_more bytes saved new count left words rest l read cut spelled is puts =
    let next : left ≡ chain_line l ++ rest = cut ∙ ap (λ (t : List ℕ). t ++ 10 ∷ rest) spelled ∙ sym (line_of_words l rest) in
    let text : chain_text (read.lines ++ l ∷ []) ≡ chain_text read.lines ++ chain_line l =
    flat_map-append chain_line read.lines (l ∷ []) ∙ ap (λ (t : List ℕ). chain_text read.lines ++ t) (flat_map-cons chain_line l [] ∙ append-nil (chain_line l)) in
    record {
      lines = read.lines ++ l ∷ [];
      each = All-push IsChainLine read.lines l read.each is;
      number = omega (arith, length-append read.lines (l ∷ []), read.number);
      whole = read.whole ∙ ap (λ (t : List ℕ). chain_text read.lines ++ t) next ∙ sym (append_assoc (chain_text read.lines) (chain_line l) rest)
          ∙ ap (λ (t : List ℕ). t ++ rest) (sym text);
      few = omega (arith, read.few, ap length cut, length-append words (10 ∷ rest));
      grouped = grouped_more read.lines l read.grouped;
      same = puts_line read.lines l new read.grouped (subst (λ (old : List SavedChain). PutsStep l.origin l.step old new) read.same puts);
    }

not_empty : (text : List ℕ) → false ≡ nat_eq (length text) 0 → text ≢ []
not_empty [] some e = absurd cc
not_empty (b ∷ text) some e = absurd cc

-- the next line is none
pub malformed : (bytes : List ℕ) (saved : List SavedChain) (count : ℕ) (left : List ℕ) → HasRead bytes saved count left → false ≡ nat_eq (length left) 0
    → ((l : ChainLine) (after : List ℕ) → IsChainLine l → left ≢ chain_line l ++ after) → IsMalformedAt bytes count
malformed bytes saved count left read some none = record {
  before = read.lines;
  rest = left;
  each = read.each;
  count = read.number;
  joined = read.whole;
  more = not_empty left some;
  no_line = none;
}

-- the first line was read, or is the next one
begins_at : (lines : List ChainLine) (bytes left rest : List ℕ) (l : ChainLine) → All IsChainLine lines → bytes ≡ chain_text lines ++ left → left ≡ chain_line l ++ rest → IsChainLine l → BeginsWithLine bytes
begins_at [] bytes left rest l each whole next is = (l, rest, is, whole ∙ next)
begins_at (m ∷ lines) bytes left rest l each whole next is =
    (m, chain_text lines ++ left, All-head IsChainLine m lines each, whole ∙ ap (λ (t : List ℕ). t ++ left) (flat_map-cons chain_line m lines) ∙ append_assoc (chain_line m) (chain_text lines) left)

pub begins : (bytes : List ℕ) (saved : List SavedChain) (count : ℕ) (left words rest origin : List ℕ) (step : Step) → HasRead bytes saved count left
    → left ≡ words ++ 10 ∷ rest → IsLineOf words origin step → BeginsWithLine bytes
begins bytes saved count left words rest origin step read cut is =
    let l : ChainLine = record { origin = origin; step = step } in
    let next : left ≡ chain_line l ++ rest = cut ∙ ap (λ (t : List ℕ). t ++ 10 ∷ rest) is.spelled ∙ sym (line_of_words l rest) in
    begins_at read.lines bytes left rest l read.each read.whole next is.lawful

-- allocation fails, for bytes that begin with a line
pub reads_refused : {A : Type 0} → (bytes : List ℕ) (r : Result (Vec (String A × Vec (Link A) A) A) ChainFault) → IsErrAnd r (λ e. e ≡ OutOfMemory) → BeginsWithLine bytes → ReadsChain bytes r
reads_refused bytes (Ok read) refused is = absurd refused
reads_refused {A = A} bytes (Err fault) refused is = subst (λ (f : ChainFault). ReadsChain {A = A} bytes (Err f)) (sym refused) is

-- all is read once nothing is left
pub all_read : (bytes : List ℕ) (saved : List SavedChain) (count : ℕ) (left : List ℕ) → HasRead bytes saved count left → true ≡ nat_eq (length left) 0 → AreChainsOf bytes saved
all_read bytes saved count [] read none = record {
  lines = read.lines;
  text = record { each = read.each; spelled = read.whole ∙ append-nil (chain_text read.lines) };
  same = read.same;
}
all_read bytes saved count (b ∷ left) read none = absurd (let zero : length (b ∷ left) ≡ 0 = eqb-true (length (b ∷ left)) 0 (sym none) in omega (arith, zero))

-- after a line less is left
pub less_left : (left words rest : List ℕ) → left ≡ words ++ 10 ∷ rest → length rest < length left
less_left left words rest cut = omega (arith, ap length cut, length-append words (10 ∷ rest))
