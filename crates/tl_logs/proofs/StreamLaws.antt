-- Laws of what was read of a state, when more bytes come.
use Rattle.std.proofs.Common.{◌≡◌, ◌≢◌, ◌≤◌, ◌<◌, ◌+◌, ◌^◌, ℕ, true, false, List, [], ◌∷◌, ◌++◌, length, refl, sym, ap, subst, ◌∙◌, inl, inr, All, ◌⊎◌, arith, append_assoc, append-nil}
use Rattle.std.proofs.lemmas.List.{length-append}
use Rattle.std.proofs.lemmas.List.Concat.{flat_map-cons, flat_map-append}
use Rattle.std.proofs.lemmas.List.Elements.{All-append, All-nil, All-push}
use Rattle.std.proofs.Math.Seq.{get_or-append_seam}
use Rattle.tl_hash.specs.Bytes.{Digest}
use Rattle.tl_proof.specs.Acceptance.{Step}
use Rattle.tl_witness.specs.ChainLine.{ChainLine, IsChainLine, chain_line, chain_text}
use Rattle.tl_witness.specs.ChainFields.{chain_words}
use Rattle.tl_witness.specs.ReadChain.{IsLineOf}
use Rattle.tl_witness.proofs.LineText.{line_of_words, no_such_words}
use Rattle.tl_logs.specs.LogsFile.{IsInOneLine}
use Rattle.tl_logs.specs.State.{Counts, OriginHead, counting, whole_line}
use Rattle.tl_logs.specs.StateFaults.{HasLongLine, IsBrokenAt, IsMalformedAt, RefusesBytes, longest_line}
use Rattle.tl_logs.specs.declared.state_fault.StateFault.{StateFault}
use Rattle.tl_logs.specs.declared.state_fault.StateFault.TheVariants as why
use Rattle.tl_logs.specs.Inner.Heads.{AddsHead, BreaksHead, MovesHead, TakesLink}
use Rattle.tl_logs.specs.Inner.Stream.{HasRead, KeepsLink, SoFar, link_outcome}
use Rattle.tl_logs.specs.declared.taking.LinkFault.{LinkFault}
use Rattle.tl_logs.specs.declared.taking.LinkFault.TheVariants.{Broken, OutOfMemory}
use Rattle.std.specs.Prelude.{Result, Ok, Err, ◌-◌, min}
use Rattle.tl_logs.proofs.HeadLaws.{AreHeads, counting_more, counting_same, heads_added, heads_broken, heads_moved, heads_none}

abbrev pub so_far : List OriginHead → ℕ → List ℕ → SoFar
so_far heads line begun = record { heads = heads; line = line; begun = begun }

pub read_nothing : (H : Digest) (counts : Counts) → HasRead H counts (so_far [] 0 []) []
read_nothing H counts = record {
  lines = [];
  lawful = record { each = All-nil IsChainLine; linked = (heads_none H).linked };
  same = refl;
  written = (heads_none H).written;
  count = refl;
  joined = refl;
  one_line = All-nil (λ byte. byte ≢ 10);
}

-- ---- bytes of a line

pub begun_more : (H : Digest) (counts : Counts) (old new : SoFar) (input part : List ℕ) → HasRead H counts old input → IsInOneLine part
    → new.heads ≡ old.heads → new.line ≡ old.line → new.begun ≡ old.begun ++ part → HasRead H counts new (input ++ part)
begun_more H counts old new input part read plain heads line begun = record {
  lines = read.lines;
  lawful = read.lawful;
  same = heads ∙ read.same;
  written = subst (All (λ o. IsChainLine (whole_line o))) (sym heads) read.written;
  count = read.count ∙ sym line;
  joined = ap (λ (t : List ℕ). t ++ part) read.joined ∙ append_assoc (chain_text read.lines) old.begun part ∙ ap (λ (t : List ℕ). chain_text read.lines ++ t) (sym begun);
  one_line = subst IsInOneLine (sym begun) (All-append (λ byte. byte ≢ 10) old.begun part read.one_line plain);
}

pub too_long : (H : Digest) (counts : Counts) (old : SoFar) (input part after : List ℕ) → HasRead H counts old input → IsInOneLine part
    → longest_line < length old.begun + length part → HasLongLine (input ++ part ++ after)
too_long H counts old input part after read plain long = record {
  before = read.lines;
  line = old.begun ++ part;
  after = after;
  joined = ap (λ (t : List ℕ). t ++ part ++ after) read.joined ∙ ap (λ (t : List ℕ). t ++ after) (append_assoc (chain_text read.lines) old.begun part);
  one_line = All-append (λ byte. byte ≢ 10) old.begun part read.one_line plain;
  long = omega (arith, long, length-append old.begun part);
}

-- ---- a line

-- there are no more lines than bytes
pub few_lines : (lines : List ChainLine) → length lines ≤ length (chain_text lines)
few_lines [] = omega arith
few_lines (l ∷ lines) =
    let here : length (chain_text (l ∷ lines)) ≡ length (chain_line l) + length (chain_text lines) = ap length (flat_map-cons chain_line l lines) ∙ length-append (chain_line l) (chain_text lines) in
    let some : length (chain_line l) ≡ length (chain_words l) + 1 = ap length (sym (append-nil (chain_line l)) ∙ line_of_words l []) ∙ length-append (chain_words l) (10 ∷ []) in
    omega (arith, few_lines lines, here, some)

pub text_more : (lines : List ChainLine) (l : ChainLine) → chain_text (lines ++ l ∷ []) ≡ chain_text lines ++ chain_line l
text_more lines l = flat_map-append chain_line lines (l ∷ []) ∙ ap (λ (t : List ℕ). chain_text lines ++ t) (flat_map-cons chain_line l [] ∙ append-nil (chain_line l))

-- the line that is begun, with its newline and what follows
line_ended : (l : ChainLine) (begun after : List ℕ) → IsLineOf begun l.origin l.step → begun ++ 10 ∷ after ≡ chain_line l ++ after
line_ended l begun after is = ap (λ (t : List ℕ). t ++ 10 ∷ after) is.spelled ∙ sym (line_of_words l after)

behind_lines : (H : Digest) (counts : Counts) (old : SoFar) (input after : List ℕ) (read : HasRead H counts old input) → input ++ 10 ∷ after ≡ chain_text read.lines ++ (old.begun ++ 10 ∷ after)
behind_lines H counts old input after read = ap (λ (t : List ℕ). t ++ 10 ∷ after) read.joined ∙ append_assoc (chain_text read.lines) old.begun (10 ∷ after)

all_before : (H : Digest) (counts : Counts) (old : SoFar) (input : List ℕ) (l : ChainLine) → HasRead H counts old input → IsLineOf old.begun l.origin l.step
    → (read : HasRead H counts old input) → input ++ 10 ∷ [] ≡ chain_text (read.lines ++ l ∷ []) ++ []
all_before H counts old input l has is read =
    behind_lines H counts old input [] read
    ∙ ap (λ (t : List ℕ). chain_text read.lines ++ t) (line_ended l old.begun [] is ∙ append-nil (chain_line l))
    ∙ sym (text_more read.lines l)
    ∙ sym (append-nil (chain_text (read.lines ++ l ∷ [])))

-- what was read has these heads
heads_read : (H : Digest) (counts : Counts) (old : SoFar) (input : List ℕ) (read : HasRead H counts old input) → AreHeads H (counting counts read.lines) old.heads
heads_read H counts old input read = record { linked = read.lawful.linked; same = read.same; written = read.written }

-- a link of an origin counts as the last one of it, or doesn't count
abbrev pub Kept : Digest → Counts → List ℕ → Step → List OriginHead → List OriginHead → Type 0
Kept H counts origin step old new =
    ((counts origin ≡ false) × (new ≡ old)) ⊎ ((counts origin ≡ true) × (MovesHead H origin step old new ⊎ AddsHead H origin step old new))

heads_more : (H : Digest) (counts : Counts) (lines : List ChainLine) (l : ChainLine) (old new : List OriginHead) → IsChainLine l → AreHeads H (counting counts lines) old
    → Kept H counts l.origin l.step old new → AreHeads H (counting counts (lines ++ l ∷ [])) new
heads_more H counts lines l old new is has (inl (not, same)) =
    subst (λ (ls : List ChainLine). AreHeads H ls new) (sym (counting_same counts lines l not)) (subst (AreHeads H (counting counts lines)) (sym same) has)
heads_more H counts lines l old new is has (inr (known, inl moves)) =
    subst (λ (ls : List ChainLine). AreHeads H ls new) (sym (counting_more counts lines l known)) (heads_moved H (counting counts lines) l old new is has moves)
heads_more H counts lines l old new is has (inr (known, inr adds)) =
    subst (λ (ls : List ChainLine). AreHeads H ls new) (sym (counting_more counts lines l known)) (heads_added H (counting counts lines) l old new is has adds)

-- one line more was read
pub read_line : (H : Digest) (counts : Counts) (old new : SoFar) (input origin : List ℕ) (step : Step) → HasRead H counts old input → IsLineOf old.begun origin step
    → Kept H counts origin step old.heads new.heads → new.line ≡ old.line + 1 → new.begun ≡ [] → HasRead H counts new (input ++ 10 ∷ [])
read_line H counts old new input origin step read is kept line begun =
    let l : ChainLine = record { origin = origin; step = step } in
    let has = heads_more H counts read.lines l old.heads new.heads is.lawful (heads_read H counts old input read) kept in
    record {
      lines = read.lines ++ l ∷ [];
      lawful = record { each = All-push IsChainLine read.lines l read.lawful.each is.lawful; linked = has.linked };
      same = has.same;
      written = has.written;
      count = omega (arith, length-append read.lines (l ∷ []), read.count, line);
      joined = all_before H counts old input l read is read ∙ ap (λ (t : List ℕ). chain_text (read.lines ++ l ∷ []) ++ t) (sym begun);
      one_line = subst IsInOneLine (sym begun) (All-nil (λ byte. byte ≢ 10));
    }

-- there are no more lines than bytes that were read
pub line_within : (H : Digest) (counts : Counts) (old : SoFar) (input : List ℕ) → HasRead H counts old input → old.line ≤ length input
line_within H counts old input read =
    omega (arith, few_lines read.lines, read.count, ap length read.joined, length-append (chain_text read.lines) old.begun)

some_byte : (begun after : List ℕ) → begun ++ 10 ∷ after ≢ []
some_byte [] after e = absurd cc
some_byte (b ∷ begun) after e = absurd cc

-- the next line is none
pub line_malformed : (H : Digest) (counts : Counts) (old : SoFar) (input after : List ℕ) → HasRead H counts old input → ((l : ChainLine) → IsChainLine l → old.begun ≢ chain_words l)
    → IsMalformedAt H counts (input ++ 10 ∷ after) old.line
line_malformed H counts old input after read none = record {
  before = read.lines;
  rest = old.begun ++ 10 ∷ after;
  at = record { lawful = read.lawful; count = read.count; joined = behind_lines H counts old input after read };
  more = some_byte old.begun after;
  no_line = no_such_words (old.begun ++ 10 ∷ after) old.begun after read.one_line refl none;
}

-- the next line is of a link that breaks
pub line_broken : (H : Digest) (counts : Counts) (old : SoFar) (input after origin : List ℕ) (step : Step) → HasRead H counts old input → IsLineOf old.begun origin step
    → counts origin ≡ true → BreaksHead H origin step old.heads → IsBrokenAt H counts (input ++ 10 ∷ after) old.line
line_broken H counts old input after origin step read is counted breaks =
    let l : ChainLine = record { origin = origin; step = step } in
    record {
      before = read.lines;
      line = l;
      after = after;
      at = record {
        lawful = read.lawful;
        count = read.count;
        joined = behind_lines H counts old input after read ∙ ap (λ (t : List ℕ). chain_text read.lines ++ t) (line_ended l old.begun after is);
      };
      is_line = is.lawful;
      counted = counted;
      breaks = heads_broken H (counting counts read.lines) old.heads origin step read.same breaks;
    }

-- ---- the end

no_seam : (words rest text : List ℕ) → text ≡ words ++ 10 ∷ rest → IsInOneLine text → ⊥
no_seam words rest text same plain =
    let one : IsInOneLine (words ++ 10 ∷ rest) = subst IsInOneLine same plain in
    one (length words) 0 (omega (arith, length-append words (10 ∷ rest))) (get_or-append_seam words 10 rest 0)

-- a line that is begun and has no newline is none
pub end_malformed : (H : Digest) (counts : Counts) (old : SoFar) (input : List ℕ) → HasRead H counts old input → old.begun ≢ [] → IsMalformedAt H counts input old.line
end_malformed H counts old input read some = record {
  before = read.lines;
  rest = old.begun;
  at = record { lawful = read.lawful; count = read.count; joined = read.joined };
  more = some;
  no_line = λ l after is e. no_seam (chain_words l) after old.begun (e ∙ line_of_words l after) read.one_line;
}

-- ---- what comes of a link

pub keeps : (H : Digest) (counts : Counts) (origin : List ℕ) (step : Step) (old new : List OriginHead) (line : ℕ) (begun : List ℕ) (r : Result (Unit {0}) LinkFault)
    → counts origin ≡ true → TakesLink H origin step old new r → KeepsLink H counts origin step (so_far old line begun) (so_far new line begun) (link_outcome r line)
keeps H counts origin step old new line begun (Ok done) known taken = inr (known, taken)
keeps H counts origin step old new line begun (Err Broken) known taken = (refl, known, taken)
keeps H counts origin step old new line begun (Err OutOfMemory) known taken = tt

-- ---- the newline of a line, and what is behind it

behind_newline : (input after : List ℕ) → input ++ 10 ∷ after ≡ input ++ 10 ∷ [] ++ after
behind_newline input after = sym (append_assoc input (10 ∷ []) after)

pub newline_malformed : (H : Digest) (counts : Counts) (old : SoFar) (input after : List ℕ) → HasRead H counts old input → ((l : ChainLine) → IsChainLine l → old.begun ≢ chain_words l)
    → IsMalformedAt H counts (input ++ 10 ∷ [] ++ after) old.line
newline_malformed H counts old input after read none =
    subst (λ (t : List ℕ). IsMalformedAt H counts t old.line) (behind_newline input after) (line_malformed H counts old input after read none)

-- a link isn't kept
pub newline_refused : (H : Digest) (counts : Counts) (old mid new : SoFar) (input after origin : List ℕ) (step : Step) (fault : StateFault) → HasRead H counts old input
    → IsLineOf old.begun origin step → mid.heads ≡ old.heads → mid.line ≡ old.line → KeepsLink H counts origin step mid new (Err fault)
    → RefusesBytes H counts (input ++ 10 ∷ [] ++ after) fault
newline_refused H counts old mid new input after origin step why.Read read is heads line kept = kept
newline_refused H counts old mid new input after origin step (why.Malformed place) read is heads line kept = absurd kept
newline_refused H counts old mid new input after origin step (why.Broken place) read is heads line (at, known, breaks) =
    subst (λ (n : ℕ). IsBrokenAt H counts (input ++ 10 ∷ [] ++ after) n) (sym (at ∙ line))
    (subst (λ (t : List ℕ). IsBrokenAt H counts t old.line) (behind_newline input after)
    (line_broken H counts old input after origin step read is known (subst (BreaksHead H origin step) heads breaks)))
newline_refused H counts old mid new input after origin step why.TooLarge read is heads line kept = absurd kept
newline_refused H counts old mid new input after origin step why.OutOfMemory read is heads line kept =
    omega (arith, length-append (input ++ 10 ∷ []) after, length-append input (10 ∷ []))

-- a link is kept
pub newline_taken : (H : Digest) (counts : Counts) (old mid new : SoFar) (input after origin : List ℕ) (step : Step) (line : ℕ) → HasRead H counts old input
    → length (input ++ after) < 2 ^ 63 → IsLineOf old.begun origin step → mid.heads ≡ old.heads → new.line ≡ old.line → line ≡ min (new.line + 1) (2 ^ 64 - 1)
    → KeepsLink H counts origin step mid new (Ok tt) → HasRead H counts (so_far new.heads line []) (input ++ 10 ∷ [])
newline_taken H counts old mid new input after origin step line read small is heads same next kept =
    read_line H counts old (so_far new.heads line []) input origin step read is
    (subst (λ (hs : List OriginHead). Kept H counts origin step hs new.heads) heads kept)
    (omega (arith, next, same, line_within H counts old input read, small, length-append input after)) refl
