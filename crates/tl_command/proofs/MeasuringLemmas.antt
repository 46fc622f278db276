-- The lengths of bundles, one line more.
use Rattle.std.proofs.Common.{inl, inr, ◌≡◌, ℕ, ◌+◌, ◌*◌, ◌<◌, ◌≤◌, List, [], ◌∷◌, ◌++◌, length, get_or, take, drop, refl, sym, ap, subst, ◌∙◌, append-nil, append_assoc, arith}
use Rattle.std.proofs.lemmas.Bool.{cases_lt}
use Rattle.std.proofs.lemmas.Grind.{flat_map-append}
use Rattle.std.proofs.lemmas.List.{drop-append-le, take-append-le, get_or_append_left, get_or_push, length-append, length-drop, take_all}
use Rattle.std.proofs.lemmas.List.Concat.{flat_map-cons}
use Rattle.std.proofs.lemmas.List.Elements.{All-append}
use Rattle.tl_text.specs.Text.{line}
use Rattle.tl_tile.specs.Bundle.{bundle_text}
use Rattle.tl_command.specs.Inner.BundleLengths.{AreBundleLengths}
use Rattle.std.specs.Io.KnownBytes.{Consumes}
use Rattle.std.specs.Prelude.{Option}
use Rattle.tl_command.specs.Inner.Growing.{IsGrowing}
use Rattle.tl_command.specs.declared.growing.Growing.{Growing}
use Rattle.tl_command.specs.Inner.Measuring.{IsMeasuring}
use Rattle.tl_command.specs.declared.growing.measuring.Measuring.{Measuring}
use Rattle.tl_command.specs.Lines.{entries_of, lines_text, HasNoNewline}
use Rattle.tl_command.proofs.GrowingLemmas.{IsOther, entries_whole}
use Rattle.tl_command.proofs.Lengths.{bundle_of_lines}

-- the bytes of lines and one more
pub lines_pushed : (lines : List (List ℕ)) (last : List ℕ) → length (lines_text (lines ++ last ∷ [])) ≡ length (lines_text lines) + (length last + 1)
lines_pushed lines last =
    omega (
      arith,
      ap length (flat_map-append line lines (last ∷ [])),
      length-append (lines_text lines) (lines_text (last ∷ [])),
      ap length (flat_map-cons line last [] ∙ append-nil (line last)),
      length-append last (10 ∷ []),
    )

-- the lines behind the full bundles are another one
pub all_each : (lengths : List ℕ) (lines : List (List ℕ)) (count bytes : ℕ) → length lines ≡ length lengths * 256 + count → bytes ≡ length (lines_text (drop (length lengths * 256) lines))
    → ((index d : ℕ) → index < length lengths → get_or lengths index d ≡ length (bundle_text (take 256 (drop (index * 256) lines))))
    → (after : List ℕ) (size : ℕ) → count ≤ 256 → size ≡ bytes + count → after ≡ lengths ++ size ∷ [] → (index d : ℕ) → index < length after
    → get_or after index d ≡ length (bundle_text (take 256 (drop (index * 256) lines)))
all_each lengths lines count bytes number left each after size few is added index d less =
    let longer : length after ≡ length lengths + 1 = omega (arith, ap length added, length-append lengths (size ∷ [])) in
    ap (λ (xs : List ℕ). get_or xs index d) added ∙
    elim (cases_lt index (length lengths)) as (λ _. get_or (lengths ++ size ∷ []) index d ≡ length (bundle_text (take 256 (drop (index * 256) lines)))) [
      | inl before ↦ get_or_append_left lengths (size ∷ []) d index before ∙ each index d before
      | inr past ↦
          let here : length lengths ≡ index = omega (arith, past, less, longer) in
          let own : List (List ℕ) = drop (length lengths * 256) lines in
          let many : length own ≡ count = omega (arith, length-drop (length lengths * 256) lines, number) in
          let sum : size ≡ length (bundle_text own) = omega (arith, is, left, bundle_of_lines own, many) in
          get_or_push lengths size d index here ∙ sum ∙ ap (λ (ls : List (List ℕ)). length (bundle_text ls)) (sym (take_all 256 own (omega (arith, many, few))))
          ∙ ap (λ (n : ℕ). length (bundle_text (take 256 (drop (n * 256) lines)))) here
    ]

module _ (lengths : List ℕ) (lines : List (List ℕ)) (last : List ℕ) (count bytes : ℕ) (number : length lines ≡ length lengths * 256 + count) (left : bytes ≡ length (lines_text (drop (length lengths * 256) lines)))
    (each : (index d : ℕ) → index < length lengths → get_or lengths index d ≡ length (bundle_text (take 256 (drop (index * 256) lines)))) where
  abbrev More : List (List ℕ)
  More = lines ++ last ∷ []

  pub more_number : length More ≡ length lengths * 256 + (count + 1)
  more_number = omega (arith, length-append lines (last ∷ []), number)

  rest_is : drop (length lengths * 256) More ≡ drop (length lengths * 256) lines ++ last ∷ []
  rest_is = drop-append-le (length lengths * 256) lines (last ∷ []) (omega (arith, number))

  pub more_left : (n : ℕ) → n ≡ bytes + (length last + 1) → n ≡ length (lines_text (drop (length lengths * 256) More))
  more_left n is =
      omega (arith, is, left, ap (λ (ls : List (List ℕ)). length (lines_text ls)) rest_is, lines_pushed (drop (length lengths * 256) lines) last)

  -- the bundles before stay
  pub more_each : (index d : ℕ) → index < length lengths → get_or lengths index d ≡ length (bundle_text (take 256 (drop (index * 256) More)))
  more_each index d less =
      let at : drop (index * 256) More ≡ drop (index * 256) lines ++ last ∷ [] = drop-append-le (index * 256) lines (last ∷ []) (omega (arith, number, less)) in
      let whole : take 256 (drop (index * 256) More) ≡ take 256 (drop (index * 256) lines) =
      ap (take 256) at ∙ take-append-le 256 (drop (index * 256) lines) (last ∷ []) (omega (arith, length-drop (index * 256) lines, number, less)) in
      each index d less ∙ ap (λ (ls : List (List ℕ)). length (bundle_text ls)) (sym whole)

empty_list : (lines : List (List ℕ)) → length lines ≡ 0 → lines ≡ []
empty_list [] is = refl
empty_list (line ∷ lines) is = absurd (omega (arith, is))

-- nothing is left behind the last full bundle
pub none_left : (lines : List (List ℕ)) (n : ℕ) → length lines ≤ n → 0 ≡ length (lines_text (drop n lines))
none_left lines n all = ap (λ (ls : List (List ℕ)). length (lines_text ls)) (sym (empty_list (drop n lines) (omega (arith, length-drop n lines, all))))

-- more of the last line
pub begun_more : {A : Type 0} (m : Measuring A) (input part : List ℕ) → IsMeasuring m input → HasNoNewline part → IsMeasuring (record m { begun = m.begun + length part }) (input ++ part)
begun_more m input part was plain = record {
  lines = was.lines;
  last = was.last ++ part;
  whole = ap (λ (t : List ℕ). t ++ part) was.whole ∙ append_assoc (lines_text was.lines) was.last part;
  plain = was.plain;
  last_plain = All-append IsOther was.last part was.last_plain plain;
  number = was.number;
  few = was.few;
  each = was.each;
  left = was.left;
  begun = omega (arith, was.begun, length-append was.last part);
}

nothing : (last : List ℕ) → length last ≡ 0 → last ≡ []
nothing [] is = refl
nothing (byte ∷ last) is = absurd (omega (arith, is))

-- the entries, if no line is begun
pub lines_are : {A : Type 0} (m : Measuring A) (input : List ℕ) (was : IsMeasuring m input) → m.begun ≡ 0 → entries_of input ≡ was.lines
lines_are m input was none =
    let last : was.last ≡ [] = nothing was.last (omega (arith, was.begun, none)) in
    entries_whole was.lines input was.plain (was.whole ∙ ap (λ (t : List ℕ). lines_text was.lines ++ t) last)

-- the lengths of all bundles, if no line is behind the full ones
pub full_lengths : {A : Type 0} (m : Measuring A) (input : List ℕ) → IsMeasuring m input → m.begun ≡ 0 → m.count ≡ 0 → AreBundleLengths m.lengths.items (entries_of input)
full_lengths m input was none no_more =
    subst (AreBundleLengths m.lengths.items) (sym (lines_are m input was none)) (record { all = omega (arith, was.number, no_more); each = was.each })

-- and if one is
pub last_lengths : {A : Type 0} (m : Measuring A) (input : List ℕ) (after : List ℕ) → IsMeasuring m input → m.begun ≡ 0 → after ≡ m.lengths.items ++ (m.bytes + m.count) ∷ [] → AreBundleLengths after (entries_of input)
last_lengths m input after was none added =
    let longer : length after ≡ length m.lengths.items + 1 = omega (arith, ap length added, length-append m.lengths.items ((m.bytes + m.count) ∷ [])) in
    subst (AreBundleLengths after) (sym (lines_are m input was none)) (record {
      all = omega (arith, was.number, was.few, longer);
      each = all_each m.lengths.items was.lines m.count m.bytes was.number was.left was.each after (m.bytes + m.count) (omega (arith, was.few)) refl added;
    })

-- this many bytes were consumed and taken
pub record HasMeasured {A : Type 0} (old new : Option (List ℕ)) (g : Growing A) (m : Measuring A) (total : ℕ) : Type 0 where
  pub input : List ℕ
  pub count : length input ≡ total
  pub consumed : Consumes old new input
  pub growing : IsGrowing g input
  pub measuring : IsMeasuring m input
