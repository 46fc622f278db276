-- Reading the lines of the file, one after the other.
use Rattle.std.proofs.Common.{◌≡◌, ◌≢◌, ℕ, ◌+◌, ◌≤◌, ◌⊎◌, true, false, List, [], ◌∷◌, ◌++◌, length, refl, sym, ap, subst, ◌∙◌, append_assoc, append-nil, arith, All, Ok, Err, inl, inr}
use Rattle.std.specs.Prelude.{nat_eq}
use Rattle.std.proofs.lemmas.Bool.{eqb-true}
use Rattle.std.proofs.lemmas.List.{length-append}
use Rattle.std.proofs.lemmas.List.Concat.{flat_map-cons, flat_map-append}
use Rattle.std.proofs.lemmas.List.Elements.{All-nil, All-push}
use Rattle.tl_text.specs.Text.{line}
use Rattle.tl_logs.specs.LogsFile.{FileLine, GivesKey, HasEachOnce, IsFileLine, IsPassedOver, Log, LogKey, StandsBehind, file_text, keys_in, logs}
use Rattle.tl_logs.specs.ReadLogs.{AreLogsOf, IsNext, ReadsLines}
use Rattle.tl_logs.specs.declared.line.LineFault.{LineFault}
use Rattle.tl_logs.specs.declared.line.LineFault.TheVariants.{Malformed, Twice, OutOfMemory}
use Rattle.tl_logs.specs.Inner.Lines.{CutsLine}
use Rattle.tl_logs.specs.Inner.Placing.{HasKey, PutsKey, TakesLine, fault_at}
use Rattle.tl_logs.proofs.Grouping.{Grouped, grouped_none, grouped_more, puts_more, key_known, once_puts}

-- the bytes are these lines and what is left; or nothing is, and the newline of the last was left out
abbrev Whole : List ℕ → List FileLine → List ℕ → Type 0
Whole bytes lines left = (bytes ≡ file_text lines ++ left) ⊎ ((left ≡ []) × (line bytes ≡ file_text lines))

-- what was read, and what is left to read
pub record HasRead (bytes : List ℕ) (known : List Log) (count : ℕ) (left : List ℕ) : Type 0 where
  pub lines : List FileLine
  pub each : All IsFileLine lines
  pub number : length lines ≡ count
  pub whole : Whole bytes lines left
  pub few : count + length left ≤ length bytes
  pub grouped : Grouped (keys_in lines)
  pub once : All HasEachOnce (logs (keys_in lines))
  pub same : known ≡ logs (keys_in lines)

pub read_none : (bytes : List ℕ) → HasRead bytes [] 0 bytes
read_none bytes = record {
  lines = [];
  each = All-nil IsFileLine;
  number = refl;
  whole = inl refl;
  few = omega arith;
  grouped = grouped_none;
  once = All-nil HasEachOnce;
  same = refl;
}

-- ---- one line more

not_empty : (left : List ℕ) → false ≡ nat_eq (length left) 0 → left ≢ []
not_empty [] some e = absurd cc
not_empty (b ∷ left) some e = absurd cc

-- what follows a line is shorter
pub shorter : (left words rest : List ℕ) → false ≡ nat_eq (length left) 0 → CutsLine left words rest → length rest + 1 ≤ length left
shorter left words rest some (one, inl whole) = omega (arith, ap length whole, length-append words (10 ∷ rest))
shorter [] words rest some (one, inr last) = absurd cc
shorter (b ∷ left) words rest some (one, inr last) = omega (arith, ap length last.1)

more_text : (lines : List FileLine) (l : FileLine) → file_text (lines ++ l ∷ []) ≡ file_text lines ++ line l.words
more_text lines l =
    let text : FileLine → List ℕ = λ m. line m.words in
    flat_map-append text lines (l ∷ []) ∙ ap (λ (t : List ℕ). file_text lines ++ t) (flat_map-cons text l [] ∙ append-nil (line l.words))

more_keys : (lines : List FileLine) (l : FileLine) → keys_in (lines ++ l ∷ []) ≡ keys_in lines ++ l.gives
more_keys lines l =
    let given : FileLine → List LogKey = λ m. m.gives in
    flat_map-append given lines (l ∷ []) ∙ ap (λ (ks : List LogKey). keys_in lines ++ ks) (flat_map-cons given l [] ∙ append-nil l.gives)

more_whole : (bytes left rest : List ℕ) (lines : List FileLine) (l : FileLine) → left ≢ [] → Whole bytes lines left → CutsLine left l.words rest → Whole bytes (lines ++ l ∷ []) rest
more_whole bytes left rest lines l some (inr (none, spelled)) cut = absurd (some none)
more_whole bytes left rest lines l some (inl e) (one, inl cut) =
    inl
    (e ∙ ap (λ (t : List ℕ). file_text lines ++ t) (cut ∙ sym (append_assoc l.words (10 ∷ []) rest)) ∙ sym (append_assoc (file_text lines) (line l.words) rest)
    ∙ ap (λ (t : List ℕ). t ++ rest) (sym (more_text lines l)))
more_whole bytes left rest lines l some (inl e) (one, inr (same, none)) =
    inr
    (none, ap (λ (t : List ℕ). t ++ 10 ∷ []) (e ∙ ap (λ (t : List ℕ). file_text lines ++ t) same) ∙ append_assoc (file_text lines) l.words (10 ∷ []) ∙ sym (more_text lines l))

fewer : (bytes left words rest : List ℕ) (count : ℕ) → left ≢ [] → count + length left ≤ length bytes → CutsLine left words rest → (count + 1) + length rest ≤ length bytes
fewer bytes left words rest count some few (one, inl cut) = omega (arith, few, ap length cut, length-append words (10 ∷ rest))
fewer bytes [] words rest count some few (one, inr (same, none)) = absurd (some refl)
fewer bytes (b ∷ left) words rest count some few (one, inr (same, none)) = omega (arith, few, ap length none)

-- a line that is skipped
passed : (bytes : List ℕ) (known new : List Log) (count : ℕ) (left words rest : List ℕ) → HasRead bytes known count left → left ≢ []
    → CutsLine left words rest → IsPassedOver words → new ≡ known → HasRead bytes new (count + 1) rest
passed bytes known new count left words rest read some cut over now =
    let l : FileLine = record { words = words; gives = [] } in
    let none : keys_in (read.lines ++ l ∷ []) ≡ keys_in read.lines = more_keys read.lines l ∙ append-nil (keys_in read.lines) in
    record {
      lines = read.lines ++ l ∷ [];
      each = All-push IsFileLine read.lines l read.each (record { one_line = cut.0; given = inl (over, refl) });
      number = omega (arith, length-append read.lines (l ∷ []), read.number);
      whole = more_whole bytes left rest read.lines l some read.whole cut;
      few = fewer bytes left words rest count some read.few cut;
      grouped = subst Grouped (sym none) read.grouped;
      once = subst (λ (ks : List LogKey). All HasEachOnce (logs ks)) (sym none) read.once;
      same = now ∙ read.same ∙ ap logs (sym none);
    }

-- a line that gives a key
given : (bytes : List ℕ) (known new : List Log) (count : ℕ) (left words rest : List ℕ) (k : LogKey) → HasRead bytes known count left → left ≢ []
    → CutsLine left words rest → GivesKey words k → PutsKey k known new → HasRead bytes new (count + 1) rest
given bytes known new count left words rest k read some cut gives puts =
    let l : FileLine = record { words = words; gives = k ∷ [] } in
    let one : keys_in (read.lines ++ l ∷ []) ≡ keys_in read.lines ++ k ∷ [] = more_keys read.lines l in
    let put : PutsKey k (logs (keys_in read.lines)) new = subst (λ (old : List Log). PutsKey k old new) read.same puts in
    let now : new ≡ logs (keys_in read.lines ++ k ∷ []) = puts_more (keys_in read.lines) k new read.grouped put in
    record {
      lines = read.lines ++ l ∷ [];
      each = All-push IsFileLine read.lines l read.each (record { one_line = cut.0; given = inr (k, gives, refl) });
      number = omega (arith, length-append read.lines (l ∷ []), read.number);
      whole = more_whole bytes left rest read.lines l some read.whole cut;
      few = fewer bytes left words rest count some read.few cut;
      grouped = subst Grouped (sym one) (grouped_more (keys_in read.lines) k read.grouped);
      once = subst (All HasEachOnce) (now ∙ ap logs (sym one)) (once_puts k (logs (keys_in read.lines)) new read.once put);
      same = now ∙ ap logs (sym one);
    }

pub read_more : (bytes : List ℕ) (known new : List Log) (count : ℕ) (left words rest : List ℕ) → HasRead bytes known count left → false ≡ nat_eq (length left) 0
    → CutsLine left words rest → TakesLine words known new (Ok tt) → HasRead bytes new (count + 1) rest
read_more bytes known new count left words rest read some cut (inl (over, now)) = passed bytes known new count left words rest read (not_empty left some) cut over now
read_more bytes known new count left words rest read some cut (inr (k, gives, puts)) = given bytes known new count left words rest k read (not_empty left some) cut gives puts

-- ---- the end

pub read_all : (bytes : List ℕ) (known : List Log) (count : ℕ) (left : List ℕ) → HasRead bytes known count left → true ≡ nat_eq (length left) 0 → AreLogsOf bytes known
read_all bytes known count (b ∷ left) read none = absurd (let zero : length (b ∷ left) ≡ 0 = eqb-true (length (b ∷ left)) 0 (sym none) in omega (arith, zero))
read_all bytes known count [] read none = record {
  lines = read.lines;
  text = record {
    each = read.each;
    spelled = elim read.whole [ inl e ↦ inl (e ∙ append-nil (file_text read.lines)) | inr e ↦ inr e.1 ];
  };
  once = read.once;
  same = read.same;
}

-- ---- a line that isn't taken

behind : (bytes left words rest : List ℕ) (lines : List FileLine) → left ≢ [] → Whole bytes lines left → CutsLine left words rest → StandsBehind bytes lines words
behind bytes left words rest lines some (inr (none, spelled)) cut = absurd (some none)
behind bytes left words rest lines some (inl e) (one, inl cut) = record {
  one_line = one;
  joined = inl (rest, e ∙ ap (λ (t : List ℕ). file_text lines ++ t) (cut ∙ sym (append_assoc words (10 ∷ []) rest)));
}
behind bytes left words rest lines some (inl e) (one, inr (same, none)) = record {
  one_line = one;
  joined = inr (e ∙ ap (λ (t : List ℕ). file_text lines ++ t) same);
}

next : (bytes : List ℕ) (known : List Log) (count : ℕ) (left words rest : List ℕ) (read : HasRead bytes known count left) → left ≢ []
    → CutsLine left words rest → IsNext bytes (count + 1) words read.lines
next bytes known count left words rest read some cut = record {
  each = read.each;
  once = read.once;
  count = ap (λ (n : ℕ). n + 1) read.number;
  behind = behind bytes left words rest read.lines some read.whole cut;
}

pub refused : (A : Type 0) (bytes : List ℕ) (known now : List Log) (count : ℕ) (left words rest : List ℕ) (fault : LineFault) → HasRead bytes known count left
    → false ≡ nat_eq (length left) 0 → CutsLine left words rest → TakesLine words known now (Err fault) → ReadsLines {A = A} bytes (Err (fault_at fault (count + 1)))
refused A bytes known now count left words rest Malformed read some cut none = record {
  before = read.lines;
  words = words;
  next = next bytes known count left words rest read (not_empty left some) cut;
  no_line = none;
}
refused A bytes known now count left words rest Twice read some cut (k, gives, has) = record {
  before = read.lines;
  words = words;
  next = next bytes known count left words rest read (not_empty left some) cut;
  key = k;
  gives = gives;
  known = key_known (keys_in read.lines) k (subst (HasKey k) read.same has);
}
refused A bytes known now count left words rest OutOfMemory read some cut (k, gives) = record {
  before = read.lines;
  words = words;
  each = read.each;
  behind = behind bytes left words rest read.lines (not_empty left some) read.whole cut;
  key = k;
  gives = gives;
}
