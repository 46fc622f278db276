-- Reading a list of logs, one line after the other.
use Rattle.std.proofs.Common.{◌≡◌, ◌≢◌, ℕ, ◌+◌, true, false, List, [], ◌∷◌, ◌++◌, length, refl, sym, ap, subst, ◌∙◌, append_assoc, append-nil, arith, All, Option, Some, None, Ok, Err, inl, inr}
use Rattle.std.specs.Prelude.{◌==◌, ◌↔◌, IsTrue, bytes_eq, nat_eq}
use Rattle.std.specs.Option.{option_to_list}
use Rattle.std.proofs.lemmas.Bool.{eqb-true, ne_eqb}
use Rattle.std.proofs.lemmas.List.{map-append}
use Rattle.std.proofs.lemmas.List.Elements.{All-nil, All-push, All-weaker}
use Rattle.std.proofs.lemmas.List.Splits.{slice_split_at, slice_split_none}
use Rattle.std.proofs.lemmas.Slice.Eq.{bytes_eq-Decides}
use Rattle.tl_logs.specs.LogsFile.{HasEachOnce, IsInOneLine, Log, logs}
use Rattle.tl_logs.specs.LogList.{Entry, IsListed, Listed, ended, entries, entries_from, entries_in, given_in, lines_of, opened}
use Rattle.tl_logs.specs.ReadLogs.{AreListed, Begins, ReadsList}
use Rattle.tl_logs.specs.declared.fault.LogsFault.{LogsFault}
use Rattle.tl_logs.specs.declared.fault.LogsFault.TheVariants as why
use Rattle.tl_logs.specs.Inner.Lines.{CutsLine}
use Rattle.tl_logs.specs.Inner.Listing.{TakesEntry}
use Rattle.tl_logs.specs.Inner.Placing.{HasKey, PutsKey}
use Rattle.tl_logs.proofs.Grouping.{Grouped, grouped_none, grouped_more, puts_more, key_known, once_puts}

-- ---- lines

plain_false : (words : List ℕ) → IsInOneLine words → All (λ byte. (byte == 10) ≡ false) words
plain_false words one = All-weaker (λ byte. byte ≢ 10) (λ byte. (byte == 10) ≡ false) (λ byte other. ne_eqb byte 10 other) words one

lines_cut : (words rest : List ℕ) → IsInOneLine words → lines_of (words ++ 10 ∷ rest) ≡ words ∷ lines_of rest
lines_cut words rest one = slice_split_at (λ byte. byte == 10) words 10 rest (plain_false words one) refl

line_alone : (words : List ℕ) → IsInOneLine words → lines_of words ≡ words ∷ []
line_alone words one = slice_split_none (λ byte. byte == 10) words (plain_false words one)

-- the first line is that of the file
first_line : (bytes words rest : List ℕ) → CutsLine bytes words rest → (more : List (List ℕ)) × (lines_of bytes ≡ words ∷ more)
first_line bytes words rest (one, inl cut) = (lines_of rest, ap lines_of cut ∙ lines_cut words rest one)
first_line bytes words rest (one, inr (same, none)) = ([], ap lines_of same ∙ line_alone words one)

-- an empty last line says nothing
at_end : (waiting : Option Entry) (number : ℕ) (left : List ℕ) → true ≡ nat_eq (length left) 0 → entries_from waiting number (lines_of left) ≡ option_to_list waiting ++ []
at_end waiting number (b ∷ left) none = absurd (let zero : length (b ∷ left) ≡ 0 = eqb-true (length (b ∷ left)) 0 (sym none) in omega (arith, zero))
at_end waiting number [] none = sym (append-nil (option_to_list waiting))

-- what the first line says, and the others
one_line : (waiting : Option Entry) (number : ℕ) (left words rest : List ℕ) → CutsLine left words rest
    → entries_from waiting number (lines_of left) ≡ option_to_list (ended waiting number words) ++ entries_from (opened waiting number words) (number + 1) (lines_of rest)
one_line waiting number left words rest (one, inl cut) = ap (entries_from waiting number) (ap lines_of cut ∙ lines_cut words rest one)
one_line waiting number left words rest (one, inr (same, none)) =
    ap (entries_from waiting number) (ap lines_of same ∙ line_alone words one)
    ∙ ap (λ (t : List ℕ). option_to_list (ended waiting number words) ++ entries_from (opened waiting number words) (number + 1) (lines_of t)) (sym none)

-- ---- the logs that were taken

-- these logs are those that the list says first, and these others are to come
pub record HasTaken (bytes : List ℕ) (known : List Log) (others : List Entry) : Type 0 where
  pub listed : List Listed
  pub begins : Begins bytes listed others
  pub grouped : Grouped (given_in listed)
  pub same : known ≡ logs (given_in listed)

pub took_none : (bytes : List ℕ) → HasTaken bytes [] (entries bytes)
took_none bytes = record {
  listed = [];
  begins = record { each = All-nil IsListed; once = All-nil HasEachOnce; joined = refl };
  grouped = grouped_none;
  same = refl;
}

-- a line more is read: the log that it ends, if it ends one, is the next to be taken
pub took_line : (bytes : List ℕ) (known : List Log) (waiting e next : Option Entry) (number : ℕ) (left words rest : List ℕ) → HasTaken bytes known (entries_from waiting number (lines_of left))
    → CutsLine left words rest → e ≡ ended waiting number words → next ≡ opened waiting number words → HasTaken bytes known (option_to_list e ++ entries_from next (number + 1) (lines_of rest))
took_line bytes known waiting e next number left words rest took cut ends opens =
    rw (ends, opens) (subst (HasTaken bytes known) (one_line waiting number left words rest cut) took)

-- nothing is left: the log that is waiting is the last one
pub took_last : (bytes : List ℕ) (known : List Log) (waiting : Option Entry) (number : ℕ) (left : List ℕ) → HasTaken bytes known (entries_from waiting number (lines_of left))
    → true ≡ nat_eq (length left) 0 → HasTaken bytes known (option_to_list waiting ++ [])
took_last bytes known waiting number left took none = subst (HasTaken bytes known) (at_end waiting number left none) took

pub took_more : (bytes : List ℕ) (known new : List Log) (e : Option Entry) (others : List Entry) → HasTaken bytes known (option_to_list e ++ others) → TakesEntry e known new (Ok tt) → HasTaken bytes new others
took_more bytes known new None others took now = record { listed = took.listed; begins = took.begins; grouped = took.grouped; same = now ∙ took.same }
took_more bytes known new (Some e) others took (k, is, puts) =
    let l : Listed = record { entry = e; gives = k } in
    let one : given_in (took.listed ++ l ∷ []) ≡ given_in took.listed ++ k ∷ [] = map-append (λ (m : Listed). m.gives) took.listed (l ∷ []) in
    let said : entries_in (took.listed ++ l ∷ []) ≡ entries_in took.listed ++ e ∷ [] = map-append (λ (m : Listed). m.entry) took.listed (l ∷ []) in
    let put : PutsKey k (logs (given_in took.listed)) new = subst (λ (old : List Log). PutsKey k old new) took.same puts in
    let now : new ≡ logs (given_in took.listed ++ k ∷ []) = puts_more (given_in took.listed) k new took.grouped put in
    record {
      listed = took.listed ++ l ∷ [];
      begins = record {
        each = All-push IsListed took.listed l took.begins.each is;
        once = subst (All HasEachOnce) (now ∙ ap logs (sym one)) (once_puts k (logs (given_in took.listed)) new took.begins.once put);
        joined = took.begins.joined ∙ sym (append_assoc (entries_in took.listed) (e ∷ []) others) ∙ ap (λ (t : List Entry). t ++ others) (sym said);
      };
      grouped = subst Grouped (sym one) (grouped_more (given_in took.listed) k took.grouped);
      same = now ∙ ap logs (sym one);
    }

-- the next one isn't taken
pub took_refused : (A : Type 0) (bytes : List ℕ) (known now : List Log) (e : Option Entry) (others : List Entry) (fault : LogsFault) → HasTaken bytes known (option_to_list e ++ others)
    → TakesEntry e known now (Err fault) → ReadsList {A = A} bytes (Err fault)
took_refused A bytes known now None others fault took none = absurd none
took_refused A bytes known now (Some e) others (why.Malformed number) took (line, none) = record {
  listed = took.listed;
  entry = e;
  next = record { others = others; begins = took.begins; line = line };
  none = none;
}
took_refused A bytes known now (Some e) others (why.Twice number) took (line, (k, is, has)) = record {
  listed = took.listed;
  entry = e;
  next = record { others = others; begins = took.begins; line = line };
  key = k;
  is = is;
  known = key_known (given_in took.listed) k (subst (HasKey k) took.same has);
}
took_refused A bytes known now (Some e) others why.OutOfMemory took (k, is) = record {
  listed = took.listed;
  entry = e;
  next = record { others = others; begins = took.begins; line = refl };
  key = k;
  is = is;
}

pub took_all : (bytes : List ℕ) (known : List Log) → HasTaken bytes known [] → AreListed bytes known
took_all bytes known took = record { listed = took.listed; all = took.begins; same = took.same }

-- ---- a file that is a list

same_first : (x y : List ℕ) (xs ys : List (List ℕ)) → x ∷ xs ≡ y ∷ ys → x ≡ y
same_first x y xs ys e = cc

-- the first line is this one
pub begins_with : (bytes words rest head : List ℕ) → CutsLine bytes words rest → IsTrue (bytes_eq words head) ↔ ((more : List (List ℕ)) × (lines_of bytes ≡ head ∷ more))
begins_with bytes words rest head cut =
    let first = first_line bytes words rest cut in (
      λ same. (first.0, first.1 ∙ ap (λ (w : List ℕ). w ∷ first.0) ((bytes_eq-Decides words head).0 same)),
      λ is. (bytes_eq-Decides words head).1 (same_first words head first.0 is.0 (sym first.1 ∙ is.1)),
    )
