-- Values of fields, one field after another.
use Rattle.std.proofs.Common.{◌≡◌, ◌-◌, ◌<◌, ℕ, List, [], ◌∷◌, Bool, true, false, length, take, drop, map, slice_index_or, ap, sym, ◌∙◌, refl, arith, cond}
use Rattle.std.specs.Bool.{Decides}
use Rattle.std.specs.Prelude.{filter}
use Rattle.std.specs.Str.{str_eq_ignore_ascii_case}
use Rattle.std.proofs.lemmas.List.{take_all}
use Rattle.httparse.specs.declared.spans.HeaderSpan.{HeaderSpan}
use Rattle.tl_http.specs.FieldValues.{values_of}

-- a span that covers nothing
abbrev pub no_span : HeaderSpan
no_span = record { name = record { start = 0; end = 0 }; value = record { start = 0; end = 0 } }

-- the first field has another name
pub values_skip : (f : HeaderSpan → List ℕ × List ℕ) (name : List ℕ) (hs : List HeaderSpan) (d : HeaderSpan) → 0 < length hs
    → str_eq_ignore_ascii_case (f (slice_index_or hs 0 d)).0 name ≡ false
    → values_of name (map f hs) ≡ values_of name (map f (take (length hs - 1) (drop 1 hs)))
values_skip f name [] d some off = absurd (omega arith)
values_skip f name (h ∷ hs) d some off =
    let all : take (length (h ∷ hs) - 1) hs ≡ hs = take_all (length (h ∷ hs) - 1) hs (omega arith) in
    ap (λ (b : Bool). map (λ (x : List ℕ × List ℕ). x.1) (cond b (f h ∷ filter (λ (x : List ℕ × List ℕ). str_eq_ignore_ascii_case x.0 name) (map f hs)) (filter (λ (x : List ℕ × List ℕ). str_eq_ignore_ascii_case x.0 name) (map f hs)))) off
    ∙ ap (λ (l : List HeaderSpan). values_of name (map f l)) (sym all)

-- the first field has this name
pub values_keep : (f : HeaderSpan → List ℕ × List ℕ) (name : List ℕ) (hs : List HeaderSpan) (d : HeaderSpan) → 0 < length hs
    → str_eq_ignore_ascii_case (f (slice_index_or hs 0 d)).0 name ≡ true
    → values_of name (map f hs) ≡ (f (slice_index_or hs 0 d)).1 ∷ values_of name (map f (take (length hs - 1) (drop 1 hs)))
values_keep f name [] d some on = absurd (omega arith)
values_keep f name (h ∷ hs) d some on =
    let all : take (length (h ∷ hs) - 1) hs ≡ hs = take_all (length (h ∷ hs) - 1) hs (omega arith) in
    ap (λ (b : Bool). map (λ (x : List ℕ × List ℕ). x.1) (cond b (f h ∷ filter (λ (x : List ℕ × List ℕ). str_eq_ignore_ascii_case x.0 name) (map f hs)) (filter (λ (x : List ℕ × List ℕ). str_eq_ignore_ascii_case x.0 name) (map f hs)))) on
    ∙ ap (λ (l : List HeaderSpan). (f h).1 ∷ values_of name (map f l)) (sym all)

-- two tests of one fact agree
pub same_test : (r s : Bool) {P : Type 0} → (r ≡ true → P) → (P → r ≡ true) → Decides s P → r ≡ s
same_test true s to from d = sym (d.1 (to refl))
same_test false true to from d = from (d.0 refl)
same_test false false to from d = refl
