-- One entry more is dealt.
use Rattle.std.proofs.Common.{inl, inr, ◌≡◌, ℕ, zero, suc, ◌+◌, ◌*◌, ◌<◌, ◌≤◌, List, [], ◌∷◌, ◌++◌, Some, None, length, get_or, set, replicate, refl, sym, ap, ◌∙◌, arith, subst, append-nil, length-set}
use Rattle.std.specs.Prelude.{map, slice_get, vec_items}
use Rattle.std.specs.declared.vec.Vec.{Vec}
use Rattle.std.proofs.lemmas.Bool.{cases_eq, cases_lt}
use Rattle.std.proofs.lemmas.List.{get_or-map, get_or-set_same, get_or-set_other, get_or-replicate, length-map, length-replicate, map-set, map_push, nil_from_length, replicate_more}
use Rattle.std.proofs.lemmas.Nat.{same_from_place, row_fits}
use Rattle.std.proofs.lemmas.Option.{slice_get_past}
use Rattle.tl_lines.specs.Dealt.{Deals}

-- no entry is dealt
pub none_dealt : {X : Type 0} (lanes : ℕ) → Deals {X = X} lanes [] (replicate lanes [])
none_dealt lanes = record {
  count = length-replicate lanes [];
  each = λ j k lt. ap (λ list. slice_get list k) (get_or-replicate lanes j [] [] lt);
}

-- what stands in a list with one element more
push_other : {X : Type 0} (xs : List X) (x : X) (i : ℕ) → (i ≡ length xs → ⊥) → slice_get (xs ++ x ∷ []) i ≡ slice_get xs i
push_other [] x zero other = absurd (other refl)
push_other [] x (suc i) other = refl
push_other (y ∷ xs) x zero other = refl
push_other (y ∷ xs) x (suc i) other = push_other xs x i (λ e. other (ap suc e))

push_last : {X : Type 0} (xs : List X) (x : X) → slice_get (xs ++ x ∷ []) (length xs) ≡ Some x
push_last [] x = refl
push_last (y ∷ xs) x = push_last xs x

-- a place with nothing is past the end of the list
past_none : {X : Type 0} (xs : List X) (i : ℕ) → slice_get xs i ≡ None → length xs ≤ i
past_none [] i none = omega arith
past_none (x ∷ xs) zero none = absurd cc
past_none (x ∷ xs) (suc i) none = omega (arith, past_none xs i none)

module _ {X : Type 0} (lanes : ℕ) (entries : List X) (lists : List (List X)) (x : X) (turn lane : ℕ) (dealt : Deals lanes entries lists) (place : length entries ≡ turn * lanes + lane) (within : lane < lanes) where
  abbrev own : List X
  own = get_or lists lane []

  -- each lane before this one has one entry more than this one
  length-own : length own ≡ turn
  length-own =
      let here : slice_get own turn ≡ None = dealt.each lane turn within ∙ slice_get_past entries (lane + turn * lanes) (omega (arith, place)) in
      let most : length own ≤ turn = past_none own turn here in
      elim (cases_lt (length own) turn) as (λ _. length own ≡ turn) [
        | inl few ↦
            let none : slice_get entries (lane + length own * lanes) ≡ None = sym (dealt.each lane (length own) within) ∙ slice_get_past own (length own) (omega arith) in
            let past : length entries ≤ lane + length own * lanes = past_none entries (lane + length own * lanes) none in
            let fits : length own * lanes + lanes ≤ turn * lanes = row_fits (length own) lanes turn lanes few (omega arith) in
            absurd (omega (arith, past, fits, place, within))
        | inr enough ↦ omega (arith, most, enough)
      ]

  own_more : (k : ℕ) → slice_get (own ++ x ∷ []) k ≡ slice_get (entries ++ x ∷ []) (lane + k * lanes)
  own_more k =
      elim (cases_eq k turn) as (λ _. slice_get (own ++ x ∷ []) k ≡ slice_get (entries ++ x ∷ []) (lane + k * lanes)) [
        | inl same ↦
            let first : k ≡ length own = same ∙ sym length-own in
            let all : lane + k * lanes ≡ length entries = ap (λ (n : ℕ). lane + n * lanes) same ∙ omega (arith, place) in
            ap (slice_get (own ++ x ∷ [])) first ∙ push_last own x ∙ sym (ap (slice_get (entries ++ x ∷ [])) all ∙ push_last entries x)
        | inr other ↦
            push_other own x k (λ e. other (e ∙ length-own)) ∙ dealt.each lane k within
            ∙ sym (push_other entries x (lane + k * lanes) (λ e. other ((same_from_place k lane turn lane lanes within within (omega (arith, e, place))).0)))
      ]

  pub dealt_more : Deals lanes (entries ++ x ∷ []) (set lists lane (own ++ x ∷ []))
  dealt_more = record {
    count = length-set lists lane (own ++ x ∷ []) ∙ dealt.count;
    each = λ j k lt.
        elim (cases_eq j lane) as (λ _. slice_get (get_or (set lists lane (own ++ x ∷ [])) j []) k ≡ slice_get (entries ++ x ∷ []) (j + k * lanes)) [
          | inl same ↦
              let here : get_or (set lists lane (own ++ x ∷ [])) j [] ≡ own ++ x ∷ [] =
              ap (λ (i : ℕ). get_or (set lists lane (own ++ x ∷ [])) i []) same ∙ get_or-set_same lists lane (own ++ x ∷ []) [] (omega (arith, within, dealt.count)) in
              ap (λ list. slice_get list k) here ∙ own_more k ∙ ap (λ (i : ℕ). slice_get (entries ++ x ∷ []) (i + k * lanes)) (sym same)
          | inr other ↦
              ap (λ list. slice_get list k) (get_or-set_other lists lane j (own ++ x ∷ []) [] other) ∙ dealt.each j k lt
              ∙ sym (push_other entries x (j + k * lanes) (λ e. other ((same_from_place k j turn lane lanes lt within (omega (arith, e, place))).1)))
        ];
  }

-- an entry is put behind the list of a lane
pub list_pushed : {X A : Type 0} (lanes : ℕ) (entries : List X) (lists : List (Vec X A)) (x : X) (old new : Vec X A) (turn lane : ℕ) → Deals lanes entries (map vec_items lists)
    → length entries ≡ turn * lanes + lane → lane < lanes → old ≡ get_or lists lane old → vec_items new ≡ vec_items old ++ x ∷ []
    → Deals lanes (entries ++ x ∷ []) (map vec_items (set lists lane new))
list_pushed lanes entries lists x old new turn lane dealt place within is pushed =
    let count : lane < length lists = omega (arith, within, dealt.count, length-map lists vec_items) in
    let own : get_or (map vec_items lists) lane [] ≡ vec_items old = get_or-map vec_items lists lane old [] count ∙ ap vec_items (sym is) in
    let joined : map vec_items (set lists lane new) ≡ set (map vec_items lists) lane (get_or (map vec_items lists) lane [] ++ x ∷ []) =
    map-set vec_items lists lane new ∙ ap (λ list. set (map vec_items lists) lane list) (pushed ∙ ap (λ list. list ++ x ∷ []) (sym own)) in
    subst (λ ls. Deals lanes (entries ++ x ∷ []) ls) (sym joined) (dealt_more lanes entries (map vec_items lists) x turn lane dealt place within)

-- one list more has no entry
pub one_more_empty : {X A : Type 0} (lists more : List (Vec X A)) (list : Vec X A) (n : ℕ) → map vec_items lists ≡ replicate n []
    → more ≡ lists ++ list ∷ [] → vec_items list ≡ [] → map vec_items more ≡ replicate (n + 1) []
one_more_empty {X = X} lists more list n so_far pushed empty =
    ap (map vec_items) pushed ∙ (map_push vec_items lists list
    ∙ (ap (λ (l : List X). map vec_items lists ++ l ∷ []) empty ∙ (ap (λ (ls : List (List X)). ls ++ [] ∷ []) so_far ∙ replicate_more n [])))

-- if there is no lane
pub no_lane : {X : Type 0} (lanes : ℕ) (entries : List X) (lists : List (List X)) → lanes ≡ 0 → lists ≡ replicate lanes [] → Deals lanes entries lists
no_lane lanes entries lists none made = record {
  count = ap length made ∙ length-replicate lanes [];
  each = λ j k lt. absurd (omega (arith, lt, none));
}

-- no entry is left
pub all_dealt : {X : Type 0} (lanes len : ℕ) (entries dealt rest : List X) (lists : List (List X)) → Deals lanes dealt lists
    → dealt ++ rest ≡ entries → len ≡ length rest → len ≡ 0 → Deals lanes entries lists
all_dealt {X = X} lanes len entries dealt rest lists so_far all is none =
    let nothing = nil_from_length rest (sym is ∙ none) in
    let same : dealt ≡ entries = sym (append-nil dealt) ∙ (ap (λ (l : List X). dealt ++ l) (sym nothing) ∙ all) in
    subst (λ (l : List X). Deals lanes l lists) same so_far
