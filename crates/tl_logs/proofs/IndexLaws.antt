-- An index of origins stays one when the list grows.
use Rattle.std.proofs.Common.{◌≡◌, ◌≢◌, ℕ, zero, suc, ◌<◌, Bool, true, false, cond, List, [], ◌∷◌, ◌++◌, length, map, Some, None, ◌⊎◌, inl, inr, refl, sym, ap, subst, ◌∙◌, arith, slice_get}
use Rattle.std.specs.Prelude.{bytes_eq, slice_set}
use Rattle.std.specs.Option.{option_map}
use Rattle.std.proofs.lemmas.List.{map-append, length-map}
use Rattle.std.proofs.lemmas.Option.{slice_get-map, slice_get_within}
use Rattle.std.proofs.lemmas.Slice.Eq.{bytes_eq-Decides}
use Rattle.tl_key.specs.NoteKey.{PublicKey}
use Rattle.tl_logs.specs.LogsFile.{Log, LogKey, log}
use Rattle.tl_logs.specs.Inner.ByOrigin.{Index, Indexes, PutsOrigin, log_origins}
use Rattle.tl_logs.specs.Inner.Placing.{PutsKey}
use Rattle.tl_logs.proofs.ListLaws.{shown_twice}

-- for no origins no position is known
pub indexes_none : (index : Index) → ((o : List ℕ) → index o ≡ None) → Indexes index []
indexes_none index none = record {
  found = λ o i there. absurd (let no : None ≡ Some i = sym (none o) ∙ there in cc);
  absent = λ o i out there. absurd cc;
}

-- ---- one origin more

at_end : {A : Type 0} (xs : List A) (y : A) → slice_get (xs ++ y ∷ []) (length xs) ≡ Some y
at_end [] y = refl
at_end (x ∷ xs) y = at_end xs y

before_end : {A : Type 0} (xs : List A) (y z : A) (i : ℕ) → slice_get xs i ≡ Some z → slice_get (xs ++ y ∷ []) i ≡ Some z
before_end [] y z i there = absurd cc
before_end (x ∷ xs) y z zero there = there
before_end (x ∷ xs) y z (suc i) there = before_end xs y z i there

end_or_before : {A : Type 0} (xs : List A) (y z : A) (i : ℕ) → slice_get (xs ++ y ∷ []) i ≡ Some z → (slice_get xs i ≡ Some z) ⊎ (y ≡ z)
end_or_before [] y z zero there = inr cc
end_or_before [] y z (suc i) there = absurd cc
end_or_before (x ∷ xs) y z zero there = inl there
end_or_before (x ∷ xs) y z (suc i) there = end_or_before xs y z i there

pub indexes_more : (index new : Index) (origins : List (List ℕ)) (origin : List ℕ) (place : ℕ) → place ≡ length origins → Indexes index origins → PutsOrigin origin place index new → Indexes new (origins ++ origin ∷ [])
indexes_more index new origins origin place last is puts = record { found = found; absent = absent }
  where
    found : (o : List ℕ) (i : ℕ) → new o ≡ Some i → slice_get (origins ++ origin ∷ []) i ≡ Some o
    found o i there = go (bytes_eq origin o) refl
      where
        go : (b : Bool) → bytes_eq origin o ≡ b → slice_get (origins ++ origin ∷ []) i ≡ Some o
        go true e =
            let same : origin ≡ o = (bytes_eq-Decides origin o).0 e in
            let at : Some place ≡ Some i = ap (λ (c : Bool). cond c (Some place) (index o)) (sym e) ∙ (sym (puts o) ∙ there) in
            let i_is : length origins ≡ i = sym last ∙ cc in
            subst (λ (n : ℕ). slice_get (origins ++ origin ∷ []) n ≡ Some o) i_is (at_end origins origin ∙ ap (λ (x : List ℕ). Some x) same)
        go false e = before_end origins origin o i (is.found o i (ap (λ (c : Bool). cond c (Some place) (index o)) (sym e) ∙ (sym (puts o) ∙ there)))

    absent : (o : List ℕ) (i : ℕ) → new o ≡ None → slice_get (origins ++ origin ∷ []) i ≢ Some o
    absent o i out there = go (bytes_eq origin o) refl
      where
        go : (b : Bool) → bytes_eq origin o ≡ b → ⊥
        go true e =
            let no : Some place ≡ None = ap (λ (c : Bool). cond c (Some place) (index o)) (sym e) ∙ (sym (puts o) ∙ out) in
            absurd cc
        go false e =
            let before : index o ≡ None = ap (λ (c : Bool). cond c (Some place) (index o)) (sym e) ∙ (sym (puts o) ∙ out) in
            elim (end_or_before origins origin o i there) [
              | inl earlier ↦ is.absent o i before earlier
              | inr same ↦ let no : true ≡ false = sym ((bytes_eq-Decides origin o).1 same) ∙ e in absurd cc
            ]

-- ---- one key more

some_one : {A : Type 0} (x y : A) → Some x ≡ Some y → x ≡ y
some_one x y e = cc

-- a key that is appended to others changes no origin
origins_kept : (old : List Log) (place : ℕ) (origin : List ℕ) (before after : List PublicKey) → slice_get old place ≡ Some (log origin before) → log_origins (slice_set old place (log origin after)) ≡ log_origins old
origins_kept [] place origin before after there = absurd cc
origins_kept (c ∷ old) zero origin before after there = let same : c.origin ≡ origin = ap (λ (c : Log). c.origin) (some_one c (log origin before) there) in ap (λ (p : List ℕ). p ∷ log_origins old) (sym same)
origins_kept (c ∷ old) (suc place) origin before after there = ap (λ (os : List (List ℕ)). c.origin ∷ os) (origins_kept old place origin before after there)

origins_grown : (old : List Log) (origin : List ℕ) (keys : List PublicKey) → log_origins (old ++ log origin keys ∷ []) ≡ log_origins old ++ origin ∷ []
origins_grown old origin keys = map-append (λ (c : Log). c.origin) old (log origin keys ∷ [])

-- ---- a list of logs, seen through a view

module _ {A : Type 0} (view : A → Log) (xs : List A) (index : Index) (origin : List ℕ) (is : Indexes index (log_origins (map view xs))) where
  named_so : map (λ (x : A). (view x).origin) xs ≡ log_origins (map view xs)
  named_so = shown_twice view (λ (c : Log). c.origin) (λ (x : A). (view x).origin) xs (λ x. refl)

  -- the place that the index gives is one of this origin
  pub known_there : (place : ℕ) → Some place ≡ index origin → slice_get (map (λ (x : A). (view x).origin) xs) place ≡ Some origin
  known_there place found =
      let there : slice_get (log_origins (map view xs)) place ≡ Some origin = is.found origin place (sym found) in
      ap (λ (os : List (List ℕ)). slice_get os place) named_so ∙ there

  pub known_within : (place : ℕ) → Some place ≡ index origin → place < length xs
  known_within place found = let within = slice_get_within (map (λ (x : A). (view x).origin) xs) place origin (known_there place found) in omega (arith, within, length-map xs (λ (x : A). (view x).origin))

  -- if the index gives none, there is none
  pub unknown_there : None ≡ index origin → (place : ℕ) → slice_get (log_origins (map view xs)) place ≢ Some origin
  unknown_there none place there = is.absent origin place (sym none) there

-- the index still fits when a key is appended to others
pub indexed_known : (index : Index) (k : LogKey) (old new : List Log) (place : ℕ) → Indexes index (log_origins old) → Some place ≡ index k.origin → PutsKey k old new → Indexes index (log_origins new)
indexed_known index k old new place is found (inl (at, before, there, apart, now)) =
    subst (Indexes index) (sym (ap log_origins now ∙ origins_kept old at k.origin before (before ++ k.key ∷ []) there)) is
indexed_known index k old new place is found (inr (none, now)) =
    absurd (none place (is.found k.origin place (sym found)))

-- or begins a log
pub indexed_new : (index next : Index) (k : LogKey) (old new : List Log) (place : ℕ) → Indexes index (log_origins old) → None ≡ index k.origin → place ≡ length old → PutsOrigin k.origin place index next → PutsKey k old new → Indexes next (log_origins new)
indexed_new index next k old new place is unknown last puts (inl (at, before, there, apart, now)) =
    absurd (is.absent k.origin at (sym unknown) (slice_get-map (λ (c : Log). c.origin) old at ∙ ap (option_map (λ (c : Log). c.origin)) there))
indexed_new index next k old new place is unknown last puts (inr (none, now)) =
    subst (Indexes next) (sym (ap log_origins now ∙ origins_grown old k.origin (k.key ∷ [])))
    (indexes_more index next (log_origins old) k.origin place (last ∙ sym (length-map old (λ (c : Log). c.origin))) is puts)
