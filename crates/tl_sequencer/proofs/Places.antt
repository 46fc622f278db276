-- Laws of the places of each lane's entries.
use Rattle.std.proofs.Common.{◌≡◌, ◌≢◌, ℕ, zero, suc, ◌+◌, ◌<◌, ◌≤◌, ◌==◌, Bool, true, false, cond, List, [], ◌∷◌, ◌++◌, length, take, replicate, get_or, set, map, vec_items, Option, Some, refl, sym, ◌∙◌, ap, subst, arith, ⊎_elim}
use Rattle.std.specs.Prelude.{count_by}
use Rattle.std.specs.List.{range_with_len, slice_get}
use Rattle.std.specs.declared.vec.Vec.{Vec}
use Rattle.std.proofs.lemmas.Bool.{cases_eq, eqb-true}
use Rattle.std.proofs.lemmas.List.{append-nil, length-map, get_or-map, get_or_past, get_or-set_same, get_or-set_other}
use Rattle.std.proofs.lemmas.List.Sums.{sum_by-cons}
use Rattle.std.proofs.lemmas.Option.{none-some, slice_get-get_or}
use Rattle.tl_sequencer.specs.Merge.{of_lane}
use Rattle.tl_sequencer.specs.Places.{places_of, ArePlaces}

-- how many of the first k are of the lane
abbrev before : ℕ → List ℕ → ℕ → ℕ
before lane who k = count_by (λ w. w == lane) (take k who)

before-suc : (lane w : ℕ) (who : List ℕ) (k : ℕ) → before lane (w ∷ who) (suc k) ≡ cond (w == lane) 1 0 + before lane who k
before-suc lane w who k = sum_by-cons (λ x. cond (x == lane) 1 0) w (take k who)

-- the place is that of the lane's entry of this number
pub record Found (lane first : ℕ) (who : List ℕ) (number place : ℕ) : Type 0 where
  pub k : ℕ
  pub at : place ≡ first + k
  pub is : slice_get who k ≡ Some lane
  pub numbered : before lane who k ≡ number

found-step : (lane first w : ℕ) (who : List ℕ) (place : ℕ) (b : Bool) → (w == lane) ≡ b
    → ((n : ℕ) → slice_get (places_of lane (first + 1) who) n ≡ Some place → Found lane (first + 1) who n place)
    → (number : ℕ) → slice_get (cond b (first ∷ places_of lane (first + 1) who) (places_of lane (first + 1) who)) number ≡ Some place → Found lane first (w ∷ who) number place
found-step lane first w who place true t more zero e =
    let same : first ≡ place = cc in
    record { k = 0; at = omega arith; is = ap Some (eqb-true w lane t); numbered = refl }
found-step lane first w who place true t more (suc m) e =
    let f = more m e in
    let n = before-suc lane w who f.k ∙ ap (λ b. cond b 1 0 + before lane who f.k) t in
    record { k = suc f.k; at = omega (arith, f.at); is = f.is; numbered = omega (arith, n, f.numbered) }
found-step lane first w who place false t more number e =
    let f = more number e in
    let n = before-suc lane w who f.k ∙ ap (λ b. cond b 1 0 + before lane who f.k) t in
    record { k = suc f.k; at = omega (arith, f.at); is = f.is; numbered = omega (arith, n, f.numbered) }

pub place-found : (lane first : ℕ) (who : List ℕ) (number place : ℕ) → slice_get (places_of lane first who) number ≡ Some place → Found lane first who number place
place-found lane first [] number place e = absurd (none-some place e)
place-found lane first (w ∷ who) number place e =
    found-step lane first w who place (w == lane) refl (λ n h. place-found lane (first + 1) who n place h) number e

length-cond : (b : Bool) (x : ℕ) (xs : List ℕ) (n : ℕ) → length xs ≡ n → length (cond b (x ∷ xs) xs) ≡ cond b 1 0 + n
length-cond true x xs n e = omega arith
length-cond false x xs n e = omega arith

pub length-places : (lane first : ℕ) (who : List ℕ) → length (places_of lane first who) ≡ count_by (λ w. w == lane) who
length-places lane first [] = refl
length-places lane first (w ∷ who) =
    length-cond (w == lane) first (places_of lane (first + 1) who) (count_by (λ w. w == lane) who) (length-places lane (first + 1) who) ∙ sym (sum_by-cons (λ x. cond (x == lane) 1 0) w who)

cond-append : (b : Bool) (x : ℕ) (xs ys : List ℕ) → (cond b (x ∷ (xs ++ ys)) (xs ++ ys)) ≡ (cond b (x ∷ xs) xs) ++ ys
cond-append true x xs ys = refl
cond-append false x xs ys = refl

places_of-append : (lane first : ℕ) (who who' : List ℕ) → places_of lane first (who ++ who') ≡ places_of lane first who ++ places_of lane (first + length who) who'
places_of-append lane first [] who' = let e : first ≡ first + 0 = omega arith in ap (λ k. places_of lane k who') e
places_of-append lane first (w ∷ who) who' =
    let e : first + 1 + length who ≡ first + length (w ∷ who) = omega arith in
    ap (λ l. cond (w == lane) (first ∷ l) l) (places_of-append lane (first + 1) who who' ∙ ap (λ k. places_of lane (first + 1) who ++ places_of lane k who') e)
    ∙ cond-append (w == lane) first (places_of lane (first + 1) who) (places_of lane (first + length (w ∷ who)) who')

places_of-same : (lane first n : ℕ) → places_of lane first (replicate n lane) ≡ range_with_len first n
places_of-same lane first zero = refl
places_of-same lane first (suc n) =
    let t : (lane == lane) ≡ true = grind arith in
    ap (λ b. cond b (first ∷ places_of lane (first + 1) (replicate n lane)) (places_of lane (first + 1) (replicate n lane))) t ∙ ap (λ l. first ∷ l) (places_of-same lane (first + 1) n)

places_of-other : (lane other : ℕ) → other ≢ lane → (first n : ℕ) → places_of lane first (replicate n other) ≡ []
places_of-other lane other apart first zero = refl
places_of-other lane other apart first (suc n) =
    let t : (other == lane) ≡ false = grind arith in
    ap (λ b. cond b (first ∷ places_of lane (first + 1) (replicate n other)) (places_of lane (first + 1) (replicate n other))) t ∙ places_of-other lane other apart (first + 1) n

get_or-replicated : (n lane : ℕ) → let none : List ℕ = [] in none ≡ get_or (replicate n none) lane none
get_or-replicated zero lane = refl
get_or-replicated (suc n) zero = refl
get_or-replicated (suc n) (suc lane) = get_or-replicated n lane

-- in a new log no lane stands anywhere
pub ArePlaces-none : (places : List (List ℕ)) (n : ℕ) (who : List ℕ) → who ≡ [] → places ≡ replicate n [] → ArePlaces places who
ArePlaces-none places n who w p = rw (w, p) (λ lane. get_or-replicated n lane)

-- more entries of one lane
pub ArePlaces-more : (places : List (List ℕ)) (who : List ℕ) (lane n : ℕ) (kept : List ℕ) → lane < length places → kept ≡ get_or places lane [] ++ range_with_len (length who) n
    → ArePlaces places who → ArePlaces (set places lane kept) (who ++ replicate n lane)
ArePlaces-more places who lane n kept in' is was k = places_of-append k 0 who (replicate n lane) ∙ ⊎_elim
    (λ (same : k ≡ lane).
    ap (λ l. l ++ places_of k (0 + length who) (replicate n lane)) (was k)
    ∙ subst (λ (j : ℕ). get_or places j [] ++ places_of j (0 + length who) (replicate n lane) ≡ get_or (set places lane kept) j []) (sym same)
    (let e : 0 + length who ≡ length who = omega arith in
    ap (λ l. get_or places lane [] ++ l) (places_of-same lane (0 + length who) n ∙ ap (λ j. range_with_len j n) e) ∙ sym is ∙ sym (get_or-set_same places lane kept [] in')))
    (λ (apart : k ≢ lane).
    ap (λ l. l ++ places_of k (0 + length who) (replicate n lane)) (was k) ∙ ap (λ l. get_or places k [] ++ l) (places_of-other k lane (λ e. apart (sym e)) (0 + length who) n) ∙ append-nil (get_or places k [])
    ∙ sym (get_or-set_other places lane k kept [] apart))
    (cases_eq k lane)

-- the entry that stands there is the lane's own entry of this number
own-step : (lane w : ℕ) (b : Bool) (e : List ℕ) (rest : List (List ℕ)) (n : ℕ) (x : Option (List ℕ)) → x ≡ slice_get rest n → x ≡ slice_get (cond b (e ∷ rest) rest) (cond b 1 0 + n)
own-step lane w true e rest n x is = let s : 1 + n ≡ suc n = omega arith in is ∙ ap (λ k. slice_get (e ∷ rest) k) (sym s)
own-step lane w false e rest n x is = let s : 0 + n ≡ n = omega arith in is ∙ ap (λ k. slice_get rest k) (sym s)

pub own-entry : (lane : ℕ) (who : List ℕ) (entries : List (List ℕ)) (k : ℕ) → length who ≡ length entries → slice_get who k ≡ Some lane → slice_get entries k ≡ slice_get (of_lane lane who entries) (before lane who k)
own-entry lane [] entries k is at = absurd (none-some lane at)
own-entry lane (w ∷ who) [] k is at = cc
own-entry lane (w ∷ who) (e ∷ entries) zero is at =
    let w-is : w ≡ lane = cc in
    let t : (w == lane) ≡ true = grind arith in
    sym (ap (λ b. slice_get (cond b (e ∷ of_lane lane who entries) (of_lane lane who entries)) 0) t)
own-entry lane (w ∷ who) (e ∷ entries) (suc k) is at =
    own-step lane w (w == lane) e (of_lane lane who entries) (before lane who k) (slice_get entries k) (own-entry lane who entries k (omega arith) at)
    ∙ ap (λ n. slice_get (of_lane lane (w ∷ who) (e ∷ entries)) n) (sym (before-suc lane w who k))

pub slice_get-after : {X : Type 0} (xs ys : List X) (k : ℕ) → slice_get (xs ++ ys) (length xs + k) ≡ slice_get ys k
slice_get-after [] ys k = let e : 0 + k ≡ k = omega arith in ap (λ n. slice_get ys n) e
slice_get-after (x ∷ xs) ys k = let e : length (x ∷ xs) + k ≡ suc (length xs + k) = omega arith in ap (λ n. slice_get (x ∷ (xs ++ ys)) n) e ∙ slice_get-after xs ys k

module _ {A : Type 0} (places : List (Vec ℕ A)) (who : List ℕ) (kept : ArePlaces (map vec_items places) who) (lane number : ℕ) where
  kept-at : (v : Vec ℕ A) → lane < length places → v ≡ get_or places lane v → places_of lane 0 who ≡ v.items
  kept-at v in' at = kept lane ∙ get_or-map vec_items places lane v [] in' ∙ sym (ap vec_items at)

  pub found-place : (v : Vec ℕ A) (place : ℕ) → lane < length places → v ≡ get_or places lane v → number < length v.items → place ≡ get_or v.items number place → Found lane 0 who number place
  found-place v place in' at within is =
      place-found lane 0 who number place (ap (λ l. slice_get l number) (kept-at v in' at) ∙ slice_get-get_or v.items number place within ∙ ap Some (sym is))

  pub no-lane : length places ≤ lane → count_by (λ w. w == lane) who ≤ number
  no-lane past = let e = ap length (kept lane ∙ get_or_past (map vec_items places) lane [] (omega (arith, length-map places vec_items))) in omega (arith, length-places lane 0 who)

  pub no-number : (v : Vec ℕ A) → lane < length places → v ≡ get_or places lane v → length v.items ≤ number → count_by (λ w. w == lane) who ≤ number
  no-number v in' at past = let e = ap length (kept-at v in' at) in omega (arith, length-places lane 0 who)

-- the entry at that place of the log is the lane's own entry of this number
pub found-entry : (lane number place at : ℕ) (who : List ℕ) (base taken : List (List ℕ)) → length who ≡ length taken → Found lane 0 who number place → at ≡ length base + place
    → slice_get (base ++ taken) at ≡ slice_get (of_lane lane who taken) number
found-entry lane number place at who base taken many f is =
    let there : at ≡ length base + f.k = omega (arith, f.at) in
    ap (λ n. slice_get (base ++ taken) n) there ∙ slice_get-after base taken f.k ∙ own-entry lane who taken f.k many f.is ∙ ap (λ n. slice_get (of_lane lane who taken) n) f.numbered
