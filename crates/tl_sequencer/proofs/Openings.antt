-- Laws of new lanes.
use Rattle.std.proofs.Common.{◌≡◌, ℕ, ◌+◌, ◌<◌, List, [], ◌∷◌, ◌++◌, length, get_or, map, None, Some, refl, sym, ◌∙◌, ap, arith}
use Rattle.std.specs.List.{All, range_with_len, slice_get}
use Rattle.std.proofs.lemmas.List.{length-append, length-map, map-append, get_or_append_left, get_or_at}
use Rattle.std.proofs.lemmas.List.Elements.{All-nil, All-push}
use Rattle.std.proofs.lemmas.Option.{slice_get_within, get_or_from_slice_get, slice_get-get_or}
use Rattle.tl_sequencer.specs.Log.{Ring, Lane, Sender}
use Rattle.tl_sequencer.specs.Inner.Lanes.{AreLanes, IsNewLane}
use Rattle.tl_sequencer.proofs.Rings.{range-more}

-- what is found in a list is found in a longer one
slice_get-more : {X : Type 0} (xs ys : List X) (k : ℕ) (x : X) → slice_get xs k ≡ Some x → slice_get (xs ++ ys) k ≡ Some x
slice_get-more xs ys k x at =
    let within : k < length xs = slice_get_within xs k x at in
    slice_get-get_or (xs ++ ys) k x (omega (arith, length-append xs ys)) ∙ ap Some (get_or_append_left xs ys x k within ∙ get_or_from_slice_get xs k x x at)

slice_get-last : {X : Type 0} (xs : List X) (y : X) (k : ℕ) → k ≡ length xs → slice_get (xs ++ y ∷ []) k ≡ Some y
slice_get-last xs y k is = slice_get-get_or (xs ++ y ∷ []) k y (omega (arith, length-append xs (y ∷ []))) ∙ ap Some (get_or_at xs y [] y k (sym is))

module _ {A : Type 0} where
  abbrev ring : Lane A → Ring A
  ring l = l.ring

  abbrev IsNew : Lane A → Type 0
  IsNew l = (l.given ≡ []) × (l.sent ≡ None)

  abbrev Has : List (Lane A) → Sender A → Type 0
  Has lanes s = slice_get (map ring lanes) s.lane ≡ Some s.ring

  pub AreLanes-none : (capacity limit : ℕ) → AreLanes {A = A} 0 capacity limit [] []
  AreLanes-none capacity limit = record { counted = refl; fresh = All-nil _; as_many = refl; order = refl; own = All-nil _; unsent = All-nil _ }

  -- a submitter keeps its ring if a lane is added
  has-more : (lanes : List (Lane A)) (x : Lane A) (submitters : List (Sender A)) → All (Has lanes) submitters → All (Has (lanes ++ x ∷ [])) submitters
  has-more lanes x submitters own k d in' =
      let s = get_or submitters k d in
      ap (λ rs. slice_get rs s.lane) (map-append ring lanes (x ∷ [])) ∙ slice_get-more (map ring lanes) (x.ring ∷ []) s.lane s.ring (own k d in')

  pub AreLanes-more : (count capacity limit : ℕ) (lanes : List (Lane A)) (submitters : List (Sender A)) (x : Lane A) (y : Sender A) → AreLanes count capacity limit lanes submitters → IsNewLane capacity limit count x y
      → AreLanes (count + 1) capacity limit (lanes ++ x ∷ []) (submitters ++ y ∷ [])
  AreLanes-more count capacity limit lanes submitters x y a new =
      let lane : y.lane ≡ count = ap (λ (s : Sender A). s.lane) new.1 in
      let counted : y.lane ≡ 0 + count = omega arith in
      let at : y.lane ≡ length (map ring lanes) = omega (arith, length-map lanes ring, a.counted) in
      let found : Has (lanes ++ x ∷ []) y =
      ap (λ rs. slice_get rs y.lane) (map-append ring lanes (x ∷ [])) ∙ slice_get-last (map ring lanes) x.ring y.lane at ∙ ap Some (ap ring new.0) in
      record {
        counted = omega (arith, length-append lanes (x ∷ []), a.counted);
        fresh = All-push IsNew lanes x a.fresh (ap (λ (l : Lane A). l.given) new.0, ap (λ (l : Lane A). l.sent) new.0);
        as_many = omega (arith, length-append submitters (y ∷ []), a.as_many);
        order = map-append (λ (s : Sender A). s.lane) submitters (y ∷ []) ∙ ap (λ l. l ++ y.lane ∷ []) a.order ∙ ap (λ k. range_with_len 0 count ++ k ∷ []) counted ∙ sym (range-more 0 count);
        own = All-push (Has (lanes ++ x ∷ [])) submitters y (has-more lanes x submitters a.own) found;
        unsent = All-push (λ (s : Sender A). (s.sent ≡ []) × (s.limit ≡ limit) × (s.room ≡ capacity)) submitters y a.unsent (ap (λ (s : Sender A). s.sent) new.1, ap (λ (s : Sender A). s.limit) new.1, ap (λ (s : Sender A). s.room) new.1);
      }
