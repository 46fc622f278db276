-- Laws of what the fields of an intake hold.
use Rattle.std.proofs.Common.{◌≡◌, ℕ, ◌+◌, ◌-◌, ◌<◌, ◌≤◌, List, [], ◌∷◌, ◌++◌, length, take, get_or, set, map, vec_items, None, refl, sym, ◌∙◌, ap, subst, arith}
use Rattle.std.specs.List.{All}
use Rattle.std.specs.declared.vec.Vec.{Vec}
use Rattle.std.proofs.lemmas.List.{length-append, append_assoc, length-map, map-append, set-get_or}
use Rattle.std.proofs.lemmas.List.Elements.{All-drop}
use Rattle.std.proofs.Math.Seq.{take-append_seam, drop-append_seam}
use Rattle.tl_sequencer.specs.Log.{Lane, End, IsShort, entries_of}
use Rattle.tl_sequencer.specs.Rings.{log_of}
use Rattle.tl_sequencer.specs.Inner.Lanes.{Gives, Ends}
use Rattle.tl_sequencer.specs.Inner.Held.{taken_of, who_of, drained_of, intake_of, SameDrained, IsHeld}
use Rattle.tl_sequencer.specs.Steps.{IsLog}
use Rattle.tl_sequencer.proofs.Logs.{new-log, Gives-log, Ends-log, log-length}

module _ {E : Type 0} where
  -- one entry more
  pub taken_of-more : (history history' : List (Vec ℕ E × ℕ)) (x : Vec ℕ E) (lane : ℕ) → history' ≡ history ++ (x, lane) ∷ [] → taken_of history' ≡ taken_of history ++ x ∷ []
  taken_of-more history history' x lane more = ap taken_of more ∙ map-append (λ (p : Vec ℕ E × ℕ). p.0) history ((x, lane) ∷ [])

  pub who_of-more : (history history' : List (Vec ℕ E × ℕ)) (x : Vec ℕ E) (lane : ℕ) → history' ≡ history ++ (x, lane) ∷ [] → who_of history' ≡ who_of history ++ lane ∷ []
  who_of-more history history' x lane more = ap who_of more ∙ map-append (λ (p : Vec ℕ E × ℕ). p.1) history ((x, lane) ∷ [])

  -- an entry that is taken waits
  pub SameDrained-more : (first waiting waiting' now now' : List (Vec ℕ E)) (x : Vec ℕ E) → SameDrained first now waiting waiting'
      → now' ≡ now ++ x ∷ [] → SameDrained first now' waiting (waiting' ++ x ∷ [])
  SameDrained-more first waiting waiting' now now' x was more drained is =
      more ∙ ap (λ l. l ++ x ∷ []) (was drained is) ∙ append_assoc drained waiting' (x ∷ [])

  -- what was let go is what stands before that which waits
  pub drained-is : (taken drained waiting : List (Vec ℕ E)) → taken ≡ drained ++ waiting → drained_of taken waiting ≡ drained
  drained-is taken drained waiting is =
      let n : length taken - length waiting ≡ length drained = let e = ap length is in omega (arith, length-append drained waiting) in
      ap (λ k. take k taken) n ∙ ap (λ l. take (length drained) l) is ∙ take-append_seam drained waiting

  -- what waits is short, since all that was taken is
  pub waiting-short : (taken drained waiting : List (Vec ℕ E)) → taken ≡ drained ++ waiting → All IsShort (map vec_items taken) → All IsShort (map vec_items waiting)
  waiting-short taken drained waiting is short =
      let parts : map vec_items taken ≡ map vec_items drained ++ map vec_items waiting = ap (map vec_items) is ∙ map-append vec_items drained waiting in
      subst (All IsShort) (drop-append_seam (map vec_items drained) (map vec_items waiting)) (All-drop IsShort (length (map vec_items drained)) _ (subst (All IsShort) parts short))

module _ {E A : Type 0} where
  -- an intake whose lanes are new
  pub new-held : (history : List (Vec ℕ E × ℕ)) (waiting : List (Vec ℕ E)) (limit : ℕ) (lanes : List (Lane A)) → history ≡ [] → waiting ≡ [] → length lanes ≤ 64 → All (λ l. (l.given ≡ []) × (l.sent ≡ None)) lanes
      → IsHeld history waiting 0 limit lanes
  new-held history waiting limit lanes h w few new = rw (h, w) record {
    log = new-log {E = E} [] [] [] limit lanes refl refl few (omega arith) (λ k d in'. absurd (omega arith)) new;
    counted = refl;
    parts = refl;
  }

module _ {E A : Type 0} (history : List (Vec ℕ E × ℕ)) (waiting : List (Vec ℕ E)) (count limit : ℕ) (lanes : List (Lane A)) (was : IsHeld history waiting count limit lanes) where
  -- the count is that of the entries
  pub counted-log : count ≡ length (entries_of (log_of {E = E} [] (taken_of history) (who_of history) limit lanes))
  counted-log = omega (arith, was.counted, log-length {E = E} [] (taken_of history) (who_of history) limit lanes, length-map history (λ (p : Vec ℕ E × ℕ). p.0))

  -- the room that is left, and what fits into it
  pub room-log : limit - count + length (entries_of (log_of {E = E} [] (taken_of history) (who_of history) limit lanes)) ≡ limit
  room-log = omega (arith, counted-log, was.log.fits)

  pub fits-log : (n : ℕ) → n ≤ limit - count → length (entries_of (log_of {E = E} [] (taken_of history) (who_of history) limit lanes)) + n ≤ limit
  fits-log n fits = omega (arith, room-log)

module _ {E A : Type 0} (history history' : List (Vec ℕ E × ℕ)) (waiting waiting' : List (Vec ℕ E)) (count limit : ℕ) (lanes : List (Lane A)) (lane : ℕ) (l l' : Lane A) (in' : lane < length lanes) (at : l ≡ get_or lanes lane l)
    (drained : SameDrained (taken_of history) (taken_of history') waiting waiting') (was : IsHeld history waiting count limit lanes) where
  abbrev HeldAfter : ℕ → Type 0
  HeldAfter n = IsHeld history' waiting' (count + n) limit (set lanes lane l')

  -- what was let go is the same
  pub same-drained : drained_of (taken_of history') waiting' ≡ drained_of (taken_of history) waiting
  same-drained = drained-is (taken_of history') (drained_of (taken_of history) waiting) waiting' (drained (drained_of (taken_of history) waiting) was.parts)

  more-held : (n : ℕ) (popped : List (Vec ℕ E)) → length popped ≡ n → taken_of history' ≡ taken_of history ++ popped
      → IsLog (log_of [] (taken_of history') (who_of history') limit (set lanes lane l')) → HeldAfter n
  more-held n popped counted put log = record {
    log = log;
    counted = let p = ap length put in omega (arith, was.counted, length-append (taken_of history) popped, length-map history (λ (p : Vec ℕ E × ℕ). p.0), length-map history' (λ (p : Vec ℕ E × ℕ). p.0));
    parts = drained _ was.parts ∙ ap (λ d. d ++ waiting') (sym same-drained);
  }

  pub Gives-held : (n : ℕ) → n ≤ limit - count → Gives n lane l l' (taken_of history) (taken_of history') (who_of history) (who_of history') → HeldAfter n
  Gives-held n fits g = more-held n g.popped g.counted g.put (Gives-log [] (taken_of history) (taken_of history') (who_of history) (who_of history') limit lanes lane l l' in' at n (fits-log history waiting count limit lanes was n fits) g was.log)

  pub Ends-held : (end : End A) (n : ℕ) → n ≤ limit - count → Ends end n lane l l' (taken_of history) (taken_of history') (who_of history) (who_of history') → HeldAfter n
  Ends-held end n fits g = more-held n g.popped g.counted g.put (Ends-log [] (taken_of history) (taken_of history') (who_of history) (who_of history') limit lanes lane l l' in' at end n (fits-log history waiting count limit lanes was n fits) g was.log)

module _ {E A : Type 0} (history history' : List (Vec ℕ E × ℕ)) (waiting waiting' : List (Vec ℕ E)) (limit : ℕ) (lanes : List (Lane A)) (lane : ℕ) (l l' : Lane A) (at : l ≡ get_or lanes lane l)
    (a : l' ≡ l) (h : history' ≡ history) (w : waiting' ≡ waiting) where
  same-lanes : set lanes lane l' ≡ lanes
  same-lanes = ap (λ (x : Lane A). set lanes lane x) (a ∙ at) ∙ set-get_or lanes lane l

  -- a lane that gives nothing leaves the intake
  pub same-intake : intake_of history' waiting' limit (set lanes lane l') ≡ intake_of history waiting limit lanes
  same-intake = ap (λ hs. intake_of hs waiting' limit (set lanes lane l')) h ∙ ap (λ ws. intake_of history ws limit (set lanes lane l')) w ∙ ap (λ ls. intake_of history waiting limit ls) same-lanes

  pub same-held : (count : ℕ) → IsHeld history waiting count limit lanes → IsHeld history' waiting' count limit (set lanes lane l')
  same-held count was =
      subst (λ hs. IsHeld hs waiting' count limit (set lanes lane l')) (sym h) (subst (λ ws. IsHeld history ws count limit (set lanes lane l')) (sym w) (subst (λ ls. IsHeld history waiting count limit ls) (sym same-lanes) was))
