-- Laws of what the fields of a sequencer keep.
use Rattle.std.proofs.Common.{◌≡◌, ℕ, ◌+◌, ◌<◌, ◌≤◌, List, [], ◌++◌, length, replicate, get_or, set, map, vec_items, None, sym, ◌∙◌, ap, subst, arith}
use Rattle.std.specs.List.{All, range_with_len}
use Rattle.std.specs.declared.vec.Vec.{Vec}
use Rattle.std.proofs.lemmas.List.{length-set, length-map, map-set, get_or-map, length-replicate}
use Rattle.std.proofs.Math.Seq.{map-set_same}
use Rattle.tl_sequencer.specs.Log.{Lane, End, IsShort, entries_of}
use Rattle.tl_sequencer.specs.Rings.{log_of}
use Rattle.tl_sequencer.specs.Inner.Lanes.{Gives, Ends}
use Rattle.tl_sequencer.specs.Steps.{IsLog}
use Rattle.tl_sequencer.specs.Places.{IsKept}
use Rattle.tl_sequencer.proofs.Logs.{new-log, Gives-log, Ends-log, same-log}
use Rattle.tl_sequencer.proofs.Places.{ArePlaces-none, ArePlaces-more}

-- a log whose lanes are new
pub new-kept : {E A : Type 0} (base taken : List (Vec ℕ E)) (who : List ℕ) (places : List (Vec ℕ A)) (limit : ℕ) (lanes : List (Lane A)) → taken ≡ [] → who ≡ [] → length lanes ≤ 64 → length base ≤ limit → All IsShort (map vec_items base) → All (λ l. (l.given ≡ []) × (l.sent ≡ None)) lanes
    → (n : ℕ) → n ≡ length lanes → map vec_items places ≡ replicate n [] → IsKept base taken who places limit lanes
new-kept base taken who places limit lanes t w few fits short new n counted none = record {
  log = new-log base taken who limit lanes t w few fits short new;
  counted = let e = ap length none in omega (arith, length-map places vec_items, length-replicate {A = List ℕ});
  placed = ArePlaces-none (map vec_items places) n who w none;
}

module _ {E A : Type 0} (base taken taken' : List (Vec ℕ E)) (who who' : List ℕ) (places : List (Vec ℕ A)) (limit : ℕ) (lanes : List (Lane A)) (lane : ℕ) (l l' : Lane A) (p p' : Vec ℕ A)
    (in' : lane < length lanes) (at : l ≡ get_or lanes lane l) (p-at : p ≡ get_or places lane p) where
  abbrev Kept : Type 0
  Kept = IsKept base taken who places limit lanes

  abbrev KeptAfter : Type 0
  KeptAfter = IsKept base taken' who' (set places lane p') limit (set lanes lane l')

  more-kept : (n : ℕ) → who' ≡ who ++ replicate n lane → p'.items ≡ p.items ++ range_with_len (length taken) n → Kept
      → IsLog (log_of base taken' who' limit (set lanes lane l')) → KeptAfter
  more-kept n by put was log =
      let inside : lane < length places = omega (arith, was.counted) in
      let inside-map : lane < length (map vec_items places) = omega (arith, length-map places vec_items) in
      let many : length taken ≡ length who = omega (arith, was.log.merged.0, length-map taken vec_items) in
      let kept : p'.items ≡ get_or (map vec_items places) lane [] ++ range_with_len (length who) n =
      put ∙ ap (λ (v : Vec ℕ A). v.items ++ range_with_len (length taken) n) p-at ∙ ap (λ e. e ++ range_with_len (length taken) n) (sym (get_or-map vec_items places lane p [] inside)) ∙ ap (λ k. get_or (map vec_items places) lane [] ++ range_with_len k n) many in
      record {
        log = log;
        counted = omega (arith, length-set places lane p', length-set lanes lane l', was.counted);
        placed = rw (map-set vec_items places lane p', by) (ArePlaces-more (map vec_items places) who lane n p'.items inside-map kept was.placed);
      }

  pub Gives-kept : (n : ℕ) → length (entries_of (log_of base taken who limit lanes)) + n ≤ limit → Gives n lane l l' taken taken' who who' → p'.items ≡ p.items ++ range_with_len (length taken) n → Kept → KeptAfter
  Gives-kept n fits g put was = more-kept n g.by put was (Gives-log base taken taken' who who' limit lanes lane l l' in' at n fits g was.log)

  pub Ends-kept : (end : End A) (n : ℕ) → length (entries_of (log_of base taken who limit lanes)) + n ≤ limit → Ends end n lane l l' taken taken' who who' → p'.items ≡ p.items ++ range_with_len (length taken) n → Kept → KeptAfter
  Ends-kept end n fits g put was = more-kept n g.by put was (Ends-log base taken taken' who who' limit lanes lane l l' in' at end n fits g was.log)

  pub same-kept : l' ≡ l → taken' ≡ taken → who' ≡ who → p'.items ≡ p.items → Kept → KeptAfter
  same-kept a t w put was = record {
    log = subst IsLog (sym (same-log base taken taken' who who' limit lanes lane l l' in' at a t w)) was.log;
    counted = omega (arith, length-set places lane p', length-set lanes lane l', was.counted);
    placed = rw (map-set_same vec_items places lane p' p (put ∙ ap vec_items p-at), w) was.placed;
  }
