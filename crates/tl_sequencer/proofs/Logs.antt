-- Laws of a log.
use Rattle.std.proofs.Common.{◌≡◌, ℕ, zero, suc, ◌+◌, ◌<◌, ◌≤◌, List, [], ◌∷◌, ◌++◌, length, replicate, get_or, set, map, vec_items, Option, None, Some, IfSome, IsSome, refl, sym, ◌∙◌, ap, subst, arith}
use Rattle.std.specs.List.{All, slice_get}
use Rattle.std.specs.Option.{unwrap_or}
use Rattle.std.specs.declared.vec.Vec.{Vec}
use Rattle.std.proofs.lemmas.List.{length-append, length-set, append_assoc, length-map, map-append, map-set, get_or_default, append-nil, set-get_or, get_or-map}
use Rattle.std.proofs.lemmas.List.Elements.{All-append, All-set, All-map, All-head, All-tail}
use Rattle.std.proofs.lemmas.Option.{slice_get_within}
use Rattle.std.proofs.Math.Seq.{map-set_same}
use Rattle.tl_sequencer.specs.Merge.{IsMergeBy, IsMerge}
use Rattle.tl_sequencer.specs.Log.{Ring, Lane, Log, End, IsShort, entries_of, given_of, given_at, end_at}
use Rattle.tl_sequencer.specs.Rings.{log_of}
use Rattle.tl_sequencer.specs.Inner.Lanes.{Gives, Ends, LaneRefuses, IsFirstOpenOf}
use Rattle.tl_sequencer.specs.Steps.{IsLog, IsComplete, sent_of, Takes, Closes}
use Rattle.tl_sequencer.specs.Faults.{RestFits, EndRefuses}
use Rattle.tl_sequencer.specs.declared.fault.TakeFault.{TakeFault}
use Rattle.tl_sequencer.specs.declared.fault.TakeFault.TheVariants.{NoLane, LogFull, OutOfMemory}
use Rattle.tl_sequencer.proofs.Merges.{merged-more}

is-sent : (o : Option (List (List ℕ))) (all : List (List ℕ)) → IsSome o → IfSome o (λ s. s ≡ all) → o ≡ Some all
is-sent None all some was = absurd (cc)
is-sent (Some s) all some was = ap Some was

is-none : (o : Option (List (List ℕ))) → (IsSome o → ⊥) → o ≡ None
is-none None not = refl
is-none (Some s) not = absurd (not refl)

module _ {A : Type 0} where
  abbrev ring : Lane A → Ring A
  ring l = l.ring

  abbrev given : Lane A → List (List ℕ)
  given l = l.given

  abbrev sent : Lane A → Option (List (List ℕ))
  sent l = l.sent

  abbrev AsGiven : Lane A → Type 0
  AsGiven l = IfSome l.sent (λ s. s ≡ l.given)

  -- the log with more entries of one lane, which is then l
  pub IsLog-more : (log : Log A) (lane : ℕ) (more : List (List ℕ)) (l : Lane A) → lane < length log.lanes → l.given ≡ (get_or log.lanes lane l).given ++ more
      → AsGiven l → length (entries_of log) + length more ≤ log.limit → All IsShort more → IsLog log
      → IsLog (record { base = log.base; taken = log.taken ++ more; who = log.who ++ replicate (length more) lane; limit = log.limit; lanes = set log.lanes lane l })
  IsLog-more log lane more l in' gave ends fits short was =
      let gives = given_of log in
      let inside : lane < length gives = omega (arith, length-map log.lanes given) in
      let at : l.given ≡ get_or gives lane [] ++ more = gave ∙ ap (λ g. g ++ more) (sym (get_or-map given log.lanes lane l [] in')) in
      record {
        merged = rw (map-set given log.lanes lane l, at) (merged-more log.who log.taken gives lane more inside was.merged);
        ended = All-set AsGiven log.lanes lane l ends was.ended;
        few = omega (arith, length-set log.lanes lane l, was.few);
        fits = omega (arith, length-append log.base log.taken, length-append log.taken more, length-append log.base (log.taken ++ more));
        short = rw (← append_assoc log.base log.taken more) (All-append IsShort (log.base ++ log.taken) more was.short short);
      }

  given-none : (lanes : List (Lane A)) → All (λ l. (l.given ≡ []) × (l.sent ≡ None)) lanes → (k : ℕ) → [] ≡ get_or (map given lanes) k []
  given-none [] new k = refl
  given-none (l ∷ lanes) new zero = sym (All-head (λ (l : Lane A). (l.given ≡ []) × (l.sent ≡ None)) l lanes new).0
  given-none (l ∷ lanes) new (suc k) = given-none lanes (All-tail (λ (l : Lane A). (l.given ≡ []) × (l.sent ≡ None)) l lanes new) k

  -- if each end was taken in, what was sent is what was given out
  pub all-sent : (lanes : List (Lane A)) → All (λ l. l.sent ≡ Some l.given) lanes → map (λ (l : Lane A). unwrap_or l.sent []) lanes ≡ map given lanes
  all-sent [] all = refl
  all-sent (l ∷ lanes) all =
      let here : unwrap_or l.sent [] ≡ l.given = ap (λ s. unwrap_or s []) (All-head (λ (l : Lane A). l.sent ≡ Some l.given) l lanes all) in
      ap (λ g. g ∷ map (λ (l : Lane A). unwrap_or l.sent []) lanes) here ∙ ap (λ gs. l.given ∷ gs) (all-sent lanes (All-tail (λ (l : Lane A). l.sent ≡ Some l.given) l lanes all))

  -- a complete log is a merge of what was sent
  pub complete-merge : (log : Log A) → IsLog log → IsComplete log → IsMerge (entries_of log) log.base (sent_of log)
  complete-merge log is all = (log.who, log.taken, refl, subst (λ s. IsMergeBy log.who log.taken s) (sym (all-sent log.lanes all)) is.merged)

  -- a log each of whose lanes has ended is complete
  pub all-ended : (log : Log A) → IsLog log → All (λ l. IsSome l.sent) log.lanes → IsComplete log
  all-ended log is ended k d in' = is-sent _ _ (ended k d in') (is.ended k d in')

  -- a lane of the log gave what the log says
  pub given-is : (log : Log A) (lane : ℕ) (l : Lane A) → lane < length log.lanes → l ≡ get_or log.lanes lane l → l.given ≡ given_at log lane
  given-is log lane l in' at = ap given at ∙ sym (get_or-map given log.lanes lane l [] in')

  sent-is : (log : Log A) (lane : ℕ) (l : Lane A) → lane < length log.lanes → l ≡ get_or log.lanes lane l → l.sent ≡ end_at log lane
  sent-is log lane l in' at = ap sent at ∙ sym (get_or-map sent log.lanes lane l None in')

  -- the lane of an end is there
  pub end-inside : (lanes : List (Lane A)) (end : End A) (lane : ℕ) → lane ≡ end.lane → slice_get (map ring lanes) end.lane ≡ Some end.ring → lane < length lanes
  end-inside lanes end lane is mine = omega (arith, slice_get_within (map ring lanes) end.lane end.ring mine, length-map lanes ring)

  -- the first lane that has not ended
  pub first-open : (lanes : List (Lane A)) (lane : ℕ) (l : Lane A) → lane < length lanes → l ≡ get_or lanes lane l → (IsSome l.sent → ⊥) → ((k : ℕ) (d : Lane A) → k < lane → IsSome (get_or lanes k d).sent)
      → IsFirstOpenOf lanes lane
  first-open lanes lane l in' at not before = (
    in',
    get_or-map sent lanes lane l None in' ∙ sym (ap sent at) ∙ is-none l.sent not,
    λ k h. subst IsSome (sym (get_or-map sent lanes k l None (omega arith))) (before k l h),
  )

  -- a lane that keeps its ring keeps all rings
  pub same-rings : (lanes : List (Lane A)) (lane : ℕ) (l l' : Lane A) → l ≡ get_or lanes lane l → l'.ring ≡ l.ring → map ring (set lanes lane l') ≡ map ring lanes
  same-rings lanes lane l l' at same = map-set_same ring lanes lane l' l (same ∙ ap ring at)

  -- what a lane answers is what the log answers
  pub refuses-log : (log : Log A) (end : End A) (room : ℕ) (given : List (List ℕ)) (why : TakeFault) → room + length (entries_of log) ≡ log.limit → given ≡ given_at log end.lane
      → LaneRefuses room given end.sent why → EndRefuses log end why
  refuses-log log end room given NoLane is at r = r
  refuses-log log end room given LogFull is at r = let g = ap length at in omega arith
  refuses-log log end room given OutOfMemory is at r = let g = ap length at in (omega arith, omega arith)

-- an ended lane gave out all that was sent, also after it gave nothing more
still-ended : (sent : Option (List (List ℕ))) (given more : List (List ℕ)) → (IsSome sent → more ≡ []) → IfSome sent (λ s. s ≡ given) → IfSome sent (λ s. s ≡ given ++ more)
still-ended None given more over was = tt
still-ended (Some s) given more over was = was ∙ sym (append-nil given) ∙ ap (λ m. given ++ m) (sym (over refl))

module _ {E A : Type 0} where
  pub log-length : (base taken : List (Vec ℕ E)) (who : List ℕ) (limit : ℕ) (lanes : List (Lane A)) → length (entries_of (log_of base taken who limit lanes)) ≡ length base + length taken
  log-length base taken who limit lanes =
      omega (arith, length-append (map vec_items base) (map vec_items taken), length-map base vec_items, length-map taken vec_items)

  -- a log whose lanes are new
  pub new-log : (base taken : List (Vec ℕ E)) (who : List ℕ) (limit : ℕ) (lanes : List (Lane A)) → taken ≡ [] → who ≡ [] → length lanes ≤ 64 → length base ≤ limit → All IsShort (map vec_items base) → All (λ l. (l.given ≡ []) × (l.sent ≡ None)) lanes
      → IsLog (log_of base taken who limit lanes)
  new-log base taken who limit lanes t w few fits short new =
      rw (t, w) record {
        merged = (refl, given-none lanes new);
        ended = λ k d in'. subst (λ s. IfSome s (λ sent. sent ≡ (get_or lanes k d).given)) (sym (new k d in').1) tt;
        few = few;
        fits = omega (arith, length-append (map vec_items base) [], length-map base vec_items);
        short = rw append-nil short;
      }

module _ {E A : Type 0} (base taken taken' : List (Vec ℕ E)) (who who' : List ℕ) (limit : ℕ) (lanes : List (Lane A)) (lane : ℕ) (l l' : Lane A) (in' : lane < length lanes) (at : l ≡ get_or lanes lane l) where
  abbrev before : Log A
  before = log_of base taken who limit lanes

  abbrev after : Log A
  after = log_of base taken' who' limit (set lanes lane l')

  put-is : (popped : List (Vec ℕ E)) → taken' ≡ taken ++ popped → map vec_items taken' ≡ map vec_items taken ++ map vec_items popped
  put-is popped put = ap (map vec_items) put ∙ map-append vec_items taken popped

  -- the lane with more given out leaves a log
  more-log : (popped : List (Vec ℕ E)) (n : ℕ) → length popped ≡ n → length (entries_of before) + n ≤ limit → taken' ≡ taken ++ popped → who' ≡ who ++ replicate n lane
      → All (λ v. IsShort v.items) popped → l'.given ≡ l.given ++ map vec_items popped → AsGiven l' → IsLog before → IsLog after
  more-log popped n counted fits put by short gave ended was =
      let more = map vec_items popped in
      let count : length more ≡ n = length-map popped vec_items ∙ counted in
      let gave' : l'.given ≡ (get_or lanes lane l').given ++ more = gave ∙ ap (λ (x : Lane A). x.given ++ more) (at ∙ get_or_default lanes lane l l' in') in
      let it = IsLog-more before lane more l' in' gave' ended (omega arith) (All-map IsShort vec_items popped short) was in
      let w : who' ≡ who ++ replicate (length more) lane = by ∙ ap (λ k. who ++ replicate k lane) (sym count) in
      rw (put-is popped put, w) it

  -- a lane that gives some entries leaves a log
  pub Gives-log : (n : ℕ) → length (entries_of before) + n ≤ limit → Gives n lane l l' taken taken' who who' → IsLog before → IsLog after
  Gives-log n fits g was =
      let none : IsSome l.sent → map vec_items g.popped ≡ [] = λ (e : IsSome l.sent). ap (map vec_items) (g.over e) in
      let was-ended : AsGiven l = subst AsGiven (sym at) (was.ended lane l in') in
      more-log g.popped n g.counted fits g.put g.by g.short (ap given g.after) (subst AsGiven (sym g.after) (still-ended l.sent l.given _ none was-ended)) was

  -- it takes a step
  pub Gives-takes : (n : ℕ) → length (entries_of before) + n ≤ limit → Gives n lane l l' taken taken' who who' → Takes lane n before after
  Gives-takes n fits g =
      let gave : l'.given ≡ given_at before lane ++ map vec_items g.popped = ap given g.after ∙ ap (λ e. e ++ map vec_items g.popped) (given-is before lane l in' at) in
      let put = put-is g.popped g.put in
      record {
        more = map vec_items g.popped;
        counted = length-map g.popped vec_items ∙ g.counted;
        over = λ e. sym g.counted ∙ ap length (g.over (subst IsSome (sym (sent-is before lane l in' at)) e));
        fits = let p = ap length put in omega (arith, length-map g.popped vec_items, g.counted, length-append (map vec_items base) (map vec_items taken'), length-append (map vec_items base) (map vec_items taken), length-append (map vec_items taken) (map vec_items g.popped));
        base = refl;
        taken = put;
        who = g.by;
        limit = refl;
        given = map-set given lanes lane l' ∙ ap (λ e. set (map given lanes) lane e) gave;
        ends = map-set_same sent lanes lane l' l (ap sent g.after ∙ ap sent at);
      }

  -- a lane that gives nothing leaves the log
  pub same-log : l' ≡ l → taken' ≡ taken → who' ≡ who → after ≡ before
  same-log a t w = ap (λ ts. log_of base ts who' limit (set lanes lane l')) t ∙ ap (λ ws. log_of base taken ws limit (set lanes lane l')) w
      ∙ ap (λ ls. log_of base taken who limit ls) (ap (λ (x : Lane A). set lanes lane x) (a ∙ at) ∙ set-get_or lanes lane l)

  -- a lane that gives all that is left leaves a log
  pub Ends-log : (end : End A) (n : ℕ) → length (entries_of before) + n ≤ limit → Ends end n lane l l' taken taken' who who' → IsLog before → IsLog after
  Ends-log end n fits g was =
      more-log g.popped n g.counted fits g.put g.by g.short (ap given g.after ∙ sym g.rest) (subst AsGiven (sym g.after) refl) was

  -- it takes the end in
  pub Ends-closes : (end : End A) (n : ℕ) → end.lane ≡ lane → length (entries_of before) + n ≤ limit → Ends end n lane l l' taken taken' who who' → Closes end n before after
  Ends-closes end n is fits g =
      let put = put-is g.popped g.put in
      rw is record {
        more = map vec_items g.popped;
        counted = length-map g.popped vec_items ∙ g.counted;
        rest = ap (λ e. e ++ map vec_items g.popped) (sym (given-is before lane l in' at)) ∙ g.rest;
        fits = let p = ap length put in omega (arith, length-map g.popped vec_items, g.counted, length-append (map vec_items base) (map vec_items taken'), length-append (map vec_items base) (map vec_items taken), length-append (map vec_items taken) (map vec_items g.popped));
        base = refl;
        taken = put;
        who = g.by;
        limit = refl;
        given = map-set given lanes lane l' ∙ ap (λ e. set (map given lanes) lane e) (ap given g.after);
        ends = map-set sent lanes lane l' ∙ ap (λ e. set (map sent lanes) lane e) (ap sent g.after);
      }

  -- and the rest fits
  pub Ends-fits : (end : End A) (n : ℕ) → end.lane ≡ lane → length (entries_of before) + n ≤ limit → Ends end n lane l l' taken taken' who who' → RestFits before end
  Ends-fits end n is fits g =
      let given = ap length (given-is before lane l in' at) in
      let rest = ap length g.rest in
      rw is (omega (arith, length-append l.given (map vec_items g.popped), length-map g.popped vec_items, g.counted))
