-- A log on a shelf, from its opening to the shelf that it gives back.
use Rattle.std.proofs.Common.{◌≡◌, ◌≢◌, inl, inr, ℕ, ◌+◌, Bool, true, false, true≢false, List, [], ◌∷◌, ◌++◌, Option, Some, length, refl, sym, ap, subst, ◌∙◌, arith, append_assoc}
use Rattle.std.specs.Prelude.{Err, Ok, OnOk, Result}
use Rattle.std.specs.Global.{Global}
use Rattle.std.specs.Option.{unwrap_or}
use Rattle.std.proofs.lemmas.List.{append-nil}
use Rattle.sha2.specs.Sha256.{sha256}
use Rattle.tl_hash.specs.Bytes.{Bytes}
use Rattle.tl_note.specs.Key.{IsKeyName, Key}
use Rattle.tl_sequencer.specs.Intake.{Intake}
use Rattle.tl_archive.specs.Shelves.{Kept}
use Rattle.tl_ledger.specs.Standing.{Ledger}
use Rattle.tl_ledger.specs.Opening.{Found, Opens}
use Rattle.tl_run.specs.Signing.{LogKey}
use Rattle.tl_run.specs.declared.keys.LogKey.{LogKey as GivenKey}
use Rattle.tl_run.specs.declared.fault.RunFault.{RunFault}
use Rattle.tl_append.specs.Appending.{Course, IsPutOrNot, course}
use Rattle.tl_append.specs.Cosigning.{Quorum, Shows, ShowsAtMost, ShowsBatch, ShowsThen, Turn, entries_of}
use Rattle.tl_append.specs.Running.{IsLogKey, OfFound, Visit}
use Rattle.tl_append.proofs.Runs.{between}
use Rattle.tl_append.proofs.Showing.{none_shown, same_entries, shows_then, then_put, then_turns}
use Rattle.tl_append.proofs.Turns.{along}
use Rattle.tl_serve.specs.Serving.{Serves, ServesPart, ServesWhole}
use Rattle.tl_serve.specs.Inner.Running.{Begun}
use Rattle.tl_serve.specs.Inner.Shelved.{IsClosed, IsServing, ServesUnder}

-- ---- at first

pub serving_new : {A : Type 0} (key : LogKey) (q : Quorum) (k : Kept) (saw : List Kept) (was : Ledger) (i : Intake A) (is_due : Bool)
    → IsKeyName key.name → i.drained ≡ [] → i.waiting ≡ [] → IsServing key q (along k k saw saw was was) i is_due
serving_new key q k saw was i is_due named drained waiting = record {
  named = named;
  turns = [];
  rest = [];
  shows = none_shown key q k saw was;
  own = sym drained;
  all = λ _. refl;
  none = λ _. waiting;
}

pub serving_begun : {A S : Type 0} (key : LogKey) (q : Quorum) (kept : S → Kept) (trace : S → List Kept) (began shelf : S) (was ledger : Ledger) (i : Intake A) (is_due : Bool)
    → began ≡ shelf → was ≡ ledger → IsKeyName key.name → i.drained ≡ [] → i.waiting ≡ []
    → IsServing key q (course kept trace began shelf was ledger) i is_due
serving_begun {A} {S} key q kept trace began shelf was ledger i is_due same is named drained waiting =
    subst (λ (b : S). IsServing key q (course kept trace b shelf was ledger) i is_due) (sym same)
    (subst (λ (w : Ledger). IsServing key q (course kept trace shelf shelf w ledger) i is_due) (sym is)
    (serving_new key q (kept shelf) (trace shelf) ledger i is_due named drained waiting))

-- ---- once entries were taken

pub serving_taken : {A : Type 0} (key : LogKey) (q : Quorum) (c : Course) (i j : Intake A) (due due' : Bool)
    → IsServing key q c i due → j.drained ≡ i.drained → (due' ≡ false → (due ≡ false) × (j.waiting ≡ [])) → IsServing key q c j due'
serving_taken key q c i j due due' is drained none = record {
  named = is.named;
  turns = is.turns;
  rest = is.rest;
  shows = is.shows;
  own = is.own ∙ sym drained;
  all = λ not. is.all (none not).0;
  none = λ not. (none not).1;
}

-- ---- once what waits was appended

-- an intake before and after, with the sizes of the ledger, of which what waits is drained if the size grew
pub record DrainsIfGrown {A : Type 0} (i j : Intake A) (c : Course) (before after : ℕ) : Type 0 where
  pub parts : i.log.taken ≡ i.drained ++ i.waiting
  pub old : before ≡ c.was.edge.size
  pub new : after ≡ c.is.edge.size
  pub gone : before ≢ after → (j.drained ≡ i.log.taken) × (j.waiting ≡ [])
  pub left : before ≡ after → j ≡ i

-- all that waited was put: it is drained, or nothing waited
drain_all : {A : Type 0} (i j : Intake A) (c : Course) (before after : ℕ) → DrainsIfGrown i j c before after
    → c.is.edge.size ≡ c.was.edge.size + length i.waiting → (w : List Bytes) → i.waiting ≡ w → (j.drained ≡ i.log.taken) × (j.waiting ≡ [])
drain_all i j c before after goes grown [] none =
    let same = goes.left (omega (arith, goes.old, goes.new, grown, ap length none)) in
    (ap (λ (x : Intake _). x.drained) same ∙ sym (goes.parts ∙ ap (λ (es : List Bytes). i.drained ++ es) none ∙ append-nil i.drained), ap (λ (x : Intake _). x.waiting) same ∙ none)
drain_all i j c before after goes grown (x ∷ xs) some =
    goes.gone (λ same. absurd (omega (arith, same, goes.old, goes.new, grown, ap length some)))

pub all_gone : {A : Type 0} (i j : Intake A) (c : Course) (before after : ℕ) → DrainsIfGrown i j c before after
    → c.is.edge.size ≡ c.was.edge.size + length i.waiting → (j.drained ≡ i.log.taken) × (j.waiting ≡ [])
all_gone i j c before after goes grown = drain_all i j c before after goes grown i.waiting refl

-- what was put is drained
put_gone : {A : Type 0} (i j : Intake A) (put : List Bytes) (c : Course) (before after : ℕ) → DrainsIfGrown i j c before after
    → IsPutOrNot i.waiting put c → i.drained ++ put ≡ j.drained
put_gone i j put c before after goes (inl none) =
    ap (λ (es : List Bytes). i.drained ++ es) none.0 ∙ append-nil i.drained
    ∙ sym (ap (λ (x : Intake _). x.drained) (goes.left (omega (arith, goes.old, goes.new, none.1))))
put_gone i j put c before after goes (inr all) =
    ap (λ (es : List Bytes). i.drained ++ es) all.0 ∙ sym ((all_gone i j c before after goes all.1).0 ∙ goes.parts)

module _ {A : Type 0} (key : LogKey) (q : Quorum) (a m b : Kept) (saw mid sees : List Kept) (was now is : Ledger) (i j : Intake A) (due : Bool) (before after : ℕ)
    (serving : IsServing key q (along a m saw mid was now) i due) (goes : DrainsIfGrown i j (along m b mid sees now is) before after) where
  -- all of it was shown
  pub serving_shown : is.edge.size ≡ now.edge.size + length i.waiting → ShowsBatch key q i.waiting (along m b mid sees now is)
      → IsServing key q (along a b saw sees was is) j false
  serving_shown grown all =
      let gone = all_gone i j (along m b mid sees now is) before after goes grown in
      let turn : Turn = record { batch = i.waiting; lines = all.0 } in
      record {
        named = serving.named;
        turns = serving.turns ++ record { batch = serving.rest ++ i.waiting; lines = all.0 } ∷ [];
        rest = [];
        shows = then_turns key q serving.turns serving.rest a m b saw mid sees was now is serving.shows turn [] [] all.1;
        own = same_entries serving.turns serving.rest turn [] []
            ∙ ap (λ (es : List Bytes). (entries_of serving.turns ++ serving.rest) ++ es) (append-nil (i.waiting ++ []) ∙ append-nil i.waiting)
            ∙ ap (λ (es : List Bytes). es ++ i.waiting) serving.own ∙ sym (gone.0 ∙ goes.parts);
        all = λ _. refl;
        none = λ _. gone.1;
      }

  -- it was at most: by what of it was shown
  serving_part : (ys : List Turn) (more : List Bytes) → ShowsThen key q ys more (along m b mid sees now is)
      → IsPutOrNot i.waiting (entries_of ys ++ more) (along m b mid sees now is) → IsServing key q (along a b saw sees was is) j true
  serving_part [] more then own = record {
    named = serving.named;
    turns = serving.turns;
    rest = serving.rest ++ more;
    shows = then_put key q serving.turns serving.rest a m b saw mid sees was now is serving.shows more then;
    own = sym (append_assoc (entries_of serving.turns) serving.rest more)
        ∙ ap (λ (es : List Bytes). es ++ more) serving.own ∙ put_gone i j more (along m b mid sees now is) before after goes own;
    all = λ not. absurd (true≢false not);
    none = λ not. absurd (true≢false not);
  }
  serving_part (y ∷ ys) more then own = record {
    named = serving.named;
    turns = serving.turns ++ record { batch = serving.rest ++ y.batch; lines = y.lines } ∷ ys;
    rest = more;
    shows = then_turns key q serving.turns serving.rest a m b saw mid sees was now is serving.shows y ys more then;
    own = same_entries serving.turns serving.rest y ys more
        ∙ ap (λ (es : List Bytes). es ++ (entries_of (y ∷ ys) ++ more)) serving.own
        ∙ put_gone i j (entries_of (y ∷ ys) ++ more) (along m b mid sees now is) before after goes own;
    all = λ not. absurd (true≢false not);
    none = λ not. absurd (true≢false not);
  }

  pub serving_failed : ShowsAtMost key q i.waiting (along m b mid sees now is) → due ≡ true → IsServing key q (along a b saw sees was is) j due
  serving_failed part is_due =
      subst (λ (d : Bool). IsServing key q (along a b saw sees was is) j d) (sym is_due) (serving_part part.turns part.rest part.shows part.own)

-- ---- the key

-- how a log is served under the key that is known
pub serves_given : (given : GivenKey) (name own_name : Bytes) (key : LogKey) (q : Quorum) (found : Found) (v : Visit) (outcome : Result (Unit {0}) RunFault) → name ≡ own_name
    → IsLogKey given name key → ServesUnder key q found v outcome → Serves given own_name q found v outcome
serves_given given name own_name key q found v (Ok done) same is all = (key, subst (λ (n : Bytes). IsLogKey given n key) same is, all)
serves_given given name own_name key q found v (Err fault) same is (inl left) = inl left
serves_given given name own_name key q found v (Err fault) same is (inr part) = inr (key, subst (λ (n : Bytes). IsLogKey given n key) same is, part)

-- by another name of the quorum, and of what the shelf kept
pub serves_as : (given : GivenKey) (name : Bytes) (q q' : Quorum) (found : Found) (a b a' b' : Kept) (saw sees saw' sees' : List Kept) (outcome : Result (Unit {0}) RunFault)
    → q ≡ q' → a ≡ a' → b ≡ b' → saw ≡ saw' → sees ≡ sees'
    → Serves given name q found (between a b saw sees) outcome → Serves given name q' found (between a' b' saw' sees') outcome
serves_as given name q q' found a b a' b' saw sees saw' sees' outcome eq ea eb es et serves =
    subst (λ (t : List Kept). Serves given name q' found (between a' b' saw' t) outcome) et
    (subst (λ (t : List Kept). Serves given name q' found (between a' b' t sees) outcome) es
    (subst (λ (k : Kept). Serves given name q' found (between a' k saw sees) outcome) eb
    (subst (λ (k : Kept). Serves given name q' found (between k b saw sees) outcome) ea
    (subst (λ (x : Quorum). Serves given name x found (between a b saw sees) outcome) eq serves))))

-- ---- at the end

pub begun_one : (x y : Begun) → Some x ≡ Some y → x ≡ y
begun_one x y same = ap (λ (o : Option Begun). unwrap_or o x) same

module _ (key : LogKey) (q : Quorum) (keys : List Key) (found : Found) (a b : Kept) (saw sees : List Kept) (was is : Ledger) (place : Bytes) (i : Intake Global) (due : Bool) (first : Begun)
    (begun : Some (record { key = key; kept = a; saw = saw; was = was; place = place; quorum = q }) ≡ Some first) (opens : Opens sha256 keys found first.was)
    (serving : IsServing key q (along a b saw sees was is) i due) where
  pub serves_part : ServesPart first.key first.quorum found (between first.kept b first.saw sees)
  serves_part =
      subst (λ (x : Begun). Opens sha256 keys found x.was → ServesPart x.key x.quorum found (between x.kept b x.saw sees)) (begun_one _ _ begun)
      (λ own. record {
        turns = serving.turns;
        rest = serving.rest;
        shows = shows_then key q keys found a b saw sees was is own serving.turns serving.rest serving.shows;
      })
      opens

  pub serves_whole : IsClosed i due → ServesWhole first.key first.quorum found (between first.kept b first.saw sees)
  serves_whole closed =
      let all : serving.rest ≡ [] = serving.all closed.none_due in
      subst (λ (x : Begun). Opens sha256 keys found x.was → ServesWhole x.key x.quorum found (between x.kept b x.saw sees)) (begun_one _ _ begun)
      (λ own. record {
        turns = serving.turns;
        shows = subst (λ (r : List Bytes). OfFound found a (Shows key q serving.turns r (between a b saw sees))) all
            (shows_then key q keys found a b saw sees was is own serving.turns serving.rest serving.shows);
      })
      opens

  -- however it ended
  pub serves_under : (outcome : Result (Unit {0}) RunFault) → OnOk outcome (IsClosed i due) → ServesUnder first.key first.quorum found (between first.kept b first.saw sees) outcome
  serves_under (Ok done) closed = serves_whole closed
  serves_under (Err fault) closed = inr serves_part

-- ---- by another name of the quorum, and of what the shelf kept at first

module _ (key : LogKey) (q q' : Quorum) (found : Found) (a a' b : Kept) (saw saw' sees : List Kept) (eq : q ≡ q') (ea : a ≡ a') (es : saw ≡ saw') where
  pub part_as : ServesPart key q found (between a b saw sees) → ServesPart key q' found (between a' b saw' sees)
  part_as part =
      subst (λ (t : List Kept). ServesPart key q' found (between a' b t sees)) es
      (subst (λ (k : Kept). ServesPart key q' found (between k b saw sees)) ea (subst (λ (x : Quorum). ServesPart key x found (between a b saw sees)) eq part))

  pub under_as : (outcome : Result (Unit {0}) RunFault) → ServesUnder key q found (between a b saw sees) outcome → ServesUnder key q' found (between a' b saw' sees) outcome
  under_as outcome under =
      subst (λ (t : List Kept). ServesUnder key q' found (between a' b t sees) outcome) es
      (subst (λ (k : Kept). ServesUnder key q' found (between k b saw sees) outcome) ea (subst (λ (x : Quorum). ServesUnder key x found (between a b saw sees) outcome) eq under))
