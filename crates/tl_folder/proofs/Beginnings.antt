-- Beginnings of the calls of steps.
use Rattle.std.proofs.Common.{◌≡◌, inr, ℕ, zero, suc, ◌+◌, ◌<◌, Bool, true, false, List, [], ◌∷◌, ◌++◌, length, map, take, get_or, refl, sym, ap, subst, ◌∙◌, arith, append_assoc}
use Rattle.std.specs.Prelude.{Result, Ok, Err, is_err, IsErr}
use Rattle.std.proofs.lemmas.List.{append-nil, map_more}
use Rattle.std.proofs.Math.Seq.{take-length}
use Rattle.tl_folder.specs.Step.{Path, Bytes, Step}
use Rattle.tl_folder.specs.Step as step
use Rattle.tl_folder.specs.FileCalls.{Call, done, Begins, Fails, Does, Takes, Begun}
use Rattle.tl_folder.specs.Posix.{folder_of}
use Rattle.tl_folder.specs.Settling.{Move, syncing, placing, naming, settling, naming_in}
use Rattle.tl_folder.specs.Lines.{AppendsSome}

pub is_err_at : {T E : Type 0} (r : Result T E) (y : E) → r ≡ Err y → IsErr r
is_err_at r y is = ap is_err is

pub done_append : (a b : List Step) → done (a ++ b) ≡ done a ++ done b
done_append [] b = refl
done_append (s ∷ a) b = ap (λ (x : List Call). (s, true) ∷ x) (done_append a b)

pub fails_begins : (steps : List Step) (calls : List Call) → Fails steps calls → Begins steps calls
fails_begins steps [] fails = tt
fails_begins [] (call ∷ more) fails = absurd fails
fails_begins (s ∷ steps) ((asked, true) ∷ more) fails = (fails.0, fails_begins steps more fails.1)
fails_begins (s ∷ steps) ((asked, false) ∷ more) fails = fails

-- what failed of some steps failed of more steps
fails_more : (a b : List Step) (calls : List Call) → Fails a calls → Fails (a ++ b) calls
fails_more a b [] fails = absurd fails
fails_more [] b (call ∷ more) fails = absurd fails
fails_more (s ∷ a) b ((asked, true) ∷ more) fails = (fails.0, fails_more a b more fails.1)
fails_more (s ∷ a) b ((asked, false) ∷ more) fails = fails

-- after all of some steps, what failed of others
fails_after : (a b : List Step) (calls : List Call) → Fails b calls → Fails (a ++ b) (done a ++ calls)
fails_after [] b calls fails = fails
fails_after (s ∷ a) b calls fails = (refl, fails_after a b calls fails)

-- the beginning of some steps is one of more steps
pub begins_more : (a b : List Step) (calls : List Call) → Begins a calls → Begins (a ++ b) calls
begins_more a b [] begins = tt
begins_more [] b (call ∷ more) begins = absurd begins
begins_more (s ∷ a) b ((asked, true) ∷ more) begins = (begins.0, begins_more a b more begins.1)
begins_more (s ∷ a) b ((asked, false) ∷ more) begins = begins

-- each of the first steps was done, and then one failed
pub fails_at : {X : Type 0} (f : X → Step) (xs : List X) (i : ℕ) (x : X) → i < length xs → x ≡ get_or xs i x → Fails (map f xs) (done (map f (take i xs)) ++ (f x, false) ∷ [])
fails_at f [] i x less at = absurd (omega (arith, less))
fails_at f (y ∷ ys) zero x less at = (ap f at, refl)
fails_at f (y ∷ ys) (suc i) x less at = (refl, fails_at f ys i x (omega (arith, less)) at)

pub stops : {X T E : Type 0} (f : X → Step) (xs : List X) (i : ℕ) (x : X) (before now after : List Call) (s : Step) (ok : Bool) (r : Result T E)
    → IsErr r → i < length xs → x ≡ get_or xs i x → now ≡ before ++ done (map f (take i xs)) → after ≡ now ++ (s, ok) ∷ [] → s ≡ f x → ok ≡ false → Does (map f xs) before after r
stops f xs i x before now after s ok (Ok it) failed less at was is asked ill = absurd (cc)
stops f xs i x before now after s ok (Err e) failed less at was is asked ill =
    (done (map f (take i xs)) ++ (f x, false) ∷ [], is ∙ ap (λ (y : Step). now ++ (y, ok) ∷ []) asked ∙ ap (λ (b : Bool). now ++ (f x, b) ∷ []) ill ∙ ap (λ (c : List Call). c ++ (f x, false) ∷ []) was ∙ append_assoc before (done (map f (take i xs))) ((f x, false) ∷ []), fails_at f xs i x less at)

pub goes_on : {X : Type 0} (f : X → Step) (xs : List X) (i : ℕ) (x : X) (before now after : List Call) (s : Step) (ok : Bool)
    → i < length xs → x ≡ get_or xs i x → now ≡ before ++ done (map f (take i xs)) → after ≡ now ++ (s, ok) ∷ [] → s ≡ f x → ok ≡ true → after ≡ before ++ done (map f (take (i + 1) xs))
goes_on f xs i x before now after s ok less at was is asked well =
    let first : List Step = map f (take i xs) in
    let more : map f (take (i + 1) xs) ≡ first ++ f x ∷ [] = map_more f xs i x less ∙ ap (λ (y : Step). first ++ y ∷ []) (ap f (sym at)) in
    is ∙ ap (λ (y : Step). now ++ (y, ok) ∷ []) asked ∙ ap (λ (b : Bool). now ++ (f x, b) ∷ []) well ∙ ap (λ (c : List Call). c ++ (f x, true) ∷ []) was
    ∙ append_assoc before (done first) ((f x, true) ∷ [])
    ∙ ap (λ (c : List Call). before ++ c) (sym (done_append first (f x ∷ [])))
    ∙ ap (λ (y : List Step). before ++ done y) (sym more)

-- ---- steps in parts

-- the first of two parts failed
pub does_first : {S T D E : Type 0} (a b : List Step) (before after : List Call) (one : Result S D) (r : Result T E)
    → IsErr one → IsErr r → Does a before after one → Does (a ++ b) before after r
does_first a b before after (Ok it) r failed fails takes = absurd (cc)
does_first a b before after one (Ok it) failed fails takes = absurd (cc)
does_first a b before after (Err d) (Err e) failed fails takes = (takes.0, takes.1, fails_more a b takes.0 takes.2)

-- the first of two parts was done
pub does_then : {T D : Type 0} (a b : List Step) (before now after : List Call) (r : Result T D)
    → now ≡ before ++ done a → Does b now after r → Does (a ++ b) before after r
does_then a b before now after (Ok x) first second = second ∙ ap (λ (c : List Call). c ++ done b) first ∙ append_assoc before (done a) (done b) ∙ ap (λ (c : List Call). before ++ c) (sym (done_append a b))
does_then a b before now after (Err e) first second =
    (done a ++ second.0, second.1 ∙ ap (λ (c : List Call). c ++ second.0) first ∙ append_assoc before (done a) second.0, fails_after a b second.0 second.2)

-- ---- a settling

map_two : {X Y Z : Type 0} (f : Y → Z) (g : X → Y) (xs : List X) → map (λ x. f (g x)) xs ≡ map f (map g xs)
map_two f g [] = refl
map_two {X} {Y} {Z} f g (x ∷ xs) = ap (λ (t : List Z). f (g x) ∷ t) (map_two f g xs)

settling_parts : {X Y : Type 0} (g : X → Move) (h : Y → Path) (xs : List X) (ys : List Y)
    → (map (λ x. syncing (g x)) xs ++ map (λ x. placing (g x)) xs) ++ map (λ y. naming (h y)) ys ≡ settling (map g xs) (map h ys)
settling_parts g h xs ys =
    ap (λ (t : List Step). (t ++ map (λ x. placing (g x)) xs) ++ map (λ y. naming (h y)) ys) (map_two syncing g xs)
    ∙ ap (λ (t : List Step). (map syncing (map g xs) ++ t) ++ map (λ y. naming (h y)) ys) (map_two placing g xs)
    ∙ ap (λ (t : List Step). (map syncing (map g xs) ++ map placing (map g xs)) ++ t) (map_two naming h ys)

does_as : {T E : Type 0} (a b : List Step) (before after : List Call) (r : Result T E) → a ≡ b → Does a before after r → Does b before after r
does_as a b before after r same takes = subst (λ (x : List Step). Does x before after r) same takes

pub sync_stops : {X Y S T D E : Type 0} (g : X → Move) (h : Y → Path) (xs : List X) (ys : List Y) (before after : List Call) (one : Result S D) (r : Result T E)
    → IsErr one → IsErr r → Does (map (λ x. syncing (g x)) xs) before after one → Does (settling (map g xs) (map h ys)) before after r
sync_stops g h xs ys before after one r failed fails takes =
    let a : List Step = map (λ x. syncing (g x)) xs in
    let b : List Step = map (λ x. placing (g x)) xs in
    let c : List Step = map (λ y. naming (h y)) ys in
    does_as ((a ++ b) ++ c) (settling (map g xs) (map h ys)) before after r (settling_parts g h xs ys)
    (does_first (a ++ b) c before after r r fails fails (does_first a b before after one r failed fails takes))

pub place_stops : {X Y S T D E : Type 0} (g : X → Move) (h : Y → Path) (xs : List X) (ys : List Y) (before now after : List Call) (one : Result S D) (r : Result T E)
    → IsErr one → IsErr r → now ≡ before ++ done (map (λ x. syncing (g x)) xs) → Does (map (λ x. placing (g x)) xs) now after one → Does (settling (map g xs) (map h ys)) before after r
place_stops g h xs ys before now after one r failed fails first takes =
    let a : List Step = map (λ x. syncing (g x)) xs in
    let b : List Step = map (λ x. placing (g x)) xs in
    let c : List Step = map (λ y. naming (h y)) ys in
    does_as ((a ++ b) ++ c) (settling (map g xs) (map h ys)) before after r (settling_parts g h xs ys)
    (does_first (a ++ b) c before after one r failed fails (does_then a b before now after one first takes))

pub all_taken : {X Y T E : Type 0} (g : X → Move) (h : Y → Path) (xs : List X) (ys : List Y) (before first second after : List Call) (r : Result T E)
    → first ≡ before ++ done (map (λ x. syncing (g x)) xs) → second ≡ first ++ done (map (λ x. placing (g x)) xs) → Does (map (λ y. naming (h y)) ys) second after r
    → Does (settling (map g xs) (map h ys)) before after r
all_taken g h xs ys before first second after r one two takes =
    let a : List Step = map (λ x. syncing (g x)) xs in
    let b : List Step = map (λ x. placing (g x)) xs in
    let c : List Step = map (λ y. naming (h y)) ys in
    let both : second ≡ before ++ done (a ++ b) =
    two ∙ ap (λ (x : List Call). x ++ done b) one ∙ append_assoc before (done a) (done b) ∙ ap (λ (x : List Call). before ++ x) (sym (done_append a b)) in
    does_as ((a ++ b) ++ c) (settling (map g xs) (map h ys)) before after r (settling_parts g h xs ys) (does_then (a ++ b) c before second after r both takes)

pub does_takes : {S T D E : Type 0} (steps : List Step) (before after : List Call) (one : Result S D) (r : Result T E) → IsErr one → IsErr r → Does steps before after one → Takes steps before after r
does_takes steps before after (Ok it) r failed fails does = absurd (cc)
does_takes steps before after one (Ok it) failed fails does = absurd (cc)
does_takes steps before after (Err d) (Err e) failed fails does = inr does

pub does_last : {T E : Type 0} (a b : List Step) (before now after : List Call) (r : Result T E) → now ≡ before ++ done a → Does b now after r → Takes (a ++ b) before after r
does_last {T} {E} a b before now after (Ok it) first does = does_then {T = T} {D = E} a b before now after (Ok it) first does
does_last {T} {E} a b before now after (Err e) first does = inr (does_then {T = T} {D = E} a b before now after (Err e) first does)

-- ---- a file of lines

pub none_appended : {E : Type 0} (path : Path) (bytes : Bytes) (calls : List Call) (r : Result ℕ E) → IsErr r → AppendsSome path bytes calls calls r
none_appended path bytes calls (Ok n) failed = absurd (cc)
none_appended path bytes calls (Err e) failed = ([], sym (append-nil calls), (0, tt))

pub append_failed : {E : Type 0} (path : Path) (bytes : Bytes) (before after : List Call) (r : Result ℕ E) → IsErr r
    → after ≡ before ++ (step.Append path bytes, false) ∷ [] → AppendsSome path bytes before after r
append_failed path bytes before after (Ok n) failed is = absurd (cc)
append_failed path bytes before after (Err e) failed is =
    ((step.Append path bytes, false) ∷ [], is, (length bytes, (ap (λ (b : Bytes). step.Append path b) (sym (take-length bytes)), refl)))
