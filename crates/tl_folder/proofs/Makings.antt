-- Making folders.
use Rattle.std.proofs.Common.{◌≡◌, true, false, inl, inr, List, [], ◌∷◌, ◌++◌, Some, None, refl, sym, ap, subst, ◌∙◌, append_assoc}
use Rattle.std.specs.Prelude.{Bool, Result, Ok, Err, IsErr, is_ok}
use Rattle.std.specs.Path.{path_parent}
use Rattle.tl_folder.specs.Step.{Path, Bytes}
use Rattle.tl_folder.specs.Step as step
use Rattle.tl_folder.specs.FileCalls.{Call, done, Fails}
use Rattle.tl_folder.specs.Settling.{IsUp, is_itself, is_higher, making, Asks, AsksUp, asks_none, asks_more, AsksFolder, AsksAbove, IsAside, WritesAside}
use Rattle.tl_folder.specs.Inner.Making.{AsksOne, StopsUp, MakesFolders}
use Rattle.tl_folder.proofs.Asides.{up_aside, above_aside, aside_append}

-- ---- folders above

pub one_up : {named : Bool} {path : Path} {before mid after : List Call} → AsksUp named path before mid → Asks named path mid after → AsksUp named path before after
one_up up asks = asks_more up is_itself asks

pub raised : {named : Bool} {path parent : Path} {before after : List Call} → path_parent path ≡ Some parent → AsksUp named parent before after → AsksUp named path before after
raised is asks_none = asks_none
raised is (asks_more up is_up asks) = asks_more (raised is up) (is_higher is is_up) asks

pub joined : {named : Bool} {path : Path} {a b c : List Call} → AsksUp named path a b → AsksUp named path b c → AsksUp named path a c
joined first asks_none = first
joined first (asks_more up is_up asks) = asks_more (joined first up) is_up asks

raised_stop : (named : Bool) (path parent : Path) (mid after : List Call) → path_parent path ≡ Some parent → StopsUp named parent mid after → StopsUp named path mid after
raised_stop named path parent mid after is (inl same) = inl same
raised_stop named path parent mid after is (inr (folder, made, is_up, are, fails)) = inr (folder, made, is_higher is is_up, are, fails)

-- after others were asked for, one of the calls that make the folder failed
pub one_stops : {S T D E : Type 0} (named : Bool) (path : Path) (before mid after : List Call) (one : Result S D) (r : Result T E)
    → IsErr one → IsErr r → AsksUp named path before mid → AsksOne named path mid after one → MakesFolders named path before after r
one_stops named path before mid after (Ok x) r failed fails up asks = absurd (cc)
one_stops named path before mid after one (Ok x) failed fails up asks = absurd (cc)
one_stops named path before mid after (Err d) (Err e) failed fails up (made, are, ill) = (mid, up, inr (path, made, is_itself, are, ill))

-- the folder was asked for, and what came after it failed
pub asked_stops : {T E : Type 0} (named : Bool) (path : Path) (before after : List Call) (r : Result T E)
    → IsErr r → AsksFolder named path before after → MakesFolders named path before after r
asked_stops named path before after (Ok x) failed asks = absurd (cc)
asked_stops named path before after (Err e) failed (mid, up, asks) = (after, one_up up asks, inl refl)

-- the folders above it failed
pub up_stops : {S T D E : Type 0} (named : Bool) (path parent : Path) (before mid after : List Call) (above : Result S D) (r : Result T E)
    → IsErr above → IsErr r → path_parent path ≡ Some parent → AsksUp named path before mid → MakesFolders named parent mid after above → MakesFolders named path before after r
up_stops named path parent before mid after (Ok x) r failed fails is up makes = absurd (cc)
up_stops named path parent before mid after above (Ok x) failed fails is up makes = absurd (cc)
up_stops named path parent before mid after (Err d) (Err e) failed fails is up (last, more, stops) = (last, joined up (raised is more), raised_stop named path parent last after is stops)

-- the folders above it are there
pub above_asked : (named : Bool) (path parent : Path) (before mid after : List Call) → path_parent path ≡ Some parent → AsksUp named path before mid → AsksFolder named parent mid after → AsksUp named path before after
above_asked named path parent before mid after is up (last, more, asks) = joined up (raised is (one_up more asks))

-- ---- a file that is written beside its place

-- the same calls after others
rebased_one : (named : Bool) (folder : Path) (a mid after : List Call) (front : List Call) → mid ≡ a ++ front → Asks named folder mid after
    → (made : List Call) × (after ≡ a ++ made) × Asks named folder front made
rebased_one named folder a mid after front is (inl asked) =
    (front ++ done (making named folder), asked ∙ ap (λ (x : List Call). x ++ done (making named folder)) is ∙ append_assoc a front (done (making named folder)), inl refl)
rebased_one named folder a mid after front is (inr asked) =
    (front ++ (step.MakeFolder folder, false) ∷ [], asked ∙ ap (λ (x : List Call). x ++ (step.MakeFolder folder, false) ∷ []) is ∙ append_assoc a front ((step.MakeFolder folder, false) ∷ []), inr refl)

pub rebased : {named : Bool} {path : Path} (a b before : List Call) {after : List Call} → before ≡ a ++ b → AsksUp named path before after → (made : List Call) × (after ≡ a ++ made) × AsksUp named path b made
rebased a b before is asks_none = (b, is, asks_none)
rebased {named} a b before {after} is (asks_more {mid = mid} {folder = folder} up is_up asks) =
    let it = rebased a b before is up in
    let one = rebased_one named folder a mid after it.0 it.1 asks in
    (one.0, one.1, asks_more it.2 is_up one.2)

fails_aside : (path own folder : Path) (bytes : Bytes) (made : List Call) → path_parent path ≡ Some own → IsUp own folder → Fails (making false folder) made → IsAside path bytes made
fails_aside path own folder bytes [] parent is_up fails = absurd fails
fails_aside path own folder bytes ((asked, true) ∷ []) parent is_up fails = absurd fails.1
fails_aside path own folder bytes ((asked, true) ∷ (call ∷ more)) parent is_up fails = absurd fails.1
fails_aside path own folder bytes ((asked, false) ∷ more) parent is_up fails =
    (inr (own, folder, parent, is_up, fails.0), subst (λ (x : List Call). IsAside path bytes x) (sym fails.1) tt)

-- writing the file failed, and then making a folder above it
pub unmade_aside : {S T D E : Type 0} (path own : Path) (bytes : Bytes) (before first after : List Call) (one : Result S D) (r : Result T E)
    → IsErr one → IsErr r → path_parent path ≡ Some own → first ≡ before ++ (step.Write path bytes, false) ∷ [] → MakesFolders false own first after one → WritesAside path bytes before after r
unmade_aside path own bytes before first after (Ok x) r failed fails parent is makes = absurd (cc)
unmade_aside path own bytes before first after one (Ok x) failed fails parent is makes = absurd (cc)
unmade_aside path own bytes before first after (Err d) (Err e) failed fails parent is (mid, up, stops) =
    let it = rebased before ((step.Write path bytes, false) ∷ []) first is up in
    let front : IsAside path bytes it.0 = up_aside path own bytes ((step.Write path bytes, false) ∷ []) parent (inl refl, tt) it.2 in
    elim stops as (λ _. (made : List Call) × (after ≡ before ++ made) × IsAside path bytes made) [
      | inl same ↦ (it.0, same ∙ it.1, front)
      | inr more ↦ (
        it.0 ++ more.1,
        more.3 ∙ ap (λ (x : List Call). x ++ more.1) it.1 ∙ append_assoc before it.0 more.1,
        aside_append path bytes it.0 more.1 front (fails_aside path own more.0 bytes more.1 parent more.2 more.4),
      )
    ]

-- the file was written at the second time, or not
last_written : {T E : Type 0} (path : Path) (bytes : Bytes) (before front after : List Call) (r : Result T E) → AsksAbove path ((step.Write path bytes, false) ∷ []) front
    → after ≡ before ++ (front ++ (step.Write path bytes, is_ok r) ∷ []) → WritesAside path bytes before after r
last_written path bytes before front after (Ok x) above all = (front ++ (step.Write path bytes, true) ∷ [], all, inr (front, above, refl))
last_written path bytes before front after (Err e) above all = (
  front ++ (step.Write path bytes, false) ∷ [],
  all,
  aside_append path bytes front ((step.Write path bytes, false) ∷ []) (above_aside path bytes ((step.Write path bytes, false) ∷ []) front (inl refl, tt) above) (inl refl, tt),
)

-- the file was written once the folder that it is in was asked for, or not
pub then_written : {T E : Type 0} (path own : Path) (bytes : Bytes) (before first mid after : List Call) (r : Result T E) → path_parent path ≡ Some own
    → first ≡ before ++ (step.Write path bytes, false) ∷ [] → AsksFolder false own first mid → after ≡ mid ++ (step.Write path bytes, is_ok r) ∷ [] → WritesAside path bytes before after r
then_written path own bytes before first mid after r parent is (last, up, asks) wrote =
    let it = rebased before ((step.Write path bytes, false) ∷ []) first is up in
    let one = rebased_one false own before last mid it.0 it.1 asks in
    last_written path bytes before one.0 after r (inr (own, parent, (it.0, it.2, one.2)))
    (wrote ∙ ap (λ (x : List Call). x ++ (step.Write path bytes, is_ok r) ∷ []) one.1 ∙ append_assoc before one.0 ((step.Write path bytes, is_ok r) ∷ []))

-- the file is in no folder, and was written at the second time, or not
pub again_written : {T E : Type 0} (path : Path) (bytes : Bytes) (before first after : List Call) (r : Result T E) → path_parent path ≡ None
    → first ≡ before ++ (step.Write path bytes, false) ∷ [] → after ≡ first ++ (step.Write path bytes, is_ok r) ∷ [] → WritesAside path bytes before after r
again_written path bytes before first after r none is wrote =
    last_written path bytes before ((step.Write path bytes, false) ∷ []) after r (inl (none, refl))
    (wrote ∙ ap (λ (x : List Call). x ++ (step.Write path bytes, is_ok r) ∷ []) is ∙ append_assoc before ((step.Write path bytes, false) ∷ []) ((step.Write path bytes, is_ok r) ∷ []))
