-- What is done fits what is owed.
use Rattle.std.proofs.Common.{◌≡◌, inl, inr, ℕ, zero, suc, Bool, true, false, not, Ok, Err, List, [], ◌∷◌, refl, sym, ap, subst, ◌∙◌}
use Rattle.std.specs.Prelude.{◌==◌, ◌&&◌, ◌||◌, nat_lt, if◌then◌else◌}
use Rattle.std.proofs.Common.{true≢false, arith}
use Rattle.std.proofs.lemmas.Bool.{lt-ltb}
use Rattle.tl_loop.specs.declared.publish_loop.Event.{Event}
use Rattle.tl_loop.specs.declared.publish_loop.Event.TheVariants as event
use Rattle.tl_loop.specs.declared.publish_loop.Doing.{Doing}
use Rattle.tl_loop.specs.declared.publish_loop.Doing.TheVariants as doing
use Rattle.tl_loop.specs.declared.publish_loop.PublishLoop.{PublishLoop}
use Rattle.tl_loop.specs.PublishLoop.{after, after_done, after_failure, after_nothing, if_waiting, is_waiting, next_due, next_rest, next_taking, now_doing, step_of, with_taken}
use Rattle.tl_loop.specs.Order.{Begins, MayDo, Owed, nothing, publication, telling, after_all, once_done, once_nothing, owed_after, owed_all, owed_new, with_entries}

-- what is done, whether something is new, and what is owed meanwhile
abbrev pub Fits : {F : Type 0} → Doing F → Bool → Owed → Type 0
Fits doing.Waiting new owed = owed ≡ owed_new new
Fits doing.Taking new owed = owed ≡ owed_new new
Fits (doing.Publishing last) new owed = owed ≡ publication
Fits (doing.Telling last) new owed = (owed ≡ telling) × (new ≡ false)
Fits (doing.TellingTooLong line) new owed = owed ≡ owed_new new
Fits doing.TellingInputEnded new owed = owed ≡ owed_new new
Fits doing.Closing new owed = owed ≡ owed_new new
Fits doing.TakingRest new owed = owed ≡ owed_new new
Fits doing.Sealing new owed = owed ≡ nothing
Fits (doing.TellingClosed size) new owed = owed ≡ nothing
Fits (doing.Failing fault) new owed = Unit {0}
Fits (doing.Ended (Ok done)) new owed = owed ≡ nothing
Fits (doing.Ended (Err fault)) new owed = Unit {0}

-- what is done fits the step
fits_step : {F : Type 0} (d : Doing F) (new : Bool) (owed : Owed) → Fits d new owed → MayDo owed (step_of d)
fits_step doing.Waiting new owed fits = tt
fits_step doing.Taking new owed fits = tt
fits_step (doing.Publishing last) new owed fits = fits
fits_step (doing.Telling last) new owed fits = fits.0
fits_step (doing.TellingTooLong line) new owed fits = tt
fits_step doing.TellingInputEnded new owed fits = tt
fits_step doing.Closing new owed fits = tt
fits_step doing.TakingRest new owed fits = tt
fits_step doing.Sealing new owed fits = fits
fits_step (doing.TellingClosed size) new owed fits = fits
fits_step (doing.Failing fault) new owed fits = tt
fits_step (doing.Ended (Ok done)) new owed fits = fits
fits_step (doing.Ended (Err fault)) new owed fits = tt

-- ---- what is done next

fits_if : {F : Type 0} (b : Bool) (x y : Doing F) (new : Bool) (owed : Owed) → (b ≡ true → Fits x new owed)
    → (b ≡ false → Fits y new owed) → Fits (if b then x else y) new owed
fits_if true x y new owed first second = first refl
fits_if false x y new owed first second = second refl

-- what is owed with this many more entries
owed_more : (new : Bool) (count : ℕ) (owed : Owed) → owed ≡ owed_new new
    → with_entries count owed ≡ owed_new (new || nat_lt 0 count)
owed_more true zero owed is = is
owed_more true (suc n) owed is = ap (with_entries (suc n)) is
owed_more false zero owed is = is
owed_more false (suc n) owed is =
    let some : nat_lt 0 (suc n) ≡ true = lt-ltb 0 (suc n) (omega arith) in
    ap (with_entries (suc n)) is ∙ sym (ap owed_new some)

-- what is new is owed
both_new : (a b : Bool) (owed : Owed) → owed ≡ owed_new a → a && b ≡ true → owed ≡ publication
both_new true b owed is both = is
both_new false b owed is both = absurd (true≢false (sym both))

fits_taking : {F : Type 0} (h : PublishLoop F) (count : ℕ) (owed : Owed) → owed ≡ owed_new h.has_new
    → Fits (next_taking h count) h.has_new owed
fits_taking h count owed is =
    fits_if (h.has_new && (h.left == 0)) (doing.Publishing false) _ h.has_new owed
    (λ due. both_new h.has_new (h.left == 0) owed is due)
    (λ _. fits_if (nat_lt 0 count) doing.Taking _ h.has_new owed
    (λ _. is)
    (λ _. fits_if (h.has_new && not h.gathers) (doing.Publishing false) doing.Waiting h.has_new owed
    (λ due. both_new h.has_new (not h.gathers) owed is due)
    (λ _. is)))

-- nothing new is owed if there is nothing
none_new : (new : Bool) (owed : Owed) → owed ≡ owed_new new → new ≡ false → owed ≡ nothing
none_new new owed is none = is ∙ ap owed_new none

some_new : (new : Bool) (owed : Owed) → owed ≡ owed_new new → new ≡ true → owed ≡ publication
some_new new owed is some = is ∙ ap owed_new some

fits_rest : {F : Type 0} (h : PublishLoop F) (owed : Owed) → owed ≡ owed_new h.has_new → Fits (next_rest h) h.has_new owed
fits_rest h owed is =
    fits_if h.has_new (doing.Publishing true) doing.Sealing h.has_new owed
    (λ some. some_new h.has_new owed is some) (λ none. none_new h.has_new owed is none)

-- the loop fits what is owed
abbrev pub Suits : {F : Type 0} → PublishLoop F → Owed → Type 0
Suits h owed = Fits h.doing h.has_new owed

fits_done : {F : Type 0} (d : Doing F) (count : ℕ) (h : PublishLoop F) (owed : Owed) → Fits d h.has_new owed
    → Suits (after_done d count h) (once_done (step_of d) count owed)
fits_done doing.Waiting count h owed fits = fits
fits_done doing.Taking count h owed fits =
    fits_taking (with_taken h count) count (with_entries count owed) (owed_more h.has_new count owed fits)
fits_done (doing.Publishing last) count h owed fits = (refl, refl)
fits_done (doing.Telling true) count h owed fits = refl
fits_done (doing.Telling false) count h owed fits = sym (ap owed_new fits.1)
fits_done (doing.TellingTooLong line) count h owed fits = fits
fits_done doing.TellingInputEnded count h owed fits = fits
fits_done doing.Closing count h owed fits = fits
fits_done doing.TakingRest count h owed fits =
    fits_rest (with_taken h count) (with_entries count owed) (owed_more h.has_new count owed fits)
fits_done doing.Sealing count h owed fits = fits
fits_done (doing.TellingClosed size) count h owed fits = fits
fits_done (doing.Failing fault) count h owed fits = tt
fits_done (doing.Ended (Ok done)) count h owed fits = fits
fits_done (doing.Ended (Err fault)) count h owed fits = tt

fits_nothing : {F : Type 0} (d : Doing F) (h : PublishLoop F) (owed : Owed) → Fits d h.has_new owed
    → Suits (after_nothing d h) (once_nothing (step_of d) owed)
fits_nothing doing.Waiting h owed fits = fits
fits_nothing doing.Taking h owed fits = fits
fits_nothing (doing.Publishing true) h owed fits = refl
fits_nothing (doing.Publishing false) h owed fits = refl
fits_nothing (doing.Telling last) h owed fits = fits
fits_nothing (doing.TellingTooLong line) h owed fits = fits
fits_nothing doing.TellingInputEnded h owed fits = fits
fits_nothing doing.Closing h owed fits = fits
fits_nothing doing.TakingRest h owed fits = fits
fits_nothing doing.Sealing h owed fits = fits
fits_nothing (doing.TellingClosed size) h owed fits = fits
fits_nothing (doing.Failing fault) h owed fits = tt
fits_nothing (doing.Ended (Ok done)) h owed fits = fits
fits_nothing (doing.Ended (Err fault)) h owed fits = tt

fits_failure : {F : Type 0} (fault : F) (d : Doing F) (new : Bool) (owed : Owed) → Fits d new owed
    → Fits (after_failure fault d) new owed
fits_failure fault (doing.Failing first) new owed fits = tt
fits_failure fault (doing.Ended (Ok done)) new owed fits = fits
fits_failure fault (doing.Ended (Err first)) new owed fits = tt
fits_failure fault doing.Waiting new owed fits = tt
fits_failure fault doing.Taking new owed fits = tt
fits_failure fault (doing.Publishing last) new owed fits = tt
fits_failure fault (doing.Telling last) new owed fits = tt
fits_failure fault (doing.TellingTooLong line) new owed fits = tt
fits_failure fault doing.TellingInputEnded new owed fits = tt
fits_failure fault doing.Closing new owed fits = tt
fits_failure fault doing.TakingRest new owed fits = tt
fits_failure fault doing.Sealing new owed fits = tt
fits_failure fault (doing.TellingClosed size) new owed fits = tt

waits : {F : Type 0} (d : Doing F) → is_waiting d ≡ true → d ≡ doing.Waiting
waits doing.Waiting is = refl
waits doing.Taking is = absurd (true≢false (sym is))
waits (doing.Publishing last) is = absurd (true≢false (sym is))
waits (doing.Telling last) is = absurd (true≢false (sym is))
waits (doing.TellingTooLong line) is = absurd (true≢false (sym is))
waits doing.TellingInputEnded is = absurd (true≢false (sym is))
waits doing.Closing is = absurd (true≢false (sym is))
waits doing.TakingRest is = absurd (true≢false (sym is))
waits doing.Sealing is = absurd (true≢false (sym is))
waits (doing.TellingClosed size) is = absurd (true≢false (sym is))
waits (doing.Failing fault) is = absurd (true≢false (sym is))
waits (doing.Ended outcome) is = absurd (true≢false (sym is))

suits_if : {F : Type 0} (b : Bool) (x y : PublishLoop F) (owed : Owed) → (b ≡ true → Suits x owed) → (b ≡ false → Suits y owed)
    → Suits (if b then x else y) owed
suits_if true x y owed first second = first refl
suits_if false x y owed first second = second refl

-- what is done at an event fits if the loop waits
fits_waiting : {F : Type 0} (h : PublishLoop F) (told : Doing F) (owed : Owed) → Suits h owed
    → (owed ≡ owed_new h.has_new → Fits told h.has_new owed) → Suits (if_waiting h told) owed
fits_waiting h told owed fits told_fits =
    suits_if (is_waiting h.doing) (now_doing h told) h owed
    (λ is. told_fits (subst (λ d. Fits d h.has_new owed) (waits h.doing is) fits)) (λ other. fits)

fits_after : {F : Type 0} (h : PublishLoop F) (e : Event F) (owed : Owed) → Suits h owed
    → Suits (after h e) (owed_after (step_of h.doing) e owed)
fits_after h (event.Done count) owed fits = fits_done h.doing count h owed fits
fits_after h event.NothingNew owed fits = fits_nothing h.doing h owed fits
fits_after h (event.TooLong line) owed fits = fits_waiting h (doing.TellingTooLong line) owed fits (λ is. is)
fits_after h event.InputEnded owed fits = fits_waiting h doing.TellingInputEnded owed fits (λ is. is)
fits_after h event.Due owed fits =
    fits_waiting h (next_due h) owed fits
    (λ is. fits_if h.has_new (doing.Publishing false) doing.Waiting h.has_new owed
    (λ some. some_new h.has_new owed is some) (λ _. is))
fits_after h event.Stopped owed fits = fits_waiting h doing.Closing owed fits (λ is. is)
fits_after h (event.Failed fault) owed fits = fits_failure fault h.doing h.has_new owed fits

fits_all : {F : Type 0} (h : PublishLoop F) (es : List (Event F)) (owed : Owed) → Suits h owed
    → Suits (after_all h es) (owed_all h es owed)
fits_all h [] owed fits = fits
fits_all h (e ∷ es) owed fits = fits_all (after h e) es (owed_after (step_of h.doing) e owed) (fits_after h e owed fits)

-- a log that begins fits what it owes
begins_fits : {F : Type 0} (h : PublishLoop F) (owed : Owed) → Begins h owed → Suits h owed
begins_fits h owed (inl (is, none, owes)) = subst (λ d. Fits d h.has_new owed) (sym is) (owes, none)
begins_fits h owed (inr (is, owes)) = subst (λ d. Fits d h.has_new owed) (sym is) owes

pub in_order : {F : Type 0} (h : PublishLoop F) (owed : Owed) → Begins h owed → (es : List (Event F))
    → MayDo (owed_all h es owed) (step_of (after_all h es).doing)
in_order h owed begins es =
    fits_step (after_all h es).doing (after_all h es).has_new (owed_all h es owed)
    (fits_all h es owed (begins_fits h owed begins))
