-- Steps of a log that are carried out one after another, and what is reported of the lines that are left.
use Rattle.std.proofs.Common.{◌≡◌, inl, inr, ℕ, suc, zero, ◌+◌, ◌-◌, ◌^◌, ◌≤◌, Bool, false, List, [], ◌∷◌, ◌++◌, length, ap, arith, refl, subst, sym, ◌∙◌}
use Rattle.std.specs.Prelude.{Option, Result}
use Rattle.tl_device.specs.Device.{Passage}
use Rattle.tl_hash.specs.declared.head.Head.{Head}
use Rattle.tl_loop.specs.declared.publish_loop.Event.{Event}
use Rattle.tl_loop.specs.declared.publish_loop.PublishLoop.{PublishLoop}
use Rattle.tl_loop.specs.PublishLoop.{after, step_of}
use Rattle.tl_loop.specs.Order.{after_all}
use Rattle.tl_sequencer.specs.Log.{Log}
use Rattle.tl_run.specs.declared.fault.RunFault.{RunFault}
use Rattle.tl_serve.specs.Inner.Carrying.{Does, DoesAll, Drives, Moment, is_own}
use Rattle.tl_serve.specs.Inner.Telling.{Tells, TellsRest, told_not_published}

after_more : (first : PublishLoop RunFault) (events : List (Event RunFault)) (e : Event RunFault) → after_all first (events ++ e ∷ []) ≡ after (after_all first events) e
after_more first [] e = refl
after_more first (x ∷ events) e = after_more (after first x) events e

length_more : {X : Type 0} (xs : List X) (x : X) → length (xs ++ x ∷ []) ≡ length xs + 1
length_more [] x = refl
length_more (y ∷ xs) x = let more = length_more xs x in omega (arith, more)

module _ {O F L A : Type 0} (log_of : O → Log A) (Shows : O → O → Result Bool RunFault → Type 0) (Heads : O → O → Option Head → Type 0) (Gives : F → F → Event RunFault → Type 0) (contents : L → Option (List ℕ)) where
  does_more : (first : PublishLoop RunFault) (events : List (Event RunFault)) (e : Event RunFault) (m n k : Moment O F L) → DoesAll log_of Shows Heads Gives contents first events m n
      → Does log_of Shows Heads Gives contents (step_of (after_all first events).doing) (after_all first events).left n k e
      → DoesAll log_of Shows Heads Gives contents first (events ++ e ∷ []) m k
  does_more first [] e m n k done does = (k, subst (λ (x : Moment O F L). Does log_of Shows Heads Gives contents (step_of first.doing) first.left x k e) done does, refl)
  does_more first (x ∷ events) e m n k done does = (done.0, done.1, does_more (after first x) events e done.0 n k done.2 does)

  -- this many steps were carried out
  pub record HasDriven (first : PublishLoop RunFault) (m n : Moment O F L) (now : PublishLoop RunFault) (count : ℕ) : Type 0 where
    pub events : List (Event RunFault)
    pub done : DoesAll log_of Shows Heads Gives contents first events m n
    pub comes : now ≡ after_all first events
    pub counted : length events ≡ count

  pub driven_first : (first : PublishLoop RunFault) (m : Moment O F L) → HasDriven first m m first 0
  driven_first first m = record { events = []; done = refl; comes = refl; counted = refl }

  pub driven_next : (first now next : PublishLoop RunFault) (m n k : Moment O F L) (count : ℕ) (e : Event RunFault) → HasDriven first m n now count
      → Does log_of Shows Heads Gives contents (step_of now.doing) now.left n k e → next ≡ after now e → HasDriven first m k next (count + 1)
  driven_next first now next m n k count e so_far does is = record {
    events = so_far.events ++ e ∷ [];
    done = does_more first so_far.events e m n k so_far.done (subst (λ (h : PublishLoop RunFault). Does log_of Shows Heads Gives contents (step_of h.doing) h.left n k e) so_far.comes does);
    comes = is ∙ ap (λ (h : PublishLoop RunFault). after h e) so_far.comes ∙ sym (after_more first so_far.events e);
    counted = omega (arith, length_more so_far.events e, so_far.counted);
  }

  pub driven_ends : (first last : PublishLoop RunFault) (m n k : Moment O F L) (count : ℕ) → HasDriven first m n last count
      → is_own (step_of last.doing) ≡ false → k ≡ n → Drives log_of Shows Heads Gives contents first m k last
  driven_ends first last m n k count so_far not same =
      subst (λ (x : Moment O F L). Drives log_of Shows Heads Gives contents first m x last) (sym same)
      (record { events = so_far.events; done = so_far.done; comes = so_far.comes; ends = inl not })

  pub driven_long : (first last : PublishLoop RunFault) (m n : Moment O F L) (count : ℕ) → HasDriven first m n last count → 2 ^ 64 - 1 ≤ count
      → Drives log_of Shows Heads Gives contents first m n last
  driven_long first last m n count so_far all = record { events = so_far.events; done = so_far.done; comes = so_far.comes; ends = inr (omega (arith, so_far.counted, all)) }

-- ---- what is reported in the end

pub tells_rest : (n rest : ℕ) (o : Passage) (told : Result (Unit {0}) RunFault) → rest ≡ n → (rest ≡ 0 → ⊥) → Tells (told_not_published rest) o told → TellsRest n o told
tells_rest zero rest o told is some tells = absurd (some is)
tells_rest (suc n) rest o told is some tells = subst (λ k. Tells (told_not_published k) o told) is tells
