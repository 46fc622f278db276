use Rattle.std.proofs.Common.{◌≡◌, ◌↔◌, Bool, false, true, IsTrue, refl}
use Rattle.tl_feed.specs.Inner.Tallying.{IsFor}
use Rattle.tl_feed.specs.declared.tally.Round.{Round}
use Rattle.tl_feed.proofs.tally.Tally.is_idle.Goals as goal
use mathlib.Core.Bool.{not}

idle : (is_for : Bool) (For : Round → Type 0) (Goes : Type 0) → Goes → (IsTrue is_for ↔ ((round : Round) × For round))
    → IsTrue (not is_for) ↔ (Goes × ((round : Round) → For round → ⊥))
idle true For Goes goes wanted = (λ none. absurd cc, λ none. absurd (none.1 (wanted.0 refl).0 (wanted.0 refl).1))
idle false For Goes goes wanted = (λ none. (goes, λ round own. absurd (let is = wanted.1 (round, own) in cc)), λ none. refl)

pub returns-then-not-self : goal.returns-then-not-self
returns-then-not-self c =
    idle c.is_for.result (IsFor c.args.self.now c.args.place c.args.after) (c.args.self.now.has_ended ≡ false) c.if-not-self.true c.is_for.ensures
