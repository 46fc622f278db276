use Rattle.std.proofs.lemmas.List.{length-map, get_or-map}
use Rattle.std.proofs.lemmas.Option.{slice_get_within, get_or_from_slice_get}
use Rattle.std.specs.List.{slice_get}
use Rattle.std.proofs.Common.{map, Some, ℕ, ◌-◌, ◌+◌, ◌<◌, ◌≤◌, ◌≡◌, length, arith, sym, subst, ap, ◌∙◌}
use Rattle.std.proofs.lemmas.Grind.{common_steps}
use Rattle.tl_sequencer.specs.Log.{Lane, Log, IsEndOf, entries_of}
use Rattle.tl_sequencer.specs.Rings.{log_of}
use Rattle.tl_sequencer.proofs.Logs.{refuses-log, Ends-closes, Ends-fits, same-log, log-length, same-rings, given-is}
use Rattle.tl_sequencer.proofs.Keeps.{Ends-kept, same-kept}
use Rattle.tl_sequencer.proofs.sequencer.Sequencer.end.Goals as goal
use Rattle.tl_sequencer.proofs.sequencer.Sequencer.end.Goals.{in-Ok, in-Err}

mine : (g : _) (c : goal.Joined-end g) → slice_get (map (λ (l : Lane _). l.ring) c.self.inside.lanes.items) c.lane-lane.result ≡ Some c.args.ended.ring
mine g c = rw c.lane-lane.ensures (subst (IsEndOf c.args.ended) (sym c.self.view_is) c.requires)

inside : (g : _) (c : goal.Joined-end g) → c.lane-lane.result < length c.self.inside.lanes.items
inside g c = let h : c.lane-lane.result < length (map (λ (l : Lane _). l.ring) c.self.inside.lanes.items) = slice_get_within _ _ _ (mine g c) in omega (arith, length-map c.self.inside.lanes.items (λ (l : Lane _). l.ring))

own : (g : _) (c : goal.Joined-end g) → c.index_mut-ending.result.now.ring ≡ c.args.ended.ring
own g c = let x = c.index_mut-ending.result.now in ap (λ (l : Lane _). l.ring) c.index_mut-ending.ensures.value ∙ sym (get_or-map (λ (l : Lane _). l.ring) c.self.inside.lanes.items c.lane-lane.result x x.ring (inside g c)) ∙ get_or_from_slice_get (map (λ (l : Lane _). l.ring) c.self.inside.lanes.items) c.lane-lane.result c.args.ended.ring x.ring (mine g c)

abbrev before : (g : _) (c : goal.Joined-end g) → Log g.row.A.Denot
before g c = let s = c.self.inside in log_of s.base.items s.taken.items s.who.items s.limit s.lanes.items

room : (g : _) (c : goal.Joined-end g) → c.self.inside.limit - (c.len.result + c.len-2.result) + length (entries_of (before g c)) ≡ c.self.inside.limit
room g c = let s = c.self.inside in let e = log-length s.base.items s.taken.items s.who.items s.limit s.lanes.items in omega (arith, c.self.invariant.log.fits)

fits : (g : _) (c : goal.Joined-end g) (n : ℕ) → n ≤ c.self.inside.limit - (c.len.result + c.len-2.result) → length (entries_of (before g c)) + n ≤ c.self.inside.limit
fits g c n h = let r = room g c in omega arith

pub invariant_of-self : goal.invariant_of-self
invariant_of-self g c = elim c.match-end.branch [
  | in-Ok w ↦ Ends-kept _ _ _ _ _ _ _ _ _ _ _ _ _ (inside g c) c.index_mut-ending.ensures.value c.index_mut-places.ensures.value _ _ (fits g c _ w.in-Ok.ensures.room) w.in-Ok.ensures.taken w.in-Ok.ensures.placed c.self.invariant
  | in-Err w ↦ same-kept _ _ _ _ _ _ _ _ _ _ _ _ _ (inside g c) c.index_mut-ending.ensures.value c.index_mut-places.ensures.value w.in-Err.ensures.err.0 w.in-Err.ensures.err.1 w.in-Err.ensures.err.2 w.in-Err.ensures.kept c.self.invariant
]

pub returns-clause-taken : goal.returns-clause-taken
returns-clause-taken g c = elim c.match-end.branch [
  | in-Ok w ↦ rw (w.result-is, ← c.self.view_is) (Ends-closes _ _ _ _ _ _ _ _ _ _ (inside g c) c.index_mut-ending.ensures.value _ _ (sym c.lane-lane.ensures) (fits g c _ w.in-Ok.ensures.room) w.in-Ok.ensures.taken)
  | in-Err w ↦ rw w.result-is tt
]

pub returns-clause-same : goal.returns-clause-same
returns-clause-same g c = elim c.match-end.branch [
  | in-Ok w ↦ rw w.result-is tt
  | in-Err w ↦ rw (w.result-is, ← c.self.view_is) (same-log _ _ _ _ _ _ _ _ _ _ (inside g c) c.index_mut-ending.ensures.value w.in-Err.ensures.err.0 w.in-Err.ensures.err.1 w.in-Err.ensures.err.2)
]

pub returns-clause-rings : goal.returns-clause-rings
returns-clause-rings g c = rw (← c.self.view_is) (same-rings c.self.inside.lanes.items c.lane-lane.result c.index_mut-ending.result.now c.end.new.self c.index_mut-ending.ensures.value c.end.ensures.ring)

pub returns-clause-may : goal.returns-clause-may
returns-clause-may g c = elim c.match-end.branch [
  | in-Ok w ↦ rw (w.result-is, ← c.self.view_is) (Ends-fits _ _ _ _ _ _ _ _ _ _ (inside g c) c.index_mut-ending.ensures.value _ _ (sym c.lane-lane.ensures) (fits g c _ w.in-Ok.ensures.room) w.in-Ok.ensures.taken)
  | in-Err w ↦ rw w.result-is tt
]

pub returns-clause-why : goal.returns-clause-why
returns-clause-why g c = elim c.match-end.branch [
  | in-Ok w ↦ rw w.result-is tt
  | in-Err w ↦ rw (w.result-is, ← c.self.view_is) (refuses-log (before g c) c.args.ended _ _ _ (room g c) (rw (← c.lane-lane.ensures) (given-is (before g c) _ _ (inside g c) c.index_mut-ending.ensures.value)) w.in-Err.ensures.why)
]

pub overflow_sub-room : goal.overflow_sub-room
overflow_sub-room g c = grind (arith, common_steps)
