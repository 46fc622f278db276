use Rattle.std.proofs.Common.{◌≡◌, ◌+◌, map, vec_items, length, arith}
use Rattle.std.proofs.lemmas.List.{length-map}
use Rattle.std.proofs.lemmas.Option.{slice_get_within}
use Rattle.tl_sequencer.proofs.Places.{found-place, found-entry, no-lane, no-number}
use Rattle.tl_sequencer.proofs.sequencer.Sequencer.place_of.Goals as goal

pub returns-in_default-clause-place : goal.returns-in_default-clause-place
returns-in_default-clause-place g c =
    let s = c.self.inside in
    let past = rw c.deref.ensures.value at c.in_default.ensures.lookup.3 in
    rw (← c.self.view_is) (no-lane s.places.items s.who.items c.self.invariant.placed c.args.lane c.args.number past)

pub returns-in_default-get-clause-place : goal.returns-in_default-get-clause-place
returns-in_default-get-clause-place g c =
    let s = c.self.inside in
    let at = rw c.deref.ensures.value at c.in-Some.ensures.lookup.1 in
    let within = rw c.deref.ensures.value at c.in-Some.ensures.lookup.3.0 in
    let past = rw c.deref-2.ensures.value at c.in_default-get.ensures.lookup.3 in
    rw (← c.self.view_is) (no-number s.places.items s.who.items c.self.invariant.placed c.args.lane c.args.number c.in-Some.places.now within at past)

pub overflow_add-result : goal.overflow_add-result
overflow_add-result g c =
    let s = c.self.inside in
    let at = rw c.deref.ensures.value at c.in-Some.ensures.lookup.1 in
    let within = rw c.deref.ensures.value at c.in-Some.ensures.lookup.3.0 in
    let place = rw c.deref-2.ensures.value at c.in-Some-get.ensures.lookup.1 in
    let before = rw c.deref-2.ensures.value at c.in-Some-get.ensures.lookup.3.0 in
    let f = found-place s.places.items s.who.items c.self.invariant.placed c.args.lane c.args.number c.in-Some.places.now c.in-Some-get.place.now within at before place in
    let below = slice_get_within s.who.items f.k c.args.lane f.is in
    omega (arith, f.at, s.who.small, s.base.small, s.who.ok.0)

pub returns : goal.returns
returns g c =
    let s = c.self.inside in
    let at = rw c.deref.ensures.value at c.in-Some.ensures.lookup.1 in
    let within = rw c.deref.ensures.value at c.in-Some.ensures.lookup.3.0 in
    let place = rw c.deref-2.ensures.value at c.in-Some-get.ensures.lookup.1 in
    let before = rw c.deref-2.ensures.value at c.in-Some-get.ensures.lookup.3.0 in
    let f = found-place s.places.items s.who.items c.self.invariant.placed c.args.lane c.args.number c.in-Some.places.now c.in-Some-get.place.now within at before place in
    let base = map vec_items s.base.items in
    let taken = map vec_items s.taken.items in
    let there : c.len.result + c.in-Some-get.place.now ≡ length base + c.in-Some-get.place.now = omega (arith, s.base.ok.0, length-map s.base.items vec_items) in
    rw (← c.self.view_is) record {
      place = (f.k, omega (arith, f.at), f.is, f.numbered);
      entry = found-entry c.args.lane c.args.number c.in-Some-get.place.now _ s.who.items base taken c.self.invariant.log.merged.0 f there;
    }
