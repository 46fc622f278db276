use Rattle.std.proofs.Common.{◌≡◌, ◌++◌, ◌+◌, map, length, ◌≤◌, string_bytes}
use Rattle.std.specs.Prelude.{vec_capacity}
use Rattle.tl_witness.specs.Witnessed.{Witnessed}
use Rattle.tl_note.specs.Key.{named_key}
use Rattle.tl_witness.proofs.shared.SharedWitness.new.Given as goal

-- what was moved and what is left are all, and there is room for it
abbrev pub invariant-loop-state : goal.invariant-loop-state
invariant-loop-state g l =
    (goal.iterator-loop-state g).can_next l.state-iterator
    × (goal.iterator-loop-state g).is_finite l.state-iterator
    × (map {B = Witnessed} (λ e. record { origin = string_bytes e.origin.name; verifiers = map (λ v. (goal.Verifier-dyn g (v.vtable, v.value)).key v.value) e.origin.verifiers.items; cosigner = named_key (string_bytes e.origin.cosigner_name.text) ((goal.Signer-dyn g (e.origin.cosigner.vtable, e.origin.cosigner.value)).signing_key e.origin.cosigner.value); chain = e.chain.slot.value }) l.states.items
    ++ map {B = Witnessed} (λ e. record { origin = string_bytes e.origin.name; verifiers = map (λ v. (goal.Verifier-dyn g (v.vtable, v.value)).key v.value) e.origin.verifiers.items; cosigner = named_key (string_bytes e.origin.cosigner_name.text) ((goal.Signer-dyn g (e.origin.cosigner.vtable, e.origin.cosigner.value)).signing_key e.origin.cosigner.value); chain = e.chain }) l.state-iterator.rest.items
    ≡ map {B = Witnessed} (λ e. record { origin = string_bytes e.origin.name; verifiers = map (λ v. (goal.Verifier-dyn g (v.vtable, v.value)).key v.value) e.origin.verifiers.items; cosigner = named_key (string_bytes e.origin.cosigner_name.text) ((goal.Signer-dyn g (e.origin.cosigner.vtable, e.origin.cosigner.value)).signing_key e.origin.cosigner.value); chain = e.chain }) l.fn.book.states.items)
    × (length l.states.items + length l.state-iterator.rest.items ≤ vec_capacity l.states)
    × (l.state-iterator.rest.len ≡ length l.state-iterator.rest.items)
