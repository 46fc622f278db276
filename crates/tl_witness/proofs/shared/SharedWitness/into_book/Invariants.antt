use Rattle.std.proofs.Common.{◌≡◌, ◌++◌, ◌+◌, map, length, ◌≤◌, string_bytes}
use Rattle.std.specs.Prelude.{vec_capacity}
use Rattle.tl_witness.specs.Runs.{IsLaterBook}
use Rattle.tl_witness.specs.Witnessed.{Witnessed}
use Rattle.tl_note.specs.Key.{named_key}
use Rattle.tl_witness.proofs.shared.SharedWitness.into_book.Given as goal

-- what was taken apart and what is left are all, each origin is a later one, and there is room for all
abbrev pub invariant-loop-guarded : goal.invariant-loop-guarded
invariant-loop-guarded g l =
    (goal.iterator-loop-guarded g).can_next l.guarded-iterator
    × (goal.iterator-loop-guarded g).is_finite l.guarded-iterator
    × (map {B = Witnessed} (λ e. record { origin = string_bytes e.origin.name; verifiers = map (λ v. (goal.Verifier-dyn g (v.vtable, v.value)).key v.value) e.origin.verifiers.items; cosigner = named_key (string_bytes e.origin.cosigner_name.text) ((goal.Signer-dyn g (e.origin.cosigner.vtable, e.origin.cosigner.value)).signing_key e.origin.cosigner.value); chain = e.chain.slot.value }) l.yielded
    ++ map {B = Witnessed} (λ e. record { origin = string_bytes e.origin.name; verifiers = map (λ v. (goal.Verifier-dyn g (v.vtable, v.value)).key v.value) e.origin.verifiers.items; cosigner = named_key (string_bytes e.origin.cosigner_name.text) ((goal.Signer-dyn g (e.origin.cosigner.vtable, e.origin.cosigner.value)).signing_key e.origin.cosigner.value); chain = e.chain.slot.value }) l.guarded-iterator.rest.items
    ≡ map {B = Witnessed} (λ e. record { origin = string_bytes e.origin.name; verifiers = map (λ v. (goal.Verifier-dyn g (v.vtable, v.value)).key v.value) e.origin.verifiers.items; cosigner = named_key (string_bytes e.origin.cosigner_name.text) ((goal.Signer-dyn g (e.origin.cosigner.vtable, e.origin.cosigner.value)).signing_key e.origin.cosigner.value); chain = e.chain.slot.value }) l.fn.self.states.items)
    × (length l.states.items + length l.guarded-iterator.rest.items ≤ vec_capacity l.states)
    × (l.guarded-iterator.rest.len ≡ length l.guarded-iterator.rest.items)
    × IsLaterBook g.T.TreeHash.digest_of (map {B = Witnessed} (λ e. record { origin = string_bytes e.origin.name; verifiers = map (λ v. (goal.Verifier-dyn g (v.vtable, v.value)).key v.value) e.origin.verifiers.items; cosigner = named_key (string_bytes e.origin.cosigner_name.text) ((goal.Signer-dyn g (e.origin.cosigner.vtable, e.origin.cosigner.value)).signing_key e.origin.cosigner.value); chain = e.chain.slot.value }) l.yielded) (map {B = Witnessed} (λ e. record { origin = string_bytes e.origin.name; verifiers = map (λ v. (goal.Verifier-dyn g (v.vtable, v.value)).key v.value) e.origin.verifiers.items; cosigner = named_key (string_bytes e.origin.cosigner_name.text) ((goal.Signer-dyn g (e.origin.cosigner.vtable, e.origin.cosigner.value)).signing_key e.origin.cosigner.value); chain = e.chain }) l.states.items)
