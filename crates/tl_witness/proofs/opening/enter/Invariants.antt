use Rattle.std.proofs.Common.{◌≡◌, ◌++◌, map, length, string_bytes}
use Rattle.tl_witness.specs.Open.{Trusted, saved_chain}
use Rattle.tl_witness.specs.Witnessed.{Witnessed}
use Rattle.tl_note.specs.Key.{named_key}
use Rattle.tl_witness.proofs.OpeningLaws.{HasEntered}
use Rattle.tl_witness.proofs.opening.enter.Given as goal

abbrev pub invariant-loop-trust : goal.invariant-loop-trust
invariant-loop-trust g l =
    (goal.iterator-loop-trust g).can_next l.trust-iterator
    × (goal.iterator-loop-trust g).is_finite l.trust-iterator
    × (map {B = Trusted} (λ t. record { origin = string_bytes t.origin; verifiers = map (λ v. (goal.Verifier-dyn g (v.vtable, v.value)).key v.value) t.verifiers.items; cosigner = (goal.Signer-dyn g (t.cosigner.vtable, t.cosigner.value)).signing_key t.cosigner.value }) l.yielded
    ++ map {B = Trusted} (λ t. record { origin = string_bytes t.origin; verifiers = map (λ v. (goal.Verifier-dyn g (v.vtable, v.value)).key v.value) t.verifiers.items; cosigner = (goal.Signer-dyn g (t.cosigner.vtable, t.cosigner.value)).signing_key t.cosigner.value }) l.trust-iterator.rest.items
    ≡ map {B = Trusted} (λ t. record { origin = string_bytes t.origin; verifiers = map (λ v. (goal.Verifier-dyn g (v.vtable, v.value)).key v.value) t.verifiers.items; cosigner = (goal.Signer-dyn g (t.cosigner.vtable, t.cosigner.value)).signing_key t.cosigner.value }) l.fn.trusts.items)
    × HasEntered (map (λ c. saved_chain (string_bytes c.origin) c.chain) l.fn.chains.items) (map (λ c. saved_chain (string_bytes c.origin) c.chain) l.left.items)
    (map {B = Trusted} (λ t. record { origin = string_bytes t.origin; verifiers = map (λ v. (goal.Verifier-dyn g (v.vtable, v.value)).key v.value) t.verifiers.items; cosigner = (goal.Signer-dyn g (t.cosigner.vtable, t.cosigner.value)).signing_key t.cosigner.value }) l.yielded)
    (map {B = Witnessed} (λ e. record { origin = string_bytes e.origin.name; verifiers = map (λ v. (goal.Verifier-dyn g (v.vtable, v.value)).key v.value) e.origin.verifiers.items; cosigner = named_key (string_bytes e.origin.cosigner_name.text) ((goal.Signer-dyn g (e.origin.cosigner.vtable, e.origin.cosigner.value)).signing_key e.origin.cosigner.value); chain = e.chain }) l.states.items)
    × (l.trust-iterator.rest.len ≡ length l.trust-iterator.rest.items)
