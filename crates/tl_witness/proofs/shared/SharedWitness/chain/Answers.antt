use Rattle.std.proofs.Common.{string_bytes, refl}
use Rattle.tl_witness.proofs.PlaceLaws.{no_place, place_at}
use Rattle.tl_witness.proofs.shared.SharedWitness.chain.Goals as goal

pub returns-in_default : goal.returns-in_default
returns-in_default g c =
    let nowhere = rw c.as_slice.ensures.value at c.in_default.ensures.none in
    no_place c.args.self.now.states.items _ (λ e. string_bytes e.origin.name) _ (λ e. refl) nowhere

pub returns : goal.returns
returns g c =
    let shows = rw c.as_slice.ensures.value at c.in-Some.ensures.found in
    let place = place_at c.args.self.now.states.items _ (λ e. string_bytes e.origin.name) _ _ _ (λ e. refl) shows c.index.ensures in
    (_, place, _, c.in_ok-links.ensures, refl)
