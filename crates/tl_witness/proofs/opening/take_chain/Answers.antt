use Rattle.std.proofs.Common.{ℕ, List, refl, ap, sym, ◌∙◌, string_bytes, arith}
use Rattle.tl_proof.specs.Acceptance.{Step}
use Rattle.tl_witness.specs.Open.{saved_chain}
use Rattle.tl_witness.proofs.BookLaws.{shown_within}
use Rattle.tl_witness.proofs.PlaceLaws.{named_at}
use Rattle.tl_witness.proofs.OpeningLaws.{took_at, took_nothing}
use Rattle.tl_witness.proofs.opening.take_chain.Goals as goal

pub index_mut-checked-requires : goal.index_mut-checked-requires
index_mut-checked-requires g c =
    let shows = c.requires.found c.args.origin.now c.in-Some.place (sym c.in-Some.ensures) in
    let room = shown_within (λ x. string_bytes x.origin) c.args.chains.now.items c.in-Some.place c.args.origin.now shows in
    omega (arith, c.args.chains.now.ok.0)

pub returns-in-Some : goal.returns-in-Some
returns-in-Some g c =
    let shows = c.requires.found c.args.origin.now c.in-Some.place (sym c.in-Some.ensures) in
    let room = shown_within (λ x. string_bytes x.origin) c.args.chains.now.items c.in-Some.place c.args.origin.now shows in
    let e = c.index_mut-checked.result.now in
    let named = named_at c.args.chains.now.items (λ x. string_bytes x.origin) c.in-Some.place c.args.origin.now e shows c.index_mut-checked.ensures.value in
    took_at (λ x. saved_chain (string_bytes x.origin) x.chain) c.args.chains.now.items c.in-Some.place c.args.origin.now e _ c.replace.result
    room c.index_mut-checked.ensures.value
    (ap (λ (o : List ℕ). saved_chain o e.chain) named ∙ ap (λ (s : List Step). saved_chain c.args.origin.now s) (sym c.replace.ensures.value))
    (ap (λ (o : List ℕ). saved_chain o c.replace.new.dest) named ∙ ap (λ (s : List Step). saved_chain c.args.origin.now s) (c.replace.ensures.after ∙ c.new.ensures))

pub returns-in-None : goal.returns-in-None
returns-in-None g c =
    let none = λ (i : ℕ). c.requires.absent c.args.origin.now i (sym c.in-None.ensures) in
    took_nothing (λ x. saved_chain (string_bytes x.origin) x.chain) (λ x. string_bytes x.origin) c.args.chains.now.items c.args.origin.now c.new-in-None.result (λ x. refl) none c.new-in-None.ensures
