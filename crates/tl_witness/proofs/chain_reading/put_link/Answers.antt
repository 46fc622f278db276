use Rattle.std.proofs.Common.{◌≡◌, [], ◌∷◌, refl, ap, ◌∙◌, length, map, string_bytes, vec_items, arith}
use Rattle.std.proofs.lemmas.List.{map-append, length-map}
use Rattle.tl_proof.specs.Acceptance.{step_of}
use Rattle.tl_witness.specs.ByOrigin.{index_of}
use Rattle.tl_witness.specs.ChainFields.{PutsStep}
use Rattle.tl_witness.specs.Open.{saved_chain}
use Rattle.tl_witness.specs.ReadChain.{chains_shown}
use Rattle.tl_witness.proofs.ChainIndexLaws.{known_there, known_within, unknown_there, indexed_known, indexed_new}
use Rattle.tl_witness.proofs.PutLaws.{puts_known, one_step, puts_new}
use Rattle.tl_witness.proofs.chain_reading.put_link.Goals as goal

pub index_mut-chain-requires : goal.index_mut-chain-requires
index_mut-chain-requires g c =
    let room = known_within (λ x. saved_chain (string_bytes x.0) (map step_of (vec_items x.1))) c.args.chains.now.items (index_of c.args.index.now) c.args.origin.now c.requires c.in-Some.place c.in-Some.ensures in
    omega (arith, c.args.chains.now.ok.0)

pub returns-in_ok-push-in-Some : goal.returns-in_ok-push-in-Some
returns-in_ok-push-in-Some g c =
    let chains = c.args.chains.now.items in
    let origin = c.args.origin.now in
    let there = known_there (λ x. saved_chain (string_bytes x.0) (map step_of (vec_items x.1))) chains (index_of c.args.index.now) origin c.requires c.in-Some.place c.in-Some.ensures in
    let room = known_within (λ x. saved_chain (string_bytes x.0) (map step_of (vec_items x.1))) chains (index_of c.args.index.now) origin c.requires c.in-Some.place c.in-Some.ensures in
    let put = puts_known (λ x. saved_chain (string_bytes x.0) (map step_of (vec_items x.1))) chains c.in-Some.place origin (step_of c.args.link) c.index_mut-chain.result.now (c.index_mut-chain.result.now.0, c.push.new.self)
    room there c.index_mut-chain.ensures.value refl
    (ap (λ ls. map step_of ls) c.in_ok-push-in-Some.ensures.items ∙ map-append step_of (vec_items c.index_mut-chain.result.now.1) (c.args.link ∷ [])) in
    record { put = put; indexed = indexed_known (index_of c.args.index.now) origin (step_of c.args.link) (chains_shown chains) _ c.in-Some.place c.requires c.in-Some.ensures put }

pub returns-in_ok-add-in-None : goal.returns-in_ok-add-in-None
returns-in_ok-add-in-None g c =
    let chains = c.args.chains.now.items in
    let origin = c.args.origin.now in
    let none = unknown_there (λ x. saved_chain (string_bytes x.0) (map step_of (vec_items x.1))) chains (index_of c.args.index.now) origin c.requires c.in-None.ensures in
    let links = one_step step_of (vec_items c.new-links.result) (vec_items c.push-in-None.new.self) c.args.link c.new-links.ensures.items c.in_ok-push-in-None.ensures.items in
    let put : PutsStep origin (step_of c.args.link) (chains_shown chains) (chains_shown c.push-in-None-2.new.self.items) = rw c.in_ok-push-in-None-2.ensures.items
    (puts_new (λ x. saved_chain (string_bytes x.0) (map step_of (vec_items x.1))) chains origin (step_of c.args.link)
    (c.in_ok-from_str-in-None.field-0, c.push-in-None.new.self) none
    c.in_ok-from_str-in-None.ensures.ok links) in
    let last : c.len-place.result ≡ length (chains_shown chains) = omega (arith, c.len-place.ensures, c.args.chains.now.ok.0, length-map chains (λ x. saved_chain (string_bytes x.0) (map step_of (vec_items x.1)))) in
    record {
      put = put;
      indexed = indexed_new (index_of c.args.index.now) (index_of c.add.new.self) origin (step_of c.args.link) (chains_shown chains) _ c.len-place.result c.requires c.in-None.ensures last c.in_ok-add-in-None.ensures.added put;
    }
