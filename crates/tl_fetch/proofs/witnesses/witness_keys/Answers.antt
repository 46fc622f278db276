use Rattle.std.proofs.Common.{◌<◌, ◌≤◌, ◌++◌, ◌∷◌, [], ◌+◌, ℕ, List, Contains, ap, arith, subst, sym, string_bytes, vec_items, ◌∙◌}
use Rattle.std.proofs.lemmas.List.{length-map}
use Rattle.tl_hash.specs.Bytes.{Bytes}
use Rattle.tl_key.specs.NoteKey.{PublicKey}
use Rattle.tl_fetch.proofs.KeyLemmas.{HaveOwnSoFar, own_all, own_first, own_next}
use Rattle.tl_fetch.proofs.witnesses.witness_keys.Goals as goal

pub returns-then-is_among-clause-refused : goal.returns-then-is_among-clause-refused
returns-then-is_among-clause-refused c =
    let key = c.in_ok-key.key in
    let among = subst (λ (ks : List Bytes). Contains ks key.key) c.as_slice.ensures.value (subst (λ (x : Bytes). Contains c.as_slice.result.now x) c.public_key.ensures c.if-is_among.ensures) in
    let within = subst (λ (n : ℕ). c.loop-place.place < n) (sym (length-map (vec_items c.args.options.now.witnesses) string_bytes)) (omega (arith, c.loop-place-test.true, c.len-place-end.ensures)) in
    (within, (key, c.in_ok-key.ensures.read, c.loop-place.invariant.earlier key.key among))

pub loop-place-preserved : goal.loop-place-preserved
loop-place-preserved c =
    let key = c.in_ok-key.key in
    let known = c.loop-place.known.items in
    let keys = c.loop-place.keys.items in
    let new = λ (among : Contains known key.key). c.if-is_among.ensures (subst (λ (x : Bytes). Contains c.as_slice.result.now x) (sym c.public_key.ensures) (subst (λ (ks : List Bytes). Contains ks key.key) (sym c.as_slice.ensures.value) among)) in
    let within = subst (λ (n : ℕ). c.loop-place.place < n) (sym (length-map (vec_items c.args.options.now.witnesses) string_bytes)) (omega (arith, c.loop-place-test.true, c.len-place-end.ensures)) in
    subst (λ (ks : List PublicKey). HaveOwnSoFar c.args.options.now c.args.log.now c.push.new.self.items ks (c.loop-place.place + 1)) (sym c.in_ok-push-2.ensures.items)
    (subst (λ (ks : List Bytes). HaveOwnSoFar c.args.options.now c.args.log.now ks (keys ++ key ∷ []) (c.loop-place.place + 1))
    (sym (c.in_ok-push.ensures.items ∙ ap (λ (x : Bytes). known ++ x ∷ []) c.public_key-in-loop-place.ensures))
    (own_next c.args.options.now c.args.log.now known keys c.loop-place.place key within c.in_ok-key.ensures.read new c.loop-place.invariant))

pub loop-place-init : goal.loop-place-init
loop-place-init c =
    let told = c.requires in
    subst (λ (ks : List PublicKey). HaveOwnSoFar c.args.options.now c.args.log.now c.extend_from_slice.new.self.items ks 0) (sym c.new-keys.ensures.items)
    (subst (λ (ks : List Bytes). HaveOwnSoFar c.args.options.now c.args.log.now ks [] 0) (sym (c.in_ok-extend_from_slice.ensures.items ∙ ap (λ (xs : List Bytes). xs ++ c.args.log.now) c.new-known.ensures.items))
    (own_first c.args.options.now c.args.log.now told.0 told.1 told.2 told.3))

pub returns-clause-own : goal.returns-clause-own
returns-clause-own c =
    own_all c.args.options.now c.args.log.now c.loop-place.known.items c.loop-place.keys.items c.loop-place.place
    (subst (λ (n : ℕ). n ≤ c.loop-place.place) (sym (length-map (vec_items c.args.options.now.witnesses) string_bytes)) (omega (arith, c.loop-place-test.false, c.len-place-end.ensures)))
    c.loop-place.invariant
