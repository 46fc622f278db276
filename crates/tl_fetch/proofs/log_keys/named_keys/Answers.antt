use Rattle.std.proofs.Common.{◌∷◌, [], List, ℕ, ap, arith}
use Rattle.std.proofs.lemmas.Grind.{common_steps}
use Rattle.tl_fetch.proofs.LogKeyLemmas.{both_same, one_told}
use Rattle.tl_fetch.proofs.log_keys.named_keys.Goals as goal

pub witness_keys-requires : goal.witness_keys-requires
witness_keys-requires c =
    let key = c.in_ok-key.key in
    (key.name, key ∷ [], one_told c.args.options.now key c.in_default.is c.in_ok-key.ensures.read, ap (λ (x : List ℕ). x ∷ []) c.public_key.ensures)

pub witness_keys-requires-2 : goal.witness_keys-requires-2
witness_keys-requires-2 c =
    let key = c.in_ok-key.key in
    let other = c.in_ok-other.other in
    (key.name, key ∷ other ∷ [], c.in_ok-other.ensures.read, both_same _ key.key _ other.key c.public_key-2.ensures c.public_key-3.ensures)

pub returns-clause-named : goal.returns-clause-named
returns-clause-named c = grind (arith, common_steps)

pub returns-in_default-clause-named : goal.returns-in_default-clause-named
returns-in_default-clause-named c = grind (arith, common_steps)

pub same-key-2 : goal.same-key-2
same-key-2 c = grind (arith, common_steps)
