use Rattle.std.proofs.Common.{◌≡◌, ◌+◌, ◌*◌, ◌^◌, ◌-◌, ◌∙◌, ℕ, [], get_or, ap, arith}
use Rattle.tl_store.specs.Stored.{stored_index, stored_count, stored_hashes}
use Rattle.tl_store.proofs.Counts.{count_small}
use Rattle.tl_store.proofs.StoredLemmas.{index_is_place}
use Rattle.tl_store.proofs.index.stored_index.Goals as goal

number_of : (level place power before index : ℕ) → power ≡ 2 ^ level → before ≡ stored_count ((place + 1) * power - 1) → index ≡ before + level → index ≡ stored_index level place
unfolding stored_index
number_of level place power before index power_is before_is is = is ∙ ap (λ (x : ℕ). x + level) (before_is ∙ ap (λ (x : ℕ). stored_count ((place + 1) * x - 1)) power_is)

pub overflow_add-result : goal.overflow_add-result
overflow_add-result c =
    omega (arith, c.stored_count.ensures.subtrees, c.pow.ensures, c.requires.entries, c.requires.level, count_small ((c.args.n + 1) * c.pow.result - 1), ap (λ (x : ℕ). (c.args.n + 1) * x) c.pow.ensures)

pub returns-clause-number : goal.returns-clause-number
returns-clause-number c = number_of c.args.level c.args.n c.pow.result c.stored_count.result _ c.pow.ensures c.stored_count.ensures.subtrees (omega arith)

pub returns-clause-hash : goal.returns-clause-hash
returns-clause-hash c H entries within =
    let number : c.stored_count.result + c.args.level ≡ stored_index c.args.level c.args.n =
    number_of c.args.level c.args.n c.pow.result c.stored_count.result _ c.pow.ensures c.stored_count.ensures.subtrees (omega arith) in
    ap (λ (x : ℕ). get_or (stored_hashes H entries) x []) number ∙ (index_is_place H entries c.args.level c.args.n within).1
