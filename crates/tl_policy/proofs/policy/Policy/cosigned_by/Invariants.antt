use Rattle.std.proofs.Common.{map, take, vec_items}
use Rattle.tl_policy.specs.Cosigned.{AreTimes}
use Rattle.tl_policy.specs.Terms.{witness_term}
use Rattle.tl_policy.proofs.policy.Policy.cosigned_by.Given as goal

-- those of the witnesses before this place
abbrev pub invariant-loop-witness : goal.invariant-loop-witness
invariant-loop-witness g l = AreTimes l.text l.lines (map witness_term (take l.witness-index (vec_items l.self.witnesses))) (vec_items l.times)
