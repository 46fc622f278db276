use Rattle.std.proofs.Common.{refl, ap, string_bytes}
use Rattle.std.specs.Prelude.{option_map}
use Rattle.std.proofs.lemmas.Result.{IfErr-weaker}
use Rattle.tl_publisher.specs.Running.{Running}
use Rattle.tl_publisher.proofs.Operations.{operating_takes}
use Rattle.tl_publisher.proofs.operator.Operator.take.Goals as goal

pub returns-clause-operating : goal.returns-clause-operating
returns-clause-operating g c =
    operating_takes c.take.result c.args.lane _ _ (record { origin = refl; signers = refl; quorum = refl }) (ap (λ es. option_map (λ note. record { entries = es; note = string_bytes note }) c.args.self.now.proposal) c.take.ensures.grown) c.take.ensures.past c.take.ensures.taken
    (IfErr-weaker c.take.result _ _ (λ fault same. ap (λ (r : Running _). r.log) same) c.take.ensures.same)

pub returns-clause-rest : goal.returns-clause-rest
returns-clause-rest g c = record {
  keys = record { origin = refl; signers = refl; quorum = refl };
  proposal = ap (λ es. option_map (λ note. record { entries = es; note = string_bytes note }) c.args.self.now.proposal) c.take.ensures.grown;
  past = c.take.ensures.past;
  rings = c.take.ensures.rings;
}
