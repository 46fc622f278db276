use Rattle.std.proofs.Common.{refl, ap, string_bytes}
use Rattle.std.specs.Prelude.{option_map}
use Rattle.std.proofs.lemmas.Result.{IfErr-weaker}
use Rattle.tl_publisher.specs.Running.{Running}
use Rattle.tl_publisher.proofs.Operations.{operating_closes}
use Rattle.tl_publisher.proofs.operator.Operator.end.Goals as goal

pub returns-clause-operating : goal.returns-clause-operating
returns-clause-operating g c =
    operating_closes c.end.result c.args.ended _ _ (record { origin = refl; signers = refl; quorum = refl }) (ap (λ es. option_map (λ note. record { entries = es; note = string_bytes note }) c.args.self.now.proposal) c.end.ensures.grown) c.end.ensures.past c.end.ensures.taken
    (IfErr-weaker c.end.result _ _ (λ fault same. ap (λ (r : Running _). r.log) same) c.end.ensures.same)

pub returns-clause-rest : goal.returns-clause-rest
returns-clause-rest g c = record {
  keys = record { origin = refl; signers = refl; quorum = refl };
  proposal = ap (λ es. option_map (λ note. record { entries = es; note = string_bytes note }) c.args.self.now.proposal) c.end.ensures.grown;
  past = c.end.ensures.past;
  rings = c.end.ensures.rings;
}
