use Rattle.std.proofs.Common.{◌+◌, ◌/◌, sym, ◌∙◌, arith}
use Rattle.std.proofs.lemmas.Bool.{eqb-true, eq-eqb}
use Rattle.tl_publisher.proofs.Resumptions.{counted}
use Rattle.tl_publisher.proofs.resuming.is_sized.Goals as goal

pub returns : goal.returns
returns c = (
  (λ test. (omega arith, omega arith, eqb-true c.args.bundles ((c.args.size + 255) / 256) test ∙ sym (counted c.args.size))),
  (λ is. eq-eqb c.args.bundles ((c.args.size + 255) / 256) (is.2 ∙ counted c.args.size)),
)
