use Rattle.tl_publisher.proofs.Cosigners.{operating_answers}
use Rattle.tl_publisher.proofs.operator.Operator.attach.Goals as goal

pub returns-clause-operating : goal.returns-clause-operating
returns-clause-operating g c = operating_answers c.attach_lines.result c.args.lines.now _ _ c.attach_lines.ensures.keys c.attach_lines.ensures.attached c.requires
