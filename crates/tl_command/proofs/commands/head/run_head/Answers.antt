use Rattle.std.proofs.Common.{inl, refl, arith}
use Rattle.std.proofs.lemmas.Grind.{common_steps}
use Rattle.std.proofs.KnownBytes.{Keeps-refl}
use Rattle.tl_device.specs.Device.{passage}
use Rattle.tl_command.specs.Head.{RunsHead}
use Rattle.tl_run.specs.declared.fault.RunFault.TheVariants.{OutOfMemory, Write}
use Rattle.tl_command.proofs.Asking.{head_came, head_fault, asks_of_head}
use Rattle.tl_command.proofs.Failing.{handed_on, passed_on}
use Rattle.tl_command.proofs.commands.head.run_head.Goals as goal

pub returns-in_err-edge : goal.returns-in_err-edge
returns-in_err-edge g c =
    passed_on (RunsHead c.args.origin.now (passage g.R.Read.remaining c.args.reader.now c.read_edge.new.reader) (passage g.W.Write.contents c.args.writer.now c.args.writer.now))
    c.from_residual.result _ c.from_residual.ensures.1
    (head_fault c.args.origin.now _ _ c.in_err-edge.field-0.0 (c.if-not-is_one_line.ensures.0 refl) (Keeps-refl (g.W.Write.contents c.args.writer.now.device), refl) c.in_err-edge.ensures)

pub returns-in_err-text : goal.returns-in_err-text
returns-in_err-text g c =
    handed_on (RunsHead c.args.origin.now (passage g.R.Read.remaining c.args.reader.now c.read_edge.new.reader) (passage g.W.Write.contents c.args.writer.now c.args.writer.now))
    c.from_residual-in_err-text.result _ OutOfMemory c.from_residual-in_err-text.ensures.1 c.in_err-text.ensures.fault
    ((c.if-not-is_one_line.ensures.0 refl), (c.in_ok-edge.ensures.whole.steady, (Keeps-refl (g.W.Write.contents c.args.writer.now.device), refl), asks_of_head c.args.origin.now (passage g.R.Read.remaining c.args.reader.now c.read_edge.new.reader)))

pub returns-in_err-print_text : goal.returns-in_err-print_text
returns-in_err-print_text g c =
    handed_on (RunsHead c.args.origin.now (passage g.R.Read.remaining c.args.reader.now c.read_edge.new.reader) (passage g.W.Write.contents c.args.writer.now c.print_text.new.writer))
    c.from_residual-in_err-print_text.result _ Write c.from_residual-in_err-print_text.ensures.1 c.in_err-print_text.ensures.fault (
      (c.if-not-is_one_line.ensures.0 refl),
      record {
        text = c.as_bytes.result.now;
        came = inl (head_came c.args.origin.now (passage g.R.Read.remaining c.args.reader.now c.read_edge.new.reader) _ c.size.result c.root.result c.as_bytes.result.now _ c.in_ok-edge.ensures c.size.ensures c.root.ensures c.in_ok-text.ensures.text c.as_bytes.ensures.value);
        part = c.in_err-print_text.ensures.part;
      },
    )

pub returns : goal.returns
returns g c = (
  (c.if-not-is_one_line.ensures.0 refl),
  record {
    text = c.as_bytes.result.now;
    came = head_came c.args.origin.now (passage g.R.Read.remaining c.args.reader.now c.read_edge.new.reader) _ c.size.result c.root.result c.as_bytes.result.now _ c.in_ok-edge.ensures c.size.ensures c.root.ensures c.in_ok-text.ensures.text c.as_bytes.ensures.value;
    written = c.in_ok-print_text.ensures.whole;
  },
)

pub checkpoint_of-requires-clause-origin : goal.checkpoint_of-requires-clause-origin
checkpoint_of-requires-clause-origin g c = grind (arith, common_steps)

pub checkpoint_of-requires-clause-size : goal.checkpoint_of-requires-clause-size
checkpoint_of-requires-clause-size g c = grind (arith, common_steps)

pub returns-then-not-is_one_line : goal.returns-then-not-is_one_line
returns-then-not-is_one_line g c = grind (arith, common_steps)
