use Rattle.std.proofs.Common.{◌∙◌, ap, arith, inl, length, refl, vec_items}
use Rattle.std.proofs.KnownBytes.{Keeps-refl}
use Rattle.tl_command.specs.Lines.{entries_of}
use Rattle.tl_command.specs.ProofCommands.{ConsistencyComes}
use Rattle.tl_command.proofs.Asking.{asks_of_old, entry_fails, read_lines}
use Rattle.tl_command.proofs.ProofRuns.{consistency_came, no_old}
use Rattle.tl_device.specs.Device.{passage}
use Rattle.tl_run.specs.Run.{Runs}
use Rattle.tl_run.specs.declared.fault.RunFault.TheVariants.{OutOfMemory, Write}
use Rattle.tl_command.proofs.Failing.{handed_on, passed_on, unread}
use Rattle.tl_command.proofs.commands.proving.run_consistency.Goals as goal

pub returns-in-Err : goal.returns-in-Err
returns-in-Err g c =
    entry_fails (ConsistencyComes c.args.old) _ _ (vec_items c.in_ok-input.input) c.as_slice.result.now c.in-Err.fault c.in_ok-input.ensures c.as_slice.ensures.value
    (Keeps-refl (g.W.Write.contents c.args.writer.now.device), refl) (λ place long. long) c.in-Err.ensures.fault

pub returns-in_err-text : goal.returns-in_err-text
returns-in_err-text g c =
    let lines = ap length (c.lines-lines.ensures ∙ c.in-Ok.ensures.lines ∙ ap entries_of c.as_slice.ensures.value) in
    handed_on (Runs (ConsistencyComes c.args.old) (passage g.R.Read.remaining c.args.reader.now c.read_input.new.reader) (passage g.W.Write.contents c.args.writer.now c.args.writer.now))
    c.from_residual-in_err-text.result _ OutOfMemory c.from_residual-in_err-text.ensures.1 c.in_err-text.ensures.fault (
      c.in_ok-input.ensures.steady,
      (Keeps-refl (g.W.Write.contents c.args.writer.now.device), refl),
      asks_of_old c.args.old _ _ (vec_items c.in_ok-input.input) c.in_ok-input.ensures (omega (arith, c.if-old-count.false, c.count.ensures.count, lines)),
    )

pub returns-in_err-input : goal.returns-in_err-input
returns-in_err-input g c =
    passed_on (Runs (ConsistencyComes c.args.old) (passage g.R.Read.remaining c.args.reader.now c.read_input.new.reader) (passage g.W.Write.contents c.args.writer.now c.args.writer.now))
    c.from_residual.result _ c.from_residual.ensures.1
    (unread (ConsistencyComes c.args.old) (passage g.R.Read.remaining c.args.reader.now c.read_input.new.reader) (passage g.W.Write.contents c.args.writer.now c.args.writer.now) _ c.in_err-input.ensures (Keeps-refl (g.W.Write.contents c.args.writer.now.device), refl))

pub returns : goal.returns
returns g c =
    let read = read_lines (passage g.R.Read.remaining c.args.reader.now c.read_input.new.reader) _ (vec_items c.in_ok-input.input) c.as_slice.result.now c.lines-lines.result c.in_ok-input.ensures c.as_slice.ensures.value (c.lines-lines.ensures ∙ c.in-Ok.ensures.lines) c.in-Ok.ensures.short in
    record {
      text = c.as_slice-2.result.now;
      came = consistency_came c.args.old _ c.lines-lines.result c.as_slice-2.result.now (vec_items c.in_ok-text.text) read (omega (arith, c.if-old-count.false, c.count.ensures.count)) c.in_ok-text.ensures.text c.as_slice-2.ensures.value;
      written = c.in_ok-print_text.ensures.whole;
    }

pub returns-in_err-print_text : goal.returns-in_err-print_text
returns-in_err-print_text g c =
    let read = read_lines (passage g.R.Read.remaining c.args.reader.now c.read_input.new.reader) _ (vec_items c.in_ok-input.input) c.as_slice.result.now c.lines-lines.result c.in_ok-input.ensures c.as_slice.ensures.value (c.lines-lines.ensures ∙ c.in-Ok.ensures.lines) c.in-Ok.ensures.short in
    handed_on (Runs (ConsistencyComes c.args.old) (passage g.R.Read.remaining c.args.reader.now c.read_input.new.reader) (passage g.W.Write.contents c.args.writer.now c.print_text.new.writer))
    c.from_residual-in_err-print_text.result _ Write c.from_residual-in_err-print_text.ensures.1 c.in_err-print_text.ensures.fault (record {
      text = c.as_slice-2.result.now;
      came = inl (consistency_came c.args.old _ c.lines-lines.result c.as_slice-2.result.now (vec_items c.in_ok-text.text) read (omega (arith, c.if-old-count.false, c.count.ensures.count)) c.in_ok-text.ensures.text c.as_slice-2.ensures.value);
      part = c.in_err-print_text.ensures.part;
    })

pub returns-then-old-count : goal.returns-then-old-count
returns-then-old-count g c =
    let read = read_lines (passage g.R.Read.remaining c.args.reader.now c.read_input.new.reader) _ (vec_items c.in_ok-input.input) c.as_slice.result.now c.lines-lines.result c.in_ok-input.ensures c.as_slice.ensures.value (c.lines-lines.ensures ∙ c.in-Ok.ensures.lines) c.in-Ok.ensures.short in
    (no_old c.args.old _ c.lines-lines.result read (omega (arith, c.if-old-count.true, c.count.ensures.count)), (Keeps-refl (g.W.Write.contents c.args.writer.now.device), refl))
