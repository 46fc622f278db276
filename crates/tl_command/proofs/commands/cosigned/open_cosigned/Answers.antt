use Rattle.std.proofs.Common.{rules, refl, ◌∙◌, string_bytes, vec_items}
use Rattle.tl_command.proofs.NoteBytes.{note_utf8}
use Rattle.std.proofs.KnownBytes.{Keeps-refl}
use Rattle.tl_device.specs.Device.{passage}
use Rattle.tl_run.specs.Run.{Runs}
use Rattle.tl_command.proofs.CosignedRuns.{printed_as, refused_as}
use Rattle.tl_command.proofs.Failing.{passed_on, unread}
use Rattle.tl_command.proofs.commands.cosigned.open_cosigned.Goals as goal

pub returns-in_default : goal.returns-in_default
returns-in_default g c = (
  record {
    input = c.as_slice.result.now;
    whole = rw c.as_slice.ensures.value c.in_ok-input.ensures;
    so = λ text lines noted. c.in_default.ensures.cases.0 (note_utf8 c.as_slice.result.now text lines noted);
  },
  search rules,
)

pub returns-in_err-input : goal.returns-in_err-input
returns-in_err-input g c =
    passed_on (Runs _ (passage g.R.Read.remaining c.args.reader.now c.read_input.new.reader) (passage g.W.Write.contents c.args.writer.now c.args.writer.now))
    c.from_residual.result _ c.from_residual.ensures.1
    (unread _ (passage g.R.Read.remaining c.args.reader.now c.read_input.new.reader) (passage g.W.Write.contents c.args.writer.now c.args.writer.now) _ c.in_err-input.ensures (Keeps-refl (g.W.Write.contents c.args.writer.now.device), refl))

pub returns : goal.returns
returns g c =
    refused_as _ _ _ (vec_items c.in_ok-input.input) c.in-Ok.note.now c.in-Err.fault
    (c.in-Ok.ensures.cases.0 ∙ c.as_slice.ensures.value) c.in_ok-input.ensures (Keeps-refl (g.W.Write.contents c.args.writer.now.device), refl) c.in-Err.ensures

pub returns-in-Ok-message_in : goal.returns-in-Ok-message_in
returns-in-Ok-message_in g c =
    printed_as _ _ _ (vec_items c.in_ok-input.input) c.in-Ok.note.now (string_bytes c.in-Ok-message_in.message) c.as_bytes.result.now c.print_text.result
    (c.in-Ok.ensures.cases.0 ∙ c.as_slice.ensures.value) c.in_ok-input.ensures c.in-Ok-message_in.ensures c.as_bytes.ensures.value
    c.print_text.ensures.whole c.print_text.ensures.fault c.print_text.ensures.part
