use Rattle.std.proofs.Common.{◌∙◌, ap, sym, position, nat_lt, vec_items, vec_len}
use Rattle.tl_device.specs.Device.{passage}
use Rattle.tl_command.specs.Lines.{entries_of, first_too_long}
use Rattle.tl_command.specs.Entries.{ReadsEntries}
use Rattle.tl_command.proofs.Failing.{entries_unread, passed_on}
use Rattle.tl_command.proofs.LinesLemmas.{too_long_by_len}
use Rattle.tl_command.proofs.entries.read_entries.Goals as goal

pub returns-in-Some : goal.returns-in-Some
returns-in-Some g c =
    let lines = c.in_ok-entries.ensures.entries ∙ ap entries_of c.as_slice.ensures.value in
    let found = too_long_by_len c.in_ok-entries.entries.items in
    record {
      input = vec_items c.in_ok-input.input;
      whole = c.in_ok-input.ensures;
      first = ap first_too_long (sym lines) ∙ sym found ∙ ap (λ es. position (λ v. nat_lt 65535 (vec_len v)) es) (sym c.as_slice-2.ensures.value) ∙ sym c.in-Some.ensures;
    }

pub returns : goal.returns
returns g c =
    let found = too_long_by_len c.in_ok-entries.entries.items in
    record {
      input = vec_items c.in_ok-input.input;
      whole = c.in_ok-input.ensures;
      lines = c.in_ok-entries.ensures.entries ∙ ap entries_of c.as_slice.ensures.value;
      short = sym found ∙ ap (λ es. position (λ v. nat_lt 65535 (vec_len v)) es) (sym c.as_slice-2.ensures.value) ∙ sym c.in-None.ensures;
    }

pub returns-in_err-input : goal.returns-in_err-input
returns-in_err-input g c =
    passed_on (ReadsEntries {A = g.row.A.Denot} c.args.most (passage g.R.Read.remaining c.args.reader.now c.read_input.new.reader))
    c.from_residual.result _ c.from_residual.ensures.1
    (entries_unread g.row.A.Denot c.args.most (passage g.R.Read.remaining c.args.reader.now c.read_input.new.reader) _ c.in_err-input.ensures)
