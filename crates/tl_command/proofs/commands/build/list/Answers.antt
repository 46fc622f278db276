use Rattle.std.proofs.Common.{None, inl, refl, vec_items}
use Rattle.std.proofs.KnownBytes.{Keeps-refl}
use Rattle.tl_device.specs.Device.{passage}
use Rattle.tl_command.specs.Inner.Steps.{WantedComes}
use Rattle.tl_run.specs.Run.{Runs}
use Rattle.tl_run.specs.declared.fault.RunFault.TheVariants.{Write}
use Rattle.tl_command.proofs.Failing.{handed_on}
use Rattle.tl_command.proofs.Wanted.{list_came, list_fails, list_refused}
use Rattle.tl_command.proofs.commands.build.list.Goals as goal

pub returns-in-Err : goal.returns-in-Err
returns-in-Err g c =
    list_fails (g.K.LogSigner.log_key c.args.key.now) (passage g.R.Read.remaining c.args.reader.now c.read_measured.new.reader) _ c.in-Err.fault (Keeps-refl (g.W.Write.contents c.args.writer.now.device), refl) c.in-Err.ensures

pub returns-in-Err-listing_of : goal.returns-in-Err-listing_of
returns-in-Err-listing_of g c =
    list_refused (g.K.LogSigner.log_key c.args.key.now) (passage g.R.Read.remaining c.args.reader.now c.read_measured.new.reader) (passage g.W.Write.contents c.args.writer.now c.args.writer.now) c.in-Err-listing_of.fault (Keeps-refl (g.W.Write.contents c.args.writer.now.device), refl) c.in-Ok.ensures.whole.steady c.in-Err-listing_of.ensures.fault

pub returns : goal.returns
returns g c =
    let key = g.K.LogSigner.log_key c.args.key.now in
    record {
      text = c.as_bytes.result.now;
      came = list_came key (passage g.R.Read.remaining c.args.reader.now c.read_measured.new.reader) c.in-Ok.log.0 c.as_slice.result.now (vec_items c.in-Ok.log.1) c.size-size.result c.root-root.result c.as_bytes.result.now _ c.in-Ok.ensures c.as_slice.ensures.value c.size-size.ensures c.root-root.ensures c.in-Ok-listing_of.ensures.text c.as_bytes.ensures.value;
      written = c.in_ok-print_text.ensures.whole;
    }

pub returns-in_err-print_text : goal.returns-in_err-print_text
returns-in_err-print_text g c =
    let key = g.K.LogSigner.log_key c.args.key.now in
    handed_on (Runs (WantedComes key None) (passage g.R.Read.remaining c.args.reader.now c.read_measured.new.reader) (passage g.W.Write.contents c.args.writer.now c.print_text.new.writer))
    c.from_residual.result _ Write c.from_residual.ensures.1 c.in_err-print_text.ensures.fault (record {
      text = c.as_bytes.result.now;
      came = inl (list_came key (passage g.R.Read.remaining c.args.reader.now c.read_measured.new.reader) c.in-Ok.log.0 c.as_slice.result.now (vec_items c.in-Ok.log.1) c.size-size.result c.root-root.result c.as_bytes.result.now _ c.in-Ok.ensures c.as_slice.ensures.value c.size-size.ensures c.root-root.ensures c.in-Ok-listing_of.ensures.text c.as_bytes.ensures.value);
      part = c.in_err-print_text.ensures.part;
    })
