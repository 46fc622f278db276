use Rattle.std.proofs.Common.{option_map, string_bytes, vec_items}
use Rattle.tl_device.specs.Device.{passage}
use Rattle.tl_fetch.proofs.Passages.{still}
use Rattle.tl_prove.proofs.CommandRuns.{broke_proof, extra_of, no_proof, wrote_proof}
use Rattle.tl_prove.proofs.prove_command.run_prove.Goals as goal

pub returns-in-Err : goal.returns-in-Err
returns-in-Err g c =
    let options = c.args.options.now in
    let writer = c.args.writer.now in
    let extra = option_map vec_items c.in_ok-extra.extra in
    no_proof options c.as_str-2.result.now extra (passage g.W.Write.contents writer writer) (extra_of c.as_deref.result options.extra extra c.as_deref.ensures.variant c.in_ok-extra.ensures.extra)
    c.in-Err.fault c.in-Err.ensures (still (g.W.Write.contents writer.device) writer.failed)

pub returns-in-Ok-print_text : goal.returns-in-Ok-print_text
returns-in-Ok-print_text g c =
    let options = c.args.options.now in
    let extra = option_map vec_items c.in_ok-extra.extra in
    wrote_proof options c.as_str-2.result.now extra (passage g.W.Write.contents c.args.writer.now c.print_text.new.writer)
    (extra_of c.as_deref.result options.extra extra c.as_deref.ensures.variant c.in_ok-extra.ensures.extra) (string_bytes c.in-Ok.proof) c.as_bytes.result.now c.as_bytes.ensures.value c.in-Ok.ensures c.in-Ok-print_text.ensures.whole

pub returns : goal.returns
returns g c =
    let options = c.args.options.now in
    let extra = option_map vec_items c.in_ok-extra.extra in
    broke_proof options c.as_str-2.result.now extra (passage g.W.Write.contents c.args.writer.now c.print_text.new.writer)
    (extra_of c.as_deref.result options.extra extra c.as_deref.ensures.variant c.in_ok-extra.ensures.extra) (string_bytes c.in-Ok.proof) c.as_bytes.result.now c.in-Err-print_text.fault c.as_bytes.ensures.value c.in-Ok.ensures c.in-Err-print_text.ensures.fault c.in-Err-print_text.ensures.part
