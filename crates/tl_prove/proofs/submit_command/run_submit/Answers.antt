use Rattle.std.proofs.Common.{option_map, string_bytes, vec_items, sym, subst}
use Rattle.tl_device.specs.Device.{passage}
use Rattle.tl_fetch.proofs.Passages.{still}
use Rattle.tl_policy.specs.Terms.{terms_of}
use Rattle.tl_prove.specs.Entry.{IsGiven}
use Rattle.tl_prove.specs.ProveCommand.{HasExtra}
use Rattle.tl_prove.specs.SubmitCommand.{IsUrlOf}
use Rattle.tl_prove.proofs.CommandRuns.{bad_url, broke_taken, extra_of, no_taken, url_of, wrote_taken}
use Rattle.tl_prove.proofs.submit_command.run_submit.Goals as goal

pub returns-in_default : goal.returns-in_default
returns-in_default g c =
    let options = c.args.options.now in
    let writer = c.args.writer.now in
    bad_url options c.as_str-3.result.now (passage g.W.Write.contents writer writer) c.as_str-3.ensures.value c.in_default.ensures (still (g.W.Write.contents writer.device) writer.failed)

pub returns-in-Err : goal.returns-in-Err
returns-in-Err g c =
    let writer = c.args.writer.now in
    let options = c.args.options.now in
    let entry = c.as_slice-entry.result.now in
    let extra = option_map vec_items c.in_ok-extra.extra in
    let given : IsGiven options.entry entry = subst (IsGiven options.entry) (sym c.as_slice-entry.ensures.value) c.in_ok-entry.ensures.given in
    let has : HasExtra options.extra extra = extra_of c.as_deref.result options.extra extra c.as_deref.ensures.variant c.in_ok-extra.ensures.extra in
    let at : IsUrlOf (string_bytes options.to) c.in-Some.url = url_of (string_bytes options.to) c.as_str-3.result.now c.in-Some.url c.as_str-3.ensures.value c.in-Some.ensures in
    no_taken options c.as_str-2.result.now entry extra (terms_of c.in_ok-policy.policy) c.in-Some.url (passage g.W.Write.contents writer writer) c.in_ok-policy.ensures given has at
    c.in-Err.fault c.in-Err.ensures (still (g.W.Write.contents writer.device) writer.failed)

pub returns-in-Ok-print_text : goal.returns-in-Ok-print_text
returns-in-Ok-print_text g c =
    let options = c.args.options.now in
    let entry = c.as_slice-entry.result.now in
    let extra = option_map vec_items c.in_ok-extra.extra in
    let given : IsGiven options.entry entry = subst (IsGiven options.entry) (sym c.as_slice-entry.ensures.value) c.in_ok-entry.ensures.given in
    let has : HasExtra options.extra extra = extra_of c.as_deref.result options.extra extra c.as_deref.ensures.variant c.in_ok-extra.ensures.extra in
    let at : IsUrlOf (string_bytes options.to) c.in-Some.url = url_of (string_bytes options.to) c.as_str-3.result.now c.in-Some.url c.as_str-3.ensures.value c.in-Some.ensures in
    wrote_taken options c.as_str-2.result.now entry extra (terms_of c.in_ok-policy.policy) c.in-Some.url (passage g.W.Write.contents c.args.writer.now c.print_text.new.writer) c.in_ok-policy.ensures given has at
    (string_bytes c.in-Ok.proof) c.as_bytes.result.now c.as_bytes.ensures.value c.in-Ok.ensures c.in-Ok-print_text.ensures.whole

pub returns : goal.returns
returns g c =
    let options = c.args.options.now in
    let entry = c.as_slice-entry.result.now in
    let extra = option_map vec_items c.in_ok-extra.extra in
    let given : IsGiven options.entry entry = subst (IsGiven options.entry) (sym c.as_slice-entry.ensures.value) c.in_ok-entry.ensures.given in
    let has : HasExtra options.extra extra = extra_of c.as_deref.result options.extra extra c.as_deref.ensures.variant c.in_ok-extra.ensures.extra in
    let at : IsUrlOf (string_bytes options.to) c.in-Some.url = url_of (string_bytes options.to) c.as_str-3.result.now c.in-Some.url c.as_str-3.ensures.value c.in-Some.ensures in
    broke_taken options c.as_str-2.result.now entry extra (terms_of c.in_ok-policy.policy) c.in-Some.url (passage g.W.Write.contents c.args.writer.now c.print_text.new.writer) c.in_ok-policy.ensures given has at
    (string_bytes c.in-Ok.proof) c.as_bytes.result.now c.in-Err-print_text.fault c.as_bytes.ensures.value c.in-Ok.ensures c.in-Err-print_text.ensures.fault c.in-Err-print_text.ensures.part
