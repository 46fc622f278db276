use Rattle.std.proofs.Common.{[], ◌≤◌, ◌∙◌, arith, length}
use Rattle.std.proofs.lemmas.Grind.{common_steps}
use Rattle.tl_server.proofs.BodyLemmas.{copied, copied_length, cut_body, no_bytes, whole_body}
use Rattle.tl_device.proofs.ReadLemmas.{gave_none}
use Rattle.tl_server.proofs.body.read_body.Goals as goal

pub returns-then-most-eq0 : goal.returns-then-most-eq0
returns-then-most-eq0 g c = record {
  bytes = [];
  gave = gave_none _ _;
  has = no_bytes _ _ _ c.if-most-eq0.true c.new.ensures.items;
}

pub returns-in-Whole : goal.returns-in-Whole
returns-in-Whole g c =
    let within : c.min-len.result ≤ length c.args.begun.now = omega (arith, c.min-len.ensures) in
    let slice = c.as_mut_slice-buf.ensures.len in
    let long = c.in-Ok.ensures.len in
    let fits : c.min-len.result ≤ length c.as_mut_slice-buf.result.now = omega (arith, c.min-len.ensures, slice, long) in
    whole_body _ _ _ _ _ _ c.min-len.result _ c.min-len.ensures (copied _ _ _ _ within c.copy_from_slice.ensures.after) c.in-Whole.ensures
    (c.fill.auto.buf ∙ copied_length _ _ _ _ _ within fits c.copy_from_slice.ensures.after (slice ∙ long)) long

pub returns-in-Cut : goal.returns-in-Cut
returns-in-Cut g c =
    let within : c.min-len.result ≤ length c.args.begun.now = omega (arith, c.min-len.ensures) in
    let slice = c.as_mut_slice-buf.ensures.len in
    let long = c.in-Ok.ensures.len in
    let fits : c.min-len.result ≤ length c.as_mut_slice-buf.result.now = omega (arith, c.min-len.ensures, slice, long) in
    cut_body _ _ _ _ c.min-len.result _ c.min-len.ensures (copied _ _ _ _ within c.copy_from_slice.ensures.after) c.in-Cut.ensures
    (copied_length _ _ _ _ _ within fits c.copy_from_slice.ensures.after (slice ∙ long))

pub copy_from_slice-requires : goal.copy_from_slice-requires
copy_from_slice-requires g c = grind (arith, common_steps)
