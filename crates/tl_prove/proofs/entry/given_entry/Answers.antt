use Rattle.std.proofs.Common.{ap, ◌∙◌, vec_items}
use Rattle.tl_prove.proofs.Given.{digest_given}
use Rattle.tl_prove.proofs.entry.given_entry.Goals as goal

pub returns-in_ok-digest_entry-in-Ok-digest_at-clause-given : goal.returns-in_ok-digest_entry-in-Ok-digest_at-clause-given
returns-in_ok-digest_entry-in-Ok-digest_at-clause-given g c =
    let read = c.in-Ok-digest_at.ensures in
    digest_given c.args.options.now c.in-Digest.file c.in-Digest.name read.0 c.in-Ok-digest_at.digest c.into_bytes.result.items _ c.in-Digest.is read.1 c.as_deref.ensures.value
    (ap vec_items c.into_bytes.ensures.value ∙ c.in_ok-digest_entry-in-Ok-digest_at.ensures)
