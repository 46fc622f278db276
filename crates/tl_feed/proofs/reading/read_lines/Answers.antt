use Rattle.std.proofs.Common.{inl, refl}
use Rattle.tl_feed.proofs.TextLemmas.{no_signatures}
use Rattle.tl_feed.proofs.reading.read_lines.Goals as goal

pub returns-in_default : goal.returns-in_default
returns-in_default g c = inl (no_signatures c.args.body.items (λ utf8. let told = c.in_default.ensures.succeeds utf8 in cc), refl)
