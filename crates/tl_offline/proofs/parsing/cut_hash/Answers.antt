use Rattle.std.proofs.Common.{refl}
use Rattle.tl_offline.proofs.CutLemmas.{first_line, has_no_newline}
use Rattle.tl_offline.proofs.parsing.cut_hash.Goals as goal

pub returns-in_default : goal.returns-in_default
returns-in_default c = (refl, has_no_newline c.args.text.now c.in_default.ensures.cases)

pub returns-in_default-parse_hash : goal.returns-in_default-parse_hash
returns-in_default-parse_hash c =
    let parts = first_line c.args.text.now c.in-Some.words c.in-Some.rest c.in-Some.ensures.cases in
    (refl, (c.in-Some.words.now, c.in-Some.rest.now, parts.0, parts.1, c.in_default-parse_hash.ensures))
