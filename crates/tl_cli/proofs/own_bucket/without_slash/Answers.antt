use Rattle.std.proofs.Common.{arith, inr, refl, None}
use Rattle.std.proofs.lemmas.Str.Pattern.{strip_suffix_char}
use Rattle.tl_cli.proofs.own_bucket.without_slash.Goals as goal

pub returns-in-None : goal.returns-in-None
returns-in-None c = inr (refl, strip_suffix_char 47 c.args.address.now None c.in-None.ensures.cases (omega arith))
