use Rattle.std.proofs.Common.{refl, arith, inr, None}
use Rattle.std.proofs.lemmas.Str.Pattern.{strip_suffix_char}
use Rattle.tl_source.proofs.place.front_of.Goals as goal

pub returns-in-None : goal.returns-in-None
returns-in-None c = inr ((λ ends. strip_suffix_char 47 c.args.prefix.now None c.in-None.ensures.cases (omega arith) ends.0 ends.1), refl)
