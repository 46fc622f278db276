use Rattle.std.proofs.Common.{arith}
use Rattle.std.proofs.lemmas.Fmt.{decimal_injective}
use Rattle.tl_text.proofs.law.numbers_have_one_text.Goals as goal

pub returns : goal.returns
returns c m n small_m small_n same = decimal_injective m n (omega (arith, small_m)) (omega (arith, small_n)) same
