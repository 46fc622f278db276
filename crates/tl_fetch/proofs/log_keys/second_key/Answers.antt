use Rattle.std.proofs.Common.{rules, arith}
use Rattle.std.proofs.lemmas.Grind.{common_steps}
use Rattle.tl_fetch.proofs.LogKeyLemmas.{no_second}
use Rattle.tl_fetch.proofs.log_keys.second_key.Goals as goal

pub returns-in_default-clause-refused : goal.returns-in_default-clause-refused
returns-in_default-clause-refused c = no_second c.args.options.now c.args.text.now c.requires.text (search rules)

pub returns-clause-read : goal.returns-clause-read
returns-clause-read c = grind (arith, common_steps)
