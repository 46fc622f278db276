use Rattle.std.proofs.Common.{drop, ◌∙◌, arith}
use Rattle.std.proofs.lemmas.List.{length-drop, take_all}
use Rattle.tl_key.proofs.parts.after_kind.Goals as goal

pub returns : goal.returns
returns c = c.copy_from_slice.ensures.after ∙ take_all 32 (drop 1 c.args.bytes.now) (omega (arith, length-drop 1 c.args.bytes.now, c.told-bytes))
