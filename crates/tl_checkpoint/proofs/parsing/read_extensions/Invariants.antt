use Rattle.std.proofs.Common.{length, map, string_bytes, vec_items}
use Rattle.tl_checkpoint.proofs.ExtensionLemmas.{HasRead}
use Rattle.tl_checkpoint.proofs.parsing.read_extensions.Given as goal

abbrev pub invariant-loop-words : goal.invariant-loop-words
invariant-loop-words g l = HasRead l.text (map string_bytes (vec_items l.lines)) l.left

abbrev pub decreases-loop-words : goal.decreases-loop-words
decreases-loop-words g l = length l.left
