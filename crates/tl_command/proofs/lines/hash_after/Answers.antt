use Rattle.tl_hash.specs.Bytes.{IsHash}
use Rattle.tl_text.specs.Text.{base64_text}
use Rattle.tl_command.proofs.LineFields.{hash_utf8, after_word}
use Rattle.tl_command.proofs.lines.hash_after.Goals as goal

pub returns-in_default : goal.returns-in_default
returns-in_default c = λ hash lawful e. c.in_default.ensures (base64_text hash) (hash_utf8 hash) e

pub returns : goal.returns
returns c = after_word IsHash base64_text c.args.line.now c.args.word.now c.in-Some.text.now c.in-Some.ensures c.parse_hash.result c.parse_hash.ensures
