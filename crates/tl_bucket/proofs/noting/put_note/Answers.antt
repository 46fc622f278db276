use Rattle.std.proofs.Common.{option_map}
use Rattle.tl_bucket.specs.Inner.Puts.{shown_of}
use Rattle.tl_bucket.proofs.Settled.{noted_again}
use Rattle.tl_bucket.proofs.noting.put_note.Goals as goal

pub returns-in-Err-NoConditions : goal.returns-in-Err-NoConditions
returns-in-Err-NoConditions g c = noted_again c.args.client.now (option_map shown_of c.args.shown.now) c.replacing.result c.args.note.now c.tag_of_note.result c.replacing.ensures c.tag_of_note.ensures
