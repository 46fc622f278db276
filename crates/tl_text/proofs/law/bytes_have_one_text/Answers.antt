use Rattle.tl_text.proofs.PlainText.{base64_once}
use Rattle.tl_text.proofs.law.bytes_have_one_text.Goals as goal

pub returns : goal.returns
returns c = base64_once
