-- A request and a signed checkpoint make a chain line.
use Rattle.std.proofs.Common.{◌≡◌, ℕ, List, sym, subst}
use Rattle.std.specs.Prelude.{IsUtf8}
use Rattle.tl_checkpoint.specs.Checkpoint.{IsHead}
use Rattle.tl_text.specs.Text.{IsOneLine}
use Rattle.tl_witness.specs.Book.{Signed, asked_of}
use Rattle.tl_witness.specs.ChainLine.{IsChainLine}
use Rattle.tl_witness.specs.Request.{Body, IsBody}

pub line_of : (origin : List ℕ) (request : Body) (signed : Signed) (time : ℕ) → IsBody request → IsHead signed.head → IsUtf8 signed.head.origin
    → origin ≡ signed.head.origin → IsChainLine (record { origin = origin; step = (asked_of request signed time).step })
line_of origin request signed time body head utf8 same = record {
  origin = subst IsOneLine (sym same) head.origin;
  utf8 = subst IsUtf8 (sym same) utf8;
  size = head.size;
  root = head.root;
  few = body.few;
  hashes = body.hashes;
}
