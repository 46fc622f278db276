-- What the type of a proof says of it.
use Rattle.std.specs.Prelude.{All, IfSome, IsUtf8}
use Rattle.base64.specs.GeneralPurpose.{IsBytes}
use Rattle.tl_hash.specs.Bytes.{IsHash}
use Rattle.tl_offline.specs.ProofText.{TlogProof}

-- the extra data are bytes, the hashes have 32 of them, and the note is UTF-8
pub record IsTyped (p : TlogProof) : Type 0 where
  pub extra : IfSome p.extra IsBytes
  pub hashes : All IsHash p.hashes
  pub utf8 : IsUtf8 p.note
