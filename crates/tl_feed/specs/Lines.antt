-- The line by which a witness cosigns a note (C2SP signed-note, "Format"; tlog-cosignature, "Format").
use Rattle.std.specs.Prelude.{◌≡◌, ℕ, List, Contains}
use Rattle.tl_hash.specs.Bytes.{Bytes}
use Rattle.tl_note.specs.Key.{Key}
use Rattle.tl_note.specs.Note.{IsSignature, Note, Signature, signature_line}
use Rattle.tl_checkpoint.specs.Cosignature.{IsCosignature}

-- the line is one signature line, and by it one of these keys cosigns the text of a checkpoint, at some time
pub record CosignsText (keys : List Key) (text line : Bytes) : Type 0 where
  pub signature : Signature
  pub lawful : IsSignature signature
  pub spelled : line ≡ signature_line signature
  pub key : Key
  pub known : Contains keys key
  pub time : ℕ
  pub valid : IsCosignature text key signature time

-- by this line one of these keys cosigns the text of this note
pub record CosignsNote (keys : List Key) (note line : Bytes) : Type 0 where
  pub text : Bytes
  pub lines : List Signature
  pub noted : Note note text lines
  pub cosigned : CosignsText keys text line
