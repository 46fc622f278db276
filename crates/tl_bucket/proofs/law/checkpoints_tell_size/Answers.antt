use Rattle.std.proofs.Common.{[], ◌∷◌, ◌++◌, length, ◌∙◌, append_assoc}
use Rattle.std.specs.List.{flat_map}
use Rattle.tl_hash.specs.Bytes.{Bytes}
use Rattle.tl_text.specs.Text.{line, number_text, base64_text}
use Rattle.tl_note.specs.Note.{signature_line}
use Rattle.tl_log.specs.Checkpoints.{head_of_log}
use Rattle.tl_bucket.proofs.law.checkpoints_tell_size.Goals as goal

pub returns : goal.returns
returns c = λ origin entries note is.
    let a : Bytes = line origin ++ line (number_text (length entries)) in
    let b : Bytes = line (base64_text (head_of_log origin entries).root) in
    let signed : Bytes = 10 ∷ flat_map signature_line is.lines in
    record {
      origin = origin;
      rest = b ++ ([] ++ signed);
      plain = is.stated.origin.plain;
      bounded = is.stated.size;
      spelled = is.noted.spelled ∙ append_assoc (a ++ b) [] signed ∙ append_assoc a b ([] ++ signed);
    }
