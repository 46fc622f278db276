-- Texts of audits (a format of this project): two lists of entries, and a consistency proof from the first to the
-- second.
use Rattle.std.specs.Prelude.{List, ◌∷◌, ◌++◌, length, All, map, codes}
use Rattle.tl_hash.specs.Bytes.{Bytes, IsHash}
use Rattle.tl_text.specs.Text.{number_text, base64_text, IsSize}
use Rattle.tl_command.specs.Lines.{lines_text, HasNoNewline}

pub record Audit : Type 0 where
  pub old : List Bytes
  pub new : List Bytes
  pub proof : List Bytes

-- the audits that have a text: fewer than 2^63 entries, each one line, and hashes
pub record IsAudit (a : Audit) : Type 0 where
  pub old_count : IsSize (length a.old)
  pub old : All HasNoNewline a.old
  pub new_count : IsSize (length a.new)
  pub new : All HasNoNewline a.new
  pub proof : All IsHash a.proof

-- a line of the word and the number of entries, and then the entries
abbrev pub counted_lines : Bytes → List Bytes → List Bytes
counted_lines word entries = (word ++ number_text (length entries)) ∷ entries

-- the lines of an audit's text
abbrev pub audit_lines : Audit → List Bytes
audit_lines a = counted_lines (codes "old ") a.old ++ counted_lines (codes "new ") a.new ++ map base64_text a.proof

abbrev pub audit_text : Audit → Bytes
audit_text a = lines_text (audit_lines a)
