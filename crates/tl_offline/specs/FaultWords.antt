-- What a fault of a proof's text, and of its entry, prints.
use Rattle.std.specs.Prelude.{ℕ, [], ◌++◌, codes}
use Rattle.tl_hash.specs.Bytes.{Bytes}
use Rattle.tl_text.specs.Text.{number_text}
use Rattle.tl_offline.specs.declared.proof.ProofFault.{ProofFault}
use Rattle.tl_offline.specs.declared.proof.ProofFault.TheVariants.{NoHeader, BadExtra, NoIndex, NoHash, TooMany, NoCheckpoint, OutOfMemory}
use Rattle.tl_offline.specs.declared.checking.EntryFault.{EntryFault}
use Rattle.tl_offline.specs.declared.checking.EntryFault.TheVariants.{IndexOutOfRange, NotIncluded}

-- the number of the line that is wrong, and what is wrong with it
abbrev pub wrong_line : ProofFault → ℕ
wrong_line NoHeader = 1
wrong_line BadExtra = 2
wrong_line (NoIndex line) = line
wrong_line (NoHash line) = line
wrong_line (TooMany line) = line
wrong_line (NoCheckpoint line) = line
wrong_line OutOfMemory = 0

abbrev pub line_words : ProofFault → Bytes
line_words NoHeader = codes "isn't c2sp.org/tlog-proof@v1"
line_words BadExtra = codes "has extra data that aren't base64"
line_words (NoIndex line) = codes "isn't an index"
line_words (NoHash line) = codes "isn't a hash"
line_words (TooMany line) = codes "is one hash too many"
line_words (NoCheckpoint line) = codes "is missing: no checkpoint follows"
line_words OutOfMemory = []

abbrev pub proof_words : ProofFault → Bytes
proof_words OutOfMemory = codes "out of memory"
proof_words fault = codes "line " ++ number_text (wrong_line fault) ++ codes " " ++ line_words fault

abbrev pub entry_words : EntryFault → Bytes
entry_words IndexOutOfRange = codes "the index isn't in the log"
entry_words NotIncluded = codes "the entry is another one"
