-- The message of a fault in the file of logs.
use Rattle.std.specs.Prelude.{◌++◌, codes}
use Rattle.tl_hash.specs.Bytes.{Bytes}
use Rattle.tl_text.specs.Text.{number_text}
use Rattle.tl_logs.specs.declared.fault.LogsFault.{LogsFault}
use Rattle.tl_logs.specs.declared.fault.LogsFault.TheVariants.{Malformed, Twice, OutOfMemory}

abbrev pub logs_words : LogsFault → Bytes
logs_words (Malformed number) = codes "line " ++ number_text number ++ codes " malformed"
logs_words (Twice number) = codes "line " ++ number_text number ++ codes " has a key again"
logs_words OutOfMemory = codes "out of memory"
