-- What a fault of `fetch` or `feed` prints, and its exit status.
use Rattle.std.specs.Prelude.{ℕ, ◌++◌, [], Bool, true, false, codes, Option, Some}
use Rattle.tl_hash.specs.Bytes.{Bytes}
use Rattle.tl_text.specs.Text.{number_text}
use Rattle.tl_policy.specs.FaultWords.{trust_words}
use Rattle.tl_run.specs.Faults.{exit_status, fault_text, fault_words}
use Rattle.tl_fetch.specs.declared.fault.FetchFault.{FetchFault}
use Rattle.tl_fetch.specs.declared.fault.FetchFault.TheVariants.{Run, BadAddress, OtherKey, BadWitness, SharedKey, Unavailable, OtherLog, TooFew, Untrusted, Stale, BadTile, BadBundle, BadEntry, Older, Forked}

-- the words behind an older checkpoint: none if it was compared
abbrev pub uncompared_words : Bool → Bytes
uncompared_words true = []
uncompared_words false = codes " (not compared)"

-- the words for a fault
abbrev pub fetch_words : FetchFault → Bytes
fetch_words (Run fault) = fault_words fault
fetch_words (BadAddress which) = codes "bad address"
fetch_words OtherKey = codes "second key isn't another key of the log"
fetch_words (BadWitness place) = codes "bad key of witness " ++ number_text place
fetch_words (SharedKey place) = codes "witness " ++ number_text place ++ codes " has the key of another"
fetch_words Unavailable = codes "not available"
fetch_words OtherLog = codes "checkpoint of another log"
fetch_words (TooFew count) = codes "cosigned by " ++ number_text count ++ codes " witnesses"
fetch_words (Untrusted why) = trust_words why
fetch_words (Stale time) = codes "checkpoint not cosigned since " ++ number_text time
fetch_words (BadTile level index width) =
    codes "tile " ++ number_text level ++ codes " " ++ number_text index ++ codes " " ++ number_text width ++ codes " wrong"
fetch_words (BadBundle index) = codes "entry bundle " ++ number_text index ++ codes " malformed"
fetch_words (BadEntry index) = codes "entry " ++ number_text index ++ codes " wrong"
fetch_words (Older size of compared) =
    codes "older checkpoint: " ++ number_text size ++ codes " of " ++ number_text of ++ uncompared_words compared
fetch_words Forked = codes "log forked"

-- the line on standard error, without its newline, if there is one
abbrev pub fetch_text : FetchFault → Option Bytes
fetch_text (Run fault) = fault_text fault
fetch_text fault = Some (codes "tlog: " ++ fetch_words fault)

-- the exit status: 4 if the log forked; 3 if a device failed, or a source didn't answer, or its checkpoint is older
-- or not fresh; else 1
abbrev pub fetch_status : FetchFault → ℕ
fetch_status (Run fault) = exit_status fault
fetch_status Unavailable = 3
fetch_status (Older size of compared) = 3
fetch_status (Stale time) = 3
fetch_status Forked = 4
fetch_status _ = 1
