-- What reading the file of logs answers.
use Rattle.std.specs.Prelude.{◌≡◌, ℕ, ◌+◌, List, [], ◌∷◌, ◌++◌, length, All, Bool, map, bytes_eq, string_bytes, vec_items, Result, Ok, Err}
use Rattle.std.specs.List.{list_any}
use Rattle.std.specs.declared.vec.Vec.{Vec}
use Rattle.tl_hash.specs.Bytes.{Bytes}
use Rattle.tl_logs.specs.declared.log.KnownLog.{KnownLog}
use Rattle.tl_logs.specs.declared.fault.LogsFault.{LogsFault}
use Rattle.tl_logs.specs.declared.fault.LogsFault.TheVariants.{Malformed, Twice, OutOfMemory}
use Rattle.tl_logs.specs.LogsFile.{FileLine, GivesKey, HasEachOnce, IsFileLine, IsFileText, IsKnown, IsNoLine, Log, LogKey, StandsBehind, keys_in, log, logs}
use Rattle.tl_logs.specs.LogList.{Entry, IsList, IsListed, IsLog, Listed, entries, entries_in, given_in}

-- the logs that were read, whatever their allocator
abbrev pub logs_shown : {A : Type 0} → List (KnownLog A) → List Log
logs_shown known = map (λ l. log (string_bytes l.origin) (vec_items l.keys)) known

-- the bytes are lines, no log has a key twice, and these are the logs
pub record AreLogsOf (bytes : Bytes) (known : List Log) : Type 0 where
  pub lines : List FileLine
  pub text : IsFileText bytes lines
  pub once : All HasEachOnce (logs (keys_in lines))
  pub same : known ≡ logs (keys_in lines)

-- the line with this number, counted from 1, has these words, and the lines before it are right
pub record IsNext (bytes : Bytes) (number : ℕ) (words : Bytes) (before : List FileLine) : Type 0 where
  pub each : All IsFileLine before
  pub once : All HasEachOnce (logs (keys_in before))
  pub count : length before + 1 ≡ number
  pub behind : StandsBehind bytes before words

-- the line with this number is no line of the file, and the lines before it are right
pub record IsMalformedAt (bytes : Bytes) (number : ℕ) : Type 0 where
  pub before : List FileLine
  pub words : Bytes
  pub next : IsNext bytes number words before
  pub no_line : IsNoLine words

-- the line with this number gives a log a key that it already has, and the lines before it are right
pub record IsTwiceAt (bytes : Bytes) (number : ℕ) : Type 0 where
  pub before : List FileLine
  pub words : Bytes
  pub next : IsNext bytes number words before
  pub key : LogKey
  pub gives : GivesKey words key
  pub known : IsKnown key (keys_in before)

-- some line gives a log a key
pub record HasKeyLine (bytes : Bytes) : Type 0 where
  pub before : List FileLine
  pub words : Bytes
  pub each : All IsFileLine before
  pub behind : StandsBehind bytes before words
  pub key : LogKey
  pub gives : GivesKey words key

-- the logs of the lines that the bytes are; or the first line that is malformed or gives a key again. Memory is
-- allocated only for a line that gives a key.
abbrev pub ReadsLines : {A : Type 0} → Bytes → Result (Vec (KnownLog A) A) LogsFault → Type 0
ReadsLines bytes (Ok read) = AreLogsOf bytes (logs_shown (vec_items read))
ReadsLines bytes (Err (Malformed number)) = IsMalformedAt bytes number
ReadsLines bytes (Err (Twice number)) = IsTwiceAt bytes number
ReadsLines bytes (Err OutOfMemory) = HasKeyLine bytes

-- ---- a list

-- the list says these logs, which are right, and then the others
pub record Begins (bytes : Bytes) (listed : List Listed) (others : List Entry) : Type 0 where
  pub each : All IsListed listed
  pub once : All HasEachOnce (logs (given_in listed))
  pub joined : entries bytes ≡ entries_in listed ++ others

-- the list says logs that are right, and these are they
pub record AreListed (bytes : Bytes) (known : List Log) : Type 0 where
  pub listed : List Listed
  pub all : Begins bytes listed []
  pub same : known ≡ logs (given_in listed)

-- the line with this number begins the log that the list says after these
pub record IsNextLog (bytes : Bytes) (number : ℕ) (listed : List Listed) (e : Entry) : Type 0 where
  pub others : List Entry
  pub begins : Begins bytes listed (e ∷ others)
  pub line : e.number ≡ number

-- the line with this number begins a log with no key or name that is one, and the logs before it are right
pub record IsNoLogAt (bytes : Bytes) (number : ℕ) : Type 0 where
  pub listed : List Listed
  pub entry : Entry
  pub next : IsNextLog bytes number listed entry
  pub none : (k : LogKey) → ¬ (IsLog entry k)

-- the line with this number gives a log a key that it already has, and the logs before it are right
pub record IsTwiceIn (bytes : Bytes) (number : ℕ) : Type 0 where
  pub listed : List Listed
  pub entry : Entry
  pub next : IsNextLog bytes number listed entry
  pub key : LogKey
  pub is : IsLog entry key
  pub known : IsKnown key (given_in listed)

-- some log of the list has a key
pub record HasLog (bytes : Bytes) : Type 0 where
  pub listed : List Listed
  pub entry : Entry
  pub next : IsNextLog bytes entry.number listed entry
  pub key : LogKey
  pub is : IsLog entry key

-- the logs of the list; or the first of them that is malformed or has a key that its log already has, by the line
-- that begins it. Memory is allocated only for a log that has a key.
abbrev pub ReadsList : {A : Type 0} → Bytes → Result (Vec (KnownLog A) A) LogsFault → Type 0
ReadsList bytes (Ok read) = AreListed bytes (logs_shown (vec_items read))
ReadsList bytes (Err (Malformed number)) = IsNoLogAt bytes number
ReadsList bytes (Err (Twice number)) = IsTwiceIn bytes number
ReadsList bytes (Err OutOfMemory) = HasLog bytes

-- ---- the file

-- a list is read as one, and any other file by its lines
pub record ReadsLogs {A : Type 0} (bytes : Bytes) (result : Result (Vec (KnownLog A) A) LogsFault) : Type 0 where
  pub list : IsList bytes → ReadsList bytes result
  pub lines : ¬ (IsList bytes) → ReadsLines bytes result

-- this is the origin of one of these logs
abbrev pub is_origin_of : List Log → Bytes → Bool
is_origin_of known origin = list_any (λ l. bytes_eq l.origin origin) known
