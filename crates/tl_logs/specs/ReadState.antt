-- What reading the state of a witness answers, and what compacting it answers. H is the digest function.
use Rattle.std.specs.Prelude.{List, None, Option, Result, Ok, Err, String, map, string_bytes, vec_items}
use Rattle.std.specs.declared.vec.Vec.{Vec}
use Rattle.tl_hash.specs.Bytes.{Digest}
use Rattle.tl_device.specs.Device.{Passage}
use Rattle.tl_logs.specs.LogsFile.{Log}
use Rattle.tl_logs.specs.State as state
use Rattle.tl_logs.specs.State.{IsCompacted, KnowsHeads, of_logs, origin_head}
use Rattle.tl_logs.specs.StateFaults.{RefusesState}
use Rattle.tl_logs.specs.declared.head.OriginHead.{OriginHead}
use Rattle.tl_logs.specs.declared.state_fault.StateFault.{StateFault}

-- the origin, size and root of a head, whatever its allocator
abbrev pub head_shown : {A : Type 0} → OriginHead A → state.OriginHead
head_shown o = origin_head (string_bytes o.origin) (record { size = o.size; root = o.root })

abbrev pub heads_shown : {A : Type 0} → List (OriginHead A) → List state.OriginHead
heads_shown heads = map head_shown heads

-- the heads of the origins of these logs, or of all origins; or why the state isn't read
abbrev pub ReadsState : {A : Type 0} → Digest → Option (List Log) → Passage → Result (Vec (OriginHead A) A) StateFault → Type 0
ReadsState H logs p (Ok heads) = KnowsHeads H (of_logs logs) p (heads_shown (vec_items heads))
ReadsState H logs p (Err fault) = RefusesState H logs p fault

-- the text of the compacted state, or why the state isn't read
abbrev pub CompactsState : {A : Type 0} → Digest → Passage → Result (String A) StateFault → Type 0
CompactsState H p (Ok text) = IsCompacted H p (string_bytes text)
CompactsState H p (Err fault) = RefusesState H None p fault
