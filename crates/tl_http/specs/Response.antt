-- What a response gives (RFC 9112, sections 4, 6 and 7).
use Rattle.std.specs.Prelude.{◌≡◌, ◌≢◌, ◌⊎◌, ℕ, ◌+◌, ◌<◌, ◌≤◌, List, Result, Ok, Err, ◌++◌, All, length, take, vec_items}
use Rattle.std.specs.List.{flat_map}
use Rattle.std.specs.declared.vec.Vec.{Vec}
use Rattle.httparse.specs.Grammar.{IsResponseHead, ResponseHead, ReadsResponse, print_response, status_code}
use Rattle.tl_hash.specs.Bytes.{Bytes}
use Rattle.tl_http.specs.FieldValues.{fields_of}
use Rattle.tl_http.specs.Chunks.{Chunk, HasChunks, chunks_content, IsCutData, IsCutLine, IsLine, LacksEnd, LacksLine}
use Rattle.tl_http.specs.Fields.{HasFraming, IsPlain}
use Rattle.tl_http.specs.declared.fault.HttpFault.{HttpFault}
use Rattle.tl_http.specs.declared.fault.HttpFault.TheVariants.{NoHead, Version, Status, Encoded, BadLength, TooLarge, Short, BadChunk, OutOfMemory}
use Rattle.tl_http.specs.declared.framing.Framing.{Framing}
use Rattle.tl_http.specs.declared.framing.Framing.TheVariants.{Sized, UntilEnd, Chunked}

-- `otherwise` if the fact doesn't hold, and the rest of the table if it does
abbrev pub Unless : Type 0 → Type 0 → Type 0 → Type 0
Unless fact otherwise rest = (¬ fact × otherwise) ⊎ (fact × rest)

-- `otherwise` if there is nothing such, and the rest of the table, of something such, if there is
abbrev pub UnlessSome : {A : Type 0} → (A → Type 0) → Type 0 → (A → Type 0) → Type 0
UnlessSome {A} such otherwise rest = (((a : A) → ¬ (such a)) × otherwise) ⊎ ((a : A) × such a × rest a)

-- what a call returns: the bytes of a body, or why there is none
abbrev pub Outcome : Type 0
Outcome = Result Bytes HttpFault

-- the result of a call as a value: bytes instead of a list in memory
abbrev pub outcome : {A : Type 0} → Result (Vec ℕ A) HttpFault → Outcome
outcome (Ok body) = Ok (vec_items body)
outcome (Err fault) = Err fault

-- the status of an interim response, except 101, Switching Protocols (RFC 9110, section 15.2)
abbrev pub IsInterimStatus : ℕ → Type 0
IsInterimStatus status = (100 ≤ status) × (status < 200) × (status ≢ 101)

-- the head of an interim response
pub record IsInterim (head : ResponseHead) : Type 0 where
  pub valid : IsResponseHead head
  pub status : IsInterimStatus (status_code head)
  pub few : length head.fields ≤ 64

-- the head that an input has, and what follows it
pub record Begun : Type 0 where
  pub head : ResponseHead
  pub rest : Bytes

-- the input begins with interim heads or none, and then this head; they have at most 8,192 bytes together, and 64
-- fields each. A line may end in a line feed alone, and empty lines may come first (RFC 9112, section 2.2)
pub record Begins (input : Bytes) (b : Begun) : Type 0 where
  pub interim : List ResponseHead
  pub passed : All IsInterim interim
  pub after : Bytes
  pub joined : input ≡ flat_map print_response interim ++ after
  pub reads : ReadsResponse after b.head b.rest
  pub final : ¬ (IsInterimStatus (status_code b.head))
  pub short : length (flat_map print_response interim) + length (print_response b.head) ≤ 8192
  pub few : length b.head.fields ≤ 64

-- an allocation failed while a body of at most `most` bytes was read, of which some came
abbrev pub LacksMemory : ℕ → Bytes → Outcome → Type 0
LacksMemory most rest r = (r ≡ Err OutOfMemory) × (0 < most) × (0 < length rest)

-- why there is no chunk's line
abbrev pub LineDecides : Bytes → Outcome → Type 0
LineDecides rest r = ((r ≡ Err Short) × IsCutLine rest) ⊎ ((r ≡ Err BadChunk) × LacksLine rest)

-- why n bytes of data and the CR LF after them couldn't be read
abbrev pub DataDecides : ℕ → Bytes → Outcome → Type 0
DataDecides n rest r =
    LacksMemory n rest r
    ⊎ ((r ≡ Err Short) × IsCutData n rest)
    ⊎ ((r ≡ Err BadChunk) × LacksEnd n rest)

-- what follows the line of a chunk of n bytes decides, after chunks with these data
abbrev pub SizeDecides : ℕ → Bytes → ℕ → Bytes → Outcome → Type 0
SizeDecides limit content n rest r =
    ((r ≡ Ok content) × (n ≡ 0))
    ⊎ ((r ≡ Err TooLarge) × (limit < length content + n))
    ⊎ ((0 < n) × (length content + n ≤ limit) × DataDecides n rest r)

-- what follows chunks with these data decides: no line, or a line and what follows it
abbrev pub ChunkDecides : ℕ → Bytes → Bytes → Outcome → Type 0
ChunkDecides limit content rest r =
    LineDecides rest r
    ⊎ ((line : Bytes) × (after : Bytes) × (n : ℕ) × (rest ≡ line ++ after) × IsLine line n × SizeDecides limit content n after r)

-- the result for a chunked body. It begins with chunks within the limit, and then comes
--     Short        a part of the next chunk's line, with which the input ends
--     BadChunk     no chunk's line, or none of at most 256 bytes
--     Ok           the line of the last chunk, which has no data; whatever follows it isn't read
--     TooLarge     the line of a chunk with which the data are more than the limit
--     OutOfMemory  the line of a chunk and some of its data, and an allocation for them failed
--     Short        the line of a chunk, and the input ends before the CR LF after its data
--     BadChunk     the line of a chunk, whose data don't end in CR LF
abbrev pub ChunksDecide : ℕ → Bytes → Outcome → Type 0
ChunksDecide limit input r =
    (chunks : List Chunk) × (rest : Bytes) × HasChunks limit input chunks rest
    × ChunkDecides limit (chunks_content chunks) rest r

-- the result for what follows the head: the last cases of the table
abbrev pub BodyDecides : ℕ → Framing → Bytes → Outcome → Type 0
BodyDecides limit (Sized n) rest r =
    Unless (n ≤ limit) (r ≡ Err TooLarge)
    (LacksMemory n rest r
    ⊎ Unless (n ≤ length rest) (r ≡ Err Short)
    (r ≡ Ok (take n rest)))
BodyDecides limit UntilEnd rest r =
    LacksMemory limit rest r
    ⊎ Unless (length rest ≤ limit) (r ≡ Err TooLarge)
    (r ≡ Ok rest)
BodyDecides limit Chunked rest r = ChunksDecide limit rest r

-- the result for a head with this minor version, status and fields, if these statuses are wanted; `Taken` decides if
-- the body can be read
abbrev pub HeadDecides : {R : Type 0} → (ℕ → Type 0) → ℕ → ℕ → List (Bytes × Bytes)
    → (Framing → Type 0) → Result R HttpFault → Type 0
HeadDecides Wanted minor status fields Taken r =
    Unless (minor ≤ 1) (r ≡ Err Version)
    (Unless (Wanted status) (r ≡ Err (Status status))
    (Unless (IsPlain minor fields) (r ≡ Err Encoded)
    (UnlessSome (HasFraming fields) (r ≡ Err BadLength) Taken)))

-- the result for an input, by the first case that applies:
--     NoHead       the input doesn't begin with the head of a response, after interim ones or none
--     Version      the head is of a later version than HTTP/1.1
--     Status       its status isn't wanted
--     Encoded      it has a field Transfer-Encoding that isn't `chunked` once over HTTP/1.1, or a Content-Encoding
--                  that isn't `identity` once
--     BadLength    it has fields Content-Length that aren't one number below 2^63, or one beside Transfer-Encoding
--     else         `Taken` decides, of the head, what follows it and its framing
abbrev pub ResponseDecides : {R : Type 0} → (ℕ → Type 0)
    → (Begun → Framing → Type 0) → Bytes → Result R HttpFault → Type 0
ResponseDecides Wanted Taken input r =
    UnlessSome (Begins input) (r ≡ Err NoHead) (λ b.
    HeadDecides Wanted b.head.minor (status_code b.head) (fields_of b.head.fields) (Taken b) r)

-- the result of a response to GET: the same table if status 200 alone is wanted. Its last cases are, for a chunked
-- body, those of `ChunksDecide`, or else:
--     TooLarge     the length is above the limit
--     OutOfMemory  some of the body came, and an allocation for it failed
--     TooLarge     there is no length, and more bytes than the limit follow the head
--     Short        the input ends before the body does
--     Ok           else: the bytes of that length after the head, or all if there is no length
abbrev pub Responds : ℕ → Bytes → Outcome → Type 0
Responds limit input r =
    ResponseDecides (λ status. status ≡ 200) (λ b framing. BodyDecides limit framing b.rest r) input r
