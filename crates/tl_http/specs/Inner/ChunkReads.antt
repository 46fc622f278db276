-- The steps of reading chunks.
use Rattle.std.specs.Prelude.{◌≡◌, ◌≢◌, ◌⊎◌, ℕ, ◌+◌, ◌≤◌, List, [], ◌∷◌, ◌++◌, All, Result, Ok, Err, codes, length, take}
use Rattle.tl_device.specs.Device.{Passage}
use Rattle.tl_hash.specs.Bytes.{Bytes}
use Rattle.tl_http.specs.Chunks.{Chunk, IsChunk, IsCutLine, IsLine, LacksLine, chunks_content, chunks_text}
use Rattle.tl_http.specs.Get.{Receives}
use Rattle.tl_http.specs.Response.{DataDecides, LineDecides, Outcome}
use Rattle.tl_http.specs.Inner.Taking.{Took}
use Rattle.tl_http.specs.declared.chunks.Line.{Line}
use Rattle.tl_http.specs.declared.chunks.Line.TheVariants.{Whole, Cut, Lacking}
use Rattle.tl_http.specs.declared.fault.HttpFault.{HttpFault}
use Rattle.tl_http.specs.declared.fault.HttpFault.TheVariants.{BadChunk, Short}

-- the line of a chunk at the front of the bytes, or why there is none
abbrev pub FindsLine : Bytes → Line → Type 0
FindsLine bytes (Whole len n) = (len ≤ length bytes) × IsLine (take len bytes) n
FindsLine bytes Cut = IsCutLine bytes
FindsLine bytes Lacking = LacksLine bytes

-- what was kept, with what follows it, has this fault
abbrev pub Meets : (Bytes → Outcome → Type 0) → Passage → Bytes → HttpFault → Type 0
Meets Decides i old fault = Receives (λ rest r. Decides (old ++ rest) r) i (Err fault)

-- reading the line of a chunk
abbrev pub ReadsLine : Passage → Bytes → Bytes → Result ℕ HttpFault → Type 0
ReadsLine i old new (Ok n) = (line : Bytes) × IsLine line n × Took i old new line
ReadsLine i old new (Err fault) = Meets LineDecides i old fault

-- why the wanted byte isn't next: the input ends, or another byte comes
abbrev pub ByteDecides : ℕ → Bytes → Outcome → Type 0
ByteDecides wanted rest r =
    ((r ≡ Err Short) × (rest ≡ []))
    ⊎ ((r ≡ Err BadChunk) × ((byte : ℕ) × (after : Bytes) × (rest ≡ byte ∷ after) × (byte ≢ wanted)))

-- reading one byte
abbrev pub ReadsByte : {U : Type 0} → ℕ → Passage → Bytes → Bytes → Result U HttpFault → Type 0
ReadsByte wanted i old new (Ok u) = Took i old new (wanted ∷ [])
ReadsByte wanted i old new (Err fault) = Meets (ByteDecides wanted) i old fault

-- reading n bytes of data onto a body
abbrev pub ReadsData : {U : Type 0} → ℕ → Passage → Bytes → Bytes → Bytes → Bytes → Result U HttpFault → Type 0
ReadsData n i old new body grown (Ok u) =
    (content : Bytes) × (length content ≡ n) × Took i old new content × (grown ≡ body ++ content)
ReadsData n i old new body grown (Err fault) = Meets (DataDecides n) i old fault

-- reading n bytes of data and the CR LF after them onto a body
abbrev pub ReadsChunk : {U : Type 0} → ℕ → Passage → Bytes → Bytes → Bytes → Bytes → Result U HttpFault → Type 0
ReadsChunk n i old new body grown (Ok u) =
    (content : Bytes) × (length content ≡ n) × Took i old new (content ++ codes "\r\n") × (grown ≡ body ++ content)
ReadsChunk n i old new body grown (Err fault) = Meets (DataDecides n) i old fault

-- some chunks came, and nothing else except what is kept
pub record CameChunks (i : Passage) (begun kept body : Bytes) (limit : ℕ) : Type 0 where
  pub chunks : List Chunk
  pub chunked : All IsChunk chunks
  pub took : Took i begun kept (chunks_text chunks)
  pub whole : chunks_content chunks ≡ body
  pub fits : length body ≤ limit

-- some data came and were appended to the body, and `left` of n bytes are still to come
pub record CameData (i : Passage) (old kept body grown : Bytes) (n left : ℕ) : Type 0 where
  pub content : Bytes
  pub took : Took i old kept content
  pub put : grown ≡ body ++ content
  pub sum : length content + left ≡ n
