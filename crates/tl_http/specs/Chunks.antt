-- Chunked bodies (RFC 9112, section 7.1).
use Rattle.std.specs.Prelude.{◌≡◌, ◌≢◌, ◌⊎◌, ℕ, ◌<◌, ◌≤◌, List, ◌++◌, All, codes, length, take}
use Rattle.std.specs.List.{flat_map}
use Rattle.httparse.specs.Grammar.{ChunkLine, IsChunkLine, HasNoChunkLine, NeverHasChunkLine, chunk_size, print_chunk_line}
use Rattle.tl_hash.specs.Bytes.{Bytes}

-- the text is the line of a chunk of n bytes: 1 to 16 hexadecimal digits that write n, spaces and tabs or none, an
-- extension or none, and CR LF; 256 bytes at most. The line of the last chunk writes 0
pub record IsLine (text : Bytes) (n : ℕ) : Type 0 where
  pub line : ChunkLine
  pub valid : IsChunkLine line
  pub printed : print_chunk_line line ≡ text
  pub written : chunk_size line ≡ n
  pub short : length text ≤ 256

-- a chunk: its line and its data
pub record Chunk : Type 0 where
  pub line : Bytes
  pub content : Bytes

-- the line writes the length of the data, which aren't empty
pub record IsChunk (chunk : Chunk) : Type 0 where
  pub lined : IsLine chunk.line (length chunk.content)
  pub some : 0 < length chunk.content

-- a chunk as it is sent: its line, its data and CR LF
abbrev pub chunk_text : Chunk → Bytes
chunk_text chunk = chunk.line ++ chunk.content ++ codes "\r\n"

-- chunks as they are sent, one after another
abbrev pub chunks_text : List Chunk → Bytes
chunks_text chunks = flat_map chunk_text chunks

-- the data of chunks, one after another
abbrev pub chunks_content : List Chunk → Bytes
chunks_content chunks = flat_map (λ (chunk : Chunk). chunk.content) chunks

-- the input begins with these chunks, whose data are at most `limit` bytes, and `rest` follows them
pub record HasChunks (limit : ℕ) (input : Bytes) (chunks : List Chunk) (rest : Bytes) : Type 0 where
  pub joined : input ≡ chunks_text chunks ++ rest
  pub chunked : All IsChunk chunks
  pub fits : length (chunks_content chunks) ≤ limit

-- the text is a proper prefix of the whole
abbrev pub IsCut : Bytes → Bytes → Type 0
IsCut text whole = (more : Bytes) × (0 < length more) × (text ++ more ≡ whole)

-- the text is a proper prefix of a chunk's line, of fewer than 256 bytes
pub record IsCutLine (text : Bytes) : Type 0 where
  pub short : length text < 256
  pub line : ChunkLine
  pub valid : IsChunkLine line
  pub cut : IsCut text (print_chunk_line line)

-- the text begins with no chunk's line, whatever follows it; or its first 256 bytes hold none
abbrev pub LacksLine : Bytes → Type 0
LacksLine text = NeverHasChunkLine text ⊎ ((256 ≤ length text) × HasNoChunkLine (take 256 text))

-- the text is a proper prefix of n bytes of data and the CR LF after them
pub record IsCutData (n : ℕ) (text : Bytes) : Type 0 where
  pub content : Bytes
  pub long : length content ≡ n
  pub cut : IsCut text (content ++ codes "\r\n")

-- the text is n bytes of data and then no CR LF, whatever follows it
pub record LacksEnd (n : ℕ) (text : Bytes) : Type 0 where
  pub content : Bytes
  pub long : length content ≡ n
  pub rest : Bytes
  pub joined : text ≡ content ++ rest
  pub never : (more after : Bytes) → rest ++ more ≢ codes "\r\n" ++ after
