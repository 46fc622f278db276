-- What parsing a request answers (C2SP tlog-witness, "add-checkpoint").
use Rattle.std.specs.Prelude.{◌≡◌, ◌≢◌, ℕ, ◌<◌, ◌≤◌, List, ◌∷◌, ◌++◌, length, All, IsUtf8, Result, Ok, Err}
use Rattle.tl_hash.specs.Bytes.{Bytes, IsHash}
use Rattle.tl_text.specs.Text.{line, base64_text}
use Rattle.tl_witness.specs.declared.request.AddRequest.{AddRequest}
use Rattle.tl_witness.specs.declared.request.RequestFault.{RequestFault}
use Rattle.tl_witness.specs.declared.request.RequestFault.TheVariants.{Malformed, OutOfMemory}
use Rattle.tl_witness.specs.Request.{Body, IsRequest, hash_lines}

-- what a request states, whatever its allocator
abbrev pub body_of : {A : Type 0} → AddRequest A → Body
body_of request = record { old = request.old; proof = request.proof; note = request.note.now }

-- the request that the bytes are, or that they are none; memory is allocated only for the hashes of a request
abbrev pub ParsesRequest : {A : Type 0} → Bytes → Result (AddRequest A) RequestFault → Type 0
ParsesRequest bytes (Ok request) = IsRequest bytes (body_of request)
ParsesRequest bytes (Err Malformed) = (request : Body) → ¬ (IsRequest bytes request)
ParsesRequest bytes (Err OutOfMemory) = (request : Body) × IsRequest bytes request × (0 < length request.proof)

-- the text is the lines of these hashes, at most 63, then an empty line and the note
pub record IsProofText (text : Bytes) (proof : List Bytes) (note : Bytes) : Type 0 where
  pub few : length proof ≤ 63
  pub hashes : All IsHash proof
  pub utf8 : IsUtf8 note
  pub spelled : text ≡ hash_lines proof ++ 10 ∷ note

-- the text is that of `count` hashes and this note
abbrev pub HasProof : Bytes → ℕ → Bytes → Type 0
HasProof text count note = (proof : List Bytes) × IsProofText text proof note × (length proof ≡ count)

-- the text is not that of any hashes and note
abbrev pub HasNoProof : Bytes → Type 0
HasNoProof text = (proof : List Bytes) (note : Bytes) → ¬ (IsProofText text proof note)

-- the text doesn't begin with the line of a hash
abbrev pub HasNoHashLine : Bytes → Type 0
HasNoHashLine text = (hash rest : Bytes) → IsHash hash → text ≢ line (base64_text hash) ++ rest
