-- From the steps of reading chunks to the whole.
use Rattle.std.proofs.Common.{◌≡◌, ◌+◌, ◌<◌, ◌≤◌, ℕ, List, [], ◌∷◌, ◌++◌, Option, Bool, All, append-nil, append_assoc, ap, arith, codes, inl, inr, length, length-append, refl, subst, sym, ◌∙◌}
use Rattle.std.proofs.lemmas.List.Concat.{flat_map-append}
use Rattle.std.proofs.lemmas.List.Elements.{All-nil, All-push}
use Rattle.tl_http.specs.Chunks.{Chunk, IsChunk, IsLine, chunk_text, chunks_content, chunks_text}
use Rattle.tl_http.specs.Get.{Receives}
use Rattle.tl_http.specs.Response.{ChunkDecides, ChunksDecide, DataDecides, LineDecides, Outcome, SizeDecides}
use Rattle.tl_http.specs.Inner.ChunkReads.{CameChunks}
use Rattle.tl_http.specs.Inner.Taking.{Took}
use Rattle.tl_device.proofs.SendingLemmas.{over}
use Rattle.tl_http.proofs.TakingLemmas.{decided, decided_after, took_none, took_then}

-- none yet
pub came_none : (a : Option (List ℕ)) (f : Bool) (begun body : List ℕ) (limit : ℕ) → body ≡ [] → CameChunks (over a a f f) begun begun body limit
came_none a f begun body limit none = record {
  chunks = [];
  chunked = All-nil IsChunk;
  took = took_none a f begun;
  whole = sym none;
  fits = omega (arith, ap (λ (l : List ℕ). length l) none);
}

-- chunks came, and then something that decides
pub chunks_decide : (limit : ℕ) (chunks : List Chunk) (rest body : List ℕ) (r : Outcome)
    → All IsChunk chunks → chunks_content chunks ≡ body → length body ≤ limit → ChunkDecides limit body rest r
    → ChunksDecide limit (chunks_text chunks ++ rest) r
chunks_decide limit chunks rest body r chunked whole fits decides = (
  chunks,
  rest,
  record { joined = refl; chunked = chunked; fits = subst (λ (l : List ℕ). length l ≤ limit) (sym whole) fits },
  subst (λ (l : List ℕ). ChunkDecides limit l rest r) (sym whole) decides,
)

-- a line of a chunk, and then something that decides
size_decides : (limit n : ℕ) (body line rest : List ℕ) (r : Outcome) → IsLine line n → SizeDecides limit body n rest r → ChunkDecides limit body (line ++ rest) r
size_decides limit n body line rest r is decides = inr (line, rest, n, refl, is, decides)

-- no line comes
pub no_line : (limit : ℕ) (r : Outcome) (a b c : Option (List ℕ)) (f g h : Bool) (begun kept body : List ℕ)
    → CameChunks (over a b f g) begun kept body limit → Receives (λ rest r. LineDecides (kept ++ rest) r) (over b c g h) r
    → Receives (λ rest r. ChunksDecide limit (begun ++ rest) r) (over a c f h) r
no_line limit r a b c f g h begun kept body came failed =
    decided_after (λ rest r. LineDecides rest r) (λ rest r. ChunksDecide limit rest r) r a b c f g h begun kept (chunks_text came.chunks) came.took
    (λ rest decides. chunks_decide limit came.chunks rest body r came.chunked came.whole came.fits (inl decides))
    failed

-- the line decides
pub line_decides : (limit n : ℕ) (r : Outcome) (a b c : Option (List ℕ)) (f g h : Bool) (begun kept new body : List ℕ)
    → CameChunks (over a b f g) begun kept body limit → (line : List ℕ) × IsLine line n × Took (over b c g h) kept new line
    → ((rest : List ℕ) → SizeDecides limit body n rest r)
    → Receives (λ rest r. ChunksDecide limit (begun ++ rest) r) (over a c f h) r
line_decides limit n r a b c f g h begun kept new body came line decides =
    let text : List ℕ = chunks_text came.chunks in
    decided (λ rest r. ChunksDecide limit rest r) r a c f h begun new (text ++ line.0) (took_then a b c f g h begun kept new text line.0 came.took line.2)
    (λ rest. subst (λ (l : List ℕ). ChunksDecide limit l r) (sym (append_assoc text line.0 (new ++ rest)))
    (chunks_decide limit came.chunks (line.0 ++ (new ++ rest)) body r came.chunked came.whole came.fits
    (size_decides limit n body line.0 (new ++ rest) r line.1 (decides (new ++ rest)))))

-- the data don't come whole
pub no_data : (limit n : ℕ) (r : Outcome) (a b c d : Option (List ℕ)) (f g h k : Bool) (begun kept new body : List ℕ)
    → CameChunks (over a b f g) begun kept body limit → (line : List ℕ) × IsLine line n × Took (over b c g h) kept new line
    → 0 < n → length body + n ≤ limit → Receives (λ rest r. DataDecides n (new ++ rest) r) (over c d h k) r
    → Receives (λ rest r. ChunksDecide limit (begun ++ rest) r) (over a d f k) r
no_data limit n r a b c d f g h k begun kept new body came line some fits failed =
    let text : List ℕ = chunks_text came.chunks in
    decided_after (λ rest r. DataDecides n rest r) (λ rest r. ChunksDecide limit rest r) r a c d f h k begun new (text ++ line.0)
    (took_then a b c f g h begun kept new text line.0 came.took line.2)
    (λ rest decides. subst (λ (l : List ℕ). ChunksDecide limit l r) (sym (append_assoc text line.0 rest))
    (chunks_decide limit came.chunks (line.0 ++ rest) body r came.chunked came.whole came.fits
    (size_decides limit n body line.0 rest r line.1 (inr (inr (some, fits, decides))))))
    failed

-- one chunk more
pub one_more : (limit n : ℕ) (a b c d : Option (List ℕ)) (f g h k : Bool) (begun kept mid new body grown : List ℕ)
    → CameChunks (over a b f g) begun kept body limit → (line : List ℕ) × IsLine line n × Took (over b c g h) kept mid line
    → 0 < n → length body + n ≤ limit
    → (content : List ℕ) × (length content ≡ n) × Took (over c d h k) mid new (content ++ codes "\r\n") × (grown ≡ body ++ content)
    → CameChunks (over a d f k) begun new grown limit
one_more limit n a b c d f g h k begun kept mid new body grown came line some fits content =
    let chunk : Chunk = record { line = line.0; content = content.0 } in
    let text : List ℕ = chunks_text came.chunks in
    let long : length content.0 ≡ n = content.1 in
    let is : IsChunk chunk = record {
      lined = subst (λ (m : ℕ). IsLine line.0 m) (sym long) line.1;
      some = omega (arith, long, some);
    } in
    let took : Took (over a d f k) begun new ((text ++ line.0) ++ (content.0 ++ codes "\r\n")) =
    took_then a c d f h k begun mid new (text ++ line.0) (content.0 ++ codes "\r\n") (took_then a b c f g h begun kept mid text line.0 came.took line.2) content.2 in
    let texts : (text ++ line.0) ++ (content.0 ++ codes "\r\n") ≡ chunks_text (came.chunks ++ chunk ∷ []) =
    append_assoc text line.0 (content.0 ++ codes "\r\n")
    ∙ (ap (λ (l : List ℕ). text ++ l) (sym (append_assoc line.0 content.0 (codes "\r\n")) ∙ sym (append-nil (chunk_text chunk)))
    ∙ sym (flat_map-append chunk_text came.chunks (chunk ∷ []))) in
    let contents : chunks_content (came.chunks ++ chunk ∷ []) ≡ grown =
    flat_map-append (λ (x : Chunk). x.content) came.chunks (chunk ∷ [])
    ∙ (ap (λ (l : List ℕ). l ++ (content.0 ++ [])) came.whole
    ∙ (ap (λ (l : List ℕ). body ++ l) (append-nil content.0) ∙ sym content.3)) in
    record {
      chunks = came.chunks ++ chunk ∷ [];
      chunked = All-push IsChunk came.chunks chunk came.chunked is;
      took = subst (λ (l : List ℕ). Took (over a d f k) begun new l) texts took;
      whole = contents;
      fits = omega (arith, ap (λ (l : List ℕ). length l) content.3, length-append body content.0, long, fits);
    }
