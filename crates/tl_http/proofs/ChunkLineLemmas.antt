-- What the parser reports of a chunk's line, for an input of which the first bytes were read.
use Rattle.std.proofs.Common.{◌≡◌, ◌+◌, ◌<◌, ◌≤◌, ℕ, Bool, List, Option, [], ◌∷◌, ◌++◌, append-nil, append_assoc, ap, arith, drop, inl, inr, length, length-append, length-take, min, subst, sym, take, ◌∙◌}
use Rattle.std.proofs.lemmas.List.{take-append-drop, take-append-le, take-take, take_all, take_at}
use Rattle.httparse.specs.Grammar.{ChunkLine, HasNoChunkLine, MayBecomeChunkLine, NeverHasChunkLine, ReadsChunkLine, print_chunk_line}
use Rattle.httparse.specs.Spans.{IsChunkLineAt}
use Rattle.tl_http.specs.Chunks.{IsCutLine, IsLine, LacksLine}
use Rattle.tl_http.specs.Inner.Taking.{Took}
use Rattle.tl_device.proofs.SendingLemmas.{over}
use Rattle.tl_http.proofs.TakingLemmas.{took_kept}

-- a line among the first bytes
pub line_whole : (bytes : List ℕ) (most len n : ℕ) → most ≡ min (length bytes) 256 → (l : ChunkLine) × IsChunkLineAt (take most bytes) len n l
    → (len ≤ length bytes) × IsLine (take len bytes) n
line_whole bytes most len n least found =
    let line : ChunkLine = found.0 in
    let at = found.1 in
    let text : List ℕ = print_chunk_line line in
    let rest : List ℕ = drop len (take most bytes) in
    let long : len ≡ length text = at.len_is in
    let all : length (take most bytes) ≡ length text + length rest = ap (λ (l : List ℕ). length l) at.reads.1 ∙ length-append text rest in
    let front : length (take most bytes) ≡ min most (length bytes) = length-take most bytes in
    let within : len ≤ most = omega (arith, long, all, front) in
    let same : take len bytes ≡ text =
    sym (take-take len most bytes within) ∙ (ap (λ (l : List ℕ). take len l) at.reads.1 ∙ take_at text rest len (sym long)) in
    let size : length (take len bytes) ≡ length text = ap (λ (l : List ℕ). length l) same in (
      omega (arith, long, all, front),
      record {
        line = line;
        valid = at.reads.0;
        printed = sym same;
        written = sym at.size_is;
        short = omega (arith, size, long, within, least);
      },
    )

-- no line, whatever follows the first bytes
pub line_never : (bytes : List ℕ) (most : ℕ) → NeverHasChunkLine (take most bytes) → LacksLine bytes
line_never bytes most never = inl (λ more l rest reads.
    let same : bytes ++ more ≡ take most bytes ++ (drop most bytes ++ more) =
    ap (λ (t : List ℕ). t ++ more) (sym (take-append-drop most bytes)) ∙ append_assoc (take most bytes) (drop most bytes) more in
    never (drop most bytes ++ more) l rest (subst (λ (t : List ℕ). ReadsChunkLine t l rest) same reads))

-- no line in 256 bytes
pub line_late : (bytes : List ℕ) (most : ℕ) → most ≡ min (length bytes) 256 → 256 ≤ length bytes → HasNoChunkLine (take most bytes) → LacksLine bytes
line_late bytes most least long none =
    let same : most ≡ 256 = omega (arith, least, long) in
    inr (long, subst (λ (n : ℕ). HasNoChunkLine (take n bytes)) same none)

-- what makes the bytes a line is some bytes
some_more : (bytes more : List ℕ) (l : ChunkLine) → HasNoChunkLine bytes → ReadsChunkLine (bytes ++ more) l [] → 0 < length more
some_more bytes [] l none reads = absurd (none l [] (subst (λ (t : List ℕ). ReadsChunkLine t l []) (append-nil bytes) reads))
some_more bytes (b ∷ more) l none reads = omega arith

-- the beginning of a line, in fewer than 256 bytes
pub line_cut : (bytes : List ℕ) (most : ℕ) → most ≡ min (length bytes) 256 → length bytes < 256 → HasNoChunkLine (take most bytes) → MayBecomeChunkLine (take most bytes)
    → IsCutLine bytes
line_cut bytes most least short none may =
    let all : take most bytes ≡ bytes = take_all most bytes (omega (arith, least, short)) in
    let no_line : HasNoChunkLine bytes = subst (λ (t : List ℕ). HasNoChunkLine t) all none in
    let reads : ReadsChunkLine (bytes ++ may.0) may.1 [] = subst (λ (t : List ℕ). ReadsChunkLine (t ++ may.0) may.1 []) all may.2 in
    record {
      short = short;
      line = may.1;
      valid = reads.0;
      cut = (may.0, some_more bytes may.0 may.1 no_line reads, reads.1 ∙ append-nil (print_chunk_line may.1));
    }

-- bytes that lack a line lack one whatever follows
pub lacks_on : (bytes rest : List ℕ) → LacksLine bytes → LacksLine (bytes ++ rest)
lacks_on bytes rest (inl never) = inl (λ more l after reads.
    never (rest ++ more) l after (subst (λ (t : List ℕ). ReadsChunkLine t l after) (append_assoc bytes rest more) reads))
lacks_on bytes rest (inr late) = inr (
  omega (arith, length-append bytes rest, late.0),
  subst (λ (t : List ℕ). HasNoChunkLine t) (sym (take-append-le 256 bytes rest late.0)) late.1,
)

-- the line in front of what is kept was taken
pub line_taken : (a b : Option (List ℕ)) (f g : Bool) (old kept bytes new : List ℕ) (len n : ℕ)
    → Took (over a b f g) old kept [] → bytes ≡ kept → (len ≤ length bytes) × IsLine (take len bytes) n → new ≡ drop len kept
    → (line : List ℕ) × IsLine line n × Took (over a b f g) old new line
line_taken a b f g old kept bytes new len n took same found skipped =
    let split : kept ≡ take len kept ++ new =
    sym (take-append-drop len kept) ∙ ap (λ (l : List ℕ). take len kept ++ l) (sym skipped) in (
      take len kept,
      subst (λ (l : List ℕ). IsLine (take len l) n) same found.1,
      took_kept a b f g old kept new [] (take len kept) took split,
    )
