-- A chunked body has one result for an input, unless an allocation fails.
use Rattle.std.proofs.Common.{◌≡◌, ◌+◌, ◌-◌, ◌<◌, ◌≤◌, ℕ, List, [], ◌∷◌, ◌++◌, Result, Ok, Err, All, append-nil, append_assoc, ap, arith, codes, drop, inl, inr, length, length-append, refl, subst, sym, take, ◌⊎◌, ◌∙◌}
use Rattle.std.proofs.lemmas.List.{drop_at, take_at}
use Rattle.std.proofs.lemmas.List.Elements.{All-head, All-tail}
use Rattle.std.proofs.Math.Seq.{take-append-add}
use Rattle.httparse.specs.Grammar.{ReadsChunkLine, chunk_size, print_chunk_line}
use Rattle.httparse.proofs.ChunkLemmas.{chunk_line_unique}
use Rattle.tl_http.specs.Chunks.{Chunk, IsChunk, IsCutData, IsCutLine, IsLine, LacksEnd, LacksLine, chunk_text, chunks_content, chunks_text}
use Rattle.tl_http.specs.Response.{ChunkDecides, ChunksDecide, DataDecides, LineDecides, Outcome, SizeDecides}
use Rattle.tl_http.specs.declared.fault.HttpFault.{HttpFault}
use Rattle.tl_http.specs.declared.fault.HttpFault.TheVariants.{OutOfMemory}

-- a text begins with at most one chunk's line
line_reads : (text rest : List ℕ) (n : ℕ) (is : IsLine text n) → ReadsChunkLine (text ++ rest) is.line rest
line_reads text rest n is = (is.valid, ap (λ (l : List ℕ). l ++ rest) (sym is.printed))

line_unique : (text other rest after : List ℕ) (n m : ℕ) → IsLine text n → IsLine other m → text ++ rest ≡ other ++ after
    → (n ≡ m) × (rest ≡ after)
line_unique text other rest after n m a b same =
    let reads : ReadsChunkLine (text ++ rest) b.line after =
    subst (λ (l : List ℕ). ReadsChunkLine l b.line after) (sym same) (line_reads other after m b) in
    let one = chunk_line_unique (text ++ rest) a.line b.line rest after (line_reads text rest n a) reads in
    (sym a.written ∙ (ap chunk_size one.0 ∙ b.written), one.1)

-- a text that begins with a line isn't cut
no_cut_line : (text rest : List ℕ) (n : ℕ) → IsLine text n → ¬ (IsCutLine (text ++ rest))
no_cut_line text rest n is cut =
    let more : List ℕ = cut.cut.0 in
    let reads : ReadsChunkLine (text ++ (rest ++ more)) cut.line [] =
    (cut.valid, sym (append_assoc text rest more) ∙ (cut.cut.2 ∙ sym (append-nil (print_chunk_line cut.line)))) in
    let one = chunk_line_unique (text ++ (rest ++ more)) is.line cut.line (rest ++ more) [] (line_reads text (rest ++ more) n is) reads in
    let some = cut.cut.1 in
    omega (arith, ap (λ (l : List ℕ). length l) one.1, length-append rest more, some)

-- a text that begins with a line doesn't lack one
no_lacks_line : (text rest : List ℕ) (n : ℕ) → IsLine text n → ¬ (LacksLine (text ++ rest))
no_lacks_line text rest n is (inl never) =
    never [] is.line rest (subst (λ (l : List ℕ). ReadsChunkLine l is.line rest) (sym (append-nil (text ++ rest))) (line_reads text rest n is))
no_lacks_line text rest n is (inr late) =
    let short = is.short in
    let parts : 256 ≡ length text + (256 - length text) = omega (arith, short) in
    let front : take 256 (text ++ rest) ≡ text ++ take (256 - length text) rest =
    ap (λ (k : ℕ). take k (text ++ rest)) parts ∙ take-append-add text rest (256 - length text) in
    late.1 is.line (take (256 - length text) rest)
    (subst (λ (l : List ℕ). ReadsChunkLine l is.line (take (256 - length text) rest)) (sym front) (line_reads text (take (256 - length text) rest) n is))

-- a text that is cut doesn't lack a line
no_cut_lacking : (text : List ℕ) → IsCutLine text → ¬ (LacksLine text)
no_cut_lacking text cut (inl never) =
    never cut.cut.0 cut.line [] (cut.valid, cut.cut.2 ∙ sym (append-nil (print_chunk_line cut.line)))
no_cut_lacking text cut (inr late) =
    let short = cut.short in
    omega (arith, short, late.0)

-- a chunk's data that are cut don't lack their end
no_cut_ending : (n : ℕ) (text : List ℕ) → IsCutData n text → ¬ (LacksEnd n text)
no_cut_ending n text cut lacks =
    let more : List ℕ = cut.cut.0 in
    let whole : lacks.content ++ (lacks.rest ++ more) ≡ cut.content ++ codes "\r\n" =
    sym (append_assoc lacks.content lacks.rest more) ∙ (ap (λ (l : List ℕ). l ++ more) (sym lacks.joined) ∙ cut.cut.2) in
    let end : lacks.rest ++ more ≡ codes "\r\n" =
    sym (drop_at lacks.content (lacks.rest ++ more) n lacks.long)
    ∙ (ap (λ (l : List ℕ). drop n l) whole ∙ drop_at cut.content (codes "\r\n") n cut.long) in
    lacks.never more [] (end ∙ sym (append-nil (codes "\r\n")))

-- two results are equal, or one is that an allocation failed
abbrev pub IsOne : {R : Type 0} → Result R HttpFault → Result R HttpFault → Type 0
IsOne r q = (r ≡ q) ⊎ ((r ≡ Err OutOfMemory) ⊎ (q ≡ Err OutOfMemory))

-- one result for equal data
one_of_data : (n : ℕ) (rest : List ℕ) (r q : Outcome) → DataDecides n rest r → DataDecides n rest q → IsOne r q
one_of_data n rest r q (inl memory) other = inr (inl memory.0)
one_of_data n rest r q (inr first) (inl memory) = inr (inr memory.0)
one_of_data n rest r q (inr (inl cut)) (inr (inl then)) = inl (cut.0 ∙ sym then.0)
one_of_data n rest r q (inr (inl cut)) (inr (inr lacks)) = absurd (no_cut_ending n rest cut.1 lacks.1)
one_of_data n rest r q (inr (inr lacks)) (inr (inl cut)) = absurd (no_cut_ending n rest cut.1 lacks.1)
one_of_data n rest r q (inr (inr lacks)) (inr (inr then)) = inl (lacks.0 ∙ sym then.0)

-- one result for equal lines
one_of_size : (limit : ℕ) (content : List ℕ) (n : ℕ) (rest : List ℕ) (r q : Outcome) → length content ≤ limit
    → SizeDecides limit content n rest r → SizeDecides limit content n rest q → IsOne r q
one_of_size limit content n rest r q fits (inl last) (inl then) = inl (last.0 ∙ sym then.0)
one_of_size limit content n rest r q fits (inl last) (inr (inl large)) = absurd (omega (arith, last.1, large.1, fits))
one_of_size limit content n rest r q fits (inl last) (inr (inr some)) = absurd (omega (arith, last.1, some.0))
one_of_size limit content n rest r q fits (inr (inl large)) (inl last) = absurd (omega (arith, last.1, large.1, fits))
one_of_size limit content n rest r q fits (inr (inl large)) (inr (inl then)) = inl (large.0 ∙ sym then.0)
one_of_size limit content n rest r q fits (inr (inl large)) (inr (inr some)) = absurd (omega (arith, large.1, some.1))
one_of_size limit content n rest r q fits (inr (inr some)) (inl last) = absurd (omega (arith, last.1, some.0))
one_of_size limit content n rest r q fits (inr (inr some)) (inr (inl large)) = absurd (omega (arith, large.1, some.1))
one_of_size limit content n rest r q fits (inr (inr some)) (inr (inr then)) = one_of_data n rest r q some.2 then.2

-- a line that was found
abbrev pub Found : ℕ → List ℕ → List ℕ → Outcome → Type 0
Found limit content rest r =
    (line : List ℕ) × (after : List ℕ) × (n : ℕ) × (rest ≡ line ++ after) × IsLine line n × SizeDecides limit content n after r

-- a line that was found is not missing
not_missing : (limit : ℕ) (content rest : List ℕ) (r q : Outcome) → Found limit content rest r → ¬ (LineDecides rest q)
not_missing limit content rest r q found (inl cut) =
    no_cut_line found.0 found.1 found.2 found.4 (subst (λ (l : List ℕ). IsCutLine l) found.3 cut.1)
not_missing limit content rest r q found (inr lacks) =
    no_lacks_line found.0 found.1 found.2 found.4 (subst (λ (l : List ℕ). LacksLine l) found.3 lacks.1)

-- two lines that were found
one_of_found : (limit : ℕ) (content rest : List ℕ) (r q : Outcome) → length content ≤ limit → Found limit content rest r → Found limit content rest q → IsOne r q
one_of_found limit content rest r q fits found then =
    let one = line_unique found.0 then.0 found.1 then.1 found.2 then.2 found.4 then.4 (sym found.3 ∙ then.3) in
    let decides : SizeDecides limit content then.2 then.1 r =
    subst (λ (l : List ℕ). SizeDecides limit content then.2 l r) one.1 (subst (λ (n : ℕ). SizeDecides limit content n found.1 r) one.0 found.5) in
    one_of_size limit content then.2 then.1 r q fits decides then.5

-- one result after equal chunks
one_after : (limit : ℕ) (content rest : List ℕ) (r q : Outcome) → length content ≤ limit → ChunkDecides limit content rest r → ChunkDecides limit content rest q → IsOne r q
one_after limit content rest r q fits (inl (inl cut)) (inl (inl then)) = inl (cut.0 ∙ sym then.0)
one_after limit content rest r q fits (inl (inl cut)) (inl (inr lacks)) = absurd (no_cut_lacking rest cut.1 lacks.1)
one_after limit content rest r q fits (inl (inr lacks)) (inl (inl cut)) = absurd (no_cut_lacking rest cut.1 lacks.1)
one_after limit content rest r q fits (inl (inr lacks)) (inl (inr then)) = inl (lacks.0 ∙ sym then.0)
one_after limit content rest r q fits (inl missing) (inr found) = absurd (not_missing limit content rest q r found missing)
one_after limit content rest r q fits (inr found) (inl missing) = absurd (not_missing limit content rest r q found missing)
one_after limit content rest r q fits (inr found) (inr then) = one_of_found limit content rest r q fits found then

-- a chunk's data with their end aren't cut
no_cut_data : (content rest : List ℕ) (n : ℕ) → length content ≡ n → ¬ (IsCutData n ((content ++ codes "\r\n") ++ rest))
no_cut_data content rest n long cut =
    let more : List ℕ = cut.cut.0 in
    let some = cut.cut.1 in
    let same = ap (λ (l : List ℕ). length l) cut.cut.2 in
    let other = cut.long in
    omega (
      arith,
      same,
      some,
      other,
      long,
      length-append ((content ++ codes "\r\n") ++ rest) more,
      length-append (content ++ codes "\r\n") rest,
      length-append content (codes "\r\n"),
      length-append cut.content (codes "\r\n"),
    )

-- a chunk's data with their end don't lack it
no_lacks_end : (content rest : List ℕ) (n : ℕ) → length content ≡ n → ¬ (LacksEnd n ((content ++ codes "\r\n") ++ rest))
no_lacks_end content rest n long lacks =
    let tail : codes "\r\n" ++ rest ≡ lacks.rest =
    sym (drop_at content (codes "\r\n" ++ rest) n long)
    ∙ (ap (λ (l : List ℕ). drop n l) (sym (append_assoc content (codes "\r\n") rest) ∙ lacks.joined) ∙ drop_at lacks.content lacks.rest n lacks.long) in
    lacks.never [] rest (append-nil lacks.rest ∙ sym tail)

-- after chunks, in front of one more
at_chunk : (limit : ℕ) (content line some more : List ℕ) (r : Outcome) → IsLine line (length some) → 0 < length some → length content + length some ≤ limit
    → ChunkDecides limit content (line ++ ((some ++ codes "\r\n") ++ more)) r → r ≡ Err OutOfMemory
at_chunk limit content line some more r is wanted fits (inl (inl cut)) = absurd (no_cut_line line ((some ++ codes "\r\n") ++ more) (length some) is cut.1)
at_chunk limit content line some more r is wanted fits (inl (inr lacks)) = absurd (no_lacks_line line ((some ++ codes "\r\n") ++ more) (length some) is lacks.1)
at_chunk limit content line some more r is wanted fits (inr found) =
    let one = line_unique line found.0 ((some ++ codes "\r\n") ++ more) found.1 (length some) found.2 is found.4 found.3 in
    elim found.5 [
      | inl last ↦ absurd (omega (arith, last.1, one.0, wanted))
      | inr (inl large) ↦ absurd (omega (arith, large.1, one.0, fits))
      | inr (inr (_, _, inl memory)) ↦ memory.0
      | inr (inr (_, _, inr (inl cut))) ↦
          absurd (no_cut_data some more found.2 one.0 (subst (λ (l : List ℕ). IsCutData found.2 l) (sym one.1) cut.1))
      | inr (inr (_, _, inr (inr lacks))) ↦
          absurd (no_lacks_end some more found.2 one.0 (subst (λ (l : List ℕ). LacksEnd found.2 l) (sym one.1) lacks.1))
    ]

-- a chunk in front of more
regroup : (c : Chunk) (xs : List ℕ) → chunk_text c ++ xs ≡ c.line ++ ((c.content ++ codes "\r\n") ++ xs)
regroup c xs = ap (λ (l : List ℕ). l ++ xs) (append_assoc c.line c.content (codes "\r\n")) ∙ append_assoc c.line (c.content ++ codes "\r\n") xs

-- a text begins with one chunk
chunk_unique : (c d : Chunk) (xs ys : List ℕ) → IsChunk c → IsChunk d → chunk_text c ++ xs ≡ chunk_text d ++ ys → (c.content ≡ d.content) × (xs ≡ ys)
chunk_unique c d xs ys a b same =
    let crlf : List ℕ = codes "\r\n" in
    let lines = sym (regroup c xs) ∙ (same ∙ regroup d ys) in
    let one = line_unique c.line d.line ((c.content ++ crlf) ++ xs) ((d.content ++ crlf) ++ ys) (length c.content) (length d.content) a.lined b.lined lines in
    let rests : c.content ++ (crlf ++ xs) ≡ d.content ++ (crlf ++ ys) = sym (append_assoc c.content crlf xs) ∙ (one.1 ∙ append_assoc d.content crlf ys) in
    let contents : c.content ≡ d.content =
    sym (take_at c.content (crlf ++ xs) (length c.content) refl)
    ∙ (ap (λ (l : List ℕ). take (length c.content) l) rests ∙ take_at d.content (crlf ++ ys) (length c.content) (sym one.0)) in
    let ends : crlf ++ xs ≡ crlf ++ ys =
    sym (drop_at c.content (crlf ++ xs) (length c.content) refl)
    ∙ (ap (λ (l : List ℕ). drop (length c.content) l) rests ∙ drop_at d.content (crlf ++ ys) (length c.content) (sym one.0)) in
    (contents, sym (drop_at crlf xs 2 refl) ∙ (ap (λ (l : List ℕ). drop 2 l) ends ∙ drop_at crlf ys 2 refl))

-- chunks that are taken apart in two ways
one_of_chunks : (cs ds : List Chunk) (limit : ℕ) (past rest after : List ℕ) (r q : Outcome) → All IsChunk cs → All IsChunk ds
    → length past + length (chunks_content cs) ≤ limit → length past + length (chunks_content ds) ≤ limit
    → chunks_text cs ++ rest ≡ chunks_text ds ++ after
    → ChunkDecides limit (past ++ chunks_content cs) rest r → ChunkDecides limit (past ++ chunks_content ds) after q → IsOne r q
one_of_chunks [] [] limit past rest after r q first then fits room same a b =
    one_after limit (past ++ []) rest r q (omega (arith, length-append past [], fits)) a
    (subst (λ (l : List ℕ). ChunkDecides limit (past ++ []) l q) (sym same) b)
one_of_chunks [] (d ∷ ds) limit past rest after r q first then fits room same a b =
    let is : IsChunk d = All-head IsChunk d ds then in
    let more : List ℕ = chunks_text ds ++ after in
    let lines : rest ≡ d.line ++ ((d.content ++ codes "\r\n") ++ more) =
    same ∙ (append_assoc (chunk_text d) (chunks_text ds) after ∙ regroup d more) in
    inr (inl (at_chunk limit (past ++ []) d.line d.content more r is.lined is.some
    (omega (arith, length-append past [], length-append d.content (chunks_content ds), room))
    (subst (λ (l : List ℕ). ChunkDecides limit (past ++ []) l r) lines a)))
one_of_chunks (c ∷ cs) [] limit past rest after r q first then fits room same a b =
    let is : IsChunk c = All-head IsChunk c cs first in
    let more : List ℕ = chunks_text cs ++ rest in
    let lines : c.line ++ ((c.content ++ codes "\r\n") ++ more) ≡ after =
    sym (append_assoc (chunk_text c) (chunks_text cs) rest ∙ regroup c more) ∙ same in
    inr (inr (at_chunk limit (past ++ []) c.line c.content more q is.lined is.some
    (omega (arith, length-append past [], length-append c.content (chunks_content cs), fits))
    (subst (λ (l : List ℕ). ChunkDecides limit (past ++ []) l q) (sym lines) b)))
one_of_chunks (c ∷ cs) (d ∷ ds) limit past rest after r q first then fits room same a b =
    let one = chunk_unique c d (chunks_text cs ++ rest) (chunks_text ds ++ after) (All-head IsChunk c cs first) (All-head IsChunk d ds then)
    (sym (append_assoc (chunk_text c) (chunks_text cs) rest) ∙ (same ∙ append_assoc (chunk_text d) (chunks_text ds) after)) in
    let mine : past ++ (c.content ++ chunks_content cs) ≡ (past ++ c.content) ++ chunks_content cs =
    sym (append_assoc past c.content (chunks_content cs)) in
    let other : past ++ (d.content ++ chunks_content ds) ≡ (past ++ c.content) ++ chunks_content ds =
    ap (λ (l : List ℕ). past ++ (l ++ chunks_content ds)) (sym one.0) ∙ sym (append_assoc past c.content (chunks_content ds)) in
    let long : length c.content ≡ length d.content = ap (λ (l : List ℕ). length l) one.0 in
    one_of_chunks cs ds limit (past ++ c.content) rest after r q (All-tail IsChunk c cs first) (All-tail IsChunk d ds then)
    (omega (arith, length-append past c.content, length-append c.content (chunks_content cs), fits))
    (omega (arith, length-append past c.content, length-append d.content (chunks_content ds), long, room))
    one.1
    (subst (λ (l : List ℕ). ChunkDecides limit l rest r) mine a)
    (subst (λ (l : List ℕ). ChunkDecides limit l after q) other b)

-- an input has one result, unless an allocation fails
pub one_outcome : (limit : ℕ) (input : List ℕ) (r q : Outcome) → ChunksDecide limit input r → ChunksDecide limit input q → IsOne r q
one_outcome limit input r q a b =
    let first = a.2 in
    let then = b.2 in
    one_of_chunks a.0 b.0 limit [] a.1 b.1 r q first.chunked then.chunked (omega (arith, first.fits)) (omega (arith, then.fits))
    (sym first.joined ∙ then.joined) a.3 b.3

-- a chunked body within the limit gives its data, whatever follows it, unless an allocation fails
pub chunked_body : (limit : ℕ) (chunks : List Chunk) (last after : List ℕ) (r : Outcome) → All IsChunk chunks → IsLine last 0 → length (chunks_content chunks) ≤ limit
    → ChunksDecide limit (chunks_text chunks ++ (last ++ after)) r → (r ≡ Ok (chunks_content chunks)) ⊎ (r ≡ Err OutOfMemory)
chunked_body limit chunks last after r chunked is fits decides =
    let whole : ChunksDecide limit (chunks_text chunks ++ (last ++ after)) (Ok (chunks_content chunks)) = (
      chunks,
      last ++ after,
      record { joined = refl; chunked = chunked; fits = fits },
      inr (last, after, 0, refl, is, inl (refl, refl)),
    ) in
    elim (one_outcome limit (chunks_text chunks ++ (last ++ after)) r (Ok (chunks_content chunks)) decides whole) [
      | inl same ↦ inl same
      | inr (inl refused) ↦ inr refused
      | inr (inr none) ↦ absurd cc
    ]
