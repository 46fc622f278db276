-- Reading one byte, and reading the data of a chunk.
use Rattle.std.proofs.Common.{◌≡◌, ◌≢◌, ◌+◌, ◌-◌, ◌<◌, ℕ, List, [], ◌∷◌, ◌++◌, Option, Err, Bool, true, append-nil, append_assoc, ap, arith, codes, drop, get_or, inl, inr, length, length-append, min, refl, replicate, subst, sym, take, ◌∙◌}
use Rattle.std.proofs.lemmas.List.{drop_more, length-replicate, length-take-le, take-append-drop}
use Rattle.tl_device.specs.Reading.{Gave}
use Rattle.tl_http.specs.Get.{Receives}
use Rattle.tl_http.specs.Response.{DataDecides, Outcome}
use Rattle.tl_http.specs.Inner.ChunkReads.{ByteDecides, CameData}
use Rattle.tl_http.specs.Inner.Taking.{Took}
use Rattle.tl_http.specs.declared.fault.HttpFault.TheVariants.{BadChunk, OutOfMemory, Short}
use Rattle.tl_device.proofs.SendingLemmas.{over}
use Rattle.tl_http.proofs.TakingLemmas.{decided, decided_after, decided_at_end, took_kept, took_none, took_then}

-- ---- one byte

-- the bytes that are kept, from their first on
first_kept : (kept : List ℕ) → 0 < length kept → kept ≡ get_or kept 0 0 ∷ drop 1 kept
first_kept kept some = drop_more kept 0 0 some

-- another byte came
pub other_byte : (a b : Option (List ℕ)) (f g : Bool) (wanted : ℕ) (old kept : List ℕ) → Took (over a b f g) old kept [] → 0 < length kept → get_or kept 0 0 ≢ wanted
    → Receives (λ rest r. ByteDecides wanted (old ++ rest) r) (over a b f g) (Err BadChunk)
other_byte a b f g wanted old kept took some other =
    decided (ByteDecides wanted) (Err BadChunk) a b f g old kept [] took
    (λ rest. inr (refl, (get_or kept 0 0, drop 1 kept ++ rest, ap (λ (l : List ℕ). l ++ rest) (first_kept kept some), other)))

-- the byte came
pub this_byte : (a b : Option (List ℕ)) (f g : Bool) (wanted : ℕ) (old kept new : List ℕ) → Took (over a b f g) old kept [] → 0 < length kept → get_or kept 0 0 ≡ wanted → new ≡ drop 1 kept
    → Took (over a b f g) old new (wanted ∷ [])
this_byte a b f g wanted old kept new took some same left =
    took_kept a b f g old kept new [] (wanted ∷ []) took
    (first_kept kept some ∙ (ap (λ (x : ℕ). x ∷ drop 1 kept) same ∙ ap (λ (l : List ℕ). wanted ∷ l) (sym left)))

-- the input ended
pub no_byte : (a b : Option (List ℕ)) (f g : Bool) (wanted : ℕ) (old : List ℕ) → Gave (over a b f g) [] true × (old ≡ [])
    → Receives (λ rest r. ByteDecides wanted (old ++ rest) r) (over a b f g) (Err Short)
no_byte a b f g wanted old ended =
    decided_at_end (ByteDecides wanted) (Err Short) a a b f f g old old [] (took_none a f old) ended.0 (inl (refl, ended.1))

-- ---- data

-- none yet
pub data_none : (a : Option (List ℕ)) (f : Bool) (kept body : List ℕ) (n : ℕ) → CameData (over a a f f) kept kept body body n n
data_none a f kept body n = record { content = []; took = took_none a f kept; put = sym (append-nil body); sum = omega arith }

-- some more
pub data_more : (a b c : Option (List ℕ)) (f g h : Bool) (old mid kept bytes new body grown more : List ℕ) (n left k : ℕ)
    → CameData (over a b f g) old mid body grown n left → Took (over b c g h) mid kept [] → bytes ≡ kept → k ≡ min left (length bytes)
    → new ≡ drop k kept → more ≡ grown ++ take k bytes → CameData (over a c f h) old new body more n (left - k)
data_more a b c f g h old mid kept bytes new body grown more n left k came took is least rest put =
    let some : List ℕ = take k kept in
    let same = ap (λ (l : List ℕ). length l) is in
    let long : length some ≡ k = length-take-le k kept (omega (arith, least, same)) in
    let first : Took (over a c f h) old kept (came.content ++ []) = took_then a b c f g h old mid kept came.content [] came.took took in
    let kept_is : kept ≡ some ++ new = sym (take-append-drop k kept) ∙ ap (λ (l : List ℕ). some ++ l) (sym rest) in
    let then : Took (over a c f h) old new ((came.content ++ []) ++ some) = took_kept a c f h old kept new (came.content ++ []) some first kept_is in
    let put_is : more ≡ grown ++ some = put ∙ ap (λ (l : List ℕ). grown ++ take k l) is in
    let sum = came.sum in
    record {
      content = came.content ++ some;
      took = subst (λ (l : List ℕ). Took (over a c f h) old new (l ++ some)) (append-nil came.content) then;
      put = put_is ∙ (ap (λ (l : List ℕ). l ++ some) came.put ∙ append_assoc body came.content some);
      sum = omega (arith, length-append came.content some, long, sum, least);
    }

-- all
pub data_whole : (a b : Option (List ℕ)) (f g : Bool) (old kept body grown : List ℕ) (n left : ℕ) → CameData (over a b f g) old kept body grown n left → left ≡ 0
    → (content : List ℕ) × (length content ≡ n) × Took (over a b f g) old kept content × (grown ≡ body ++ content)
data_whole a b f g old kept body grown n left came none =
    let sum = came.sum in
    (came.content, omega (arith, sum, none), came.took, came.put)

-- the input ended inside the data
cut_in_data : (n left : ℕ) (content : List ℕ) → length content + left ≡ n → 0 < left → DataDecides n (content ++ []) (Err Short)
cut_in_data n left content sum some =
    let missing : List ℕ = replicate left 0 in
    let filled : length missing ≡ left = length-replicate left 0 in
    inr (inl (
      refl,
      record {
        content = content ++ missing;
        long = omega (arith, length-append content missing, filled, sum);
        cut = (
          missing ++ codes "\r\n",
          omega (arith, length-append missing (codes "\r\n"), filled, some),
          ap (λ (l : List ℕ). l ++ (missing ++ codes "\r\n")) (append-nil content) ∙ sym (append_assoc content missing (codes "\r\n")),
        );
      },
    ))

-- the input ended inside the data, as it was read
pub data_short : (a b c : Option (List ℕ)) (f g h : Bool) (old mid body grown : List ℕ) (n left : ℕ) → CameData (over a b f g) old mid body grown n left
    → Gave (over b c g h) [] true × (mid ≡ []) → 0 < left → Receives (λ rest r. DataDecides n (old ++ rest) r) (over a c f h) (Err Short)
data_short a b c f g h old mid body grown n left came ended some =
    decided_at_end (DataDecides n) (Err Short) a b c f g h old mid came.content came.took ended.0
    (subst (λ (l : List ℕ). DataDecides n (came.content ++ l) (Err Short)) (sym ended.1) (cut_in_data n left came.content came.sum some))

-- an allocation for data failed
pub data_unkept : (a b c : Option (List ℕ)) (f g h : Bool) (old mid kept body grown : List ℕ) (n left : ℕ) → CameData (over a b f g) old mid body grown n left
    → Took (over b c g h) mid kept [] → 0 < length kept → 0 < left → Receives (λ rest r. DataDecides n (old ++ rest) r) (over a c f h) (Err OutOfMemory)
data_unkept a b c f g h old mid kept body grown n left came took some wanted =
    let sum = came.sum in
    let text : List ℕ = came.content ++ [] in
    decided (DataDecides n) (Err OutOfMemory) a c f h old kept text (took_then a b c f g h old mid kept came.content [] came.took took)
    (λ rest. inl (refl, omega (arith, sum, wanted), omega (arith, length-append text (kept ++ rest), length-append kept rest, some)))

-- ---- the end of a chunk

-- equal lists have equal first bytes
same_first : (x y : ℕ) (xs ys : List ℕ) → x ∷ xs ≡ y ∷ ys → x ≡ y
same_first x y xs ys same = cc

-- equal lists have equal bytes after the first
same_rest : (x y : ℕ) (xs ys : List ℕ) → x ∷ xs ≡ y ∷ ys → xs ≡ ys
same_rest x y xs ys same = cc

-- the first byte of the end isn't there
no_return : (n : ℕ) (content rest : List ℕ) (r : Outcome) → length content ≡ n → ByteDecides 13 rest r → DataDecides n (content ++ rest) r
no_return n content rest r long (inl short) =
    let same : content ++ rest ≡ content = ap (λ (l : List ℕ). content ++ l) short.1 ∙ append-nil content in
    inr (inl (short.0, record { content = content; long = long; cut = (codes "\r\n", omega arith, ap (λ (l : List ℕ). l ++ codes "\r\n") same) }))
no_return n content rest r long (inr other) =
    let never : (more after : List ℕ) → rest ++ more ≢ codes "\r\n" ++ after = λ more after same.
    other.1.3 (same_first other.1.0 13 (other.1.1 ++ more) (10 ∷ after) (ap (λ (l : List ℕ). l ++ more) (sym other.1.2) ∙ same)) in
    inr (inr (other.0, record { content = content; long = long; rest = rest; joined = refl; never = never }))

-- the second byte of the end isn't there
no_feed : (n : ℕ) (content rest : List ℕ) (r : Outcome) → length content ≡ n → ByteDecides 10 rest r → DataDecides n ((content ++ 13 ∷ []) ++ rest) r
no_feed n content rest r long (inl short) =
    let same : (content ++ 13 ∷ []) ++ rest ≡ content ++ 13 ∷ [] = ap (λ (l : List ℕ). (content ++ 13 ∷ []) ++ l) short.1 ∙ append-nil (content ++ 13 ∷ []) in
    inr (inl (
      short.0,
      record {
        content = content;
        long = long;
        cut = (10 ∷ [], omega arith, ap (λ (l : List ℕ). l ++ 10 ∷ []) same ∙ append_assoc content (13 ∷ []) (10 ∷ []));
      },
    ))
no_feed n content rest r long (inr other) =
    let never : (more after : List ℕ) → (13 ∷ rest) ++ more ≢ codes "\r\n" ++ after = λ more after same.
    other.1.3 (same_first other.1.0 10 (other.1.1 ++ more) after (ap (λ (l : List ℕ). l ++ more) (sym other.1.2) ∙ same_rest 13 13 (rest ++ more) (10 ∷ after) same)) in
    inr (inr (other.0, record { content = content; long = long; rest = 13 ∷ rest; joined = append_assoc content (13 ∷ []) rest; never = never }))

-- the data came, and not the first byte of their end
pub return_missing : (a b c : Option (List ℕ)) (f g h : Bool) (old mid body grown : List ℕ) (n : ℕ) (r : Outcome)
    → (content : List ℕ) × (length content ≡ n) × Took (over a b f g) old mid content × (grown ≡ body ++ content)
    → Receives (λ rest r. ByteDecides 13 (mid ++ rest) r) (over b c g h) r → Receives (λ rest r. DataDecides n (old ++ rest) r) (over a c f h) r
return_missing a b c f g h old mid body grown n r came failed =
    decided_after (ByteDecides 13) (DataDecides n) r a b c f g h old mid came.0 came.2 (λ rest decides. no_return n came.0 rest r came.1 decides) failed

-- the data and that byte came, and not the second
pub feed_missing : (a b c d : Option (List ℕ)) (f g h k : Bool) (old mid new body grown : List ℕ) (n : ℕ) (r : Outcome)
    → (content : List ℕ) × (length content ≡ n) × Took (over a b f g) old mid content × (grown ≡ body ++ content)
    → Took (over b c g h) mid new (13 ∷ [])
    → Receives (λ rest r. ByteDecides 10 (new ++ rest) r) (over c d h k) r → Receives (λ rest r. DataDecides n (old ++ rest) r) (over a d f k) r
feed_missing a b c d f g h k old mid new body grown n r came first failed =
    decided_after (ByteDecides 10) (DataDecides n) r a c d f h k old new (came.0 ++ 13 ∷ []) (took_then a b c f g h old mid new came.0 (13 ∷ []) came.2 first)
    (λ rest decides. no_feed n came.0 rest r came.1 decides) failed

-- a whole chunk
pub chunk_whole : (a b c d : Option (List ℕ)) (f g h k : Bool) (old mid next new body grown : List ℕ) (n : ℕ)
    → (content : List ℕ) × (length content ≡ n) × Took (over a b f g) old mid content × (grown ≡ body ++ content)
    → Took (over b c g h) mid next (13 ∷ []) → Took (over c d h k) next new (10 ∷ [])
    → (content : List ℕ) × (length content ≡ n) × Took (over a d f k) old new (content ++ codes "\r\n") × (grown ≡ body ++ content)
chunk_whole a b c d f g h k old mid next new body grown n came first second =
    let end : Took (over b d g k) mid new (codes "\r\n") = took_then b c d g h k mid next new (13 ∷ []) (10 ∷ []) first second in
    (came.0, came.1, took_then a b d f g k old mid new came.0 (codes "\r\n") came.2 end, came.3)
