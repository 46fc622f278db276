-- The blocks of a message taken in one after the other, and the digest written word by word.
use Rattle.std.proofs.Common.{◌≡◌, ℕ, suc, ◌+◌, ◌*◌, ◌/◌, ◌≤◌, List, ◌++◌, length, take, drop, slice_index, sym, ap, ◌∙◌, arith}
use Rattle.std.proofs.lemmas.Slice.{take-put_mid}
use Rattle.std.specs.Int.{to_be_bytes, w32}
use Rattle.sha2.specs.Sha256.{compress, digest_bytes, hash_after, initial_hash_256, padded_message, sha256}
use Rattle.tl_lanes.proofs.Padding.{length-padded}
use borrow.Rule.Slice.PartMut.{put_mid}

-- block t taken in after the blocks before it
pub block_more : (i p old block new : List ℕ) (t : ℕ) → new ≡ compress old block → old ≡ hash_after i p t → block ≡ take 64 (drop (t * 64) p)
    → new ≡ hash_after i p (t + 1)
unfolding hash_after
block_more i p old block new t taken before part =
    let count : t + 1 ≡ suc t = omega arith in
    rw count (taken ∙ ap (λ (h : List ℕ). compress h block) before ∙ ap (compress (hash_after i p t)) part)

-- word i of the digest written after the words before it
pub word_more : (out h bytes : List ℕ) (i k : ℕ) → take (4 * i) out ≡ digest_bytes h i → 4 * i ≤ length out → bytes ≡ to_be_bytes w32 (slice_index h i)
    → take (4 * (i + 1)) (put_mid (4 * i) k out bytes) ≡ digest_bytes h (i + 1)
unfolding digest_bytes
word_more out h bytes i k before room is =
    let count : i + 1 ≡ suc i = omega arith in
    let four : length bytes ≡ 4 = ap length is in
    take-put_mid (4 * i) k out bytes (4 * (i + 1)) (omega arith) room
    ∙ rw count (ap (λ (l : List ℕ). l ++ bytes) before ∙ ap (λ (l : List ℕ). digest_bytes h i ++ l) is)

-- a message of n bytes takes (n + 8) / 64 + 1 blocks with its padding
pub count_blocks : (m : List ℕ) → length (padded_message m) / 64 ≡ (length m + 8) / 64 + 1
count_blocks m = omega (arith, length-padded m)

-- the hash value after all of them is the digest
pub all_blocks : (h m : List ℕ) (t : ℕ) → h ≡ hash_after initial_hash_256 (padded_message m) t → t ≡ (length m + 8) / 64 + 1
    → digest_bytes h 8 ≡ sha256 m
unfolding sha256
all_blocks h m t held count =
    ap (λ (x : List ℕ). digest_bytes x 8)
    (held ∙ ap (hash_after initial_hash_256 (padded_message m)) (count ∙ sym (count_blocks m)))
