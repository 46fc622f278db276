use Rattle.std.proofs.Common.{◌≡◌, ◌+◌, ◌*◌, ◌/◌, ◌<◌, ◌≤◌, ◌∷◌, List, ℕ, length}
use Rattle.sha2.specs.Sha256.{hash_after, initial_hash_256, padded_message, sha256}
use Rattle.tl_lanes.specs.Lanes.{lane}
use Rattle.tl_lanes.proofs.messages.four_digests.Given as goal

-- lane j of the state has taken in t blocks of the message, if it has as many
abbrev pub HasTaken : List (List ℕ) → ℕ → List ℕ → ℕ → ℕ → Type 0
HasTaken state j m last t = t ≤ last + 1 → lane j state ≡ hash_after initial_hash_256 (padded_message m) t

-- the digest is there once its last block was taken in
abbrev pub IsKept : List ℕ → List ℕ → ℕ → ℕ → Type 0
IsKept digest m last t = last < t → digest ≡ sha256 m

abbrev pub invariant-blocks-2 : goal.invariant-blocks-2
invariant-blocks-2 l =
    HasTaken l.state 0 (l.fn.tag ∷ l.fn.a) ((length l.fn.a + 9) / 64) l.t × HasTaken l.state 1 (l.fn.tag ∷ l.fn.b) ((length l.fn.b + 9) / 64) l.t
    × HasTaken l.state 2 (l.fn.tag ∷ l.fn.c) ((length l.fn.c + 9) / 64) l.t × HasTaken l.state 3 (l.fn.tag ∷ l.fn.d) ((length l.fn.d + 9) / 64) l.t
    × IsKept l.digest_a (l.fn.tag ∷ l.fn.a) ((length l.fn.a + 9) / 64) l.t × IsKept l.digest_b (l.fn.tag ∷ l.fn.b) ((length l.fn.b + 9) / 64) l.t
    × IsKept l.digest_c (l.fn.tag ∷ l.fn.c) ((length l.fn.c + 9) / 64) l.t × IsKept l.digest_d (l.fn.tag ∷ l.fn.d) ((length l.fn.d + 9) / 64) l.t
