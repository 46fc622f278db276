-- The tree hash from the hashes of the complete subtrees that cover the entries (RFC 6962, section 2.1).
use Rattle.std.specs.Prelude.{◌≡◌, ℕ, ◌+◌, ◌*◌, ◌^◌, ◌<◌, ◌≤◌, List, [], ◌∷◌, ◌++◌}
use Rattle.tl_store.specs.Stored.{stored_index}
use Rattle.tl_store.specs.Reader.{readable_size}
use Rattle.tl_store.specs.declared.reader.ReadFault.{ReadFault}
use Rattle.tl_store.specs.declared.reader.ReadFault.TheVariants.{OutOfRange, Source, OutOfMemory, BadTile}

-- when the tree hash of the first `size` entries, over a reader of `count` entries, fails with this fault; `may_fail`
-- says which faults the reader's source may give. For size 0 nothing is read, and there is no fault
abbrev pub GivesHeadFault : ℕ → (ReadFault → Type 0) → ℕ → ReadFault → Type 0
GivesHeadFault count may_fail size OutOfRange = readable_size count < size
GivesHeadFault count may_fail size Source = may_fail Source × (size ≤ readable_size count) × (0 < size)
GivesHeadFault count may_fail size OutOfMemory = (0 < size) × (size ≤ 2 ^ 62)
GivesHeadFault count may_fail size (BadTile level index width) =
    may_fail (BadTile level index width) × (size ≤ readable_size count) × (0 < size)

-- `start` is a multiple of a power of two that is at least the number of entries from `start` up to `end`: so these
-- lie in one complete subtree, and begin with its first entry
abbrev pub IsAligned : ℕ → ℕ → Type 0
IsAligned start end = (level : ℕ) × (place : ℕ) × (start ≡ place * 2 ^ level) × (end ≤ start + 2 ^ level)

-- these are the numbers of complete subtrees, from left to right, over the entries from `start` up to `size`, each as
-- large as possible
pub data AreCovering : ℕ → ℕ → List ℕ → Type 0 where
  none : (start size : ℕ) → start ≡ size → AreCovering start size []
  more : (start size level place : ℕ) (rest : List ℕ)
      → start ≡ place * 2 ^ level → start + 2 ^ level ≤ size → size < start + 2 * 2 ^ level
      → AreCovering (start + 2 ^ level) size rest
      → AreCovering start size (stored_index level place ∷ rest)

-- the new numbers are the old ones, and then those of subtrees that cover the entries from `start` up to `end`
abbrev pub AddsCovering : ℕ → ℕ → List ℕ → List ℕ → Type 0
AddsCovering start end old new = (added : List ℕ) × (new ≡ old ++ added) × AreCovering start end added
