-- The numbers of leaves among the stored hashes, and the stored hashes under them.
use Rattle.std.proofs.Common.{◌≡◌, ℕ, zero, suc, inl, ◌+◌, ◌*◌, ◌^◌, ◌<◌, ◌≤◌, List, [], ◌∷◌, ◌++◌, length, take, drop, slice_index_or, refl, sym, ap, subst, ◌∙◌, arith}
use Rattle.std.proofs.lemmas.List.{append-nil}
use Rattle.std.proofs.lemmas.List.FromFn.{get_or-map-range_with_len, map-range_with_len_more, length-map-range_with_len}
use Rattle.tl_hash.specs.Bytes.{Digest}
use Rattle.tl_hash.specs.Tree.{leaf_input, tree_hash}
use Rattle.tl_hash.proofs.TreeLemmas.{tree_hash-one}
use Rattle.tl_store.specs.Stored.{stored_index, stored_hash}
use Rattle.tl_store.proofs.StoredLemmas.{index_is_place}
use Rattle.sha2.specs.Sha256.{sha256}
use Rattle.tl_store.specs.Reader.{readable_count}
use Rattle.tl_store.specs.declared.reader.ReadFault.{ReadFault}
use Rattle.tl_store.specs.declared.reader.ReadFault.TheVariants.{OutOfRange, Source, OutOfMemory, BadTile}
use Rattle.tl_store.proofs.Readable.{is-readable}
use Rattle.tl_tile.specs.declared.resource.Resource.{Resource}
use Rattle.tl_tile.specs.declared.resource.Resource.TheVariants as resource
use Rattle.tl_tile.specs.declared.resource.Tile.{Tile}
use Rattle.tl_tile.specs.Fetching.{IsNeededFor}
use Rattle.tl_tile.specs.Path.{IsTile}
use Rattle.tl_tile.specs.TileReader.{GivesFaultAfter}
use Rattle.tl_tile.specs.Verified.{AddsTiles, HavePassed}
use Rattle.tl_client.specs.Blame.{AddsServed, AreServed, leaf_numbers, leaf_reading}
use Rattle.tl_client.specs.Faults.{after_read}
use Rattle.tl_client.specs.Inner.Leaves.{RefusesLeaves}
use Rattle.tl_client.proofs.Blamed.{tile_has_path}

-- one leaf more
pub numbers_more : (first i : ℕ) (before after : List ℕ) (number : ℕ) → before ≡ leaf_numbers first i → number ≡ stored_index 0 (first + i)
    → after ≡ before ++ number ∷ [] → after ≡ leaf_numbers first (i + 1)
numbers_more first i before after number is number_is pushed =
    pushed ∙ (λ j. is j ++ number_is j ∷ []) ∙ sym (map-range_with_len_more (λ x. stored_index 0 (first + x)) 0 i i (omega arith))

-- the one entry at a place
one_at : (place : ℕ) (entries : List (List ℕ)) → place < length entries → take 1 (drop place entries) ≡ slice_index_or entries place [] ∷ []
one_at place [] less = absurd (omega (arith, less))
one_at zero (entry ∷ entries) less = refl
one_at (suc place) (entry ∷ entries) less = one_at place entries (omega (arith, less))

-- the stored hash of a leaf
pub leaf_stored : (H : Digest) (entries : List (List ℕ)) (place : ℕ) → place < length entries
    → stored_hash H entries (stored_index 0 place) ≡ H (leaf_input (slice_index_or entries place []))
leaf_stored H entries place less =
    let stored = index_is_place H entries 0 place (omega (arith, less)) in
    let start : place * 1 ≡ place = omega arith in
    stored.1 ∙ ap (λ (x : ℕ). tree_hash H (take 1 (drop x entries))) start ∙ ap (tree_hash H) (one_at place entries less) ∙ tree_hash-one H (slice_index_or entries place [])

-- how many numbers these are
pub count_is : (first count : ℕ) (numbers : List ℕ) → numbers ≡ leaf_numbers first count → length numbers ≡ count
count_is first count numbers are = ap (λ (xs : List ℕ). length xs) are ∙ length-map-range_with_len (λ x. stored_index 0 (first + x)) 0 count

pub many_numbers : (first count : ℕ) (numbers : List ℕ) → numbers ≡ leaf_numbers first count → 0 < count → 0 < length numbers
many_numbers first count numbers are some = omega (arith, some, count_is first count numbers are)

-- each of them is in range
number_below : (size first count i d : ℕ) (numbers : List ℕ) → numbers ≡ leaf_numbers first count → first + count ≤ size → size ≤ 2 ^ 62 → i < length numbers
    → slice_index_or numbers i d < readable_count size
number_below size first count i d numbers are inside limit less =
    let below : i < count = omega (arith, less, count_is first count numbers are) in
    let is : slice_index_or numbers i d ≡ stored_index 0 (first + i) =
    ap (λ (xs : List ℕ). slice_index_or xs i d) are ∙ get_or-map-range_with_len (λ x. stored_index 0 (first + x)) 0 count i i d below (omega arith) in
    omega (arith, is, is-readable size 0 (first + i) limit (omega (arith, inside, below)))

-- a fault of the reader over the tiles of a source is one of reading leaves
pub leaves_fault : (lacks : Resource → Type 0) (before : List (Tile × List ℕ)) (size : ℕ) (root : List ℕ) (first count : ℕ) (numbers : List ℕ) (fetched : List (Tile × List ℕ)) (fault : ReadFault)
    → numbers ≡ leaf_numbers first count → first + count ≤ size → size ≤ 2 ^ 62
    → GivesFaultAfter sha256 (λ t. IsTile t → lacks (resource.Tile t)) before (record { size = size; root = root; indexes = numbers; fetched = fetched }) fault
    → RefusesLeaves lacks (leaf_reading size root first count fetched) (after_read fault)
leaves_fault lacks before size root first count numbers fetched OutOfRange are inside limit gives =
    absurd (let far = gives.0 in omega (arith, far.4, far.3, number_below size first count far.0 far.1 numbers are inside limit far.2))
leaves_fault lacks before size root first count numbers fetched Source are inside limit (asking, (t, lack)) = (
  t,
  record {
    lacks = (lack.lacks.0 (tile_has_path size t limit lack.of_log), subst (λ (xs : List ℕ). IsNeededFor size xs t) are lack.lacks.1);
    of_log = lack.of_log;
    next = lack.next;
  },
)
leaves_fault lacks before size root first count numbers fetched OutOfMemory are inside limit gives = tt
leaves_fault lacks before size root first count numbers fetched (BadTile level index width) are inside limit gives = gives.1

-- ---- tiles that are added to others

pub served_none : (answers : Resource → List ℕ → Type 0) (size : ℕ) (xs : List (Tile × List ℕ)) → AddsServed answers size xs xs
served_none answers size xs = record { added = []; joined = sym (append-nil xs); served = λ k d less. absurd (omega (arith, less)) }

-- the source has what its tiles have
pub served_added : (answers : Resource → List ℕ → Type 0) (size : ℕ) (root : List ℕ) (Is : Tile → Type 0) (before after : List (Tile × List ℕ))
    → AddsTiles (λ t. answers (resource.Tile t)) sha256 size root Is before after → AddsServed answers size before after
served_added answers size root Is before after adds = record { added = adds.added; joined = adds.joined; served = adds.answers }

-- after none, all of them are added
pub served_all : (answers : Resource → List ℕ → Type 0) (size : ℕ) (before after : List (Tile × List ℕ)) → before ≡ [] → AddsServed answers size before after → AreServed answers size after
served_all answers size before after none adds =
    subst (AreServed answers size) (sym (adds.joined ∙ ap (λ (xs : List (Tile × List ℕ)). xs ++ adds.added) none)) adds.served

pub none_served : (answers : Resource → List ℕ → Type 0) (size : ℕ) (fetched : List (Tile × List ℕ)) → fetched ≡ [] → AreServed answers size fetched
none_served answers size fetched none = subst (AreServed answers size) (sym none) (λ k d less. absurd (omega (arith, less)))

-- no tiles have passed
pub none_passed : (size : ℕ) (root : List ℕ) (fetched : List (Tile × List ℕ)) → fetched ≡ [] → HavePassed sha256 size root fetched
none_passed size root fetched none = subst (HavePassed sha256 size root) (sym none) (record { order = tt; passed = inl refl })
