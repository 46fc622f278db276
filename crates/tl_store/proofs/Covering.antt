-- Complete subtrees side by side.
use Rattle.std.proofs.Common.{◌≡◌, ℕ, zero, suc, ◌+◌, ◌-◌, ◌*◌, ◌/◌, ◌^◌, ◌<◌, ◌≤◌, inl, inr, Bool, cond, All, List, [], ◌∷◌, ◌++◌, length, get_or, take, drop, map, refl, sym, ap, subst, ◌∙◌, append_assoc, arith}
use Rattle.std.proofs.Math.Nat.{pow-succ'}
use Rattle.std.proofs.Math.Pow.{pow_mono}
use Rattle.std.specs.Int.RustNames.{count_ones}
use Rattle.std.proofs.lemmas.Nat.{pow_pos, pow-add, div-mul-add, ones_cat}
use Rattle.std.proofs.lemmas.Bool.{cases_lt, le-leb, lt-leb}
use Rattle.std.proofs.lemmas.List.{append-nil, drop_more, drop_all, length-take-le, length-drop, take-take, drop-take, drop-drop}
use Rattle.std.proofs.lemmas.List.Elements.{All-nil, All-cons, All-head, All-tail}
use Rattle.tl_hash.specs.Bytes.{Digest}
use Rattle.tl_hash.specs.Split.{IsSplit}
use Rattle.tl_hash.specs.Tree.{tree_hash, node_input}
use Rattle.tl_hash.proofs.TreeLemmas.{tree_hash-none, tree_hash-split}
use Rattle.tl_store.specs.Stored.{stored_count, stored_index, stored_hash}
use Rattle.tl_store.specs.Reader.{readable_size, GivesFault}
use Rattle.tl_store.specs.declared.reader.ReadFault.{ReadFault}
use Rattle.tl_store.specs.declared.reader.ReadFault.TheVariants.{OutOfRange, Source, OutOfMemory, BadTile}
use Rattle.tl_store.specs.Head.{IsAligned, AreCovering, none, more, AddsCovering, GivesHeadFault}
use Rattle.tl_store.proofs.StoredLemmas.{index_is_place}
use Rattle.tl_store.proofs.Readable.{stored_count-mono, index-in_count, count-in_index}

-- ---- collecting the numbers

-- `indexes` are those of the subtrees that cover the entries from `start` up to `covered` of those up to `size`, so
-- far as all are to be found; `covered` is a multiple of a power of two that is no less than what is left
pub record IsCovered (start size covered : ℕ) (indexes : List ℕ) : Type 0 where
  pub within : covered ≤ size
  pub aligned : IsAligned covered size
  pub before : (rest : List ℕ) → AreCovering covered size rest → AreCovering start size (indexes ++ rest)

pub covered-none : (start size : ℕ) (indexes : List ℕ) → start ≤ size → IsAligned start size → indexes ≡ [] → IsCovered start size start indexes
covered-none start size indexes order aligned is = record {
  within = order;
  aligned = aligned;
  before = λ rest covering. subst (λ (list : List ℕ). AreCovering start size (list ++ rest)) (sym is) covering;
}

-- the largest subtree that there is room for begins at a multiple of its width
pub covered-place : (start size covered level : ℕ) (indexes : List ℕ) → IsCovered start size covered indexes → 2 ^ level ≤ size - covered → covered < size → covered / 2 ^ level * 2 ^ level ≡ covered
covered-place start size covered level indexes is fits some =
    let p : ℕ = is.aligned.0 in
    let place : ℕ = is.aligned.1 in
    let low : level ≤ p =
    elim (cases_lt p level) as (λ _. level ≤ p) [
      | inr below ↦ below
      | inl above ↦ absurd (let most : 2 ^ suc p ≤ 2 ^ level = pow_mono above in omega (arith, most, fits, is.aligned.3, some, pow-succ' 2 p, pow_pos p))
    ] in
    let sum : p ≡ p - level + level = omega (arith, low) in
    let power : 2 ^ p ≡ 2 ^ (p - level) * 2 ^ level = ap (λ (x : ℕ). 2 ^ x) sum ∙ pow-add 2 (p - level) level in
    let product : covered ≡ place * 2 ^ (p - level) * 2 ^ level + 0 = is.aligned.2 ∙ ap (λ (x : ℕ). place * x) power ∙ omega arith in
    let quotient : covered / 2 ^ level ≡ place * 2 ^ (p - level) = ap (λ (x : ℕ). x / 2 ^ level) product ∙ div-mul-add (place * 2 ^ (p - level)) (2 ^ level) 0 (pow_pos level) in
    ap (λ (x : ℕ). x * 2 ^ level) quotient ∙ omega (arith, product)

pub covered-more : (start size covered level width number : ℕ) (indexes next : List ℕ) → IsCovered start size covered indexes → covered < size → width ≡ 2 ^ level → 2 ^ level ≤ size - covered → size - covered < 2 * 2 ^ level
    → number ≡ stored_index level (covered / width) → next ≡ indexes ++ number ∷ [] → IsCovered start size (covered + width) next
covered-more start size covered level width number indexes next is some width_is fits largest number_is next_is =
    let place : ℕ = covered / 2 ^ level in
    let at : place * 2 ^ level ≡ covered = covered-place start size covered level indexes is fits some in
    let index : number ≡ stored_index level place = number_is ∙ ap (λ (x : ℕ). stored_index level (covered / x)) width_is in
    record {
      within = omega (arith, width_is, fits, some);
      aligned = (level, place + 1, omega (arith, at, width_is), omega (arith, width_is, largest));
      before = λ rest covering.
          let from : AreCovering (covered + 2 ^ level) size rest = subst (λ (x : ℕ). AreCovering (covered + x) size rest) width_is covering in
          let one : AreCovering covered size (stored_index level place ∷ rest) = more covered size level place rest (sym at) (omega (arith, fits, some)) (omega (arith, largest)) from in
          let list : indexes ++ (stored_index level place ∷ rest) ≡ next ++ rest =
          (λ i. indexes ++ (sym index i ∷ rest)) ∙ sym (append_assoc indexes (number ∷ []) rest) ∙ ap (λ (xs : List ℕ). xs ++ rest) (sym next_is) in
          subst (AreCovering start size) list (is.before (stored_index level place ∷ rest) one);
    }

pub covered-all : (start size covered : ℕ) (indexes : List ℕ) → IsCovered start size covered indexes → size ≤ covered → AreCovering start size indexes
covered-all start size covered indexes is end =
    subst (AreCovering start size) (append-nil indexes) (is.before [] (none covered size (omega (arith, end, is.within))))

-- the first `size` entries begin where each subtree may begin
pub aligned-all : (size : ℕ) → size ≤ 2 ^ 62 → IsAligned 0 size
aligned-all size small = (62, 0, omega arith, omega (arith, small))

-- the largest subtree that there is room for takes one binary digit 1
pub ones_step : (covered end level : ℕ) → covered + 2 ^ level ≤ end → end < covered + 2 * 2 ^ level → count_ones (end - covered) ≡ 1 + count_ones (end - (covered + 2 ^ level))
unfolding count_ones
ones_step covered end level fits largest =
    let left : ℕ = end - (covered + 2 ^ level) in
    let sum : end - covered ≡ 1 * 2 ^ level + left = omega (arith, fits) in
    let one : count_ones 1 ≡ 1 = refl in
    let ones : count_ones (end - covered) ≡ count_ones 1 + count_ones left = ap count_ones sum ∙ ones_cat level 1 left (omega (arith, largest, fits)) in
    omega (arith, ones, one)

-- there is one subtree for each binary digit 1
pub covering-count : (start end : ℕ) (indexes : List ℕ) → AreCovering start end indexes → length indexes ≡ count_ones (end - start)
unfolding count_ones
covering-count start end [] (none s e same) =
    let count : 0 ≡ end - start = omega (arith, same) in
    ap count_ones count
covering-count start end _ (more s e level place rest at fits largest covering) =
    omega (arith, ones_step start end level fits largest, covering-count (start + 2 ^ level) end rest covering)

-- ---- adding the numbers to a list

-- the list has the old numbers and those of the subtrees up to `covered`, and room for one for each binary digit 1 of
-- what is left
pub record IsAdded (start end covered : ℕ) (old items : List ℕ) (length_old length_now room_old room : ℕ) : Type 0 where
  pub added : List ℕ
  pub whole : items ≡ old ++ added
  pub are : IsCovered start end covered added
  pub count : length_now + count_ones (end - covered) ≡ length_old + count_ones (end - start)
  pub enough : length_now + count_ones (end - covered) ≤ room
  pub same_room : room ≡ room_old

pub added-none : (start end : ℕ) (old : List ℕ) (len room : ℕ) → start ≤ end → IsAligned start end → len + count_ones (end - start) ≤ room → IsAdded start end start old old len len room room
added-none start end old len room order aligned enough = record {
  added = [];
  whole = sym (append-nil old);
  are = covered-none start end [] order aligned refl;
  count = refl;
  enough = enough;
  same_room = refl;
}

-- there is room for the next number
pub added-room : (start end covered level : ℕ) (old items : List ℕ) (length_old length_now room_old room : ℕ) → covered < end → 2 ^ level ≤ end - covered → end - covered < 2 * 2 ^ level
    → IsAdded start end covered old items length_old length_now room_old room → length_now < room
added-room start end covered level old items length_old length_now room_old room some fits largest is =
    omega (arith, is.enough, ones_step covered end level (omega (arith, fits, some)) (omega (arith, largest)))

pub added-more : (start end covered level width number : ℕ) (old items next : List ℕ) (length_old length_now length_next room_old room room_next : ℕ) → IsAdded start end covered old items length_old length_now room_old room
    → covered < end → width ≡ 2 ^ level → 2 ^ level ≤ end - covered → end - covered < 2 * 2 ^ level → number ≡ stored_index level (covered / width)
    → next ≡ items ++ number ∷ [] → length_next ≡ length_now + 1 → room_next ≡ room → IsAdded start end (covered + width) old next length_old length_next room_old room_next
added-more start end covered level width number old items next length_old length_now length_next room_old room room_next is some width_is fits largest number_is next_is length_is room_is =
    let ones : count_ones (end - covered) ≡ 1 + count_ones (end - (covered + 2 ^ level)) = ones_step covered end level (omega (arith, fits, some)) (omega (arith, largest)) in
    let rest : count_ones (end - (covered + width)) ≡ count_ones (end - (covered + 2 ^ level)) = ap (λ (x : ℕ). count_ones (end - (covered + x))) width_is in
    record {
      added = is.added ++ number ∷ [];
      whole = next_is ∙ ap (λ (list : List ℕ). list ++ number ∷ []) is.whole ∙ append_assoc old is.added (number ∷ []);
      are = covered-more start end covered level width number is.added (is.added ++ number ∷ []) is.are some width_is fits largest number_is refl;
      count = omega (arith, is.count, ones, rest, length_is);
      enough = omega (arith, is.enough, ones, rest, length_is, room_is);
      same_room = room_is ∙ is.same_room;
    }

pub added-all : (start end covered : ℕ) (old items : List ℕ) (length_old length_now room_old room : ℕ) → IsAdded start end covered old items length_old length_now room_old room → end ≤ covered → AddsCovering start end old items
added-all start end covered old items length_old length_now room_old room is last = (is.added, is.whole, covered-all start end covered is.added is.are last)

pub added-count : (start end covered : ℕ) (old items : List ℕ) (length_old length_now room_old room : ℕ) → IsAdded start end covered old items length_old length_now room_old room → end ≤ covered → length_now ≡ length_old + count_ones (end - start)
unfolding count_ones
added-count start end covered old items length_old length_now room_old room is last =
    let left : end - covered ≡ 0 = omega (arith, last) in
    let none_left : count_ones (end - covered) ≡ 0 = ap count_ones left in
    omega (arith, is.count, none_left)

-- ---- joining the hashes

-- the entries from `start` up to `end`
abbrev pub segment : ℕ → ℕ → List (List ℕ) → List (List ℕ)
segment start end entries = take (end - start) (drop start entries)

-- the first subtree's hash
first_hash : (H : Digest) (entries : List (List ℕ)) (start level place : ℕ) → start ≡ place * 2 ^ level → start + 2 ^ level ≤ length entries
    → stored_hash H entries (stored_index level place) ≡ tree_hash H (take (2 ^ level) (drop start entries))
first_hash H entries start level place at within =
    (index_is_place H entries level place (omega (arith, at, within))).1 ∙ ap (λ (x : ℕ). tree_hash H (take (2 ^ level) (drop x entries))) (sym at)

-- what joins the hashes of the subtrees that cover a part of the entries gives its tree hash
abbrev pub Joins : (List ℕ → List ℕ) → List (List ℕ) → List ℕ → Type 0
Joins H hashes result =
    (entries : List (List ℕ)) (start end : ℕ) (indexes : List ℕ) → AreCovering start end indexes → end ≤ length entries → hashes ≡ map (stored_hash H entries) indexes
    → result ≡ tree_hash H (segment start end entries)

pub joins-none : (H : Digest) (hashes : List (List ℕ)) (result : List ℕ) → length hashes ≡ 0 → result ≡ H [] → Joins H hashes result
joins-none H hashes result empty is entries start end [] (none s e same) within from =
    let count : end - start ≡ 0 = omega (arith, same) in
    is ∙ sym (ap (λ (x : ℕ). tree_hash H (take x (drop start entries))) count ∙ tree_hash-none H)
joins-none H hashes result empty is entries start end _ (more s e level place rest at fits largest covering) within from =
    absurd (omega (arith, empty, ap length from))

joins_one_at : (H : Digest) (hash : List ℕ) (entries : List (List ℕ)) (start end : ℕ) (indexes : List ℕ) → AreCovering start end indexes → end ≤ length entries → hash ∷ [] ≡ map (stored_hash H entries) indexes
    → hash ≡ tree_hash H (segment start end entries)
joins_one_at H hash entries start end [] (none s e same) within from = absurd (omega (arith, ap length from))
joins_one_at H hash entries start end _ (more s e level place [] at fits largest (none s' e' same)) within from =
    let first : hash ≡ stored_hash H entries (stored_index level place) = cc in
    let count : 2 ^ level ≡ end - start = omega (arith, same) in
    first ∙ first_hash H entries start level place at (omega (arith, fits, within)) ∙ ap (λ (x : ℕ). tree_hash H (take x (drop start entries))) count
joins_one_at H hash entries start end _ (more s e level place (index ∷ rest) at fits largest covering) within from = absurd (omega (arith, ap length from))

pub joins-one : (H : Digest) (hashes : List (List ℕ)) (hash : List ℕ) → hashes ≡ hash ∷ [] → Joins H hashes hash
joins-one H hashes hash is entries start end indexes covering within from = joins_one_at H hash entries start end indexes covering within (sym is ∙ from)

joins_more_at : (H : Digest) (left next : List ℕ) (later : List (List ℕ)) (result : List ℕ) → Joins H (next ∷ later) result
    → (entries : List (List ℕ)) (start end : ℕ) (indexes : List ℕ) → AreCovering start end indexes → end ≤ length entries → left ∷ next ∷ later ≡ map (stored_hash H entries) indexes
    → H (node_input left result) ≡ tree_hash H (segment start end entries)
joins_more_at H left next later result joins entries start end [] (none s e same) within from = absurd (omega (arith, ap length from))
joins_more_at H left next later result joins entries start end _ (more s e level place [] at fits largest covering) within from = absurd (omega (arith, ap length from))
joins_more_at H left next later result joins entries start end _ (more s e level place (index ∷ rest) at fits largest (more s' e' level' place' rest' at' fits' largest' covering)) within from =
    let w : ℕ = 2 ^ level in
    let first : left ≡ stored_hash H entries (stored_index level place) = cc in
    let others : next ∷ later ≡ map (stored_hash H entries) (stored_index level' place' ∷ rest) = cc in
    let others_is : result ≡ tree_hash H (segment (start + w) end entries) =
    joins entries (start + w) end (stored_index level' place' ∷ rest) (more s' e' level' place' rest at' fits' largest' covering) within others in
    let left_is : left ≡ tree_hash H (take w (drop start entries)) = first ∙ first_hash H entries start level place at (omega (arith, fits, within)) in
    let whole : List (List ℕ) = segment start end entries in
    let len : length whole ≡ end - start = length-take-le (end - start) (drop start entries) (omega (arith, length-drop start entries, within)) in
    let split : IsSplit w (length whole) = record { power = (level, refl); below = omega (arith, len, fits', pow_pos level'); largest = omega (arith, len, largest) } in
    let left_part : take w whole ≡ take w (drop start entries) = take-take w (end - start) (drop start entries) (omega (arith, fits)) in
    let sum : end - start ≡ w + (end - (start + w)) = omega (arith, fits) in
    let right_part : drop w whole ≡ segment (start + w) end entries =
    ap (λ (x : ℕ). drop w (take x (drop start entries))) sum
    ∙ drop-take w (end - (start + w)) (drop start entries)
    ∙ ap (take (end - (start + w))) (drop-drop w start entries) in
    (λ i. H (node_input (left_is i) (others_is i)))
    ∙ sym (tree_hash-split H w whole split ∙ (λ i. H (node_input (tree_hash H (left_part i)) (tree_hash H (right_part i)))))

pub joins-more : (H : Digest) (hashes : List (List ℕ)) (left : List ℕ) (rest : List (List ℕ)) (below result : List ℕ) → hashes ≡ left ∷ rest → 0 < length rest → Joins H rest below
    → result ≡ H (node_input left below) → Joins H hashes result
joins-more H hashes left [] below result is some joins result_is entries start end indexes covering within from = absurd (omega (arith, some))
joins-more H hashes left (next ∷ later) below result is some joins result_is entries start end indexes covering within from =
    result_is ∙ joins_more_at H left next later below joins entries start end indexes covering within (sym is ∙ from)

-- ---- what can be read

-- each number is below the count
pub covering-below : (start end : ℕ) (indexes : List ℕ) → AreCovering start end indexes → All (λ index. index < stored_count end) indexes
covering-below start end [] covering = All-nil (λ (index : ℕ). index < stored_count end)
covering-below start end _ (more s e level place rest at fits largest covering) =
    All-cons (λ (index : ℕ). index < stored_count end) (stored_index level place) rest (index-in_count end level place (omega (arith, at, fits))) (covering-below (start + 2 ^ level) end rest covering)

-- and if all are below the count of n entries, these are among them
pub covering-within : (start end : ℕ) (indexes : List ℕ) (n : ℕ) → AreCovering start end indexes → start < end → All (λ index. index < stored_count n) indexes → end ≤ n
covering-within start end [] n (none s e same) some below = absurd (omega (arith, same, some))
covering-within start end _ n (more s e level place rest at fits largest covering) some below =
    elim (cases_lt (start + 2 ^ level) end) as (λ _. end ≤ n) [
      | inl before ↦ covering-within (start + 2 ^ level) end rest n covering before (All-tail (λ (index : ℕ). index < stored_count n) (stored_index level place) rest below)
      | inr last ↦
          omega (arith, last, at, count-in_index n level place (All-head (λ (index : ℕ). index < stored_count n) (stored_index level place) rest below))
    ]

-- a fault of the read is one of the tree hash
pub head_fault : (count : ℕ) (may_fail : ReadFault → Type 0) (size : ℕ) (indexes : List ℕ) (fault : ReadFault) → 0 < size → size ≤ 2 ^ 62 → AreCovering 0 size indexes → GivesFault count may_fail indexes fault → GivesHeadFault count may_fail size fault
head_fault count may_fail size indexes OutOfRange some small covering gives =
    elim (cases_lt (readable_size count) size) as (λ _. readable_size count < size) [
      | inl above ↦ above
      | inr within ↦
          absurd (omega (arith, gives.3, gives.4, covering-below 0 size indexes covering gives.0 gives.1 gives.2, stored_count-mono size (readable_size count) within))
    ]
head_fault count may_fail size indexes Source some small covering gives = (gives.0, covering-within 0 size indexes (readable_size count) covering some gives.1, some)
head_fault count may_fail size indexes OutOfMemory some small covering gives = (some, small)
head_fault count may_fail size indexes (BadTile level index width) some small covering gives = (gives.0, covering-within 0 size indexes (readable_size count) covering some gives.1, some)

-- ---- in the words of the code

-- the last hash alone, and one hash more before those that were joined
pub joins-last : (H : Digest) (hashes : List (List ℕ)) (count : ℕ) (last : List ℕ) → count < length hashes → length hashes ≤ count + 1 → last ≡ get_or hashes count last → Joins H (drop count hashes) last
joins-last H hashes count last within end is =
    joins-one H (drop count hashes) last
    (drop_more hashes count last within ∙ (λ i. sym is i ∷ drop_all (count + 1) hashes end i))

pub joins-next : (H : Digest) (hashes : List (List ℕ)) (count : ℕ) (left below : List ℕ) → 0 < count → count < length hashes → left ≡ get_or hashes (count - 1) left → Joins H (drop count hashes) below
    → Joins H (drop (count - 1) hashes) (H (node_input left below))
joins-next H hashes count left below some within is joins =
    let next : count - 1 + 1 ≡ count = omega (arith, some) in
    joins-more H (drop (count - 1) hashes) left (drop count hashes) below (H (node_input left below))
    (drop_more hashes (count - 1) left (omega (arith, within)) ∙ (λ i. sym is i ∷ drop (next i) hashes))
    (omega (arith, length-drop count hashes, within)) joins refl

pub joins-all : (H : Digest) (hashes : List (List ℕ)) (count : ℕ) (root : List ℕ) → count ≤ 0 → Joins H (drop count hashes) root → Joins H hashes root
joins-all H hashes zero root first joins = joins
joins-all H hashes (suc count) root first joins = absurd (omega (arith, first))

pub root_is : (H : Digest) (entries : List (List ℕ)) (size : ℕ) (indexes : List ℕ) (hashes : List (List ℕ)) (result : List ℕ) → AreCovering 0 size indexes → size ≤ length entries
    → hashes ≡ map (stored_hash H entries) indexes → Joins H hashes result → result ≡ tree_hash H (take size entries)
root_is H entries size indexes hashes result covering within from joins =
    let all : size - 0 ≡ size = omega arith in
    joins entries 0 size indexes covering within from ∙ ap (λ (x : ℕ). tree_hash H (take x entries)) all

pub root_of_none : (H : Digest) (entries : List (List ℕ)) (size : ℕ) (result : List ℕ) → size ≡ 0 → result ≡ H [] → result ≡ tree_hash H (take size entries)
root_of_none H entries size result empty is = is ∙ sym (ap (λ (x : ℕ). tree_hash H (take x entries)) empty ∙ tree_hash-none H)

pub within_reader : (count size actual : ℕ) → size ≤ readable_size count → actual ≡ count → size ≤ actual
within_reader count size actual within is =
    elim (cases_lt (2 ^ 62) count) as (λ _. size ≤ actual) [
      | inl large ↦ omega (arith, within, ap (λ (b : Bool). cond b count 0) (lt-leb count (2 ^ 62) large), is)
      | inr small ↦ omega (arith, within, ap (λ (b : Bool). cond b count 0) (le-leb count (2 ^ 62) small), is)
    ]

-- the size of a reader that a list has
pub size_within : (reader_size size : ℕ) (entries : List (List ℕ)) → (length entries ≡ reader_size) × (length entries ≤ 2 ^ 62) → size ≤ readable_size reader_size → size ≤ length entries
size_within reader_size size entries stands within = within_reader reader_size size (length entries) within stands.0
