-- What a reader over tiles answers, by the numbers that were asked.
use Rattle.std.proofs.Common.{◌≡◌, ℕ, ◌^◌, ◌<◌, ◌≤◌, inl, inr, Bool, cond, List, length, map, All, refl, sym, ap, subst, ◌∙◌, arith}
use Rattle.std.proofs.lemmas.Bool.{cases_lt, lt-leb, le-leb}
use Rattle.std.specs.Prelude.{Result, Ok, Err, IfOk}
use Rattle.tl_hash.specs.Bytes.{Digest}
use Rattle.tl_hash.specs.Tree.{tree_hash}
use Rattle.tl_store.specs.Stored.{stored_count, stored_hash}
use Rattle.tl_store.specs.Reader.{readable_count, AreReadable}
use Rattle.tl_store.specs.declared.reader.ReadFault.{ReadFault}
use Rattle.tl_store.specs.declared.reader.ReadFault.TheVariants.{OutOfRange, Source, OutOfMemory, BadTile}
use Rattle.tl_tile.specs.declared.resource.Tile.{Tile}
use Rattle.tl_tile.specs.Folds.{TilesCollide}
use Rattle.tl_tile.specs.Fetched.{tiles_of}
use Rattle.tl_tile.specs.Source.{AreAnswers}
use Rattle.tl_tile.specs.Fetching.{IsNeededFor}
use Rattle.tl_tile.specs.SourceFaults.{GivesReadFault}
use Rattle.tl_tile.specs.TileReader.{Reading, AreAuthentic, StandsAgainst, GivesFaultAfter}

pub readable_is : (size : ℕ) → size ≤ 2 ^ 62 → readable_count size ≡ stored_count size
readable_is size small = ap (λ (b : Bool). stored_count (cond b size 0)) (le-leb size (2 ^ 62) small)

pub readable_none : (size : ℕ) → 2 ^ 62 < size → readable_count size ≡ 0
unfolding stored_count
readable_none size large = ap (λ (b : Bool). stored_count (cond b size 0)) (lt-leb size (2 ^ 62) large)

readable_of_none : readable_count 0 ≡ 0
unfolding stored_count
readable_of_none = refl

-- if a number is readable, there are entries, and not too many
pub readable_some : (size index : ℕ) → index < readable_count size → (0 < size) × (size ≤ 2 ^ 62)
readable_some size index less =
    elim (cases_lt (2 ^ 62) size) as (λ _. (0 < size) × (size ≤ 2 ^ 62)) [
      | inl large ↦ absurd (omega (arith, less, readable_none size large))
      | inr small ↦
          elim (cases_lt 0 size) as (λ _. (0 < size) × (size ≤ 2 ^ 62)) [
            | inl some ↦ (some, small)
            | inr none ↦
                let empty : size ≡ 0 = omega (arith, none) in
                absurd (omega (arith, less, ap readable_count empty, readable_of_none))
          ]
    ]

pub some_readable : (size : ℕ) (indexes : List ℕ) → 0 < length indexes → AreReadable size indexes → (0 < size) × (size ≤ 2 ^ 62)
some_readable size indexes some readable = readable_some size _ (readable 0 0 some)

pub all_stored : (size : ℕ) (indexes : List ℕ) → size ≤ 2 ^ 62 → AreReadable size indexes → All (λ index. index < stored_count size) indexes
all_stored size indexes small readable = λ k d less. omega (arith, readable k d less, readable_is size small)

-- authentic hashes are those of each list that the reader stands for
pub authentic_stands : (own : List ℕ → List ℕ) (may_answer : Tile → List ℕ → Type 0) (read : Reading) (hashes : List (List ℕ)) → AreAnswers may_answer read.size read.fetched → AreAuthentic own read hashes
    → (H : Digest) (entries : List (List ℕ)) → StandsAgainst own may_answer read.size read.root H entries → hashes ≡ map (stored_hash H entries) read.indexes
authentic_stands own may_answer read hashes answers authentic H entries (sized, small, same, is_root, apart) =
    elim (authentic.stored entries sized (ap (λ (G : List ℕ → List ℕ). tree_hash G entries) (sym same) ∙ is_root)) as (λ _. hashes ≡ map (stored_hash H entries) read.indexes) [
      | inl stored ↦ stored ∙ ap (λ (G : List ℕ → List ℕ). map (stored_hash G entries) read.indexes) (sym same)
      | inr collide ↦ absurd (apart read.fetched answers (subst (λ (G : List ℕ → List ℕ). TilesCollide G (tiles_of read.fetched) read.size entries) (sym same) collide))
    ]

pub if_ok_weaker : {X E : Type 0} (P Q : X → Type 0) (r : Result X E) → ((x : X) → P x → Q x) → IfOk r P → IfOk r Q
if_ok_weaker P Q (Ok x) weaker holds = weaker x holds
if_ok_weaker P Q (Err e) weaker holds = tt

-- the faults of a read whose numbers are all in range
pub numbers_fault : (H : Digest) (may_lack : Tile → Type 0) (before : List (Tile × List ℕ)) (read : Reading) (fault : ReadFault) → AreReadable read.size read.indexes → 0 < length read.indexes
    → GivesReadFault H (λ t. may_lack t × IsNeededFor read.size read.indexes t) read.size read.root read.fetched fault → GivesFaultAfter H may_lack before read fault
numbers_fault H may_lack before read OutOfRange readable some gives = absurd gives
numbers_fault H may_lack before read Source readable some gives = ((readable, some), gives)
numbers_fault H may_lack before read OutOfMemory readable some gives = (readable, some)
numbers_fault H may_lack before read (BadTile level index width) readable some gives = ((readable, some), gives)
