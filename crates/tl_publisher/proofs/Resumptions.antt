-- A log that is resumed from the bundles of a checkpoint.
use Rattle.std.proofs.Common.{◌≡◌, ℕ, zero, suc, ◌+◌, ◌*◌, ◌/◌, ◌%◌, ◌<◌, ◌≤◌, Bool, true, false, not, cond, inl, inr, List, [], ◌∷◌, ◌++◌, length, map, take, drop, get_or, vec_items, refl, sym, ap, subst, ◌∙◌, arith}
use Rattle.std.specs.Result.{IsErrAnd}
use Rattle.std.specs.Prelude.{Result, Ok, Err, IfErr, slice_index_or, nat_lt, ◌==◌, if◌then◌else◌}
use Rattle.std.specs.List.{range_with_len}
use Rattle.std.specs.declared.vec.Vec.{Vec}
use Rattle.std.proofs.lemmas.Bool.{cases_lt, eqb-true, ltb-true, lt-ltb, false_from_ne_true}
use Rattle.std.proofs.lemmas.List.{length-append, length-map, get_or-map, map-append, length-drop, take_all, take-append-le, drop-append-le}
use Rattle.std.proofs.lemmas.List.FromFn.{length-range_with_len}
use Rattle.std.proofs.Math.Seq.{drop-append_seam}
use Rattle.tl_note.specs.Key.{SigningKey}
use Rattle.tl_note.specs.Note.{IsNote}
use Rattle.tl_tile.specs.Bundle.{bundle_text, AreEntries, AreShortEntries, IsBundle, IsShortEntry}
use Rattle.tl_tile.specs.ReadBundle.{ReadsBundle}
use Rattle.tl_tile.specs.declared.bundle.BundleFault.{BundleFault}
use Rattle.tl_tile.specs.declared.bundle.BundleFault.TheVariants as bundle
use Rattle.tl_tile.specs.declared.resource.Resource.{Resource}
use Rattle.tl_tile.specs.declared.resource.Resource.TheVariants as resource
use Rattle.tl_tile.proofs.BundleLemmas.{bundles_are_one}
use Rattle.tl_checkpoint.specs.Checkpoint.{Head, checkpoint_text}
use Rattle.tl_sequencer.specs.Faults.{MayOpen, OpenRefuses}
use Rattle.tl_sequencer.specs.declared.fault.OpenFault.{OpenFault}
use Rattle.tl_sequencer.specs.declared.fault.OpenFault.TheVariants as sequencer
use Rattle.tl_publisher.specs.declared.fault.OperatorFault.{OperatorFault}
use Rattle.tl_publisher.specs.declared.fault.OperatorFault.TheVariants as operator
use Rattle.tl_publisher.specs.declared.fault.ResumeFault.{ResumeFault}
use Rattle.tl_publisher.specs.declared.fault.ResumeFault.TheVariants as resume
use Rattle.tl_publisher.specs.Publishing.{MayOpenAll, OpenRefusesOperator}
use Rattle.tl_tile.specs.Needed.{bundle_width}
use Rattle.tl_publisher.specs.Resuming.{bundle_count, Resumption, AreBundlesOf, IsSized, IsBundleAt, IsOfOrigin, IsBase, ResumeRefuses}
use Rattle.tl_publisher.specs.Inner.Opening.{IsWant}
use Rattle.tl_publisher.specs.Inner.Resuming.{Refuses, MissesBundle, after_bundle, after_operator, after_sequencer}

-- ---- how many bundles, and of what width

more_than_none : (r : ℕ) → (r == 0) ≡ false → 0 < r
more_than_none zero is = absurd (cc)
more_than_none (suc r) is = omega arith

last_piece : (size : ℕ) (x : Resource) (b : Bool) → (size % 256 == 0) ≡ b → size / 256 + length (if b then [] else x ∷ []) ≡ (size + 255) / 256
last_piece size x true at = (let none = eqb-true (size % 256) 0 at in omega (arith, none))
last_piece size x false at = (let some = more_than_none (size % 256) at in omega (arith, some))

pub counted : (size : ℕ) → bundle_count size ≡ (size + 255) / 256
counted size =
    let full : List Resource = map (λ index. resource.Entries index 256) (range_with_len 0 (size / 256)) in
    let x : Resource = resource.Entries (size / 256) (size % 256) in
    let many : length full ≡ size / 256 = length-map (range_with_len 0 (size / 256)) (λ index. resource.Entries index 256) ∙ length-range_with_len 0 (size / 256) in
    length-append full (if size % 256 == 0 then [] else x ∷ []) ∙ ap (λ (n : ℕ). n + length (if size % 256 == 0 then [] else x ∷ [])) many ∙ last_piece size x (size % 256 == 0) refl

full_width : (size place : ℕ) → place < size / 256 → bundle_width size place ≡ 256
full_width size place less = ap (λ (b : Bool). cond b 256 (size % 256)) (lt-ltb place (size / 256) less)

last_width : (size place : ℕ) → size / 256 ≤ place → bundle_width size place ≡ size % 256
last_width size place le = ap (λ (b : Bool). cond b 256 (size % 256)) (false_from_ne_true (nat_lt place (size / 256)) (λ is. (let less = ltb-true place (size / 256) is in absurd (omega (arith, less, le)))))

-- the bundle at a position
pub item_at : {A : Type 0} (bundles : List (Vec ℕ A)) (place : ℕ) (v : Vec ℕ A) → place < length bundles → v ≡ get_or bundles place v → slice_index_or (map vec_items bundles) place [] ≡ vec_items v
item_at bundles place v inside at = get_or-map vec_items bundles place v [] inside ∙ ap vec_items (sym at)

-- ---- an entry at a position

pub entry_short : {A : Type 0} (entries : List (Vec ℕ A)) (index : ℕ) (v : Vec ℕ A) → index < length entries → v ≡ get_or entries index v → AreShortEntries (map vec_items entries) → IsShortEntry (vec_items v)
entry_short entries index v inside at short = (let many = length-map entries vec_items in subst IsShortEntry (item_at entries index v inside at) (short index [] (omega (arith, many, inside))))

-- ---- the bundles before a position

-- the entries of the bundles before this position
pub record IsReadTo (bundles : List (List ℕ)) (size place : ℕ) (base : List (List ℕ)) : Type 0 where
  pub short : AreShortEntries base
  pub part : place * 256 ≤ size → length base ≡ place * 256
  pub whole : size ≤ place * 256 → length base ≡ size
  pub each : (i : ℕ) → i < place → slice_index_or bundles i [] ≡ bundle_text (take 256 (drop (i * 256) base))
  pub good : (i : ℕ) → i < place → IsBundleAt bundles size i

pub read_none : (bundles : List (List ℕ)) (size : ℕ) → IsReadTo bundles size 0 []
read_none bundles size = record {
  short = λ k d less. absurd (omega (arith, less));
  part = λ le. refl;
  whole = λ le. omega (arith, le);
  each = λ i less. absurd (omega (arith, less));
  good = λ i less. absurd (omega (arith, less));
}

both_short : (xs ys : List (List ℕ)) → AreShortEntries xs → AreShortEntries ys → AreShortEntries (xs ++ ys)
both_short [] ys left right k d less = right k d less
both_short (x ∷ xs) ys left right zero d less = left 0 d (omega arith)
both_short (x ∷ xs) ys left right (suc k) d less = both_short xs ys (λ i e within. left (suc i) e (omega (arith, within))) right k d (omega (arith, less))

-- an earlier bundle's entries stay
part_stays : (base more : List (List ℕ)) (i : ℕ) → (i + 1) * 256 ≤ length base → take 256 (drop (i * 256) (base ++ more)) ≡ take 256 (drop (i * 256) base)
part_stays base more i le =
    let left = length-drop (i * 256) base in
    ap (take 256) (drop-append-le (i * 256) base more (omega (arith, le))) ∙ take-append-le 256 (drop (i * 256) base) more (omega (arith, le, left))

module _ (bundles : List (List ℕ)) (size place : ℕ) (base entries : List (List ℕ)) (inside : place < bundle_count size) (is : IsReadTo bundles size place base)
    (are : AreEntries (bundle_width size place) entries) (text : slice_index_or bundles place [] ≡ bundle_text entries) where
  before : length base ≡ place * 256
  before = is.part (let many = counted size in omega (arith, many, inside))

  most : length entries ≤ 256
  most = elim (cases_lt place (size / 256)) as (λ _. length entries ≤ 256) [
    | inl full ↦ (let wide = full_width size place full in omega (arith, are.count, wide))
    | inr last ↦ (let wide = last_width size place (omega (arith, last)) in omega (arith, are.count, wide))
  ]

  own_part : take 256 (drop (place * 256) (base ++ entries)) ≡ entries
  own_part =
      ap (λ (n : ℕ). take 256 (drop n (base ++ entries))) (sym before) ∙ ap (take 256) (drop-append_seam base entries) ∙ take_all 256 entries most

  pub read_more : (new : List (List ℕ)) → new ≡ base ++ entries → IsReadTo bundles size (place + 1) new
  read_more new made =
      let len = ap length made ∙ length-append base entries in
      let many = counted size in
      record {
        short = subst AreShortEntries (sym made) (both_short base entries is.short are.short);
        part = λ le. (let wide = full_width size place (omega (arith, le)) in omega (arith, len, before, are.count, wide));
        whole = λ le. elim (cases_lt place (size / 256)) as (λ _. length new ≡ size) [
          | inl full ↦ (let wide = full_width size place full in omega (arith, len, before, are.count, wide, le, full))
          | inr last ↦ (let wide = last_width size place (omega (arith, last)) in omega (arith, len, before, are.count, wide, inside, many, last))
        ];
        each = λ i less. subst (λ (es : List (List ℕ)). slice_index_or bundles i [] ≡ bundle_text (take 256 (drop (i * 256) es))) (sym made) (at i less);
        good = λ i less. elim (cases_lt i place) as (λ _. IsBundleAt bundles size i) [
          | inl earlier ↦ is.good i earlier
          | inr here ↦ (let same : place ≡ i = omega (arith, less, here) in subst (IsBundleAt bundles size) same (entries, are, text))
        ];
      }
    where
      at : (i : ℕ) → i < place + 1 → slice_index_or bundles i [] ≡ bundle_text (take 256 (drop (i * 256) (base ++ entries)))
      at i less = elim (cases_lt i place) as (λ _. slice_index_or bundles i [] ≡ bundle_text (take 256 (drop (i * 256) (base ++ entries)))) [
        | inl earlier ↦ is.each i earlier ∙ ap bundle_text (sym (part_stays base entries i (omega (arith, earlier, before))))
        | inr here ↦
            let same : place ≡ i = omega (arith, less, here) in
            subst (λ (n : ℕ). slice_index_or bundles n [] ≡ bundle_text (take 256 (drop (n * 256) (base ++ entries)))) same (text ∙ ap bundle_text (sym own_part))
      ]

-- one bundle more is read
pub read_next : {A : Type 0} (bundles : List (List ℕ)) (size place : ℕ) (base entries new : List (Vec ℕ A)) → place < bundle_count size → IsReadTo bundles size place (map vec_items base) → AreEntries (bundle_width size place) (map vec_items entries)
    → slice_index_or bundles place [] ≡ bundle_text (map vec_items entries) → new ≡ base ++ entries → IsReadTo bundles size (place + 1) (map vec_items new)
read_next bundles size place base entries new inside is are text made =
    read_more bundles size place (map vec_items base) (map vec_items entries) inside is are text (map vec_items new) (ap (map vec_items) made ∙ map-append vec_items base entries)

-- all of them are read
pub read_whole : (bundles : List (List ℕ)) (size place : ℕ) (base : List (List ℕ)) → length bundles ≡ bundle_count size → length bundles ≤ place → IsReadTo bundles size place base → (length base ≡ size) × AreBundlesOf base bundles
read_whole bundles size place base count all is =
    let many = counted size in
    let len : length base ≡ size = is.whole (omega (arith, many, count, all)) in (
      len,
      record { short = is.short; count = count ∙ ap bundle_count (sym len); each = λ i less. is.each i (omega (arith, less, all)) },
    )

-- ---- faults

-- bytes that leave a bundle aren't one
pub bundle_refused : (A : Type 0) (bundles : List (List ℕ)) (size place : ℕ) (bytes : List ℕ) (fault : BundleFault) → place < length bundles → slice_index_or bundles place [] ≡ bytes → ReadsBundle {A = A} bytes (bundle_width size place) (Err fault)
    → ((i : ℕ) → i < place → IsBundleAt bundles size i) → MissesBundle bundles size (after_bundle place fault)
bundle_refused A bundles size place bytes bundle.EntryTooLong inside at is before = absurd is
bundle_refused A bundles size place bytes bundle.Truncated inside at is before =
    record { within = inside; before = before; bad = λ good. ends (subst (λ (t : List ℕ). IsBundle t (bundle_width size place)) at good) }
  where
    ends : IsBundle bytes (bundle_width size place) → ⊥
    ends (entries, are, spelled) = (bundles_are_one bytes (bundle_width size place) entries are spelled).whole is
bundle_refused A bundles size place bytes bundle.Trailing inside at is before =
    record { within = inside; before = before; bad = λ good. goes_on (subst (λ (t : List ℕ). IsBundle t (bundle_width size place)) at good) }
  where
    goes_on : IsBundle bytes (bundle_width size place) → ⊥
    goes_on (entries, are, spelled) = (bundles_are_one bytes (bundle_width size place) entries are spelled).ended is
bundle_refused A bundles size place bytes bundle.OutOfMemory inside at is before = tt

pub is_note : (r : Resumption) (c : Head) → IsOfOrigin r c → IsNote r.note
is_note r c of = (checkpoint_text c, of.signed.lines, of.signed.noted)

pub missed : (r : Resumption) (c : Head) (fault : ResumeFault) → IsOfOrigin r c → IsSized r c.size → MissesBundle r.bundles c.size fault → Refuses r fault
missed r c resume.Note of sized is signers lanes capacity readers = absurd is
missed r c resume.Origin of sized is signers lanes capacity readers = absurd is
missed r c resume.Size of sized is signers lanes capacity readers = absurd is
missed r c (resume.Bundle place) of sized is signers lanes capacity readers = (c, of, sized, is)
missed r c resume.Root of sized is signers lanes capacity readers = absurd is
missed r c (resume.Open fault) of sized is signers lanes capacity readers = absurd is
missed r c resume.OutOfMemory of sized is signers lanes capacity readers = is_note r c of

pub true_of_not : (b : Bool) → false ≡ not b → b ≡ true
true_of_not true is = refl
true_of_not false is = absurd (cc)

-- a fault that a caller returns
pub err_passes : {T F : Type 0} (P : F → Type 0) (given : F) (r : Result T F) → IsErrAnd r (λ fault. fault ≡ given) → P given → IfErr r P
err_passes P given (Ok x) same is = tt
err_passes P given (Err fault) same is = subst P (sym same) is

-- a fault that applies however the log is opened isn't `OutOfMemory`
pub not_memory : (origin : List ℕ) (signers : List SigningKey) (readers : ℕ) (fault : OperatorFault) → ((lanes capacity limit : ℕ) → OpenRefusesOperator origin signers lanes capacity limit readers fault) → fault ≡ operator.OutOfMemory → ⊥
not_memory origin signers readers fault wrong same =
    (let is = subst (OpenRefusesOperator origin signers 0 0 0 readers) same (wrong 0 0 0) in omega (arith, is.1.0))

-- a sequencer that isn't opened couldn't be opened
may_not : (lanes capacity limit : ℕ) (why : OpenFault) → OpenRefuses lanes capacity limit why → (why ≡ sequencer.OutOfMemory → ⊥) → MayOpen lanes capacity limit → ⊥
may_not lanes capacity limit sequencer.LaneCount (inl less) some may = omega (arith, less, may.0.0)
may_not lanes capacity limit sequencer.LaneCount (inr more) some may = omega (arith, more, may.0.1)
may_not lanes capacity limit sequencer.Capacity (lanes_are, inl less) some may = omega (arith, less, may.1.0)
may_not lanes capacity limit sequencer.Capacity (lanes_are, inr more) some may = omega (arith, more, may.1.1)
may_not lanes capacity limit sequencer.Limit (lanes_are, capacity_is, inl less) some may = omega (arith, less, may.2.0)
may_not lanes capacity limit sequencer.Limit (lanes_are, capacity_is, inr more) some may = omega (arith, more, may.2.1)
may_not lanes capacity limit sequencer.OutOfMemory is some may = some refl

module _ (r : Resumption) (signers : List SigningKey) (lanes capacity readers : ℕ) (base : List (List ℕ)) (is : IsBase r base) where
  pub log_refused : (why : OpenFault) → MayOpenAll r.origin signers readers → OpenRefuses lanes capacity r.limit why → ResumeRefuses r signers lanes capacity readers (after_sequencer why)
  log_refused sequencer.LaneCount all refuses = (base, is, (all, refuses, may_not lanes capacity r.limit sequencer.LaneCount refuses (λ e. cc)), (λ e. cc))
  log_refused sequencer.Capacity all refuses = (base, is, (all, refuses, may_not lanes capacity r.limit sequencer.Capacity refuses (λ e. cc)), (λ e. cc))
  log_refused sequencer.Limit all refuses = (base, is, (all, refuses, may_not lanes capacity r.limit sequencer.Limit refuses (λ e. cc)), (λ e. cc))
  log_refused sequencer.OutOfMemory all refuses = is_note r is.checkpoint is.stated.of

  pub operator_refused : (fault : OperatorFault) → MayOpenAll r.origin signers readers → MayOpen lanes capacity r.limit → IsWant fault → ResumeRefuses r signers lanes capacity readers (after_operator fault)
  operator_refused operator.Place all may want = (base, is, (all, may), (λ e. cc))
  operator_refused operator.OutOfMemory all may want = is_note r is.checkpoint is.stated.of
  operator_refused operator.Origin all may want = absurd want
  operator_refused operator.Signers all may want = absurd want
  operator_refused operator.Readers all may want = absurd want
  operator_refused (operator.Lanes fault) all may want = absurd want
