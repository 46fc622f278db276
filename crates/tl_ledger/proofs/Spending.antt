-- What is spent can go: a log needs none of it.
use Rattle.std.proofs.Common.{◌≡◌, ℕ, zero, suc, ◌+◌, ◌*◌, ◌/◌, ◌^◌, ◌<◌, ◌≤◌, inl, inr, ◌⊎◌, List, [], ◌++◌, length, Some, None, refl, sym, ap, subst, ◌∙◌, arith, append_assoc}
use Rattle.std.specs.Prelude.{Contains}
use Rattle.std.proofs.Math.Nat.{div-mul-le_self}
use Rattle.std.proofs.lemmas.Bool.{cases_lt}
use Rattle.std.proofs.lemmas.Nat.{le-div, pow-add}
use Rattle.std.proofs.lemmas.List.{append-nil, length-append}
use Rattle.std.proofs.lemmas.List.Elements.{All-nil}
use Rattle.sha2.specs.Sha256.{sha256}
use Rattle.tl_hash.specs.Bytes.{Bytes}
use Rattle.tl_tile.specs.declared.resource.Resource.{Resource}
use Rattle.tl_tile.specs.declared.resource.Resource.TheVariants as resource
use Rattle.tl_tile.specs.TileText.{level_count}
use Rattle.tl_tile.specs.Needed.{needed_resources}
use Rattle.tl_tile.proofs.Levels.{next_power, positive_256}
use Rattle.tl_tile.proofs.TileTexts.{scaled_le}
use Rattle.tl_log.specs.Histories.{Prefix, Begins}
use Rattle.tl_log.proofs.Needs.{needs_tile, needs_bundle}
use Rattle.tl_archive.specs.Shelves.{Item, Held, Kept, MayLeave}
use Rattle.tl_archive.specs.Complete.{text_of, HasAll, IsSafe, KeptSafe}
use Rattle.tl_archive.proofs.Lists.{none_has, all_is}
use Rattle.tl_archive.proofs.Stays.{does_need}
use Rattle.tl_ledger.specs.Standing.{Ledger}
use Rattle.tl_ledger.specs.Keeping.{IsKeeping}
use Rattle.tl_ledger.specs.Spent.{IsSpent, RemovesSpent, LacksSpent, IsShown}
use Rattle.tl_ledger.specs.Inner.Spending.{Sheds, IsPartialAt, LacksAt, LacksLevel}
use Rattle.tl_ledger.proofs.Staging.{all_join}

-- ---- step by step

spends_self : (size : ℕ) (a : Kept) → RemovesSpent size a a
spends_self size a = record { others = λ r. inl refl; staged = refl }

spends_on : (size : ℕ) (a b c : Kept) → RemovesSpent size a b → RemovesSpent size b c → RemovesSpent size a c
spends_on size a b c first then = record {
  others = λ r.
      elim (then.others r) as (λ _. (c.held r ≡ a.held r) ⊎ (IsSpent size r × (c.held r ≡ None))) [
        | inl same ↦
            elim (first.others r) as (λ _. (c.held r ≡ a.held r) ⊎ (IsSpent size r × (c.held r ≡ None))) [
              | inl old ↦ inl (same ∙ old)
              | inr gone ↦ inr (gone.0, same ∙ gone.1)
            ]
        | inr gone ↦ inr gone
      ];
  staged = then.staged ∙ first.staged;
}

-- nothing was removed
pub sheds_none : (size : ℕ) (a : Kept) (saw : List Kept) → Sheds size a a saw saw
sheds_none size a saw = record { part = spends_self size a; steps = []; trace = sym (append-nil saw); each = All-nil (RemovesSpent size a) }

-- one after the other
pub sheds_on : (size : ℕ) (a b c : Kept) (saw mid sees : List Kept) → Sheds size a b saw mid → Sheds size b c mid sees → Sheds size a c saw sees
sheds_on size a b c saw mid sees first then = record {
  part = spends_on size a b c first.part then.part;
  steps = first.steps ++ then.steps;
  trace = then.trace ∙ ap (λ (x : List Kept). x ++ then.steps) first.trace ∙ append_assoc saw first.steps then.steps;
  each = all_join (RemovesSpent size a) first.steps then.steps first.each
      (all_is (RemovesSpent size b) (RemovesSpent size a) then.steps (λ k. spends_on size a b k first.part) then.each);
}

-- what is gone stays away
gone_stays : (size : ℕ) (b c : Kept) (r : Resource) → RemovesSpent size b c → b.held r ≡ None → c.held r ≡ None
gone_stays size b c r part none = elim (part.others r) as (λ _. c.held r ≡ None) [ inl same ↦ same ∙ none | inr gone ↦ gone.1 ]

-- ---- along a level

-- the indexes so far, and the next
pub level_on : (level had index : ℕ) (b c : Kept) (saw sees : List Kept) → ((size : ℕ) → (index + 2) * 256 ^ (level + 1) ≤ size → Sheds size b c saw sees)
    → ((i : ℕ) → had ≤ i + 1 → i < index → LacksAt level i b.held) → LacksAt level index c.held → (i : ℕ) → had ≤ i + 1 → i < index + 1 → LacksAt level i c.held
level_on level had index b c saw sees sheds so_far here i low high r at =
    let all : ℕ = (index + 2) * 256 ^ (level + 1) in
    elim (cases_lt i index) as (λ _. c.held r ≡ None) [
      | inl before ↦ gone_stays all b c r (sheds all (omega arith)).part (so_far i low before r at)
      | inr last ↦ (let same : i ≡ index = omega (arith, last, high) in here r (subst (λ (x : ℕ). IsPartialAt level x r) same at))
    ]

-- an index before the last full tile is spent
pub index_spent : (level index has size : ℕ) → index + 2 ≤ has → has * 256 ^ (level + 1) ≤ size → (index + 2) * 256 ^ (level + 1) ≤ size
index_spent level index has size less within = omega (arith, scaled_le (index + 2) has (256 ^ (level + 1)) less, within)

-- ---- level by level

-- the levels so far, and the next
pub levels_on : (from size level n : ℕ) (b c : Kept) → RemovesSpent n b c
    → ((l : ℕ) → l < level → LacksLevel l (from / 256 ^ (l + 1)) (size / 256 ^ (l + 1)) b.held)
    → LacksLevel level (from / 256 ^ (level + 1)) (size / 256 ^ (level + 1)) c.held
    → (l : ℕ) → l < level + 1 → LacksLevel l (from / 256 ^ (l + 1)) (size / 256 ^ (l + 1)) c.held
levels_on from size level n b c part so_far here l less =
    elim (cases_lt l level) as (λ _. LacksLevel l (from / 256 ^ (l + 1)) (size / 256 ^ (l + 1)) c.held) [
      | inl before ↦ λ index low high far r at. gone_stays n b c r part (so_far l before index low high far r at)
      | inr last ↦
          let same : level ≡ l = omega (arith, last, less) in
          subst (λ (x : ℕ). LacksLevel x (from / 256 ^ (x + 1)) (size / 256 ^ (x + 1)) c.held) same here
    ]

-- the span of a level, which the loop multiplies
pub span_on : (level span : ℕ) → span ≡ 256 ^ level → span * 256 ≡ 256 ^ (level + 1)
span_on level span is = omega (arith, is, next_power level)

pub span_small : (level span : ℕ) → level < 3 → span ≡ 256 ^ level → (0 < span) × (span ≤ 256 ^ 2)
span_small zero span low is = (omega (arith, is), omega (arith, is))
span_small (suc zero) span low is = (omega (arith, is), omega (arith, is))
span_small (suc (suc zero)) span low is = (omega (arith, is), omega (arith, is))
span_small (suc (suc (suc d))) span low is = absurd (omega (arith, low))

pub level_sheds : (level span size : ℕ) (a b c : Kept) (saw mid sees : List Kept) → span ≡ 256 ^ level → Sheds size a b saw mid
    → ((n : ℕ) → size / (span * 256) * 256 ^ (level + 1) ≤ n → Sheds n b c mid sees) → Sheds size a c saw sees
level_sheds level span size a b c saw mid sees is first then =
    let within : size / (span * 256) * 256 ^ (level + 1) ≤ size =
    subst (λ (u : ℕ). size / (span * 256) * u ≤ size) (span_on level span is) (div-mul-le_self size (span * 256)) in
    sheds_on size a b c saw mid sees first (then size within)

pub level_gone : (level span from size : ℕ) (held : Held) → span ≡ 256 ^ level
    → LacksLevel level (from / (span * 256)) (size / (span * 256)) held → LacksLevel level (from / 256 ^ (level + 1)) (size / 256 ^ (level + 1)) held
level_gone level span from size held is lacks = subst (λ (u : ℕ). LacksLevel level (from / u) (size / u) held) (span_on level span is) lacks

-- a log of fewer than 2 ^ 32 entries has no two full tiles above the third level
low_level : (level index size : ℕ) → size < 2 ^ 32 → (index + 2) * 256 ^ (level + 1) ≤ size → level < 3
low_level level index size small within =
    elim (cases_lt level 3) as (λ _. level < 3) [
      | inl low ↦ low
      | inr high ↦ absurd (too_high level index size small within high)
    ]
  where
    too_high : (level index size : ℕ) → size < 2 ^ 32 → (index + 2) * 256 ^ (level + 1) ≤ size → 3 ≤ level → ⊥
    too_high zero index size small within high = omega (arith, high)
    too_high (suc zero) index size small within high = omega (arith, high)
    too_high (suc (suc zero)) index size small within high = omega (arith, high)
    too_high (suc (suc (suc d))) index size small within high =
        let sum : suc (suc (suc d)) + 1 ≡ 4 + d = omega arith in
        let power : 256 ^ (suc (suc (suc d)) + 1) ≡ 256 ^ 4 * 256 ^ d = ap (λ (x : ℕ). 256 ^ x) sum ∙ pow-add 256 4 d in
        let least : 1 * 256 ^ 4 ≤ 256 ^ 4 * 256 ^ d = omega (arith, positive_256 d) in
        let wide : 2 * 256 ^ (suc (suc (suc d)) + 1) ≤ (index + 2) * 256 ^ (suc (suc (suc d)) + 1) = scaled_le 2 (index + 2) (256 ^ (suc (suc (suc d)) + 1)) (omega arith) in
        omega (arith, small, within, wide, power, least)

-- what is spent since a size is at one of the indexes that were met
module _ (from size : ℕ) (held : Held) (small : size < 2 ^ 32) (lacks : (l : ℕ) → l < 3 → LacksLevel l (from / 256 ^ (l + 1)) (size / 256 ^ (l + 1)) held) where
  met : (level index : ℕ) → (index + 2) * 256 ^ (level + 1) ≤ size → ((index + 2) * 256 ^ (level + 1) ≤ from → ⊥) → index * 256 ^ (level + 1) ≤ from → LacksAt level index held
  met level index within fresh begun =
      let u : ℕ = 256 ^ (level + 1) in
      let some : 0 < u = positive_256 (level + 1) in
      let had : index ≤ from / u = le-div index from u some begun in
      let has : index + 2 ≤ size / u = le-div (index + 2) size u some within in
      let low : from / u ≤ index + 1 =
      elim (cases_lt (index + 1) (from / u)) as (λ _. from / u ≤ index + 1) [
        | inl more ↦ absurd (fresh (omega (arith, scaled_le (index + 2) (from / u) u (omega (arith, more)), div-mul-le_self from u)))
        | inr most ↦ most
      ] in
      lacks level (low_level level index size small within) index low had has

  pub lacks_spent : LacksSpent from size held
  lacks_spent (resource.Tile t) since =
      met t.level t.index since.spent.1 (λ full. since.fresh (since.spent.0, full)) since.begun (resource.Tile t) (refl, refl, since.spent.0)
  lacks_spent (resource.Entries index width) since =
      met 0 index since.spent.1 (λ full. since.fresh (since.spent.0, full)) since.begun (resource.Entries index width) (refl, refl, since.spent.0)
  lacks_spent resource.Checkpoint since = absurd since.spent

-- ---- what a log needs stays

tile_unspent : (size level index width count : ℕ) → count ≡ level_count size level → count ≡ index * 256 + width → width < 256 → (index + 2) * 256 ^ (level + 1) ≤ size → ⊥
tile_unspent size level index width count is parts narrow within =
    let u : ℕ = 256 ^ level in
    let all : (index + 2) * 256 ^ (level + 1) ≡ (index + 2) * 256 * u = ap (λ (x : ℕ). (index + 2) * x) (next_power level) ∙ omega arith in
    let most : (index + 2) * 256 ≤ size / u = le-div ((index + 2) * 256) size u (positive_256 level) (omega (arith, all, within)) in
    omega (arith, most, is, parts, narrow)

needed_unspent : (size : ℕ) (r : Resource) → Contains (needed_resources size) r → IsSpent size r → ⊥
needed_unspent size (resource.Tile t) has spent =
    elim (needs_tile t size (does_need (resource.Tile t) size has)).1 as (λ _. ⊥) [
      | inl full ↦ omega (arith, full.0, spent.0)
      | inr part ↦ tile_unspent size t.level t.index t.width (level_count size t.level) refl part.2 part.1 spent.1
    ]
needed_unspent size (resource.Entries index width) has spent =
    elim (needs_bundle index width size (does_need (resource.Entries index width) size has)) as (λ _. ⊥) [
      | inl full ↦ omega (arith, full.0, spent.0)
      | inr part ↦ omega (arith, part.1, part.2, spent.1)
    ]
needed_unspent size resource.Checkpoint has spent = absurd spent

-- what is spent stays so in a longer log
spent_on : (size more : ℕ) (r : Resource) → size ≤ more → IsSpent size r → IsSpent more r
spent_on size more (resource.Tile t) le spent = (spent.0, omega (arith, le, spent.1))
spent_on size more (resource.Entries index width) le spent = (spent.0, omega (arith, le, spent.1))
spent_on size more resource.Checkpoint le spent = absurd spent

begins_shorter : (front log : List Bytes) → Begins front log → length front ≤ length log
begins_shorter front log (more, is) = omega (arith, ap (λ (x : List Bytes). length x) is, length-append front more)

module _ (history : List Prefix) (log : List Bytes) (a : Kept) (ledger : Ledger) (was : IsKeeping sha256 history log a ledger) (size : ℕ) (shown : IsShown sha256 history size a.held) where
  abbrev P : Prefix
  P = shown.0

  within_log : size ≤ length log
  within_log = omega (arith, shown.2, begins_shorter P.entries log (was.begins P shown.1))

  -- what a log needs that is no shorter than the one that is shown
  all_stays : (k : Kept) (entries : List Bytes) → RemovesSpent size a k → size ≤ length entries → HasAll sha256 entries a.held → HasAll sha256 entries k.held
  all_stays k entries part le all r needed =
      elim (part.others r) as (λ _. k.held r ≡ Some (text_of sha256 r entries)) [
        | inl same ↦ same ∙ all r needed
        | inr gone ↦ absurd (needed_unspent (length entries) r needed (spent_on size (length entries) r le gone.0))
      ]

  note_stays : (k : Kept) → RemovesSpent size a k → k.held resource.Checkpoint ≡ Some P.note
  note_stays k part =
      elim (part.others resource.Checkpoint) as (λ _. k.held resource.Checkpoint ≡ Some P.note) [
        | inl same ↦ same ∙ shown.3.note
        | inr gone ↦ absurd gone.0
      ]

  -- nothing is staged, so a crash leaves what is there
  leaves : (k : Kept) (left : Held) → RemovesSpent size a k → MayLeave k left → (r : Resource) → left r ≡ k.held r
  leaves k left part may r =
      elim (may r) as (λ _. left r ≡ k.held r) [
        | inl same ↦ same
        | inr own ↦ absurd (none_has (r, own.0) (subst (λ (x : List Item). Contains x (r, own.0)) (part.staged ∙ was.rests) own.2))
      ]

  safe_after : (k : Kept) → RemovesSpent size a k → IsSafe sha256 history k
  safe_after k part left may =
      let same = leaves k left part may in
      let own : HasAll sha256 P.entries k.held = all_stays k P.entries part (omega (arith, shown.2)) shown.3.all in
      inr (P, shown.1, record { note = same resource.Checkpoint ∙ note_stays k part; all = λ r needed. same r ∙ own r needed })

  pub spent_kept : (b : Kept) → RemovesSpent size a b → IsKeeping sha256 history log b ledger
  spent_kept b part = record {
    stands = was.stands;
    begins = was.begins;
    rests = part.staged ∙ was.rests;
    safe = safe_after b part;
    whole = all_stays b log part within_log was.whole;
  }

  pub spent_safe : (b : Kept) (saw sees : List Kept) → Sheds size a b saw sees → KeptSafe sha256 history saw sees
  spent_safe b saw sees sheds = record {
    steps = sheds.steps;
    trace = sheds.trace;
    each = all_is (RemovesSpent size a) (IsSafe sha256 history) sheds.steps safe_after sheds.each;
  }
