-- Faults of a source, as faults of a client that reads leaves and makes proofs.
use Rattle.std.proofs.Common.{◌≡◌, ℕ, ◌+◌, ◌-◌, ◌*◌, ◌/◌, ◌%◌, ◌^◌, ◌<◌, ◌≤◌, inl, inr, Bool, true, false, ◌||◌, eqb, List, [], ◌∷◌, ◌++◌, append_assoc, Some, None, Err, refl, sym, ap, subst, ◌∙◌, cond, arith}
use Rattle.std.proofs.lemmas.Bool.{cases_Bool, cases_lt, le-leb}
use Rattle.std.proofs.lemmas.Nat.{pow-add}
use Rattle.std.proofs.Math.Nat.{div-le_self}
use Rattle.std.proofs.lemmas.List.Elements.{All-head, All-tail}
use Rattle.sha2.specs.Sha256.{sha256}
use Rattle.tl_store.specs.Reader.{readable_size}
use Rattle.tl_store.specs.Head.{GivesHeadFault}
use Rattle.tl_store.specs.declared.reader.ReadFault.{ReadFault}
use Rattle.tl_store.specs.declared.reader.ReadFault.TheVariants as read
use Rattle.tl_proof.specs.ReadFaults.{IsOfReading}
use Rattle.tl_proof.specs.Needs.{inclusion_needs, consistency_needs}
use Rattle.tl_proof.specs.ProveFaults.{IsIndex, GivesProveFault}
use Rattle.tl_proof.specs.declared.fault.ProveFault.{ProveFault}
use Rattle.tl_proof.specs.declared.fault.ProveFault.TheVariants as prove
use Rattle.tl_tile.specs.declared.resource.Resource.{Resource}
use Rattle.tl_tile.specs.declared.resource.Resource.TheVariants as resource
use Rattle.tl_tile.specs.declared.resource.Tile.{Tile}
use Rattle.tl_tile.specs.Fetched.{same_tile, tiles_of, tiles_in}
use Rattle.tl_tile.specs.Path.{IsTile}
use Rattle.tl_tile.specs.Source.{IsTileOf, AreAnswers, Answers}
use Rattle.tl_tile.specs.SourceFaults.{MayGive}
use Rattle.tl_tile.specs.TileReader.{AreAuthentic}
use Rattle.tl_tile.specs.TileText.{level_count}
use Rattle.tl_tile.specs.Verified.{AreVerified, ComesNext, IsNextFull}
use Rattle.tl_tile.proofs.Edges.{Some-injective, under_within}
use Rattle.tl_tile.proofs.Levels.{positive_256}
use Rattle.tl_tile.proofs.NeededLemmas.{next_count}
use Rattle.tl_tile.proofs.Push.{same_tile-is, same_tile-self}
use Rattle.tl_hash.specs.declared.head.Head.{Head}
use Rattle.tl_client.specs.Blame.{AnswersNoBundle, AreServed, ServesBadTile, WantsTile, leaf_reading}
use Rattle.tl_tile.specs.Needed.{bundle_width}
use Rattle.tl_client.specs.Bundles.{HasBundle}
use Rattle.tl_client.specs.Faults.{after_prove, after_read, after_source}
use Rattle.tl_client.specs.Refused.{BundleRead, IsBetween, LeafRead, RefusesEntries, RefusesEntry, RefusesGrowth}
use Rattle.tl_tile.specs.ReadBundle.{ReadsBundle}
use Rattle.tl_tile.specs.declared.bundle.BundleFault.{BundleFault}
use Rattle.tl_tile.specs.declared.bundle.BundleFault.TheVariants as bundle
use Rattle.tl_tile.specs.declared.source.SourceFault.{SourceFault}
use Rattle.tl_tile.specs.declared.source.SourceFault.TheVariants as source
use Rattle.tl_client.specs.Inner.BundleFaults.{after_bundle}
use Rattle.tl_client.specs.Inner.Growing.{RefusesProof}
use Rattle.tl_client.specs.Inner.Leaves.{RefusesBundle, RefusesLeaves}
use Rattle.tl_client.specs.declared.fault.ClientFault.{ClientFault}
use Rattle.tl_client.specs.declared.fault.ClientFault.TheVariants as client

-- ---- tiles of a log have paths

-- a level that has a hash is one of eight
level_low : (size level : ℕ) → size ≤ 2 ^ 62 → 0 < level_count size level → level ≤ 7
level_low size level limit some =
    elim (cases_lt 7 level) as (λ _. level ≤ 7) [
      | inr low ↦ omega (arith, low)
      | inl high ↦
          let rest : ℕ = level - 8 in
          let power : 256 ^ level ≡ 256 ^ 8 * 256 ^ rest = ap (λ (x : ℕ). 256 ^ x) (omega (arith, high)) ∙ pow-add 256 8 rest in
          absurd (omega (arith, under_within size level 0 some, power, positive_256 rest, limit))
    ]

-- there are no more hashes than entries
count_low : (size level : ℕ) → size ≤ 2 ^ 62 → level_count size level ≤ 2 ^ 62
count_low size level limit = omega (arith, div-le_self size (256 ^ level), limit)

pub tile_has_path : (size : ℕ) (t : Tile) → size ≤ 2 ^ 62 → IsTileOf size t → IsTile t
tile_has_path size t limit (inl (full, below)) =
    let count : level_count size t.level / 256 ≡ level_count size (t.level + 1) = next_count size t.level (level_count size t.level) refl in
    let width : t.width ≡ 256 = ap (λ (x : Tile). x.width) full in
    record {
      level = omega (arith, level_low size (t.level + 1) limit (omega (arith, below)));
      index = omega (arith, below, count, count_low size t.level limit);
      wide = omega (arith, width);
      narrow = omega (arith, width);
    }
tile_has_path size t limit (inr (partial, some)) =
    let width : t.width ≡ level_count size t.level % 256 = ap (λ (x : Tile). x.width) partial in
    let index : t.index ≡ level_count size t.level / 256 = ap (λ (x : Tile). x.index) partial in
    record {
      level = level_low size t.level limit (omega (arith, some, width));
      index = omega (arith, index, count_low size t.level limit);
      wide = some;
      narrow = omega (arith, width);
    }

-- ---- tiles that were kept

-- the text that they have for a tile is one that the source may answer
kept_text : (may_answer : Tile → List ℕ → Type 0) (size : ℕ) (kept : List (Tile × List ℕ)) (t : Tile) (text : List ℕ) → AreAnswers may_answer size kept
    → tiles_of kept t ≡ Some text → may_answer t text
kept_text may_answer size [] t text served found = absurd (cc)
kept_text may_answer size (f ∷ more) t text served found =
    elim (cases_Bool (same_tile f.0 t)) as (λ _. may_answer t text) [
      | inl same ↦
          let first = All-head (λ (x : Tile × List ℕ). Answers may_answer size x.0 x.1) f more served in
          let is : f.1 ≡ text = Some-injective f.1 text (rw same at found) in
          subst (λ (x : Tile). may_answer x text) (same_tile-is f.0 t same) (subst (λ (x : List ℕ). may_answer f.0 x) is first.1)
      | inr differ ↦
          kept_text may_answer size more t text (All-tail (λ (x : Tile × List ℕ). Answers may_answer size x.0 x.1) f more served) (rw differ at found)
    ]

-- tiles that they answer are tiles that the source may answer
pub served_again : (may_answer : Tile → List ℕ → Type 0) (size : ℕ) (kept fetched : List (Tile × List ℕ)) → AreAnswers may_answer size kept
    → AreAnswers (λ t text. tiles_of kept t ≡ Some text) size fetched → AreAnswers may_answer size fetched
served_again may_answer size kept fetched served again =
    λ k d less. (let one = again k d less in (one.0, kept_text may_answer size kept _ _ served one.1))

-- a tile that they lack is none of theirs
not_among : (kept : List (Tile × List ℕ)) (before after : List Tile) (t : Tile) → tiles_of kept t ≡ None → tiles_in kept ≡ before ++ t ∷ after → ⊥
not_among [] [] after t none are = absurd (cc)
not_among [] (b ∷ before) after t none are = absurd (cc)
not_among (f ∷ more) [] after t none are =
    let is : f.0 ≡ t = cc in
    let same : same_tile f.0 t ≡ true = ap (same_tile f.0) (sym is) ∙ same_tile-self f.0 in
    let found = rw same at none in
    absurd (cc)
not_among (f ∷ more) (b ∷ before) after t none are =
    elim (cases_Bool (same_tile f.0 t)) as (λ _. ⊥) [
      | inl same ↦ (let found = rw same at none in absurd (cc))
      | inr differ ↦ not_among more before after t (rw differ at none) cc
    ]

-- so if they passed all checks, it is a full tile, and the one above it is among them
kept_next : (size : ℕ) (root : List ℕ) (kept again : List (Tile × List ℕ)) (t : Tile) → AreVerified sha256 size root kept
    → AreAnswers (λ t text. tiles_of kept t ≡ Some text) size again → tiles_of kept t ≡ None → ComesNext sha256 size root again t
    → IsNextFull sha256 size root kept t
kept_next size root kept again t verified answered none next =
    elim next.next as (λ _. IsNextFull sha256 size root kept t) [
      | inl (rest, partial) ↦
          let all = verified.first in
          absurd (not_among kept (tiles_in again) (rest ++ all.0) t none
          (all.1 ∙ (λ i. partial i ++ all.0) ∙ append_assoc (tiles_in again) (t ∷ rest) all.0))
      | inr full ↦
          record {
            full = full.full;
            passed = verified;
            above = (full.above.0, kept_text (λ t text. tiles_of kept t ≡ Some text) size again _ full.above.0 answered full.above.1);
          }
    ]

-- ---- reading tiles over a leaf

-- a fault of reading tiles over the leaf of this entry
abbrev pub RefusesTiles : (Resource → List ℕ → Type 0) → (Resource → Type 0) → ℕ → List ℕ → ℕ → ClientFault → Type 0
RefusesTiles answers lacks size root entry client.Range = ⊥
RefusesTiles answers lacks size root entry client.Unavailable = WantsTile answers lacks size root entry
RefusesTiles answers lacks size root entry (client.BadTile level index width) =
    ServesBadTile answers size root (record { level = level; index = index; width = width })
RefusesTiles answers lacks size root entry (client.BadBundle _) = ⊥
RefusesTiles answers lacks size root entry (client.BadEntry _) = ⊥
RefusesTiles answers lacks size root entry client.Shrunk = ⊥
RefusesTiles answers lacks size root entry client.Forked = ⊥
RefusesTiles answers lacks size root entry client.OutOfMemory = Unit {0}

-- what a reader of kept tiles gives
abbrev pub KeptGives : ℕ → List ℕ → List (Tile × List ℕ) → ReadFault → Type 0
KeptGives size root kept = MayGive sha256 (λ t text. tiles_of kept t ≡ Some text) (λ t. tiles_of kept t ≡ None) size root

-- about the tiles that were kept: the source may answer them, they passed all checks, and the leaf was read from them
pub record AreKept (answers : Resource → List ℕ → Type 0) (size : ℕ) (root : List ℕ) (entry : ℕ) (kept : List (Tile × List ℕ)) (hashes : List (List ℕ)) : Type 0 where
  pub served : AreServed answers size kept
  pub verified : AreVerified sha256 size root kept
  pub authentic : AreAuthentic sha256 (leaf_reading size root entry 1 kept) hashes

kept_read : (answers : Resource → List ℕ → Type 0) (lacks : Resource → Type 0) (size : ℕ) (root : List ℕ) (entry needed : ℕ) (kept : List (Tile × List ℕ)) (hashes : List (List ℕ)) (fault : ReadFault) → size ≤ 2 ^ 62 → needed ≤ size
    → AreKept answers size root entry kept hashes → IsOfReading fault → GivesHeadFault size (KeptGives size root kept) needed fault → RefusesTiles answers lacks size root entry (after_read fault)
kept_read answers lacks size root entry needed kept hashes read.OutOfRange limit most are of gives =
    absurd (let all : readable_size size ≡ size = ap (λ (b : Bool). cond b size 0) (le-leb size (2 ^ 62) limit) in omega (arith, gives, all, most))
kept_read answers lacks size root entry needed kept hashes read.Source limit most are of ((fetched, again, (t, lack)), fits, some) =
    inr
    (record {
      fetched = kept;
      served = are.served;
      hashes = hashes;
      authentic = are.authentic;
      tile = t;
      of_log = lack.of_log;
      missed = lack.lacks;
      next = kept_next size root kept fetched t are.verified again lack.lacks lack.next;
    })
kept_read answers lacks size root entry needed kept hashes read.OutOfMemory limit most are of gives = tt
kept_read answers lacks size root entry needed kept hashes (read.BadTile level index width) limit most are of ((fetched, again, bad), fits, some) =
    (fetched, served_again (λ t. answers (resource.Tile t)) size kept fetched are.served again, bad)

pub kept_refused : (answers : Resource → List ℕ → Type 0) (lacks : Resource → Type 0) (in_range : Type 0) (size : ℕ) (root : List ℕ) (entry needed : ℕ) (kept : List (Tile × List ℕ)) (hashes : List (List ℕ)) (fault : ProveFault) → in_range
    → size ≤ 2 ^ 62 → needed ≤ size → AreKept answers size root entry kept hashes → GivesProveFault in_range size (KeptGives size root kept) needed fault
    → RefusesTiles answers lacks size root entry (after_prove fault)
kept_refused answers lacks in_range size root entry needed kept hashes prove.BadRange inside limit most are gives = absurd (gives inside)
kept_refused answers lacks in_range size root entry needed kept hashes (prove.Read fault) inside limit most are (_, of, gives) =
    kept_read answers lacks size root entry needed kept hashes fault limit most are of gives
kept_refused answers lacks in_range size root entry needed kept hashes prove.OutOfMemory inside limit most are gives = tt

pub entry_refused : (answers : Resource → List ℕ → Type 0) (lacks : Resource → Type 0) (read : LeafRead) (fault : ClientFault) → IsIndex read.size read.index
    → RefusesTiles answers lacks read.size read.root read.index fault → RefusesEntry answers lacks read fault
entry_refused answers lacks read client.Range inside refused = absurd refused
entry_refused answers lacks read client.Unavailable inside refused = (inside, refused)
entry_refused answers lacks read (client.BadTile level index width) inside refused = (inside, refused)
entry_refused answers lacks read (client.BadBundle _) inside refused = refused
entry_refused answers lacks read (client.BadEntry _) inside refused = absurd refused
entry_refused answers lacks read client.Shrunk inside refused = refused
entry_refused answers lacks read client.Forked inside refused = refused
entry_refused answers lacks read client.OutOfMemory inside refused = inside

pub proof_refused : (answers : Resource → List ℕ → Type 0) (lacks : Resource → Type 0) (old size : ℕ) (root : List ℕ) (fault : ClientFault) → IsBetween old size
    → RefusesTiles answers lacks size root (old - 1) fault → RefusesProof answers lacks old size root fault
proof_refused answers lacks old size root client.Range between refused = refused
proof_refused answers lacks old size root client.Unavailable between refused = (between, refused)
proof_refused answers lacks old size root (client.BadTile level index width) between refused = (between, refused)
proof_refused answers lacks old size root (client.BadBundle _) between refused = refused
proof_refused answers lacks old size root (client.BadEntry _) between refused = refused
proof_refused answers lacks old size root client.Shrunk between refused = refused
proof_refused answers lacks old size root client.Forked between refused = refused
proof_refused answers lacks old size root client.OutOfMemory between refused = between

-- what proofs need is in range
cond_most : (test : Bool) (a b most : ℕ) → a ≤ most → b ≤ most → cond test a b ≤ most
cond_most true a b most less more = less
cond_most false a b most less more = more

pub inclusion_most : (size index : ℕ) → index < size → inclusion_needs size index ≤ size
inclusion_most size index below = cond_most (eqb (index + 1) size) index size size (omega (arith, below)) (omega arith)

pub consistency_most : (size old : ℕ) → consistency_needs size old ≤ size
consistency_most size old = cond_most (eqb old 0 || eqb old size) 0 size size (omega arith) (omega arith)

-- ---- entries of a bundle

bundle_cases : (answers : Resource → List ℕ → Type 0) (lacks : Resource → Type 0) (read : BundleRead) (fault : ClientFault) → HasBundle read.size read.bundle
    → RefusesBundle answers lacks read.bundle (bundle_width read.size read.bundle) fault → RefusesEntries answers lacks read fault
bundle_cases answers lacks read client.Range has refused = absurd refused
bundle_cases answers lacks read client.Unavailable has refused = (has, inl refused)
bundle_cases answers lacks read (client.BadTile _ _ _) has refused = absurd refused
bundle_cases answers lacks read (client.BadBundle index) has (is, none) =
    (is, subst (λ (x : ℕ). HasBundle read.size x) (sym is) has, subst (λ (x : ℕ). AnswersNoBundle answers x (bundle_width read.size x)) (sym is) none)
bundle_cases answers lacks read (client.BadEntry _) has refused = absurd refused
bundle_cases answers lacks read client.Shrunk has refused = refused
bundle_cases answers lacks read client.Forked has refused = refused
bundle_cases answers lacks read client.OutOfMemory has refused = has

pub bundle_refused : (answers : Resource → List ℕ → Type 0) (lacks : Resource → Type 0) (read : BundleRead) (width : ℕ) (fault : ClientFault) → HasBundle read.size read.bundle
    → width ≡ bundle_width read.size read.bundle → RefusesBundle answers lacks read.bundle width fault → RefusesEntries answers lacks read fault
bundle_refused answers lacks read width fault has is refused =
    bundle_cases answers lacks read fault has (subst (λ (w : ℕ). RefusesBundle answers lacks read.bundle w fault) is refused)

-- a fault of reading the leaves of a bundle is one of reading its entries
leaf_cases : (answers : Resource → List ℕ → Type 0) (lacks : Resource → Type 0) (read : BundleRead) (fault : ClientFault) → HasBundle read.size read.bundle
    → RefusesLeaves lacks (leaf_reading read.size read.root (256 * read.bundle) (bundle_width read.size read.bundle) read.fetched) fault
    → RefusesEntries answers lacks read fault
leaf_cases answers lacks read client.Range has refused = absurd refused
leaf_cases answers lacks read client.Unavailable has refused = (has, inr refused)
leaf_cases answers lacks read (client.BadTile level index width) has refused = (has, refused)
leaf_cases answers lacks read (client.BadBundle _) has refused = absurd refused
leaf_cases answers lacks read (client.BadEntry _) has refused = absurd refused
leaf_cases answers lacks read client.Shrunk has refused = refused
leaf_cases answers lacks read client.Forked has refused = refused
leaf_cases answers lacks read client.OutOfMemory has refused = has

pub leaves_refused : (answers : Resource → List ℕ → Type 0) (lacks : Resource → Type 0) (read : BundleRead) (width : ℕ) (fault : ClientFault) → HasBundle read.size read.bundle
    → width ≡ bundle_width read.size read.bundle
    → RefusesLeaves lacks (leaf_reading read.size read.root (256 * read.bundle) width read.fetched) fault → RefusesEntries answers lacks read fault
leaves_refused answers lacks read width fault has is refused =
    leaf_cases answers lacks read fault has
    (subst (λ (w : ℕ). RefusesLeaves lacks (leaf_reading read.size read.root (256 * read.bundle) w read.fetched) fault) is refused)

-- ---- the leaf of an entry

-- a fault of reading it is one of reading tiles over it
pub leaf_tiles : (answers : Resource → List ℕ → Type 0) (lacks : Resource → Type 0) (size : ℕ) (root : List ℕ) (entry : ℕ) (fetched : List (Tile × List ℕ)) (fault : ClientFault)
    → AreServed answers size fetched → RefusesLeaves lacks (leaf_reading size root entry 1 fetched) fault → RefusesTiles answers lacks size root entry fault
leaf_tiles answers lacks size root entry fetched client.Range served refused = refused
leaf_tiles answers lacks size root entry fetched client.Unavailable served refused = inl (fetched, served, refused)
leaf_tiles answers lacks size root entry fetched (client.BadTile level index width) served refused = (fetched, served, refused)
leaf_tiles answers lacks size root entry fetched (client.BadBundle _) served refused = refused
leaf_tiles answers lacks size root entry fetched (client.BadEntry _) served refused = refused
leaf_tiles answers lacks size root entry fetched client.Shrunk served refused = refused
leaf_tiles answers lacks size root entry fetched client.Forked served refused = refused
leaf_tiles answers lacks size root entry fetched client.OutOfMemory served refused = tt

-- ---- growth

-- a fault of making its proof
pub growth_refused : (answers : Resource → List ℕ → Type 0) (lacks : Resource → Type 0) (old new : Head) (fault : ClientFault) → new.size ≤ 2 ^ 62
    → RefusesProof answers lacks old.size new.size new.root fault → RefusesGrowth answers lacks old new fault
growth_refused answers lacks old new client.Range limit refused = absurd refused
growth_refused answers lacks old new client.Unavailable limit (between, wants) = ((between, limit), wants)
growth_refused answers lacks old new (client.BadTile level index width) limit (between, bad) = ((between, limit), bad)
growth_refused answers lacks old new (client.BadBundle _) limit refused = refused
growth_refused answers lacks old new (client.BadEntry _) limit refused = refused
growth_refused answers lacks old new client.Shrunk limit refused = absurd refused
growth_refused answers lacks old new client.Forked limit refused = absurd refused
growth_refused answers lacks old new client.OutOfMemory limit between = (between, limit)

-- ---- fetching a bundle

-- a fault of the source
pub source_refused : (answers : Resource → List ℕ → Type 0) (lacks : Resource → Type 0) (bundle width : ℕ) (fault : SourceFault)
    → (fault ≡ source.Unavailable → lacks (resource.Entries bundle width)) → RefusesBundle answers lacks bundle width (after_source fault)
source_refused answers lacks bundle width source.Unavailable gives = gives refl
source_refused answers lacks bundle width source.OutOfMemory gives = tt

-- a text that it answers and that is no bundle
pub text_refused : (A : Type 0) (answers : Resource → List ℕ → Type 0) (lacks : Resource → Type 0) (index width : ℕ) (text : List ℕ) (fault : BundleFault)
    → answers (resource.Entries index width) text → ReadsBundle {A = A} text width (Err fault) → RefusesBundle answers lacks index width (after_bundle index fault)
text_refused A answers lacks index width text bundle.EntryTooLong answered read = absurd read
text_refused A answers lacks index width text bundle.Truncated answered read = (refl, (text, answered, inl read))
text_refused A answers lacks index width text bundle.Trailing answered read = (refl, (text, answered, inr read))
text_refused A answers lacks index width text bundle.OutOfMemory answered read = tt
