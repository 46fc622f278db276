-- An entry of a bundle that isn't the log's.
use Rattle.std.proofs.Common.{◌≡◌, ◌≢◌, ◌⊎◌, ℕ, ◌+◌, ◌-◌, ◌*◌, ◌<◌, ◌≤◌, List, [], slice_index_or, sym, subst, arith}
use Rattle.sha2.specs.Sha256.{sha256}
use Rattle.tl_tile.specs.declared.resource.Resource.{Resource}
use Rattle.tl_tile.specs.declared.resource.Resource.TheVariants as resource
use Rattle.tl_tile.specs.Bundle.{AreEntries, bundle_text}
use Rattle.tl_tile.specs.Fetched.{tiles_of}
use Rattle.tl_tile.specs.Folds.{TilesCollide}
use Rattle.tl_tile.specs.Needed.{bundle_width}
use Rattle.tl_tile.specs.TileReader.{AreAuthentic}
use Rattle.tl_tile.specs.Verified.{AreVerified}
use Rattle.tl_client.specs.Blame.{leaf_reading}
use Rattle.tl_client.specs.Bundles.{HasBundle}
use Rattle.tl_client.specs.Refused.{BundleRead, RefusesEntries}
use Rattle.tl_client.specs.Inner.Leaves.{IsOfOne}
use Rattle.tl_client.specs.declared.fault.ClientFault.{ClientFault}
use Rattle.tl_client.proofs.SameEntries.{other_entry}

-- an entry that isn't the log's is one of the bundle
pub other_refused : (answers : Resource → List ℕ → Type 0) (lacks : Resource → Type 0) (read : BundleRead) (width : ℕ) (entries leaves : List (List ℕ)) (fault : ClientFault) → HasBundle read.size read.bundle
    → width ≡ bundle_width read.size read.bundle → 256 * read.bundle + width ≤ read.size → AreEntries width entries → answers (resource.Entries read.bundle width) (bundle_text entries)
    → AreVerified sha256 read.size read.root read.fetched → AreAuthentic sha256 (leaf_reading read.size read.root (256 * read.bundle) width read.fetched) leaves
    → IsOfOne (256 * read.bundle) entries leaves fault → RefusesEntries answers lacks read fault
other_refused answers lacks read width entries leaves fault has is inside are answered verified authentic one =
    let less : one.place < width = omega (arith, one.below, are.count) in
    let at : 256 * read.bundle + one.place - 256 * read.bundle ≡ one.place = omega arith in
    subst (RefusesEntries answers lacks read) (sym one.named) (
      has,
      record { from = omega arith; below = omega (arith, less, is) },
      verified,
      (
        entries,
        subst (λ (w : ℕ). AreEntries w entries) is are,
        subst (λ (w : ℕ). answers (resource.Entries read.bundle w) (bundle_text entries)) is answered,
        λ all sized rooted.
            subst (λ (p : ℕ). (slice_index_or entries p [] ≢ slice_index_or all (256 * read.bundle + one.place) []) ⊎ TilesCollide sha256 (tiles_of read.fetched) read.size all) (sym at)
            (other_entry sha256 (256 * read.bundle) width read.size read.root read.fetched entries leaves one.place inside less authentic one.other all sized rooted),
      ),
    )
