-- What writing and reading a bundle return.
use Rattle.std.specs.Prelude.{ℕ, ◌≡◌, ◌<◌, List, length, Result, Ok, Err, Any, map, vec_items}
use Rattle.std.specs.declared.vec.Vec.{Vec}
use Rattle.tl_hash.specs.Bytes.{Bytes}
use Rattle.tl_tile.specs.declared.bundle.BundleFault.{BundleFault}
use Rattle.tl_tile.specs.declared.bundle.BundleFault.TheVariants.{EntryTooLong, Truncated, Trailing, OutOfMemory}
use Rattle.tl_tile.specs.Bundle.{most_entry, bundle_text, AreShortEntries, AreEntries, IsBundle, IsTruncated, HasTrailing}

-- the text, or that an entry is too long; memory is allocated only if none is
abbrev pub WritesBundle : {A : Type 0} → List Bytes → Result (Vec ℕ A) BundleFault → Type 0
WritesBundle entries (Ok text) = AreShortEntries entries × (text.items ≡ bundle_text entries)
WritesBundle entries (Err EntryTooLong) = Any (λ entry. most_entry < length entry) entries
WritesBundle entries (Err Truncated) = ⊥
WritesBundle entries (Err Trailing) = ⊥
WritesBundle entries (Err OutOfMemory) = AreShortEntries entries

-- the bytes are a bundle of this many entries, or end too early, or go on after it
abbrev pub ChecksBundle : {X : Type 0} → Bytes → ℕ → Result X BundleFault → Type 0
ChecksBundle bytes width (Ok _) = IsBundle bytes width
ChecksBundle bytes width (Err EntryTooLong) = ⊥
ChecksBundle bytes width (Err Truncated) = IsTruncated bytes width
ChecksBundle bytes width (Err Trailing) = HasTrailing bytes width
ChecksBundle bytes width (Err OutOfMemory) = ⊥

-- the entries of the bundle that the bytes are, or that they end too early, or go on after it; memory is allocated
-- only if they are a bundle
abbrev pub ReadsBundle : {A : Type 0} → Bytes → ℕ → Result (Vec (Vec ℕ A) A) BundleFault → Type 0
ReadsBundle bytes width (Ok entries) = AreEntries width (map vec_items entries.items) × (bytes ≡ bundle_text (map vec_items entries.items))
ReadsBundle bytes width (Err EntryTooLong) = ⊥
ReadsBundle bytes width (Err Truncated) = IsTruncated bytes width
ReadsBundle bytes width (Err Trailing) = HasTrailing bytes width
ReadsBundle bytes width (Err OutOfMemory) = IsBundle bytes width
