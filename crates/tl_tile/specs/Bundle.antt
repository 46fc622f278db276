-- Entry bundles (C2SP tlog-tiles, "Log Entries").
use Rattle.std.specs.Prelude.{ℕ, ◌≤◌, ◌≡◌, ◌≢◌, List, [], ◌++◌, length, All}
use Rattle.std.specs.List.{flat_map}
use Rattle.std.specs.Int.{w16, to_be_bytes}
use Rattle.tl_hash.specs.Bytes.{Bytes}

-- an entry after its length, in 16 bits, big-endian
abbrev pub bundled_entry : Bytes → Bytes
bundled_entry entry = to_be_bytes w16 (length entry) ++ entry

-- the entries, one after another
abbrev pub bundle_text : List Bytes → Bytes
bundle_text entries = flat_map bundled_entry entries

-- the length of the longest entry, in bytes: the length has 16 bits
abbrev pub most_entry : ℕ
most_entry = 65535

-- an entry that a bundle can hold
abbrev pub IsShortEntry : Bytes → Type 0
IsShortEntry entry = length entry ≤ most_entry

-- entries that a bundle can hold
abbrev pub AreShortEntries : List Bytes → Type 0
AreShortEntries entries = All IsShortEntry entries

-- front is the beginning of whole, and not all of it
pub record IsProperPrefix (front whole : Bytes) : Type 0 where
  pub rest : Bytes
  pub joined : whole ≡ front ++ rest
  pub more : rest ≢ []

-- the bytes end within an entry
abbrev pub IsPartialEntry : Bytes → Type 0
IsPartialEntry bytes = (entry : Bytes) × IsShortEntry entry × IsProperPrefix bytes (bundled_entry entry)

-- the entries of a bundle of this width
pub record AreEntries (width : ℕ) (entries : List Bytes) : Type 0 where
  pub short : AreShortEntries entries
  pub count : length entries ≡ width

-- the bytes are a bundle of this many entries
abbrev pub IsBundle : Bytes → ℕ → Type 0
IsBundle bytes width = (entries : List Bytes) × AreEntries width entries × (bytes ≡ bundle_text entries)

-- the bytes end within a bundle of this many entries
abbrev pub IsTruncated : Bytes → ℕ → Type 0
IsTruncated bytes width = (entries : List Bytes) × AreEntries width entries × IsProperPrefix bytes (bundle_text entries)

-- the bytes go on after a bundle of this many entries
abbrev pub HasTrailing : Bytes → ℕ → Type 0
HasTrailing bytes width = (entries : List Bytes) × AreEntries width entries × IsProperPrefix (bundle_text entries) bytes
