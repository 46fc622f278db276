-- The entry that the options of a command give.
use Rattle.std.specs.Prelude.{◌≡◌, ℕ, List, ◌++◌, [], codes, Option, None, Some, Result, Ok, Err, option_map, string_bytes}
use Rattle.hex.specs.Hex.{encode_lower}
use Rattle.sha2.specs.Sha256.{sha256}
use Rattle.tl_hash.specs.Bytes.{Bytes}
use Rattle.tl_device.specs.Device.{Passage, HasFailed, ReadPast, ReadWhole}
use Rattle.tl_device.specs.declared.counted.InputFault.{InputFault}
use Rattle.tl_device.specs.declared.counted.InputFault.TheVariants.{Read, TooLarge, OutOfMemory}
use Rattle.tl_prove.specs.declared.options.EntryOptions.{EntryOptions}
use Rattle.tl_prove.specs.declared.options.EntryOptions.TheVariants.{Text, File, Digest}

-- a space and a name, if there is one
abbrev pub name_words : Option Bytes → Bytes
name_words None = []
name_words (Some name) = codes " " ++ name

-- the entry that stands for a file: SHA-256 of its bytes in hexadecimal, and a name
abbrev pub digest_entry : Bytes → Option Bytes → Bytes
digest_entry bytes name = codes "sha256 " ++ encode_lower (sha256 bytes) ++ name_words name

-- the entry that is given: a text, the bytes of a file, or what stands for a file
abbrev pub IsGiven : EntryOptions → Bytes → Type 0
IsGiven (Text text) entry = entry ≡ string_bytes text
IsGiven (File path) entry = Unit {0}
IsGiven (Digest file name) entry = (bytes : Bytes) × (entry ≡ digest_entry bytes (option_map string_bytes name))

-- the most bytes that are hashed, 2^62
abbrev pub most_digested : ℕ
most_digested = 4611686018427387904

-- hashing all that a reader gives
abbrev pub DigestsWhole : Passage → Result (List ℕ) InputFault → Type 0
DigestsWhole p (Ok digest) = (bytes : Bytes) × ReadWhole p most_digested bytes × (digest ≡ sha256 bytes)
DigestsWhole p (Err Read) = HasFailed p
DigestsWhole p (Err TooLarge) = ReadPast p most_digested
DigestsWhole p (Err OutOfMemory) = ⊥
