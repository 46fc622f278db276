-- Fields of a chain line that are missing or malformed.
use Rattle.std.specs.Prelude.{◌≡◌, ◌≢◌, ℕ, List, length, All}
use Rattle.tl_hash.specs.Bytes.{Bytes, IsHash}
use Rattle.tl_text.specs.Text.{number_text, base64_text, IsSize}
use Rattle.tl_witness.specs.ChainLine.{ChainLine, IsChainLine}
use Rattle.tl_witness.specs.ChainFields.{field, hashes_before, chain_words, AreHashes}

abbrev pub HasNoNumber : Bytes → Type 0
HasNoNumber text = (n : ℕ) (rest : Bytes) → IsSize n → text ≢ field (number_text n) rest

abbrev pub HasNoHash : Bytes → Type 0
HasNoHash text = (hash rest : Bytes) → IsHash hash → text ≢ field (base64_text hash) rest

abbrev pub HasNoHashes : ℕ → Bytes → Type 0
HasNoHashes count text = (hashes : List Bytes) (rest : Bytes) → All IsHash hashes → length hashes ≡ count → text ≢ hashes_before hashes rest

-- the text begins with `count` fields that are hashes, and this follows
abbrev pub HasHashes : ℕ → Bytes → Bytes → Type 0
HasHashes count text rest = (hashes : List Bytes) × AreHashes count text hashes rest

-- these words are not those of a link's line
abbrev pub IsNoChainLine : Bytes → Type 0
IsNoChainLine words = (l : ChainLine) → IsChainLine l → words ≢ chain_words l
