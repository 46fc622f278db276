-- Where the first field of a text ends, and texts that begin with no number or no hash.
use Rattle.std.proofs.Common.{◌≡◌, ◌∙◌, ap, ℕ, List, arith, Option, Bor}
use Rattle.std.specs.Prelude.{MatchOption, Some, None}
use Rattle.std.proofs.lemmas.Str.Pattern.{IsSplitOnceResult, split_after, split_parts}
use Rattle.tl_hash.specs.Bytes.{IsHash}
use Rattle.tl_text.specs.Text.{number_text, base64_text, IsSize}
use Rattle.tl_text.specs.Pieces.{IsNoSize, IsNoHash}
use Rattle.tl_witness.specs.ChainFields.{IsWithout, field}
use Rattle.tl_witness.specs.Inner.ChainFields.{HasNoNumber, HasNoHash}
use Rattle.tl_witness.proofs.FieldTexts.{without_space, number_visible, base64_visible}

-- what is before and after the first space of a text that begins with a field
pub field_parts : (text words rest : List ℕ) (r : Option (Bor (List ℕ) × Bor (List ℕ))) → IsSplitOnceResult 32 text r → IsWithout 32 words → text ≡ field words rest
    → MatchOption r ⊥ (λ x. (x.0.now ≡ words) × (x.1.now ≡ rest))
field_parts text words rest r split plain e = split_after 32 text words rest r split (omega arith) e (λ i lt. plain i 0 lt)

pub number_without : (n : ℕ) → IsSize n → IsWithout 32 (number_text n)
number_without n small = without_space (number_text n) (number_visible n small)

pub hash_without : (hash : List ℕ) → IsHash hash → IsWithout 32 (base64_text hash)
hash_without hash is = without_space (base64_text hash) (base64_visible hash is.bytes)

pub no_number_field : (text : List ℕ) → IsSplitOnceResult 32 text None → HasNoNumber text
no_number_field text split = λ n rest small e. field_parts text (number_text n) rest None split (number_without n small) e

pub no_number : (text : List ℕ) (words rest : Bor (List ℕ)) → IsSplitOnceResult 32 text (Some (words, rest)) → IsNoSize words.now → HasNoNumber text
no_number text words rest split none = λ n after small e.
    none n small (field_parts text (number_text n) after (Some (words, rest)) split (number_without n small) e).0

pub no_hash_field : (text : List ℕ) → IsSplitOnceResult 32 text None → HasNoHash text
no_hash_field text split = λ hash rest is e. field_parts text (base64_text hash) rest None split (hash_without hash is) e

pub no_hash : (text : List ℕ) (words rest : Bor (List ℕ)) → IsSplitOnceResult 32 text (Some (words, rest)) → IsNoHash words.now → HasNoHash text
no_hash text words rest split none = λ hash after is e.
    none hash is (field_parts text (base64_text hash) after (Some (words, rest)) split (hash_without hash is) e).0

-- a text whose first words are known is a field of them
pub known_field : (text known : List ℕ) (words rest : Bor (List ℕ)) → IsSplitOnceResult 32 text (Some (words, rest)) → words.now ≡ known → text ≡ field known rest.now
known_field text known words rest split is = (split_parts 32 text (Some (words, rest)) split (omega arith)).0 ∙ ap (λ (t : List ℕ). field t rest.now) is
