-- The laws as definitions, for proofs.
use Rattle.std.specs.Prelude.{◌≡◌, ℕ, List, All}
use Rattle.std.specs.List.{flat_map}
use Rattle.base64.specs.GeneralPurpose.{IsBytes}
use Rattle.tl_hash.specs.Bytes.{Bytes}
use Rattle.tl_text.specs.Text.{line, number_text, base64_text, HasNoControl, IsSize}

-- two numbers with the same text are the same
abbrev pub NumbersHaveOneText : Type 0
NumbersHaveOneText = (m n : ℕ) → IsSize m → IsSize n → number_text m ≡ number_text n → m ≡ n

-- two byte strings with the same base64 are the same
abbrev pub BytesHaveOneText : Type 0
BytesHaveOneText = (a b : Bytes) → IsBytes a → IsBytes b → base64_text a ≡ base64_text b → a ≡ b

-- two lists of lines that make the same text are the same
abbrev pub LinesHaveOneText : Type 0
LinesHaveOneText = (xs ys : List Bytes) → All HasNoControl xs → All HasNoControl ys → flat_map line xs ≡ flat_map line ys → xs ≡ ys
