-- A key under the name that it had when the book was opened.
use Rattle.std.proofs.Common.{◌≡◌, ℕ, List, ap}
use Rattle.tl_note.specs.Key.{SigningKey, named_key}

-- a key under its own name
pub same_key : (name : List ℕ) (key : SigningKey) → name ≡ key.name → named_key name key ≡ key
same_key name key same = ap (λ (n : List ℕ). named_key n key) same
