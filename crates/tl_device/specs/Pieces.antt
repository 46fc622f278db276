-- Texts in pieces.
use Rattle.std.specs.Prelude.{ℕ, List}
use Rattle.std.specs.List.{flat_map}

-- the pieces, one after another
abbrev pub pieces_text : {X : Type 0} → (X → List ℕ) → List X → List ℕ
pieces_text text pieces = flat_map text pieces
