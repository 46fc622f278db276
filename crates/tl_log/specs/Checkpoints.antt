-- The checkpoint of a log of some entries (C2SP tlog-checkpoint).
use Rattle.std.specs.Prelude.{ℕ, List, [], length}
use Rattle.sha2.specs.Sha256.{sha256}
use Rattle.tl_hash.specs.Tree.{tree_hash}
use Rattle.tl_checkpoint.specs.Checkpoint.{Head, checkpoint_text}

-- its origin, size and root
abbrev pub head_of_log : List ℕ → List (List ℕ) → Head
head_of_log origin entries =
    record { origin = origin; size = length entries; root = tree_hash sha256 entries; extensions = [] }

-- its text
abbrev pub text_of_log : List ℕ → List (List ℕ) → List ℕ
text_of_log origin entries = checkpoint_text (head_of_log origin entries)
