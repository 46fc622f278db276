-- One hash over neighbouring hashes.
use Rattle.std.specs.Prelude.{◌≡◌, ◌*◌, List, [], ◌∷◌, ◌++◌}
use Rattle.tl_hash.specs.Bytes.{Bytes, Digest}
use Rattle.tl_hash.specs.Tree.{tree_hash}
use Rattle.tl_tile.specs.Inner.Run.{part, Run, IsRun}

-- for each run with these hashes, the last one among them, this is the hash over the whole run
abbrev pub FoldsTo : Digest → List Bytes → Bytes → Type 0
FoldsTo H hashes hash = (entries : List Bytes) (run : Run) (front : List Bytes) (last : Bytes) → hashes ≡ front ++ last ∷ []
    → IsRun H entries run front last → hash ≡ tree_hash H (part (run.place * run.width) run.end entries)
