-- The paths in a folder: of each resource, of the mark, and of folders.
use Rattle.std.specs.Prelude.{ℕ, [], ◌∷◌, ◌++◌, codes, decimal}
use Rattle.tl_tile.specs.declared.resource.Resource.{Resource}
use Rattle.tl_tile.specs.Path.{path_text}
use Rattle.tl_folder.specs.Step.{Path, Bytes}

-- the path of a resource in the folder with this path
abbrev pub place_of : Path → Resource → Path
place_of root resource = root ++ 47 ∷ [] ++ path_text resource

-- the path of the mark in the folder with this path
abbrev pub mark_path : Path → Path
mark_path root = root ++ 47 ∷ [] ++ codes "published"

-- the folder of the partial ones of a full tile or bundle, in the folder with this path
abbrev pub partials_path : Path → Resource → Path
partials_path root full = place_of root full ++ codes ".p"

-- the path to which the folder of partial ones is moved before it is removed, in the folder with this path
abbrev pub removed_path : Path → Path
removed_path root = root ++ 47 ∷ [] ++ codes "removed"

-- the bytes of the mark: how many entries were published, in decimal, and a newline
abbrev pub mark_text : ℕ → Bytes
mark_text size = decimal size ++ 10 ∷ []
