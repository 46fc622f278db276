-- Links that are saved, each by its line.
use Rattle.std.specs.Prelude.{List}
use Rattle.std.specs.List.{flat_map}
use Rattle.tl_hash.specs.Bytes.{Bytes}
use Rattle.tl_proof.specs.Acceptance.{Step}
use Rattle.tl_witness.specs.ChainLine.{ChainLine, chain_line}

-- a step of an origin
abbrev pub link_of : Bytes × Step → ChainLine
link_of l = record { origin = l.0; step = l.1 }

-- the lines of links, one after another
abbrev pub link_lines : List (Bytes × Step) → Bytes
link_lines links = flat_map (λ l. chain_line (link_of l)) links
