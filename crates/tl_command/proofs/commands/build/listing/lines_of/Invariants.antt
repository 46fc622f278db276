use Rattle.std.proofs.Common.{◌≡◌, ◌<◌, ◌^◌, List, ℕ, take, length, string_bytes, All}
use Rattle.std.specs.Prelude.{Contains}
use Rattle.tl_command.specs.Inner.BundleLengths.{AreBundleLengths}
use Rattle.tl_command.specs.Mirror.{listing_text, mirrored}
use Rattle.tl_command.proofs.commands.build.listing.lines_of.Given as goal

-- the lines of the resources so far
abbrev pub invariant-loop-resource : goal.invariant-loop-resource
invariant-loop-resource g l = (entries : List (List ℕ)) → length entries < 2 ^ 32 → AreBundleLengths l.lengths entries → All (Contains (mirrored (length entries))) l.resources
    → string_bytes l.out ≡ listing_text l.note entries (take l.resource-index l.resources)
