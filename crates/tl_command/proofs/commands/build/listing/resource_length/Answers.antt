use Rattle.std.proofs.Common.{◌∙◌, sym, ap, subst, length}
use Rattle.std.specs.Prelude.{Contains}
use Rattle.sha2.specs.Sha256.{sha256}
use Rattle.tl_hash.specs.Sha256Length.{length-sha256}
use Rattle.tl_tile.proofs.HonestSource.{length-tile_text}
use Rattle.tl_command.specs.Mirror.{mirrored, resource_text}
use Rattle.tl_command.proofs.Lengths.{bundle_has}
use Rattle.tl_command.proofs.commands.build.listing.resource_length.Goals as goal

pub returns-in-Tile : goal.returns-in-Tile
returns-in-Tile c = λ entries small are has.
    sym (length-tile_text sha256 length-sha256 c.in-Tile.tile entries) ∙ ap (λ r. length (resource_text c.args.note.now entries r)) (sym c.in-Tile.is)

pub returns-in-Entries : goal.returns-in-Entries
returns-in-Entries c = λ entries small are has.
    bundle_has c.args.lengths.now entries c.in-Entries.index c.in-Entries.width small are (subst (Contains (mirrored (length entries))) c.in-Entries.is has)
    ∙ ap (λ r. length (resource_text c.args.note.now entries r)) (sym c.in-Entries.is)
