use Rattle.std.proofs.Common.{subst, length}
use Rattle.tl_command.proofs.NeededParts.{LiesIn, lies}
use Rattle.tl_command.proofs.commands.build.wanted_bytes.Goals as goal

pub tile_of-requires-clause-lawful : goal.tile_of-requires-clause-lawful
tile_of-requires-clause-lawful g c = λ lives bounds.
    let parts = subst (LiesIn (length c.args.lines.now)) c.in-Tile.is (lies (length c.args.lines.now) c.args.resource c.requires.few c.requires.served) in
    parts.0

pub tile_of-requires-clause-within : goal.tile_of-requires-clause-within
tile_of-requires-clause-within g c = λ lives bounds.
    let parts = subst (LiesIn (length c.args.lines.now)) c.in-Tile.is (lies (length c.args.lines.now) c.args.resource c.requires.few c.requires.served) in
    parts.1

pub bundle_of-requires-clause-some : goal.bundle_of-requires-clause-some
bundle_of-requires-clause-some g c =
    let parts = subst (LiesIn (length c.args.lines.now)) c.in-Entries.is (lies (length c.args.lines.now) c.args.resource c.requires.few c.requires.served) in
    parts.1

pub bundle_of-requires-clause-narrow : goal.bundle_of-requires-clause-narrow
bundle_of-requires-clause-narrow g c =
    let parts = subst (LiesIn (length c.args.lines.now)) c.in-Entries.is (lies (length c.args.lines.now) c.args.resource c.requires.few c.requires.served) in
    parts.2

pub bundle_of-requires-clause-within : goal.bundle_of-requires-clause-within
bundle_of-requires-clause-within g c =
    let parts = subst (LiesIn (length c.args.lines.now)) c.in-Entries.is (lies (length c.args.lines.now) c.args.resource c.requires.few c.requires.served) in
    parts.3
