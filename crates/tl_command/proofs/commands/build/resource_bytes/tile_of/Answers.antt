use Rattle.std.proofs.Common.{◌+◌, ◌*◌, ◌∙◌, ap, arith}
use Rattle.sha2.specs.Sha256.{sha256}
use Rattle.tl_hash.specs.Tree.{tree_hash}
use Rattle.tl_tile.specs.TileText.{entries_under}
use Rattle.tl_command.proofs.TileHashes.{after_cut, one_more, under_cut}
use Rattle.tl_command.proofs.commands.build.resource_bytes.tile_of.Goals as goal

pub loop-place-preserved : goal.loop-place-preserved
loop-place-preserved g c =
    let place = c.args.tile.index * 256 + c.loop-place._place in
    let under = under_cut c.args.tile.level place c.pow-count.result c.args.lines.now c.loop-place.rest c.split-first.result.0
    c.pow-count.ensures c.loop-place.invariant.left c.split-first.ensures.first in
    record {
      hashes = one_more (λ i. tree_hash sha256 (entries_under c.args.tile.level (c.args.tile.index * 256 + i) c.args.lines.now)) c.loop-place._place c.loop-place.bytes.items _ _
          c.loop-place.invariant.hashes (c.as_bytes.ensures.value ∙ c.in_ok-hash.ensures ∙ ap (tree_hash sha256) under) c.in_ok-extend_from_slice.ensures.items;
      left = after_cut place (c.args.tile.index * 256 + (c.loop-place._place + 1)) c.pow-count.result c.args.lines.now c.loop-place.rest c.split-first.result.1
          (omega arith) c.loop-place.invariant.left c.split-first.ensures.others;
    }
