use Rattle.std.proofs.Common.{Some, ap, ◌∙◌}
use Rattle.tl_publisher.specs.Stages.{visible}
use Rattle.tl_publisher.proofs.Shows.{shown_rising, found_is}
use Rattle.tl_publisher.proofs.reader.bytes_of.Goals as goal

pub found-requires : goal.found-requires
found-requires g c = shown_rising (visible c.args.copy.now) c.requires

pub returns-in_ok-from_slice-in-Some-clause-bytes : goal.returns-in_ok-from_slice-in-Some-clause-bytes
returns-in_ok-from_slice-in-Some-clause-bytes g c =
    ap Some c.in_ok-from_slice-in-Some.ensures.items ∙ c.in-Some.ensures ∙ found_is (visible c.args.copy.now) c.args.resource c.requires
