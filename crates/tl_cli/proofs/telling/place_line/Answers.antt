use Rattle.std.proofs.Common.{string_bytes}
use Rattle.tl_cli.specs.Named.{base_of}
use Rattle.tl_cli.proofs.Tellings.{line_under}
use Rattle.tl_cli.proofs.telling.place_line.Goals as goal

pub returns : goal.returns
returns g c =
    line_under string_bytes c.line_at-2.result (base_of c.args.job.now c.args.place) c.in-Some.base.now c.args.place c.resource_of.result c.args.words.now c.as_str-2.result.now
    (string_bytes c.in_ok-path.path) c.in-Some.ensures c.resource_of.ensures c.in_ok-path.ensures c.as_str-2.ensures.value c.line_at-2.ensures
