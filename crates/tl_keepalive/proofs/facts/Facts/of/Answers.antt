use Rattle.std.proofs.Common.{ap, refl, ◌∙◌}
use Rattle.http1.specs.Framing.{method_kind}
use Rattle.tl_keepalive.proofs.Heads.{are_facts, nowhere}
use Rattle.tl_keepalive.proofs.facts.Facts.of.Goals as goal

pub returns-in_default : goal.returns-in_default
returns-in_default c = nowhere c.args.bytes.now c.min.result c.min.ensures c.in_default.ensures

pub returns : goal.returns
returns c =
    are_facts c.args.bytes.now c.min.result c.min.ensures c.spans_of.new.headers c.in-Some.spans c.spans_of.auto.headers c.in-Some.ensures.0 c.in-Some.ensures.1
    c.in-Some.spans.len c.in-Some.spans.version c.of-2.result c.from_spans.result refl refl (c.of-2.ensures ∙ ap method_kind c.of.ensures) c.from_spans.ensures
