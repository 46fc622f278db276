use Rattle.std.proofs.Common.{◌∙◌, sym, ap, vec_items, map, subst, All, arith}
use Rattle.std.proofs.lemmas.Grind.{common_steps}
use Rattle.std.proofs.lemmas.List.Elements.{All-push}
use Rattle.tl_hash.specs.Bytes.{IsHash}
use Rattle.tl_text.specs.Text.{base64_text}
use Rattle.tl_command.proofs.HashLines.{one_more, none_at}
use Rattle.tl_command.proofs.lines.hashes_of.Goals as goal

pub returns-in_default-clause-hashes : goal.returns-in_default-clause-hashes
returns-in_default-clause-hashes g c =
    none_at vec_items base64_text IsHash c.args.lines.now c.loop-line.line-index c.line-item.result c.loop-line-test.true c.line-item.is
    (λ value fits e. c.in_default.ensures value fits (c.as_slice.ensures.value ∙ e))

pub loop-line-preserved : goal.loop-line-preserved
loop-line-preserved g c =
    let found = c.in-Some.ensures in
    record {
      lawful = subst (All IsHash) (sym c.in_ok-push.ensures.items) (All-push IsHash c.loop-line.hashes.items c.in-Some.hash c.loop-line.invariant.lawful found.0);
      spelled = one_more vec_items base64_text c.args.lines.now c.loop-line.line-index c.line-item.result c.loop-line.hashes.items c.in-Some.hash c.loop-line-test.true c.line-item.is
          c.loop-line.invariant.spelled (sym c.as_slice.ensures.value ∙ found.1) ∙ ap (map base64_text) (sym c.in_ok-push.ensures.items);
    }

pub returns-clause-hashes : goal.returns-clause-hashes
returns-clause-hashes g c = grind (arith, common_steps)

pub returns-in_default-clause-memory : goal.returns-in_default-clause-memory
returns-in_default-clause-memory g c = grind (arith, common_steps)
