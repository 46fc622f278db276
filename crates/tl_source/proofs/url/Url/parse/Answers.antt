use Rattle.std.proofs.Common.{List, ℕ, ◌++◌, sym, ap, ◌∙◌, arith}
use Rattle.std.proofs.lemmas.Grind.{common_steps}
use Rattle.std.specs.Prelude.{codes}
use Rattle.tl_source.proofs.Urls.{no_url}
use Rattle.tl_source.proofs.url.Url.parse.Goals as goal

pub returns-in_default-host_of : goal.returns-in_default-host_of
returns-in_default-host_of c =
    let stripped = c.in-Some.ensures.cases in
    no_url c.args.text.now c.in-Some.rest.now _ _ (stripped.1.1 ∙ sym (ap (λ (t : List ℕ). codes "http://" ++ t) stripped.2))
    c.cut_at.ensures.joined c.cut_at.ensures.front c.cut_at.ensures.rest c.in_default-host_of.ensures

pub returns : goal.returns
returns c = grind (arith, common_steps)
