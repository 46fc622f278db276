use Rattle.std.proofs.Common.{ℕ, List, ◌++◌, ◌∙◌, ap, sym, arith}
use Rattle.std.proofs.lemmas.Grind.{common_steps}
use Rattle.std.specs.Prelude.{codes}
use Rattle.tl_witness.proofs.RequestLaws.{no_text, no_line, no_old, no_size, no_rest, made, request_of, parses_refused}
use Rattle.tl_witness.proofs.request.parse_request.Goals as goal

pub returns-in_default : goal.returns-in_default
returns-in_default g c = no_text c.args.body.now c.in_default.ensures.cases.0

pub returns-in_default-split_line : goal.returns-in_default-split_line
returns-in_default-split_line g c = no_line c.args.body.now c.in-Ok.text.now c.in-Ok.ensures.cases.0 c.in_default-split_line.ensures

pub returns-in_default-strip_prefix : goal.returns-in_default-strip_prefix
returns-in_default-strip_prefix g c =
    no_old c.args.body.now c.in-Ok.text.now c.in-Some.words.now c.in-Some.rest.now c.in-Ok.ensures.cases.0 c.in-Some.ensures.0 c.in-Some.ensures.1 c.in_default-strip_prefix.ensures.cases

pub returns-in_default-parse_size : goal.returns-in_default-parse_size
returns-in_default-parse_size g c =
    no_size c.args.body.now c.in-Ok.text.now c.in-Some.words.now c.in-Some.rest.now c.in-Some-strip_prefix.digits.now c.in-Ok.ensures.cases.0 c.in-Some.ensures.0 c.in-Some.ensures.1
    (c.in-Some-strip_prefix.ensures.cases.1.1 ∙ ap (λ (d : List ℕ). codes "old " ++ d) (sym c.in-Some-strip_prefix.ensures.cases.2)) c.in_default-parse_size.ensures

pub returns-in_default-cut_proof : goal.returns-in_default-cut_proof
returns-in_default-cut_proof g c = no_rest c.args.body.now c.in-Ok.text.now c.in-Some.words.now c.in-Some.rest.now c.in-Ok.ensures.cases.0 c.in-Some.ensures.0 c.in-Some.ensures.1 c.in_default-cut_proof.ensures

pub returns-in_err-proof : goal.returns-in_err-proof
returns-in_err-proof g c =
    let has = c.in-Some-cut_proof.ensures in
    let begins = c.in-Some-strip_prefix.ensures.cases.1.1 ∙ ap (λ (d : List ℕ). codes "old " ++ d) (sym c.in-Some-strip_prefix.ensures.cases.2) in
    let is = request_of c.args.body.now c.in-Ok.text.now c.in-Some.words.now c.in-Some.rest.now c.in-Some-strip_prefix.digits.now c.in-Some-parse_size.old has.0 c.in-Some-cut_proof.note.now c.in-Ok.ensures.cases.0 c.in-Some.ensures.1 begins c.in-Some-parse_size.ensures has.1 in
    parses_refused c.args.body.now (made c.in-Some-parse_size.old has.0 c.in-Some-cut_proof.note.now) c.from_residual.result c.from_residual.ensures.1 is (omega (arith, has.2, c.in_err-proof.ensures.refused))

pub returns : goal.returns
returns g c = grind (arith, common_steps)
