use Rattle.std.proofs.Common.{◌≡◌, List, ℕ, true, false, subst, Err, arith}
use Rattle.std.proofs.lemmas.Grind.{common_steps}
use Rattle.tl_logs.specs.Inner.Lines.{ReadsNamed}
use Rattle.tl_logs.proofs.LineLaws.{line_refused}
use Rattle.tl_logs.proofs.line.read_line.Goals as goal

pub returns-in-Err : goal.returns-in-Err
returns-in-Err g c =
    line_refused g.row.A.Denot c.args.words.now c.in-Err.fault c.in-Ok.ensures.cases.1 (λ over. let t : false ≡ true = c.if-is_passed_over.ensures.1 over in absurd cc)
    (subst (λ (t : List ℕ). ReadsNamed {A = g.row.A.Denot} t (Err c.in-Err.fault)) c.in-Ok.ensures.cases.0 c.in-Err.ensures)

pub returns-in-Ok-key_in : goal.returns-in-Ok-key_in
returns-in-Ok-key_in g c = grind (arith, common_steps)
