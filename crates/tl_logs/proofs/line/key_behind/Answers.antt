use Rattle.std.proofs.Common.{◌≡◌, true, false, refl, sym, subst, Some, None}
use Rattle.tl_note.specs.Key.{IsKeyName}
use Rattle.tl_logs.proofs.LineLaws.{behind, name_parts}
use Rattle.tl_logs.proofs.line.key_behind.Goals as goal

pub returns-in_default : goal.returns-in_default
returns-in_default g c = λ k is. name_parts c.args.text.now None k is c.in_default.ensures.cases

pub returns-then-not-is_key_name : goal.returns-then-not-is_key_name
returns-then-not-is_key_name g c = λ k is.
    let parts = name_parts c.args.text.now (Some (c.in-Some.name, c.in-Some.key)) k is c.in-Some.ensures.cases in
    let t : false ≡ true = c.if-not-is_key_name.ensures.1 (subst IsKeyName (sym parts.0) is.1) in
    cc

pub returns : goal.returns
returns g c =
    behind g.row.A.Denot c.args.text.now c.in-Some.name c.in-Some.key c.key_under.result c.in-Some.ensures.cases (c.if-not-is_key_name.ensures.0 refl) c.key_under.ensures
