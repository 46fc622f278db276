use Rattle.std.proofs.Common.{subst, sym, ◌∙◌}
use Rattle.tl_tile.specs.declared.resource.Resource.TheVariants as resource
use Rattle.tl_client.proofs.Blamed.{source_refused, text_refused}
use Rattle.tl_client.proofs.Failing.{fault_on}
use Rattle.tl_client.proofs.entries.fetch_bundle.Goals as goal

pub get-requires : goal.get-requires
get-requires g c = (c.requires.index, c.requires.some, c.requires.most)

pub returns-in_err-bytes-clause-refused : goal.returns-in_err-bytes-clause-refused
returns-in_err-bytes-clause-refused g c =
    fault_on _ c.from_residual.result _ c.from_residual.ensures.1
    (source_refused (g.S.ResourceSource.may_answer c.args.source.now) (g.S.ResourceSource.may_lack c.args.source.now) c.args.bundle c.args.width c.in_err-bytes.field-0.0
    c.in_err-bytes.ensures.lacks)

pub returns-in-Ok-clause-entries : goal.returns-in-Ok-clause-entries
returns-in-Ok-clause-entries g c = c.in-Ok.ensures.0

pub returns-in-Ok-clause-answered : goal.returns-in-Ok-clause-answered
returns-in-Ok-clause-answered g c =
    subst (g.S.ResourceSource.may_answer c.args.source.now (resource.Entries c.args.bundle c.args.width)) (sym c.deref.ensures.value ∙ c.in-Ok.ensures.1) c.in_ok-bytes.ensures.text

pub returns-clause-refused : goal.returns-clause-refused
returns-clause-refused g c =
    rw (c.bundle_fault.ensures)
    (text_refused g.row.A.Denot (g.S.ResourceSource.may_answer c.args.source.now) (g.S.ResourceSource.may_lack c.args.source.now) c.args.bundle c.args.width c.deref.result.now c.in-Err.fault
    (subst (g.S.ResourceSource.may_answer c.args.source.now (resource.Entries c.args.bundle c.args.width)) (sym c.deref.ensures.value) c.in_ok-bytes.ensures.text) c.in-Err.ensures)
