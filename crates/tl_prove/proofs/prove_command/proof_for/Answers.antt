use Rattle.std.proofs.Common.{ap, inl, option_map, refl, string_bytes, subst, sym, vec_items}
use Rattle.tl_source.specs.Sources.{origin_of}
use Rattle.tl_prove.specs.Entry.{IsGiven}
use Rattle.tl_prove.specs.ProveCommand.{IsRequested, text_of}
use Rattle.tl_prove.specs.declared.proving.Wanted.TheVariants as wanted
use Rattle.tl_prove.proofs.CommandRuns.{bad_address, proves_for}
use Rattle.tl_prove.proofs.prove_command.proof_for.Goals as goal

pub returns-in-Err : goal.returns-in-Err
returns-in-Err g c = inl (bad_address (string_bytes c.args.options.now.from) c.as_str-from.result.now c.in-Err.fault c.as_str-from.ensures.value c.in-Err.ensures.refused)

pub returns-in-Index : goal.returns-in-Index
returns-in-Index g c =
    let asked = wanted.Index c.in-Index.index in
    proves_for c.args.options.now c.args.text.now (option_map vec_items c.args.extra) c.as_str-from.result.now (origin_of c.in-Ok.source) (origin_of c.new-source.result) asked (text_of c.prove_by.result)
    c.as_str-from.ensures.value c.in-Ok.ensures.found (ap origin_of c.new-source.ensures)
    (subst (λ w. IsRequested w asked) (sym c.in-Index.is) refl)
    c.prove_by.ensures

pub returns-in-Ok-given_entry : goal.returns-in-Ok-given_entry
returns-in-Ok-given_entry g c =
    let asked = wanted.Entry c.as_slice.result in
    proves_for c.args.options.now c.args.text.now (option_map vec_items c.args.extra) c.as_str-from.result.now (origin_of c.in-Ok.source) (origin_of c.new-source.result) asked (text_of c.prove_by-in-Ok-given_entry.result)
    c.as_str-from.ensures.value c.in-Ok.ensures.found (ap origin_of c.new-source.ensures)
    (subst (λ w. IsRequested w asked) (sym c.in-Entry.is)
    (subst (IsGiven c.in-Entry.entry) (sym c.as_slice.ensures.value) c.in-Ok-given_entry.ensures.given))
    c.prove_by-in-Ok-given_entry.ensures
