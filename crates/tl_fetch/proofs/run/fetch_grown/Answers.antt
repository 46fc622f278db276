use Rattle.std.specs.Prelude.{◌≡◌, option_map}
use Rattle.tl_fetch.specs.Fetching.{grounds_of}
use Rattle.tl_fetch.specs.Inner.Judging.{two_of}
use Rattle.tl_fetch.proofs.RunLemmas.{other_printed, other_refused}
use Rattle.tl_fetch.proofs.run.fetch_grown.Goals as goal

pub returns-in_default-clause-printed : goal.returns-in_default-clause-printed
returns-in_default-clause-printed g c =
    let step = c.args.step.now in
    other_printed (g.C.TrustStore.may_have c.args.printed.now) (g.C.TrustStore.has_kept c.args.printed.now) _ (two_of (option_map (λ s. s.now) step.last) step.old.now step.note.now step.new.now) c.args.wanted
    c.keep_and_print.result _ c.in_default.not-All c.keep_and_print.ensures.printed

pub returns-in_default-clause-refused : goal.returns-in_default-clause-refused
returns-in_default-clause-refused g c =
    let step = c.args.step.now in
    let grounds = grounds_of (g.S.ResourceSource.may_answer c.args.source.now) (g.S.ResourceSource.may_lack c.args.source.now) (g.K.TrustStore.may_have c.args.state.now) (g.K.TrustStore.may_fail c.args.state.now) (c.keep_and_print.new.state ≡ c.args.state.now) (g.K.TrustStore.has_kept c.keep_and_print.new.state) in
    let marks = grounds_of (g.S.ResourceSource.may_answer c.args.source.now) (g.S.ResourceSource.may_lack c.args.source.now) (g.C.TrustStore.may_have c.args.printed.now) (g.C.TrustStore.may_fail c.args.printed.now) (c.args.printed.now ≡ c.args.printed.now) (g.C.TrustStore.has_kept c.args.printed.now) in
    other_refused grounds marks _ (two_of (option_map (λ s. s.now) step.last) step.old.now step.note.now step.new.now) c.args.wanted
    c.keep_and_print.result _ c.in_default.not-All c.keep_and_print.ensures.refused

pub returns-in-All-clause-printed : goal.returns-in-All-clause-printed
returns-in-All-clause-printed g c = rw (c.in-All.is) c.fetch_all.ensures.printed

pub returns-in-All-clause-refused : goal.returns-in-All-clause-refused
returns-in-All-clause-refused g c = rw (c.in-All.is) c.fetch_all.ensures.refused
