use Rattle.std.proofs.Common.{inl, refl, string_bytes, arith}
use Rattle.std.proofs.lemmas.Grind.{common_steps}
use Rattle.std.specs.Prelude.{◌≡◌, option_map}
use Rattle.tl_fetch.specs.Fetching.{grounds_of}
use Rattle.tl_fetch.specs.Inner.Judging.{two_of}
use Rattle.tl_fetch.proofs.Passages.{still}
use Rattle.tl_fetch.proofs.RunLemmas.{all_begun, all_printed, unmarked}
use Rattle.tl_fetch.proofs.run.fetch_all.Goals as goal

pub returns-in-Err-clause-refused : goal.returns-in-Err-clause-refused
returns-in-Err-clause-refused g c = inl (c.in-Err.ensures.refused, c.in-Err.ensures.fair, (refl, refl), still _ _)

pub returns-in-Err-judge_marked-clause-refused : goal.returns-in-Err-judge_marked-clause-refused
returns-in-Err-judge_marked-clause-refused g c =
    let step = c.args.step.now in
    let grounds = grounds_of (g.S.ResourceSource.may_answer c.args.source.now) (g.S.ResourceSource.may_lack c.args.source.now) (g.K.TrustStore.may_have c.args.state.now) (g.K.TrustStore.may_fail c.args.state.now) (c.args.state.now ≡ c.args.state.now) (g.K.TrustStore.has_kept c.args.state.now) in
    let marks = grounds_of (g.S.ResourceSource.may_answer c.args.source.now) (g.S.ResourceSource.may_lack c.args.source.now) (g.C.TrustStore.may_have c.args.printed.now) (g.C.TrustStore.may_fail c.args.printed.now) (c.args.printed.now ≡ c.args.printed.now) (g.C.TrustStore.has_kept c.args.printed.now) in
    unmarked grounds marks _ (two_of (option_map (λ s. s.now) step.last) step.old.now step.note.now step.new.now) (option_map (λ s. s.now) c.as_deref.result) _ c.in-Ok.mark.head c.in-Err-judge_marked.fault _
    c.as_deref.ensures.value c.in-Ok.ensures.had c.in-Ok.ensures.known c.requires.trusted c.in-Err-judge_marked.ensures.refused (refl, refl)

pub returns-in-Ok-print_and_keep-clause-printed : goal.returns-in-Ok-print_and_keep-clause-printed
returns-in-Ok-print_and_keep-clause-printed g c =
    let step = c.args.step.now in
    all_printed (g.C.TrustStore.may_have c.args.printed.now) (g.C.TrustStore.has_kept c.print_and_keep.new.printed) _ (two_of (option_map (λ s. s.now) step.last) step.old.now step.note.now step.new.now)
    (option_map string_bytes c.in-Ok.mark.note) c.in-Ok.mark.head c.first_of-from.result _ _ (record { bytes = refl; failed = refl }) c.in_default.ensures.silent
    (record { had = c.in-Ok.ensures.had; known = c.in-Ok.ensures.known; grown = c.in_default.ensures.grown }) c.first_of-from.ensures
    c.in-Ok-print_and_keep.ensures.printed c.in-Ok-print_and_keep.ensures.marked

pub returns-clause-refused : goal.returns-clause-refused
returns-clause-refused g c =
    let step = c.args.step.now in
    let grounds = grounds_of (g.S.ResourceSource.may_answer c.args.source.now) (g.S.ResourceSource.may_lack c.args.source.now) (g.K.TrustStore.may_have c.args.state.now) (g.K.TrustStore.may_fail c.args.state.now) (c.print_and_keep.new.state ≡ c.args.state.now) (g.K.TrustStore.has_kept c.print_and_keep.new.state) in
    let marks = grounds_of (g.S.ResourceSource.may_answer c.args.source.now) (g.S.ResourceSource.may_lack c.args.source.now) (g.C.TrustStore.may_have c.args.printed.now) (g.C.TrustStore.may_fail c.args.printed.now) (c.print_and_keep.new.printed ≡ c.args.printed.now) (g.C.TrustStore.has_kept c.print_and_keep.new.printed) in
    all_begun grounds marks _ (two_of (option_map (λ s. s.now) step.last) step.old.now step.note.now step.new.now)
    (option_map string_bytes c.in-Ok.mark.note) c.in-Ok.mark.head c.first_of-from.result c.in-Err-print_and_keep.fault _ _ (record { bytes = refl; failed = refl }) c.in_default.ensures.silent
    (record { had = c.in-Ok.ensures.had; known = c.in-Ok.ensures.known; grown = c.in_default.ensures.grown }) c.first_of-from.ensures c.in-Err-print_and_keep.ensures.refused

pub print_and_keep-requires-clause-marked : goal.print_and_keep-requires-clause-marked
print_and_keep-requires-clause-marked g c = grind (arith, common_steps)
