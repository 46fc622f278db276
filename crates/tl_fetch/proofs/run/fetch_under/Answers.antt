use Rattle.std.proofs.Common.{inl, refl, sym, arith}
use Rattle.std.proofs.lemmas.Grind.{common_steps}
use Rattle.std.specs.Prelude.{◌≡◌, option_map}
use Rattle.tl_fetch.specs.Fetching.{grounds_of}
use Rattle.tl_fetch.specs.Inner.Judging.{two_of}
use Rattle.tl_fetch.proofs.Passages.{still}
use Rattle.tl_fetch.proofs.RunLemmas.{are_two, begun_two, fetched_two, refused_two}
use Rattle.tl_fetch.proofs.run.fetch_under.Goals as goal

pub returns-in-Err-clause-refused : goal.returns-in-Err-clause-refused
returns-in-Err-clause-refused g c = inl (c.in-Err.ensures.refused, c.in-Err.ensures.fair, (refl, refl), still _ _)

pub returns-in-Err-judge-clause-refused : goal.returns-in-Err-judge-clause-refused
returns-in-Err-judge-clause-refused g c =
    let last = option_map (λ s. s.now) c.as_deref.result in
    let grounds = grounds_of (g.S.ResourceSource.may_answer c.args.source.now) (g.S.ResourceSource.may_lack c.args.source.now) (g.K.TrustStore.may_have c.args.state.now) (g.K.TrustStore.may_fail c.args.state.now) (c.args.state.now ≡ c.args.state.now) (g.K.TrustStore.has_kept c.args.state.now) in
    let marks = grounds_of (g.S.ResourceSource.may_answer c.args.source.now) (g.S.ResourceSource.may_lack c.args.source.now) (g.C.TrustStore.may_have c.args.printed.now) (g.C.TrustStore.may_fail c.args.printed.now) (c.args.printed.now ≡ c.args.printed.now) (g.C.TrustStore.has_kept c.args.printed.now) in
    refused_two grounds marks _ c.args.wanted (two_of last c.in-Ok.both.0.head c.as_str.result.now c.in-Ok.both.1.head) c.in-Err-judge.fault _
    (are_two _ _ _ last _ _ _ _ _ c.as_deref.ensures.value (sym c.as_str.ensures.value) c.in-Ok.ensures.had c.in-Ok.ensures.known c.in-Ok.ensures.answered c.in-Ok.ensures.trusted)
    c.in-Err-judge.ensures.refused (refl, refl)

pub returns-in-Ok-fetch_grown-clause-fetched : goal.returns-in-Ok-fetch_grown-clause-fetched
returns-in-Ok-fetch_grown-clause-fetched g c =
    let last = option_map (λ s. s.now) c.as_deref.result in
    fetched_two (g.S.ResourceSource.may_answer c.args.source.now)
    (record { may_have = g.K.TrustStore.may_have c.args.state.now; has_kept = g.K.TrustStore.has_kept c.fetch_grown.new.state })
    (record { may_have = g.C.TrustStore.may_have c.args.printed.now; has_kept = g.C.TrustStore.has_kept c.fetch_grown.new.printed })
    _ c.args.wanted (two_of last c.in-Ok.both.0.head c.as_str.result.now c.in-Ok.both.1.head) _ _
    (are_two _ _ _ last _ _ _ _ _ c.as_deref.ensures.value (sym c.as_str.ensures.value) c.in-Ok.ensures.had c.in-Ok.ensures.known c.in-Ok.ensures.answered c.in-Ok.ensures.trusted)
    c.in_default.ensures.grown (record { bytes = refl; failed = refl }) c.in_default.ensures.silent c.in-Ok-fetch_grown.ensures.printed c.in-Ok-fetch_grown.ensures.kept

pub returns-clause-refused : goal.returns-clause-refused
returns-clause-refused g c =
    let last = option_map (λ s. s.now) c.as_deref.result in
    let grounds = grounds_of (g.S.ResourceSource.may_answer c.args.source.now) (g.S.ResourceSource.may_lack c.args.source.now) (g.K.TrustStore.may_have c.args.state.now) (g.K.TrustStore.may_fail c.args.state.now) (c.fetch_grown.new.state ≡ c.args.state.now) (g.K.TrustStore.has_kept c.fetch_grown.new.state) in
    let marks = grounds_of (g.S.ResourceSource.may_answer c.args.source.now) (g.S.ResourceSource.may_lack c.args.source.now) (g.C.TrustStore.may_have c.args.printed.now) (g.C.TrustStore.may_fail c.args.printed.now) (c.fetch_grown.new.printed ≡ c.args.printed.now) (g.C.TrustStore.has_kept c.fetch_grown.new.printed) in
    begun_two grounds marks _ c.args.wanted (two_of last c.in-Ok.both.0.head c.as_str.result.now c.in-Ok.both.1.head) c.in-Err-fetch_grown.fault _ _
    (are_two _ _ _ last _ _ _ _ _ c.as_deref.ensures.value (sym c.as_str.ensures.value) c.in-Ok.ensures.had c.in-Ok.ensures.known c.in-Ok.ensures.answered c.in-Ok.ensures.trusted)
    c.in_default.ensures.grown (record { bytes = refl; failed = refl }) c.in_default.ensures.silent c.in-Err-fetch_grown.ensures.refused

pub fetch_grown-requires-clause-known : goal.fetch_grown-requires-clause-known
fetch_grown-requires-clause-known g c = grind (arith, common_steps)

pub fetch_grown-requires-clause-trusted : goal.fetch_grown-requires-clause-trusted
fetch_grown-requires-clause-trusted g c = grind (arith, common_steps)
