use Rattle.std.proofs.Common.{inl, refl, sym, arith}
use Rattle.std.proofs.lemmas.Grind.{common_steps}
use Rattle.std.specs.Prelude.{◌≡◌, option_map}
use Rattle.tl_fetch.specs.Fetching.{grounds_of}
use Rattle.tl_fetch.specs.Inner.Judging.{two_of}
use Rattle.tl_fetch.proofs.FeedLemmas.{fed_two, refused_feed, unfed_two}
use Rattle.tl_fetch.proofs.Passages.{still}
use Rattle.tl_fetch.proofs.RunLemmas.{are_two}
use Rattle.tl_fetch.proofs.feed.feeding.feed_under.Goals as goal

pub returns-in-Err-clause-refused : goal.returns-in-Err-clause-refused
returns-in-Err-clause-refused g c = inl (c.in-Err.ensures.refused, c.in-Err.ensures.fair, refl, still _ _)

pub returns-in-Err-judge-clause-refused : goal.returns-in-Err-judge-clause-refused
returns-in-Err-judge-clause-refused g c =
    let last = option_map (λ s. s.now) c.as_deref.result in
    let grounds = grounds_of (g.S.ResourceSource.may_answer c.args.source.now) (g.S.ResourceSource.may_lack c.args.source.now) (g.K.TrustStore.may_have c.args.state.now) (g.K.TrustStore.may_fail c.args.state.now) (c.args.state.now ≡ c.args.state.now) (g.K.TrustStore.has_kept c.args.state.now) in
    refused_feed grounds _ (two_of last c.in-Ok.both.0.head c.as_str.result.now c.in-Ok.both.1.head) c.in-Err-judge.fault _
    (are_two _ _ _ last _ _ _ _ _ c.as_deref.ensures.value (sym c.as_str.ensures.value) c.in-Ok.ensures.had c.in-Ok.ensures.known c.in-Ok.ensures.answered c.in-Ok.ensures.trusted)
    c.in-Err-judge.ensures.refused refl

pub returns-in-Ok-keep_and_feed-clause-fed : goal.returns-in-Ok-keep_and_feed-clause-fed
returns-in-Ok-keep_and_feed-clause-fed g c =
    let last = option_map (λ s. s.now) c.as_deref.result in
    let two = two_of last c.in-Ok.both.0.head c.as_str.result.now c.in-Ok.both.1.head in (
      two,
      are_two _ _ _ last _ _ _ _ _ c.as_deref.ensures.value (sym c.as_str.ensures.value) c.in-Ok.ensures.had c.in-Ok.ensures.known c.in-Ok.ensures.answered c.in-Ok.ensures.trusted,
      fed_two (g.K.TrustStore.has_kept c.keep_and_feed.new.state) _ two _ _ c.in_default.ensures.grown (record { bytes = refl; failed = refl }) c.in_default.ensures.silent
          c.in-Ok-keep_and_feed.ensures.kept c.in-Ok-keep_and_feed.ensures.printed,
    )

pub returns-clause-refused : goal.returns-clause-refused
returns-clause-refused g c =
    let last = option_map (λ s. s.now) c.as_deref.result in
    let grounds = grounds_of (g.S.ResourceSource.may_answer c.args.source.now) (g.S.ResourceSource.may_lack c.args.source.now) (g.K.TrustStore.may_have c.args.state.now) (g.K.TrustStore.may_fail c.args.state.now) (c.keep_and_feed.new.state ≡ c.args.state.now) (g.K.TrustStore.has_kept c.keep_and_feed.new.state) in
    unfed_two grounds _ (two_of last c.in-Ok.both.0.head c.as_str.result.now c.in-Ok.both.1.head) c.in-Err-keep_and_feed.fault _ _
    (are_two _ _ _ last _ _ _ _ _ c.as_deref.ensures.value (sym c.as_str.ensures.value) c.in-Ok.ensures.had c.in-Ok.ensures.known c.in-Ok.ensures.answered c.in-Ok.ensures.trusted)
    (record { bytes = refl; failed = refl }) c.in_default.ensures.silent c.in-Err-keep_and_feed.ensures.refused

pub keep_and_feed-requires-clause-known : goal.keep_and_feed-requires-clause-known
keep_and_feed-requires-clause-known g c = grind (arith, common_steps)

pub keep_and_feed-requires-clause-trusted : goal.keep_and_feed-requires-clause-trusted
keep_and_feed-requires-clause-trusted g c = grind (arith, common_steps)

pub returns-clause-fed : goal.returns-clause-fed
returns-clause-fed g c = grind (arith, common_steps)

pub returns-in-Ok-keep_and_feed-clause-refused : goal.returns-in-Ok-keep_and_feed-clause-refused
returns-in-Ok-keep_and_feed-clause-refused g c = grind (arith, common_steps)
