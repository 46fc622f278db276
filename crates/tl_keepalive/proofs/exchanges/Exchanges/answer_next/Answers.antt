use Rattle.std.proofs.Common.{Global, Some, Vec, ap, refl, sym, vec_items, ◌++◌, ◌∙◌, ◌≡◌, ℕ}
use Rattle.tl_device.specs.Device.{Counted}
use Rattle.tl_hash.specs.Bytes.{Bytes}
use Rattle.tl_keepalive.specs.Exchanges.{Exchanges}
use Rattle.tl_keepalive.specs.Inner.Coming.{beyond}
use Rattle.tl_keepalive.specs.declared.partial.Partial.{Partial}
use Rattle.tl_keepalive.proofs.Turning.{concluded, reads_next, wrote_all}
use Rattle.tl_keepalive.proofs.exchanges.Exchanges.answer_next.Goals as goal

pub returns : goal.returns
returns g c =
    let came : c.new.result.bytes.now ≡ c.args.self.now.came = c.new.ensures ∙ (c.as_slice.ensures.value ∙ ap (λ (e : Exchanges). e.came) c.self.view_is) in
    concluded _ _ c.args.may_stay c.args.self.now c.conclude.new.self _ _ (vec_items c.into_inner-answer.result)
    (reads_next {D = Partial} (λ p. Some (p.bytes.now ++ beyond)) c.new-reader.result c.answer-outcome.new.reader c.args.self.now c.answer-outcome.new.reader.device.bytes.now
    (ap (λ (r : Counted Partial). Some (r.device.bytes.now ++ beyond)) c.new-reader.ensures ∙ ap (λ (l : Bytes). Some (l ++ beyond)) came) refl)
    c.requires.sent
    (wrote_all {D = Vec ℕ Global} (λ v. Some (vec_items v)) c.new-writer.result c.answer-outcome.new.writer (vec_items c.into_inner-answer.result)
    (ap (λ (w : Counted (Vec ℕ Global)). Some (vec_items w.device)) c.new-writer.ensures ∙ ap (λ (l : Bytes). Some l) c.new-2.ensures.items)
    (ap (λ (v : Vec ℕ Global). Some (vec_items v)) (sym c.into_inner-answer.ensures)))
    c.answer-outcome.result c.answer-outcome.ensures c.conclude.result c.conclude.ensures
