use Rattle.std.proofs.Common.{Bor, Global, List, Some, Vec, ap, refl, sym, vec_items, ◌∙◌, ◌≡◌, ℕ}
use Rattle.tl_device.specs.Device.{Counted}
use Rattle.tl_hash.specs.Bytes.{Bytes}
use Rattle.tl_keepalive.specs.Exchanges.{Exchanges}
use Rattle.tl_keepalive.proofs.Turning.{concluded, reads_last, wrote_all}
use Rattle.tl_keepalive.proofs.exchanges.Exchanges.answer_last.Goals as goal

pub returns : goal.returns
returns g c =
    let came : c.as_slice.result.now ≡ c.args.self.now.came = c.as_slice.ensures.value ∙ ap (λ (e : Exchanges). e.came) c.self.view_is in
    concluded _ _ c.args.may_stay c.args.self.now c.conclude.new.self _ _ (vec_items c.into_inner.result)
    (reads_last {D = Bor (List ℕ)} (λ b. Some b.now) c.new-reader.result c.answer-outcome.new.reader c.args.self.now c.answer-outcome.new.reader.device.now
    c.requires.ended (ap (λ (r : Counted (Bor (List ℕ))). Some r.device.now) c.new-reader.ensures ∙ ap (λ (l : Bytes). Some l) came) refl)
    c.requires.sent
    (wrote_all {D = Vec ℕ Global} (λ v. Some (vec_items v)) c.new-writer.result c.answer-outcome.new.writer (vec_items c.into_inner.result)
    (ap (λ (w : Counted (Vec ℕ Global)). Some (vec_items w.device)) c.new-writer.ensures ∙ ap (λ (l : Bytes). Some l) c.new.ensures.items)
    (ap (λ (v : Vec ℕ Global). Some (vec_items v)) (sym c.into_inner.ensures)))
    c.answer-outcome.result c.answer-outcome.ensures c.conclude.result c.conclude.ensures
