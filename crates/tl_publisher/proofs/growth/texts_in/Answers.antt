use Rattle.std.proofs.Common.{◌≡◌, ◌<◌, ◌+◌, ◌++◌, ◌∷◌, ◌∙◌, [], ℕ, List, ap, append-nil, arith, get_or, length, sym, take}
use Rattle.std.proofs.lemmas.Grind.{flat_map-append}
use Rattle.std.proofs.lemmas.List.{take_all, take_more}
use Rattle.tl_publisher.specs.Grown.{texts_of}
use Rattle.tl_publisher.proofs.growth.texts_in.Goals as goal

-- the texts of one batch more
batch_more : (waiting : List (List (List ℕ))) (i : ℕ) (b before after : List (List ℕ)) → i < length waiting → b ≡ get_or waiting i b → before ≡ texts_of (take i waiting) → after ≡ before ++ b
    → after ≡ texts_of (take (i + 1) waiting)
batch_more waiting i b before after less at so_far pushed =
    let own : List (List ℕ) = get_or waiting i b in
    let more = ap texts_of (take_more waiting i b less) ∙ flat_map-append (λ batch. batch) (take i waiting) (own ∷ []) ∙ ap (λ t. texts_of (take i waiting) ++ t) (append-nil own ∙ sym at) in
    pushed ∙ ap (λ t. t ++ b) so_far ∙ sym more

pub loop-batch-preserved : goal.loop-batch-preserved
loop-batch-preserved g c =
    batch_more c.deref-batch-items.result.now c.loop-batch.batch-index c.batch-item.result c.loop-batch.texts.items c.put.new.out.items c.loop-batch-test.true c.batch-item.is c.loop-batch.invariant
    c.in_ok-put.ensures

pub returns : goal.returns
returns g c =
    let waiting = c.deref-batch-items.result.now in
    c.loop-batch.invariant ∙ ap texts_of (take_all c.loop-batch.batch-index waiting (omega (arith, c.loop-batch-test.false)) ∙ c.deref-batch-items.ensures.value)
