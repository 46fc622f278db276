-- Lines that wait for a writer: what a thread that waits for one has to do.
use Rattle.std.specs.Prelude.{◌≡◌, ℕ, true, false, [], Some, slice_get}
use Rattle.tl_serve.specs.declared.queue.Waiting.{Waiting}
use Rattle.tl_serve.specs.declared.queue.Kept.{Kept}
use Rattle.tl_serve.specs.declared.queue.Step.{Step}
use Rattle.tl_serve.specs.declared.queue.Step.TheVariants.{Fetch, Fail, Write}

-- it fetches the link that was written for its ticket; or it fails, since a write has; or it writes all lines that
-- wait, and those that come later wait for the next thread that writes
abbrev pub Steps : ℕ → Waiting → Waiting → Step → Type 0
Steps ticket old new (Fetch link) =
    (kept : Kept) × (place : ℕ) × (slice_get old.kept.items place ≡ Some kept) × (kept.ticket ≡ ticket) × (kept.link ≡ link) × (new.batch ≡ old.batch)
Steps ticket old new Fail = (old.has_failed ≡ true) × (new ≡ old)
Steps ticket old new (Write batch) =
    (old.has_failed ≡ false) × (batch ≡ old.batch) × (new.batch.lines.items ≡ []) × (new.kept ≡ old.kept) × (new.is_writing ≡ true)
