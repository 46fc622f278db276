use Rattle.std.proofs.Common.{inl, refl}
use Rattle.tl_archive.proofs.law.safe_shelf_is_complete.Goals as goal

pub returns : goal.returns
returns c = λ H history kept safe. safe kept.held (λ r. inl refl)
