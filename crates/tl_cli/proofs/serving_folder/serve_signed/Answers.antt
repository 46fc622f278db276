use Rattle.std.proofs.Common.{◌≡◌, ◌∙◌, ◌⊎◌, List, inl, inr, sym}
use Rattle.tl_archive.specs.Shelves.{Kept}
use Rattle.tl_serve.specs.Serving.{IsLeft}
use Rattle.tl_cli.proofs.serving_folder.serve_signed.Goals as goal

-- if nothing was written to a shelf that is made of another, nothing was written to that
left_as : {Begins : Type 0} (before after was is : Kept) (saw sees traced traces : List Kept) → before ≡ was → after ≡ is → saw ≡ traced → sees ≡ traces
    → IsLeft (record { before = before; after = after; saw = saw; sees = sees }) ⊎ Begins
    → IsLeft (record { before = was; after = is; saw = traced; sees = traces }) ⊎ Begins
left_as before after was is saw sees traced traces e f g h (inl left) =
    inl (record { kept = sym f ∙ (left.kept ∙ e); trace = sym h ∙ (left.trace ∙ g) })
left_as before after was is saw sees traced traces e f g h (inr begins) = inr begins

pub returns-clause-begins : goal.returns-clause-begins
returns-clause-begins g c =
    left_as _ _ _ _ _ _ _ _ c.new-signed.ensures.kept (sym c.into_shelf-shelf.ensures.kept) c.new-signed.ensures.trace (sym c.into_shelf-shelf.ensures.trace)
    c.run_serve_shelf-shelf.ensures.fresh
