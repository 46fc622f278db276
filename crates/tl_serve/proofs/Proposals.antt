-- A log that has all of the proposal that is kept, on a shelf that is made of another.
use Rattle.std.proofs.Common.{◌≡◌, ◌∙◌, ◌⊎◌, ℕ, List, Option, inl, inr, sym}
use Rattle.tl_hash.specs.Bytes.{Bytes}
use Rattle.tl_archive.specs.Shelves.{Kept}
use Rattle.tl_run.specs.declared.keys.LogKey.{LogKey as GivenKey}
use Rattle.tl_append.specs.Running.{HasOwnProposal}
use Rattle.tl_serve.specs.Serving.{IsLeft}

pub newest_as : (given : GivenKey) (name : Bytes) (Made Given : Option Bytes → Type 0) (size : ℕ) (before after was is : Kept) (saw sees traced traces : List Kept)
    → before ≡ was → after ≡ is → saw ≡ traced → sees ≡ traces → ((note : Option Bytes) → Made note → Given note)
    → IsLeft (record { before = before; after = after; saw = saw; sees = sees }) ⊎ HasOwnProposal given name Made size
    → IsLeft (record { before = was; after = is; saw = traced; sees = traces }) ⊎ HasOwnProposal given name Given size
newest_as given name Made Given size before after was is saw sees traced traces e f g h keeps (inl left) =
    inl (record { kept = sym f ∙ (left.kept ∙ e); trace = sym h ∙ (left.trace ∙ g) })
newest_as given name Made Given size before after was is saw sees traced traces e f g h keeps (inr (signer, opener, are, (note, may, older))) =
    inr (signer, opener, are, (note, keeps note may, older))
