-- Faults found in the lines that a witness answered with.
use Rattle.std.proofs.Common.{◌≡◌, ◌⊎◌, inl, inr, subst, sym}
use Rattle.tl_hash.specs.Bytes.{Bytes}
use Rattle.tl_hash.specs.declared.head.Head.{Head}
use Rattle.tl_feed.specs.declared.fault.AskFault.TheVariants.{OutOfMemory}
use Rattle.tl_tile.specs.declared.resource.Resource.{Resource}
use Rattle.tl_feed.specs.Refusing.{IsFairlyTold}
use Rattle.tl_feed.specs.declared.unasked.Unasked.{Unasked}
use Rattle.tl_feed.specs.declared.unasked.Unasked.TheVariants.{Ask, Other}

-- a failed allocation or lines of something else may always be the fault
pub fair_of_lines : {None : Type 0} (answers : Resource → Bytes → Type 0) (lacks : Resource → Type 0) (head : Head) (why : Unasked) → (why ≡ Ask OutOfMemory) ⊎ ((why ≡ Other) × None)
    → IsFairlyTold answers lacks head why
fair_of_lines answers lacks head why (inl memory) = subst (IsFairlyTold answers lacks head) (sym memory) tt
fair_of_lines answers lacks head why (inr (other, none)) = subst (IsFairlyTold answers lacks head) (sym other) tt
