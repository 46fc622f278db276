-- An entry that is accepted is in the list.
use Rattle.std.proofs.Common.{[], sym, ap, ◌∙◌, inl, inr, Some}
use Rattle.std.proofs.lemmas.Option.{slice_get-get_or}
use Rattle.tl_proof.specs.Acceptance.{AcceptsInclusion}
use Rattle.tl_proof.proofs.Soundness.{inclusion_shows_entry}
use Rattle.tl_offline.specs.CheckEntry.{AcceptedEntriesAreListed}

pub accepted_is_listed : AcceptedEntriesAreListed
unfolding AcceptsInclusion
accepted_is_listed H digests p entries entry is accepted =
    elim (inclusion_shows_entry H digests entries p.index entry p.hashes (λ k d lt. (is.hashes k d lt).length) accepted) [
      | inl same ↦ inl (slice_get-get_or entries p.index [] accepted.0 ∙ ap Some (sym same))
      | inr collision ↦ inr collision
    ]
