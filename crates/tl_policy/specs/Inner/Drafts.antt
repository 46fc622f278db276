-- A draft, as what it says.
use Rattle.tl_policy.specs.declared.draft.Draft.{Draft}
use Rattle.tl_policy.specs.ReadPolicy as spec
use Rattle.tl_policy.specs.Terms.{terms_of}

abbrev pub draft_of : {A : Type 0} → Draft A → spec.Draft
draft_of d = record { terms = terms_of d.policy; has_quorum = d.has_quorum }
