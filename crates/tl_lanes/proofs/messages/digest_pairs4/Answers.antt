use Rattle.std.proofs.Common.{◌∷◌, ◌∙◌, List, ℕ, ap}
use Rattle.sha2.specs.Sha256.{sha256}
use Rattle.tl_lanes.proofs.LaneLemmas.{below_four}
use Rattle.tl_lanes.proofs.messages.digest_pairs4.Goals as goal

pub returns : goal.returns
returns c =
    let tagged = λ (m : List ℕ). sha256 (c.args.tag ∷ m) in
    let digests = c.four_digests.ensures in
    below_four _
    (digests.a ∙ ap tagged c.joined-a.ensures)
    (digests.b ∙ ap tagged c.joined-b.ensures)
    (digests.c ∙ ap tagged c.joined-c.ensures)
    (digests.d ∙ ap tagged c.joined-d.ensures)
