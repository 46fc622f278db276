use Rattle.std.proofs.Common.{inl, inr}
use Rattle.sha2.specs.Sha256.{sha256}
use Rattle.tl_tile.specs.Verified.{AreVerified}
use Rattle.tl_tile.proofs.Push.{not_same}
use Rattle.tl_fetch.proofs.judging.check_grown.Goals as goal

pub passed-requires : goal.passed-requires
passed-requires g c =
    elim c.in_ok-_proof.ensures.passed.passed as (λ _. AreVerified sha256 c.args.new.now.size c.args.new.now.root c.prove_growth.new.fetched) [
      | inl none ↦ absurd (not_same _ (c.is_empty.ensures.1 none) c.if-not-is_empty.true)
      | inr verified ↦ verified
    ]
