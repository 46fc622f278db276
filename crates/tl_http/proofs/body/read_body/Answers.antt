use Rattle.std.proofs.Common.{[], arith, false, inl, inr, refl}
use Rattle.tl_device.proofs.ReadLemmas.{gave_none}
use Rattle.tl_http.proofs.body.read_body.Goals as goal

pub returns-in-Sized-clause-decides : goal.returns-in-Sized-clause-decides
returns-in-Sized-clause-decides g c = inr (record {
  bytes = [];
  ended = false;
  gave = gave_none _ _;
  so = λ rest may. rw c.in-Sized.is (inl ((λ fits. absurd (omega (arith, fits, c.if-n-limit.true))), refl));
})

pub returns-in-Chunked-clause-decides : goal.returns-in-Chunked-clause-decides
returns-in-Chunked-clause-decides g c = rw c.in-Chunked.is c.read_chunks.ensures
