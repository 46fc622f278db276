-- What finding the origin of a body answers.
use Rattle.std.proofs.Common.{◌≡◌, ℕ, List, Some, refl, slice_get, sym, ap, subst}
use Rattle.std.specs.Prelude.{IsUtf8}
use Rattle.tl_proof.specs.Acceptance.{Step}
use Rattle.tl_witness.specs.declared.finding.Found.{Found}
use Rattle.tl_witness.specs.Book.{Signed, IsSigned, asked_of}
use Rattle.tl_witness.specs.ChainLine.{IsChainLine}
use Rattle.tl_witness.specs.Decide.{Asked}
use Rattle.tl_witness.specs.Inner.Finding.{IsFound}
use Rattle.tl_witness.specs.Inner.Offer.{asked_by}
use Rattle.tl_witness.specs.Request.{Body, IsRequest}
use Rattle.tl_witness.proofs.LineOf.{line_of}

-- for a request whose note is a checkpoint the position of its origin is found
pub leads_there : {A : Type 0} (body : List ℕ) (origins : List (List ℕ)) (found : Found A) (request : Body) (signed : Signed) → IsRequest body request → IsSigned request.note signed
    → IsUtf8 signed.head.origin → slice_get origins found.place ≡ Some signed.head.origin → ((time : ℕ) → asked_by found.offer time ≡ asked_of request signed time)
    → IsFound body origins found
leads_there body origins found request signed reads note utf8 there asks = record {
  request = request;
  signed = signed;
  reads = reads;
  note = note;
  there = there;
  asks = asks;
  line = subst (λ (s : Step). IsChainLine (record { origin = signed.head.origin; step = s })) (sym (ap (λ (a : Asked). a.step) (asks 0)))
      (line_of signed.head.origin request signed 0 reads.lawful note.head utf8 refl);
}
