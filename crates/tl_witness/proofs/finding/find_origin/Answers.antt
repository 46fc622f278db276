use Rattle.tl_witness.specs.ReadRequest.{body_of}
use Rattle.tl_witness.specs.Inner.ReadSigned.{signed_of}
use Rattle.tl_witness.proofs.FindingLaws.{leads_there}
use Rattle.tl_witness.proofs.finding.find_origin.Goals as goal

pub returns-in_default : goal.returns-in_default
returns-in_default g c = record {
  request = body_of c.in-Ok.request;
  signed = signed_of c.in-Ok-read_signed.signed;
  reads = c.in-Ok.ensures;
  note = c.in-Ok-read_signed.ensures;
  nowhere = rw c.as_str.ensures.value at c.in_default.ensures.none;
}

pub returns : goal.returns
returns g c =
    let utf8 = rw c.as_str.ensures.value at c.as_str.utf8 in
    let there = rw c.as_str.ensures.value at c.in-Some.ensures.found in
    leads_there c.args.body.now _ (record { place = c.in-Some.place; offer = c.offer_of.result }) (body_of c.in-Ok.request) (signed_of c.in-Ok-read_signed.signed)
    c.in-Ok.ensures c.in-Ok-read_signed.ensures utf8 there c.offer_of.ensures
