use Rattle.tl_witness.proofs.SignedLaws.{no_signed}
use Rattle.tl_witness.proofs.SignedFaults.{signed_fault}
use Rattle.tl_witness.proofs.request.read_signed.Goals as goal

pub returns-in-Err-parse : goal.returns-in-Err-parse
returns-in-Err-parse g c =
    signed_fault g.row.A.Denot c.args.bytes.now _ c.fault_of.result c.fault_of.ensures
    (λ other. no_signed g.row.A.Denot c.args.bytes.now c.in-Ok.note.text.now c.in-Ok.note.signatures.items c.in-Err-parse.fault c.in-Ok.ensures c.in-Err-parse.ensures other)
