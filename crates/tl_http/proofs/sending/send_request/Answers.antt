use Rattle.std.proofs.Common.{OnErr, OnOk, List, ℕ, subst}
use Rattle.tl_device.specs.Device.{passage, WroteWhole, WrotePart}
use Rattle.tl_http.proofs.RequestLemmas.{request_in_pieces}
use Rattle.tl_http.proofs.sending.send_request.Goals as goal

pub returns-clause-whole : goal.returns-clause-whole
returns-clause-whole g c =
    subst (λ (text : List ℕ). OnOk c.write_pieces.result (WroteWhole (passage g.W.Write.contents c.args.writer.now c.write_pieces.new.writer) text))
    (request_in_pieces c.args.host.now c.args.target.now) c.write_pieces.ensures.whole

pub returns-clause-part : goal.returns-clause-part
returns-clause-part g c =
    subst (λ (text : List ℕ). OnErr c.write_pieces.result (WrotePart (passage g.W.Write.contents c.args.writer.now c.write_pieces.new.writer) text))
    (request_in_pieces c.args.host.now c.args.target.now) c.write_pieces.ensures.part
