use Rattle.std.proofs.Common.{rules}
use Rattle.tl_logs.proofs.OneLineLaws.{chain_read, line_read, link_read, refuses_line}
use Rattle.tl_logs.proofs.one_line.read_link.Goals as goal

pub returns-in-Err : goal.returns-in-Err
returns-in-Err g c = λ words plain cut. refuses_line g.row.A.Denot words c.args.line.now c.in-Err.fault plain cut c.in-Err.ensures

pub returns-in_default : goal.returns-in_default
returns-in_default g c = λ words plain cut. absurd (chain_read c.args.line.now words c.in-Ok.chains.items c.in-Ok.ensures plain cut (search rules))

pub returns-in_default-pop : goal.returns-in_default-pop
returns-in_default-pop g c = λ words plain cut.
    absurd (link_read c.args.line.now words c.in-Ok.chains.items c.pop.new.self.items c.in-Some.origin c.in-Some.links c.in-Ok.ensures plain cut c.in-Some.ensures.items (search rules))

pub returns : goal.returns
returns g c = λ words plain cut.
    line_read c.args.line.now words c.in-Ok.chains.items c.pop.new.self.items c.in-Some.origin c.in-Some.links c.pop-2.new.self.items c.in-Some-pop.link c.in-Ok.ensures plain cut
    c.in-Some.ensures.items c.in-Some-pop.ensures.items
