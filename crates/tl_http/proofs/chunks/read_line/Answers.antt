use Rattle.std.proofs.Common.{[], Err, inl, inr, refl, arith}
use Rattle.std.proofs.lemmas.Grind.{common_steps}
use Rattle.tl_http.specs.Response.{LineDecides}
use Rattle.tl_http.specs.declared.fault.HttpFault.TheVariants.{BadChunk, Short}
use Rattle.tl_http.proofs.ChunkLineLemmas.{lacks_on, line_taken}
use Rattle.tl_http.proofs.TakingLemmas.{decided, decided_at_end, took_more}
use Rattle.tl_http.proofs.chunks.read_line.Goals as goal

pub returns-in-Whole : goal.returns-in-Whole
returns-in-Whole g c =
    let old = c.args.reader.now in
    let new = c.loop-len.reader in
    line_taken (g.I.Read.remaining old.device) (g.I.Read.remaining new.device) old.failed new.failed c.args.window.now c.loop-len.window c.bytes.result.now
    c.skip.new.self c.in-Whole.len c.in-Whole.size c.loop-len.invariant c.bytes.ensures c.in-Whole.ensures c.skip.ensures

pub returns-in-Ended : goal.returns-in-Ended
returns-in-Ended g c =
    let old = c.args.reader.now in
    let mid = c.loop-len.reader in
    let new = c.fill.new.reader in
    let cut = rw c.bytes.ensures at c.in-Cut.ensures in
    decided_at_end LineDecides (Err Short) (g.I.Read.remaining old.device) (g.I.Read.remaining mid.device) (g.I.Read.remaining new.device) old.failed mid.failed new.failed
    c.args.window.now c.loop-len.window [] c.loop-len.invariant c.in-Ended.ensures.0 (inl (refl, cut))

pub loop-len-preserved : goal.loop-len-preserved
loop-len-preserved g c =
    let old = c.args.reader.now in
    let mid = c.loop-len.reader in
    let new = c.fill.new.reader in
    took_more (g.I.Read.remaining old.device) (g.I.Read.remaining mid.device) (g.I.Read.remaining new.device) old.failed mid.failed new.failed
    c.args.window.now c.loop-len.window c.fill.new.self [] c.loop-len.invariant c.in-More.ensures

pub returns-in-Lacking : goal.returns-in-Lacking
returns-in-Lacking g c =
    let old = c.args.reader.now in
    let new = c.loop-len.reader in
    let lacks = rw c.bytes.ensures at c.in-Lacking.ensures in
    decided LineDecides (Err BadChunk) (g.I.Read.remaining old.device) (g.I.Read.remaining new.device) old.failed new.failed c.args.window.now c.loop-len.window []
    c.loop-len.invariant (λ rest. inr (refl, lacks_on c.loop-len.window rest lacks))

pub loop-len-smaller : goal.loop-len-smaller
loop-len-smaller g c = grind (arith, common_steps)
