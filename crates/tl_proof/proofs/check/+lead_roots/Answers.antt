use Rattle.std.proofs.Common.{◌<◌, ◌∙◌, sym, arith}
use Rattle.tl_proof.proofs.Checks.{lead_roots-none_same, lead_roots-none_unknown, lead_roots-none_differ, lead_roots-whole, lead_roots-left, lead_roots-right}
use Rattle.tl_proof.proofs.check.+lead_roots.Goals as goal
use Rattle.tl_proof.proofs.check.+lead_roots.Goals.{else-old-new-via-then-old-new+else-known, else-old-new-via-else-old-new}

pub returns-then-known : goal.returns-then-known
returns-then-known g t c =
    sym (lead_roots-none_same g.T.TreeHash.digest_of c.args.old c.args.new c.args.known c.args.proof.now c.args.root c.if-n-eq0.true c.if-old-new.true c.if-known.true)

pub returns-else-old-new : goal.returns-else-old-new
returns-else-old-new g t c =
    elim c.else-old-new.branch [
      | else-old-new-via-then-old-new+else-known w ↦ sym (lead_roots-none_unknown g.T.TreeHash.digest_of c.args.old c.args.new c.args.known c.args.proof.now c.args.root c.if-n-eq0.true w.if-known.false)
      | else-old-new-via-else-old-new w ↦ sym (lead_roots-none_differ g.T.TreeHash.digest_of c.args.old c.args.new c.args.known c.args.proof.now c.args.root c.if-n-eq0.true w.if-old-new.false)
    ]

pub returns-then-old-new-2 : goal.returns-then-old-new-2
returns-then-old-new-2 g t c =
    c.only_hash.ensures ∙ sym (lead_roots-whole g.T.TreeHash.digest_of c.args.old c.args.new c.args.known c.args.proof.now c.index-proof-n.result c.args.root c.if-n-eq0.false c.index-proof-n.is c.if-old-new-2.true)

pub returns-then-old-k : goal.returns-then-old-k
returns-then-old-k g t c =
    let step = lead_roots-left g.T.TreeHash.digest_of c.split_point-k.result c.args.old c.args.new c.args.known c.args.proof.now c.index-proof-n.result c.args.root c.if-n-eq0.false c.index-proof-n.is c.split_point-k.ensures c.if-old-k.true in
    rw c.lead_roots.ensures at c.join_new.ensures ∙ sym step

pub returns-else-old-k : goal.returns-else-old-k
returns-else-old-k g t c =
    let less : c.args.old < c.args.new = omega (arith, c.requires.most, c.if-old-new-2.false) in
    let step = lead_roots-right g.T.TreeHash.digest_of c.split_point-k.result c.args.old c.args.new c.args.known c.args.proof.now c.index-proof-n.result c.args.root c.if-n-eq0.false c.index-proof-n.is c.split_point-k.ensures c.if-old-k.false less in
    rw c.lead_roots-else-old-k.ensures at c.join_both.ensures ∙ sym step
