use Rattle.std.proofs.Common.{◌≡◌, ◌⊎◌, inl, inr, length, vec_items}
use Rattle.std.proofs.lemmas.List.{take_rest}
use Rattle.tl_proof.proofs.Forks.{check_walk-of, check_walk-first, check_walk-rest, leads_nowhere-first, leads_nowhere-rest}
use Rattle.tl_proof.proofs.audit.link_walk.+walk_check.Goals as goal
use Rattle.tl_proof.proofs.audit.link_walk.+walk_check.Goals.{then-n-eq0-via-then-n-eq0, then-n-eq0-via-else-n-eq0+then-old-list}

pub returns-then-n-eq0 : goal.returns-then-n-eq0
returns-then-n-eq0 g t c =
    let whole : (length c.args.proof.now ≡ 0) ⊎ (c.args.old ≡ length c.args.list.now) =
    elim c.then-n-eq0.branch [
      | then-n-eq0-via-then-n-eq0 w ↦ inl w.if-n-eq0.true
      | then-n-eq0-via-else-n-eq0+then-old-list w ↦ inr w.if-old-list.true
    ] in
    check_walk-of vec_items g.T.TreeHash.digest_of c.args.old c.args.known c.args.proof.now c.args.root c.args.list.now
    c.entry_root.result c.walk_of.result c.lead_roots-roots.result whole c.entry_root.ensures c.lead_roots-roots.ensures c.walk_of.ensures

pub returns-in-Some : goal.returns-in-Some
returns-in-Some g t c =
    let right = rw (take_rest c.args.list.now c.split_point-k.result) at c.entry_root-right.ensures in
    let over = c.over_left.ensures in
    check_walk-first vec_items g.T.TreeHash.digest_of c.split_point-k.result c.args.old c.args.known c.args.proof.now c.index-proof-n.result c.args.root c.args.list.now
    c.entry_root-right.result c.in-Some.below c.over_left.result c.if-n-eq0.false c.index-proof-n.is c.split_point-k.ensures c.if-old-k.true
    c.in-Some.ensures right over.old over.new over.list over.fork

pub returns-in-None : goal.returns-in-None
returns-in-None g t c =
    leads_nowhere-first vec_items g.T.TreeHash.digest_of c.split_point-k.result c.args.old c.args.known c.args.proof.now c.index-proof-n.result c.args.root c.args.list.now
    c.if-n-eq0.false c.index-proof-n.is c.split_point-k.ensures c.if-old-k.true c.in-None.ensures

pub returns-in-Some-walk_check : goal.returns-in-Some-walk_check
returns-in-Some-walk_check g t c =
    let under = rw (take_rest c.args.list.now c.split_point-k.result) at c.in-Some-walk_check.ensures in
    let over = c.over_right.ensures in
    check_walk-rest vec_items g.T.TreeHash.digest_of c.split_point-k.result c.args.old c.args.known c.args.proof.now c.index-proof-n.result c.args.root c.args.list.now
    c.entry_root-left.result c.in-Some-walk_check.below c.over_right.result c.if-n-eq0.false c.index-proof-n.is c.split_point-k.ensures c.if-old-k.false c.requires.most c.if-old-list.false
    under c.entry_root-left.ensures over.old over.new over.list over.fork

pub returns-in-None-walk_check : goal.returns-in-None-walk_check
returns-in-None-walk_check g t c =
    let under = rw (take_rest c.args.list.now c.split_point-k.result) at c.in-None-walk_check.ensures in
    leads_nowhere-rest vec_items g.T.TreeHash.digest_of c.split_point-k.result c.args.old c.args.known c.args.proof.now c.index-proof-n.result c.args.root c.args.list.now
    c.if-n-eq0.false c.index-proof-n.is c.split_point-k.ensures c.if-old-k.false c.requires.most c.if-old-list.false under
