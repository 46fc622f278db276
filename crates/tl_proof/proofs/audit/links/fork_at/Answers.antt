use Rattle.std.proofs.Common.{sym, ap, map, vec_items, length, ◌∙◌, arith}
use Rattle.std.proofs.lemmas.List.{length-take-le, get_or_default}
use Rattle.tl_hash.specs.Tree.{tree_hash}
use Rattle.tl_proof.specs.Acceptance.{step_of}
use Rattle.tl_proof.proofs.Chains.{sizes_at, fork_at-of}
use Rattle.tl_proof.proofs.audit.links.fork_at.Goals as goal

pub slice_bounds-fork_in_link-end : goal.slice_bounds-fork_in_link-end
slice_bounds-fork_in_link-end g c =
    let sizes = sizes_at step_of g.T.TreeHash.digest_of c.args.links.now c.args.index c.index-links-index.result c.args.old c.args.old_root
    (length c.args.new.now) (tree_hash g.T.TreeHash.digest_of (map vec_items c.args.new.now)) c.requires.within c.requires.linked c.requires.ends in
    sym (length-take-le _ c.args.new.now sizes.1)

pub fork_in_link-requires : goal.fork_in_link-requires
fork_in_link-requires g c =
    let sizes = sizes_at step_of g.T.TreeHash.digest_of c.args.links.now c.args.index c.index-links-index.result c.args.old c.args.old_root
    (length c.args.new.now) (tree_hash g.T.TreeHash.digest_of (map vec_items c.args.new.now)) c.requires.within c.requires.linked c.requires.ends in
    omega (arith, length-take-le _ c.args.new.now sizes.1, sizes.0, c.end_after-size.ensures.size)

pub returns : goal.returns
returns g c =
    let same = get_or_default c.args.links.now c.args.index c.index-links-index-2.result c.index-links-index.result c.requires.within in
    fork_at-of step_of vec_items g.T.TreeHash.digest_of c.args.links.now c.args.new.now c.args.index c.index-links-index.result c.args.old c.args.old_root
    c.as_slice.result.now c.end_after-size.result.0 c.end_after-size.result.1 c.fork_in_link.result
    c.requires.within c.requires.linked c.requires.ends c.requires.root (c.as_slice.ensures ∙ ap (λ link. (step_of link).proof) same) c.end_after-size.ensures.size c.end_after-size.ensures.root c.fork_in_link.ensures
