use Rattle.std.proofs.Common.{slice_index_or, ℕ, List, [], Some, refl, sym, ap, ◌∙◌, arith}
use Rattle.std.proofs.lemmas.List.{get_or_default}
use Rattle.tl_records.proofs.LaneSteps.{lane-up, leaves-lead}
use Rattle.tl_records.proofs.checking.+lead_four.Goals as goal

pub returns-then-n-eq0-clause-a : goal.returns-then-n-eq0-clause-a
returns-then-n-eq0-clause-a g t c = leaves-lead g.T.TreeHash.digest_of c.args.lanes.a c.args.a.now c.only_leaves.result 0 (c.if-n-eq0.true) c.only_leaves.ensures.a

pub returns-then-n-eq0-clause-b : goal.returns-then-n-eq0-clause-b
returns-then-n-eq0-clause-b g t c = leaves-lead g.T.TreeHash.digest_of c.args.lanes.b c.args.b.now c.only_leaves.result 1 (c.requires.b ∙ c.if-n-eq0.true) c.only_leaves.ensures.b

pub returns-then-n-eq0-clause-c : goal.returns-then-n-eq0-clause-c
returns-then-n-eq0-clause-c g t c = leaves-lead g.T.TreeHash.digest_of c.args.lanes.c c.args.c.now c.only_leaves.result 2 (c.requires.c ∙ c.if-n-eq0.true) c.only_leaves.ensures.c

pub returns-then-n-eq0-clause-d : goal.returns-then-n-eq0-clause-d
returns-then-n-eq0-clause-d g t c = leaves-lead g.T.TreeHash.digest_of c.args.lanes.d c.args.d.now c.only_leaves.result 3 (c.requires.d ∙ c.if-n-eq0.true) c.only_leaves.ensures.d

pub returns-clause-a : goal.returns-clause-a
returns-clause-a g t c =
    let same = get_or_default c.in_ok-roots.roots 0 c.index-roots-0.result [] (omega arith) in
    lane-up g.T.TreeHash.digest_of c.args.lanes.a c.in_ok-first.first.below c.in_ok-first.first.on_left _ c.args.a.now c.index-a-last.result _ _ (slice_index_or c.in_ok-roots.roots 0 c.index-roots-0.result) _
    refl c.if-n-eq0.false c.index-a-last.is (c.in_ok-first.ensures g.T.TreeHash.digest_of) (c.in_ok-roots.ensures.a ∙ ap (λ (z : List ℕ). Some z) (sym same))
    c.children-a.ensures.left c.children-a.ensures.right (c.hash_level.ensures 0 (omega arith))

pub returns-clause-b : goal.returns-clause-b
returns-clause-b g t c =
    let same = get_or_default c.in_ok-roots.roots 1 c.index-roots-1.result [] (omega arith) in
    lane-up g.T.TreeHash.digest_of c.args.lanes.b c.in_ok-second.second.below c.in_ok-second.second.on_left _ c.args.b.now c.index-b-last.result _ _ (slice_index_or c.in_ok-roots.roots 1 c.index-roots-1.result) _
    c.requires.b c.if-n-eq0.false c.index-b-last.is (c.in_ok-second.ensures g.T.TreeHash.digest_of) (c.in_ok-roots.ensures.b ∙ ap (λ (z : List ℕ). Some z) (sym same))
    c.children-b.ensures.left c.children-b.ensures.right (c.hash_level.ensures 1 (omega arith))

pub returns-clause-c : goal.returns-clause-c
returns-clause-c g t c =
    let same = get_or_default c.in_ok-roots.roots 2 c.index-roots-2.result [] (omega arith) in
    lane-up g.T.TreeHash.digest_of c.args.lanes.c c.in_ok-third.third.below c.in_ok-third.third.on_left _ c.args.c.now c.index-c-last.result _ _ (slice_index_or c.in_ok-roots.roots 2 c.index-roots-2.result) _
    c.requires.c c.if-n-eq0.false c.index-c-last.is (c.in_ok-third.ensures g.T.TreeHash.digest_of) (c.in_ok-roots.ensures.c ∙ ap (λ (z : List ℕ). Some z) (sym same))
    c.children-c.ensures.left c.children-c.ensures.right (c.hash_level.ensures 2 (omega arith))

pub returns-clause-d : goal.returns-clause-d
returns-clause-d g t c =
    let same = get_or_default c.in_ok-roots.roots 3 c.index-roots-3.result [] (omega arith) in
    lane-up g.T.TreeHash.digest_of c.args.lanes.d c.in_ok-fourth.fourth.below c.in_ok-fourth.fourth.on_left _ c.args.d.now c.index-d-last.result _ _ (slice_index_or c.in_ok-roots.roots 3 c.index-roots-3.result) _
    c.requires.d c.if-n-eq0.false c.index-d-last.is (c.in_ok-fourth.ensures g.T.TreeHash.digest_of) (c.in_ok-roots.ensures.d ∙ ap (λ (z : List ℕ). Some z) (sym same))
    c.children-d.ensures.left c.children-d.ensures.right (c.hash_level.ensures 3 (omega arith))
