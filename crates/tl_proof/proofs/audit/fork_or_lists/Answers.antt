use Rattle.std.proofs.Common.{◌≡◌, ◌≤◌, length, map, take, vec_items, sym, ap, ◌∙◌, arith}
use Rattle.std.proofs.lemmas.Grind.{common_steps}
use Rattle.std.proofs.lemmas.List.{take-map, length-map}
use Rattle.tl_proof.proofs.AuditAnswers.{forks-in_links, forks-in_lists}
use Rattle.tl_proof.proofs.audit.fork_or_lists.Goals as goal

pub returns-in-Some : goal.returns-in-Some
returns-in-Some g c = λ steps found.
    forks-in_links g.T.TreeHash.digest_of c.args.in_links c.in-Some.fork (map vec_items c.args.old.now) (map vec_items c.args.new.now) c.args.place steps c.in-Some.is found

pub returns-in-None : goal.returns-in-None
returns-in-None g c = λ steps found.
    let old = map vec_items c.args.old.now in
    let new = map vec_items c.args.new.now in
    let most : length old ≤ length new = omega (arith, c.requires.most, length-map c.args.old.now vec_items, length-map c.args.new.now vec_items) in
    let part : map vec_items (take (length c.args.old.now) c.args.new.now) ≡ take (length old) new =
    sym (take-map vec_items (length c.args.old.now) c.args.new.now) ∙ ap (λ n. take n new) (sym (length-map c.args.old.now vec_items)) in
    forks-in_lists g.T.TreeHash.digest_of c.args.in_links old new _ c.args.place c.walk_lists.result steps c.in-None.is most c.requires.differ part c.walk_lists.ensures found

pub walk_lists-requires-clause-one_length : goal.walk_lists-requires-clause-one_length
walk_lists-requires-clause-one_length g c = grind (arith, common_steps)

pub walk_lists-requires-clause-within : goal.walk_lists-requires-clause-within
walk_lists-requires-clause-within g c = grind (arith, common_steps)
