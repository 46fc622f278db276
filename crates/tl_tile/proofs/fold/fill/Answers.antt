use Rattle.std.proofs.Common.{◌≡◌, ◌+◌, ◌-◌, ◌^◌, ◌∙◌, ◌++◌, ◌∷◌, [], length, map, take, drop, ap, arith, refl}
use Rattle.std.specs.List.{flat_map}
use Rattle.tl_tile.specs.declared.resource.Tile.{Tile}
use Rattle.std.specs.Prelude.{vec_items}
use Rattle.std.proofs.lemmas.List.{length-drop, length-take-le}
use Rattle.std.proofs.lemmas.Result.{err_from_is_err_and}
use Rattle.tl_tile.proofs.Fills.{low_level, filled_whole}
use Rattle.tl_tile.proofs.FillSteps.{filling-start, tiles-start, filling-room, filling-more, tiles-more, filling-kept, filling-tiles, filling-names, filling-count, names-start, names-more}
use Rattle.tl_tile.proofs.fold.fill.Goals as goal

pub loop-count-init : goal.loop-count-init
loop-count-init g c =
    let H = g.T.TreeHash.digest_of in (
      filling-start H c.args.size c.args.lowest c.args.root c.args.kept.now _ (length c.args.kept.now) c.requires.whole refl refl,
      λ wanted. tiles-start H c.args.size c.args.lowest c.args.root c.args.kept.now _ (ap (map (λ t. (t.0, vec_items t.1))) c.new-tiles.ensures.items),
      λ wanted. names-start c.args.size c.args.lowest _ (ap (map (λ t. (t.0, vec_items t.1))) c.new-tiles.ensures.items),
    )

pub overflow_sub-below : goal.overflow_sub-below
overflow_sub-below g c =
    filling-room g.T.TreeHash.digest_of c.args.size c.args.lowest c.args.root c.args.kept.now c.loop-count.level c.loop-count.count c.loop-count.left c.loop-count.hash
    c.requires.small c.requires.counted c.loop-count.invariant.0 c.loop-count-test.true

pub overflow_sub-left : goal.overflow_sub-left
overflow_sub-left g c =
    filling-room g.T.TreeHash.digest_of c.args.size c.args.lowest c.args.root c.args.kept.now c.loop-count.level c.loop-count.count c.loop-count.left c.loop-count.hash
    c.requires.small c.requires.counted c.loop-count.invariant.0 c.loop-count-test.true

pub fold_full-hash-requires : goal.fold_full-hash-requires
fold_full-hash-requires g c =
    let kept = c.args.kept.now in
    let left = c.loop-count.left in
    let room = filling-room g.T.TreeHash.digest_of c.args.size c.args.lowest c.args.root kept c.loop-count.level c.loop-count.count left c.loop-count.hash
    c.requires.small c.requires.counted c.loop-count.invariant.0 c.loop-count-test.true in
    let count : left - (left - 255) ≡ 255 = omega (arith, room) in
    length-take-le (left - (left - 255)) (drop (left - 255) kept) (omega (arith, length-drop (left - 255) kept, c.loop-count.invariant.0.place)) ∙ count

pub overflow_add-level : goal.overflow_add-level
overflow_add-level g c =
    let low = low_level (c.args.size + 256 ^ c.args.lowest) c.loop-count.level c.loop-count.count c.requires.small c.loop-count.invariant.0.filled in
    omega (arith, low)

pub loop-count-preserved : goal.loop-count-preserved
loop-count-preserved g c =
    let room = filling-room g.T.TreeHash.digest_of c.args.size c.args.lowest c.args.root c.args.kept.now c.loop-count.level c.loop-count.count c.loop-count.left c.loop-count.hash
    c.requires.small c.requires.counted c.loop-count.invariant.0 c.loop-count-test.true in (
      filling-more g.T.TreeHash.digest_of c.args.size c.args.lowest c.args.root c.args.kept.now c.loop-count.level c.loop-count.count c.loop-count.left (c.loop-count.left - 255) (c.loop-count.left - (c.loop-count.left - 255)) c.loop-count.hash c.fold_full-hash.result
          c.requires.small c.requires.counted c.loop-count.invariant.0 c.loop-count-test.true refl (omega (arith, room)) c.fold_full-hash.ensures,
      λ wanted. tiles-more g.T.TreeHash.digest_of c.args.size c.args.lowest c.args.root c.args.kept.now c.loop-count.level c.loop-count.count c.loop-count.left (c.loop-count.left - 255) (c.loop-count.left - (c.loop-count.left - 255)) c.loop-count.hash
          (map (λ t. (t.0, vec_items t.1)) c.loop-count.tiles.items) (map (λ t. (t.0, vec_items t.1)) c.push_tile.new.tiles.items) _
          c.requires.small c.requires.counted c.loop-count.invariant.0 (c.loop-count.invariant.1 wanted) c.loop-count-test.true refl (omega (arith, room)) refl (c.in_ok-push_tile.ensures.added wanted ∙ ap (λ (t : Tile). map (λ t. (t.0, vec_items t.1)) c.loop-count.tiles.items ++ (t, flat_map (λ hash. hash) (take (c.loop-count.left - (c.loop-count.left - 255)) (drop (c.loop-count.left - 255) c.args.kept.now) ++ c.loop-count.hash ∷ [])) ∷ []) c.full_tile-tile.ensures),
      λ wanted. names-more g.T.TreeHash.digest_of c.args.size c.args.lowest c.args.root c.args.kept.now c.loop-count.level c.loop-count.count c.loop-count.left c.loop-count.hash
          (map (λ t. (t.0, vec_items t.1)) c.loop-count.tiles.items) (map (λ t. (t.0, vec_items t.1)) c.push_tile.new.tiles.items) _
          c.loop-count.invariant.0 (c.loop-count.invariant.2 wanted) c.loop-count-test.true (c.in_ok-push_tile.ensures.added wanted ∙ ap (λ (t : Tile). map (λ t. (t.0, vec_items t.1)) c.loop-count.tiles.items ++ (t, flat_map (λ hash. hash) (take (c.loop-count.left - (c.loop-count.left - 255)) (drop (c.loop-count.left - 255) c.args.kept.now) ++ c.loop-count.hash ∷ [])) ∷ []) c.full_tile-tile.ensures),
    )

pub returns-clause-counted : goal.returns-clause-counted
returns-clause-counted g c =
    filling-count g.T.TreeHash.digest_of c.args.size c.args.lowest c.args.root c.args.kept.now c.loop-count.level c.loop-count.count c.loop-count.left c.loop-count.hash
    c.requires.small c.requires.counted c.loop-count.invariant.0 c.loop-count-test.false

pub returns-clause-kept : goal.returns-clause-kept
returns-clause-kept g c =
    filling-kept g.T.TreeHash.digest_of c.args.size c.args.lowest c.args.root c.args.kept.now c.loop-count.level c.loop-count.count c.loop-count.left c.loop-count.hash
    c.requires.small c.loop-count.invariant.0 c.loop-count-test.false

pub returns-clause-tiles : goal.returns-clause-tiles
returns-clause-tiles g c wanted =
    filling-tiles g.T.TreeHash.digest_of c.args.size c.args.lowest c.args.root c.args.kept.now c.loop-count.level c.loop-count.count c.loop-count.left c.loop-count.hash (map (λ t. (t.0, vec_items t.1)) c.loop-count.tiles.items)
    c.requires.small c.loop-count.invariant.0 (c.loop-count.invariant.1 wanted) c.loop-count-test.false

pub returns-clause-named : goal.returns-clause-named
returns-clause-named g c wanted =
    filling-names g.T.TreeHash.digest_of c.args.size c.args.lowest c.args.root c.args.kept.now c.loop-count.level c.loop-count.count c.loop-count.left c.loop-count.hash (map (λ t. (t.0, vec_items t.1)) c.loop-count.tiles.items)
    c.requires.small c.loop-count.invariant.0 (c.loop-count.invariant.2 wanted) c.loop-count-test.false

pub returns-in_err-push_tile-clause-memory : goal.returns-in_err-push_tile-clause-memory
returns-in_err-push_tile-clause-memory g c =
    let p = err_from_is_err_and c.from_residual.result c.from_residual.ensures.1 in
    rw p.1 (c.in_err-push_tile.ensures.memory, filled_whole (c.args.size + 256 ^ c.args.lowest) c.loop-count.level c.loop-count.count c.loop-count.invariant.0.filled c.loop-count-test.true)
