use Rattle.std.proofs.Common.{◌++◌, List, ℕ, drop, map, take, take-add, vec_items, sym, ap, subst, ◌∙◌, length, arith}
use Rattle.std.proofs.lemmas.List.{map-append, take_all, take_rest, length-drop, drop-map}
use Rattle.std.proofs.lemmas.List.Elements.{All-drop}
use Rattle.sha2.specs.Sha256.{sha256}
use Rattle.tl_tile.specs.Bundle.{IsShortEntry, AreShortEntries}
use Rattle.tl_publisher.specs.Grown.{IsGrown}
use Rattle.tl_publisher.proofs.growth.Growth.of.Goals as goal

pub append_some-requires-clause-short : goal.append_some-requires-clause-short
append_some-requires-clause-short g c =
    let entries = c.args.entries.now in
    let at = c.loop-at.at in
    subst AreShortEntries (drop-map vec_items at entries ∙ ap (map vec_items) (sym (take_rest entries at)))
    (All-drop IsShortEntry at (map vec_items entries) c.requires.short)

pub loop-at-preserved : goal.loop-at-preserved
loop-at-preserved g c =
    let entries = c.args.entries.now in
    let at = c.loop-at.at in
    let taken = c.in_ok-at.field-0 in
    let inv = c.loop-at.invariant in
    let more = c.in_ok-at.ensures in
    let rest = take_rest entries at in
    let same =
    ap (λ (list : List _). map vec_items (take at entries) ++ map vec_items (take taken list)) rest
    ∙ sym (map-append vec_items (take at entries) (take taken (drop at entries)))
    ∙ ap (map vec_items) (sym (take-add at taken entries)) in
    record {
      within = omega (arith, inv.within, more.within, ap length rest, length-drop at entries);
      size = omega (arith, more.size, inv.size);
      grown = subst (λ (es : List (List ℕ)). IsGrown sha256 0 es c.append_some.new.self) same (more.grown 0 _ inv.grown);
    }

pub returns : goal.returns
returns g c =
    let inv = c.loop-at.invariant in
    subst (λ (list : List _). IsGrown sha256 0 (map vec_items list) c.loop-at.growth) (take_all c.loop-at.at c.args.entries.now (omega (arith, inv.within, c.loop-at-test.false))) inv.grown
