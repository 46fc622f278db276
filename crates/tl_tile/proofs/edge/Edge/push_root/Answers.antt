use Rattle.std.proofs.Common.{◌++◌, ◌∷◌, ◌≤◌, ◌+◌, [], List, length, take, ap, sym, ◌∙◌, arith}
use Rattle.std.proofs.lemmas.Bool.{false≢true}
use Rattle.std.proofs.lemmas.List.{length_push, length-take-le}
use Rattle.tl_hash.specs.Bytes.{Bytes}
use Rattle.tl_tile.specs.RightEdge.{count_below}
use Rattle.tl_tile.proofs.Adding.{edge-more}
use Rattle.tl_tile.proofs.edge.Edge.push_root.Goals as goal

pub fill-requires-clause-counted : goal.fill-requires-clause-counted
fill-requires-clause-counted g c = ap length c.deref.ensures.value ∙ c.self.invariant.0

pub unreachable-requires : goal.unreachable-requires
unreachable-requires g c = false≢true c.in_default.ensures.memory.0

pub keep-requires-clause-within : goal.keep-requires-clause-within
keep-requires-clause-within g c = omega (arith, c.in-Ok.ensures.within, ap length c.deref.ensures.value, ap (λ e. length e.kept) c.self.view_is)

pub keep-requires-clause-counted : goal.keep-requires-clause-counted
keep-requires-clause-counted g c = c.in-Ok.ensures.counted ∙ ap (λ e. count_below (e.size + 256) 8) c.self.view_is

pub keep-requires-clause-room : goal.keep-requires-clause-room
keep-requires-clause-room g c =
    omega (arith, c.in-Ok.ensures.within, ap length c.deref.ensures.value, c.requires.room, ap (λ e. length e.kept) c.self.view_is, ap (λ e. e.room) c.self.view_is)

pub returns-clause-entries : goal.returns-clause-entries
returns-clause-entries g c entries added long root is =
    let H = g.T.TreeHash.digest_of in
    let filled = c.in-Ok.filled in
    let size = ap (λ e. e.size) c.self.view_is in
    let kept = c.deref.ensures.value ∙ ap (λ e. e.kept) c.self.view_is in
    edge-more H entries added c.args.self.now c.keep.new.self (omega (arith, c.keep.ensures.size, size, long)) (omega (arith, c.requires.small, long))
    (c.keep.ensures.kept
    ∙ ap (λ (hashes : List Bytes). take filled.left hashes ++ filled.hash ∷ []) (sym kept)
    ∙ c.in-Ok.ensures.kept entries added (record { sized = is.0 ∙ sym size; full = long; kept_are = kept ∙ is.2; root_is = root }))
    is

pub returns-clause-size : goal.returns-clause-size
returns-clause-size g c = c.keep.ensures.size

pub returns-clause-kept : goal.returns-clause-kept
returns-clause-kept g c =
    let kept = c.args.self.now.kept in
    let filled = c.in-Ok.filled in
    let within : filled.left ≤ length kept = omega (arith, c.in-Ok.ensures.within, ap length c.deref.ensures.value, ap (λ e. length e.kept) c.self.view_is) in
    omega (arith, ap length c.keep.ensures.kept, length_push (take filled.left kept) filled.hash, length-take-le filled.left kept within, within)

pub returns-clause-room : goal.returns-clause-room
returns-clause-room g c = c.keep.ensures.room
