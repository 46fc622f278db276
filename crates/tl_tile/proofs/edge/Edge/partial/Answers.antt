use Rattle.std.proofs.Common.{ℕ, ◌-◌, ◌/◌, ◌%◌, ◌*◌, ◌^◌, ap, sym, ◌∙◌, arith}
use Rattle.std.proofs.lemmas.Result.{err_from_is_err_and}
use Rattle.tl_tile.proofs.TileTexts.{tile_height}
use Rattle.tl_tile.specs.TileText.{partial_tile}
use Rattle.tl_tile.proofs.Below.{partial_fits, partial-named, partial-none, partial-some}
use Rattle.tl_tile.proofs.edge.Edge.partial.Goals as goal

pub overflow_sub-end : goal.overflow_sub-end
overflow_sub-end g c = omega (arith, partial_fits c.self.inside.size c.args.level c.count_of.result c.len.result c.requires c.count_of.ensures (omega (arith, c.len.ensures, c.self.inside.kept.ok.0, c.self.invariant.0)))

pub returns-then-width-eq0-clause-tile : goal.returns-then-width-eq0-clause-tile
returns-then-width-eq0-clause-tile g c entries is =
    let sized = is.0 ∙ sym (ap (λ e. e.size) c.self.view_is) in
    partial-none g.T.TreeHash.digest_of entries c.self.inside.size c.args.level sized c.if-width-eq0.true

pub overflow_sub-end-2 : goal.overflow_sub-end-2
overflow_sub-end-2 g c = omega (arith, partial_fits c.self.inside.size c.args.level c.count_of.result c.len.result c.requires c.count_of.ensures (omega (arith, c.len.ensures, c.self.inside.kept.ok.0, c.self.invariant.0)))

pub returns-clause-tile : goal.returns-clause-tile
returns-clause-tile g c entries is =
    let sized = is.0 ∙ sym (ap (λ e. e.size) c.self.view_is) in
    let kept = c.deref.ensures.value ∙ ap (λ e. e.kept) c.self.view_is ∙ is.2 in
    let width = c.self.inside.size / 2 ^ (8 * c.args.level) % 256 in
    let end = c.len.result - c.count_of.result in
    let fits = partial_fits c.self.inside.size c.args.level c.count_of.result c.len.result c.requires c.count_of.ensures (omega (arith, c.len.ensures, c.self.inside.kept.ok.0, c.self.invariant.0)) in
    partial-some g.T.TreeHash.digest_of entries c.self.inside.size c.args.level (end - width) (end - (end - width)) c.deref.result.now c.in_ok-bytes.bytes.items c.requires sized kept
    c.if-width-eq0.false (omega (arith, fits)) (omega (arith, fits, c.len.ensures, c.count_of.ensures, c.deref.ensures.len, c.self.inside.kept.ok.0)) c.in_ok-bytes.ensures

pub returns-clause-named : goal.returns-clause-named
returns-clause-named g c =
    partial-named c.self.inside.size c.args.level ∙ ap (λ e. partial_tile e.size c.args.level) c.self.view_is

pub returns-in_err-bytes-clause-memory : goal.returns-in_err-bytes-clause-memory
returns-in_err-bytes-clause-memory g c =
    let p = err_from_is_err_and c.from_residual.result c.from_residual.ensures.1 in
    let count = ap (λ e. e.size / 2 ^ (8 * c.args.level) % 256) c.self.view_is ∙ ap (λ (x : ℕ). c.args.self.now.size / x % 256) (tile_height c.args.level) in
    rw p.1 (omega (arith, count, c.if-width-eq0.false))
