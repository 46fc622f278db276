use Rattle.std.proofs.Common.{◌≡◌, ◌*◌, ◌+◌, ◌-◌, ℕ, drop, take, refl, arith}
use Rattle.tl_lanes.proofs.Padding.{first_bytes, later_bytes, no_bytes}
use Rattle.tl_lanes.proofs.block.own_bytes.Goals as goal

pub returns-then-t-eq0 : goal.returns-then-t-eq0
returns-then-t-eq0 c = λ i lt.
    let place : 64 * c.args.t + i ≡ i = omega arith in
    rw place (first_bytes c.args.tag c.min-count.result c.args.rest.now c.write_at.new.block _ c.write_at-then-t-eq0.new.block i lt (omega arith)
    c.write_at.ensures refl c.write_at-then-t-eq0.ensures)

pub returns-then-t-rest : goal.returns-then-t-rest
returns-then-t-rest c = λ i lt.
    let from : ℕ = 64 * c.args.t - 1 in
    let n = c.min-count-then-t-rest.result in
    let width : from + n - from ≡ n = omega arith in
    later_bytes c.args.tag n from c.args.t c.args.rest.now (take (from + n - from) (drop from c.args.rest.now)) c.write_at-then-t-rest.new.block i lt
    (omega arith) refl (omega arith) (omega arith) (rw width refl) c.write_at-then-t-rest.ensures

pub returns : goal.returns
returns c = λ i lt. no_bytes c.args.tag c.args.t c.args.rest.now i (omega arith)
