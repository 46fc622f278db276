use Rattle.std.proofs.Common.{arith}
use Rattle.tl_tile.proofs.BundleLemmas.{partial_length, partial_at}
use Rattle.tl_server.proofs.entry.first_entry.Goals as goal

pub returns-then-bytes-lt2 : goal.returns-then-bytes-lt2
returns-then-bytes-lt2 c = partial_length c.args.bytes.now (λ i. omega (arith, c.type_inv.bytes i)) (omega arith)

pub returns-then-rest-len : goal.returns-then-rest-len
returns-then-rest-len c =
    partial_at c.args.bytes.now c.split_at.result.0.now c.split_at.result.1.now c.from_be_bytes-len.result (λ i. omega (arith, c.type_inv.bytes i)) (omega arith)
    c.split_at.ensures.front c.split_at.ensures.back (omega arith) c.from_be_bytes-len.ensures (omega arith)
