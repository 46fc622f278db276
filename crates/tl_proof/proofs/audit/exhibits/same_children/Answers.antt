use Rattle.std.proofs.Common.{◌∙◌, sym}
use Rattle.tl_hash.proofs.Bytes.{node_input-injective}
use Rattle.tl_proof.proofs.audit.exhibits.same_children.Goals as goal

pub returns-then-same-clause-strings : goal.returns-then-same-clause-strings
returns-then-same-clause-strings c =
    node_input-injective c.args.a.left c.args.a.right c.args.b.left c.args.b.right (c.as_bytes.ensures.hash.length ∙ sym c.as_bytes-2.ensures.hash.length)

pub returns-else-same-clause-strings : goal.returns-else-same-clause-strings
returns-else-same-clause-strings c =
    node_input-injective c.args.a.left c.args.a.right c.args.b.left c.args.b.right (c.as_bytes.ensures.hash.length ∙ sym c.as_bytes-2.ensures.hash.length)
