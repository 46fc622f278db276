use Rattle.std.proofs.Common.{◌++◌, ◌∙◌, List, ℕ, ap, map, vec_items}
use Rattle.std.specs.Prelude.{codes}
use Rattle.tl_text.specs.Text.{number_text, base64_text}
use Rattle.tl_command.specs.Lines.{lines_text}
use Rattle.tl_command.proofs.ProofBytes.{five_lines}
use Rattle.tl_command.proofs.proof_text.inclusion_bytes.Goals as goal

pub returns : goal.returns
returns g c =
    five_lines (codes "inclusion") (codes "index " ++ number_text c.args.p.now.index) (codes "size " ++ number_text c.args.p.now.size)
    (codes "leaf " ++ base64_text c.args.p.now.leaf) (codes "root " ++ base64_text c.args.p.now.root) (map base64_text (vec_items c.args.p.now.proof))
    _ c.push_line.new.out.items c.push_number.new.out.items c.push_number-2.new.out.items c.push_hash.new.out.items c.push_hash-2.new.out.items c.push_hashes.new.out.items
    c.new-out.ensures.items c.in_ok-push_line.ensures c.in_ok-push_number.ensures c.in_ok-push_number-2.ensures c.in_ok-push_hash.ensures c.in_ok-push_hash-2.ensures
    (c.in_ok-push_hashes.ensures ∙ ap (λ (hs : List (List ℕ)). c.push_hash-2.new.out.items ++ lines_text (map base64_text hs)) c.as_slice.ensures.value)
