use Rattle.std.proofs.Common.{◌++◌, ◌∙◌, ℕ, List, ap, drop, length, replicate}
use Rattle.std.proofs.lemmas.List.{drop-replicate}
use Rattle.tl_key.proofs.keyed_hash.filled.Goals as goal

pub returns : goal.returns
returns c =
    ap (λ (t : List ℕ). t ++ drop (length c.args.bytes.now) (replicate 64 0)) c.copy_from_slice.ensures.after
    ∙ ap (λ (t : List ℕ). c.args.bytes.now ++ t) (drop-replicate (length c.args.bytes.now) 64 0)
