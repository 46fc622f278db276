-- A text has one checkpoint.
use Rattle.std.proofs.Common.{◌≡◌, ℕ, List, ◌++◌, sym, ap, ◌∙◌, append_assoc, arith, All}
use Rattle.std.specs.List.{flat_map}
use Rattle.tl_text.specs.Text.{line, base64_text, number_text, HasNoControl, IsOneLine}
use Rattle.std.proofs.lemmas.Fmt.{decimal_injective}
use Rattle.tl_text.proofs.Lines.{one_line, lines_once}
use Rattle.tl_text.proofs.PlainText.{number_plain, base64_plain, base64_once}
use Rattle.tl_checkpoint.specs.Checkpoint.{Head, IsHead, checkpoint_text}

pub plain_lines : (texts : List (List ℕ)) → All IsOneLine texts → All HasNoControl texts
plain_lines texts each = λ k d lt. (each k d lt).plain

regroup : (c : Head) → checkpoint_text c ≡ line c.origin ++ (line (number_text c.size) ++ (line (base64_text c.root) ++ flat_map line c.extensions))
regroup c = append_assoc (line c.origin ++ line (number_text c.size)) (line (base64_text c.root)) (flat_map line c.extensions)
    ∙ append_assoc (line c.origin) (line (number_text c.size)) (line (base64_text c.root) ++ flat_map line c.extensions)

abbrev made : List ℕ → ℕ → List ℕ → List (List ℕ) → Head
made origin size root extensions = record { origin = origin; size = size; root = root; extensions = extensions }

same_head : (o p : List ℕ) (m n : ℕ) (r s : List ℕ) (xs ys : List (List ℕ)) → o ≡ p → m ≡ n → r ≡ s → xs ≡ ys → made o m r xs ≡ made p n s ys
same_head o p m n r s xs ys a b c d = ap (λ (q : List ℕ). made q m r xs) a ∙ ap (λ (k : ℕ). made p k r xs) b ∙ ap (λ (h : List ℕ). made p n h xs) c ∙ ap (λ (zs : List (List ℕ)). made p n s zs) d

-- two checkpoints with one text are one
pub one_checkpoint : (c d : Head) → IsHead c → IsHead d → checkpoint_text c ≡ checkpoint_text d → c ≡ d
one_checkpoint c d lawful_c lawful_d e =
    let opened = sym (regroup c) ∙ e ∙ regroup d in
    let first = one_line c.origin d.origin _ _ lawful_c.origin.plain lawful_d.origin.plain opened in
    let second = one_line (number_text c.size) (number_text d.size) _ _ (number_plain c.size (omega (arith, lawful_c.size))) (number_plain d.size (omega (arith, lawful_d.size))) first.1 in
    let third = one_line (base64_text c.root) (base64_text d.root) _ _ (base64_plain c.root lawful_c.root.bytes) (base64_plain d.root lawful_d.root.bytes) second.1 in
    let size : c.size ≡ d.size = decimal_injective c.size d.size (omega (arith, lawful_c.size)) (omega (arith, lawful_d.size)) second.0 in
    let root : c.root ≡ d.root = base64_once c.root d.root lawful_c.root.bytes lawful_d.root.bytes third.0 in
    let extensions : c.extensions ≡ d.extensions = lines_once c.extensions d.extensions (plain_lines c.extensions lawful_c.extensions) (plain_lines d.extensions lawful_d.extensions) third.1 in
    same_head c.origin d.origin c.size d.size c.root d.root c.extensions d.extensions first.0 size root extensions
