use Rattle.std.proofs.Common.{ℕ, List, ◌++◌, sym, ap, ◌∙◌, arith}
use Rattle.std.specs.Prelude.{codes}
use Rattle.tl_key.proofs.KeyTexts.{no_signer, not_private, signer_other_kind, signer_other_digits, signer_found}
use Rattle.tl_key.proofs.signer.find.Goals as goal

pub returns-in_default : goal.returns-in_default
returns-in_default c = λ k is. not_private c.args.kind c.args.text.now k c.in_default.ensures.cases is

pub returns-in_default-read_parts : goal.returns-in_default-read_parts
returns-in_default-read_parts c = λ k is.
    let begins = c.in-Some.ensures.cases.1.1 ∙ ap (λ (t : List ℕ). codes "PRIVATE+KEY+" ++ t) (sym c.in-Some.ensures.cases.2) in
    no_signer c.args.kind c.args.text.now c.in-Some.public.now k begins (rw c.in_default-read_parts.is at c.read_parts.ensures) is

pub returns-then-parts-kind : goal.returns-then-parts-kind
returns-then-parts-kind c = λ k is.
    let begins = c.in-Some.ensures.cases.1.1 ∙ ap (λ (t : List ℕ). codes "PRIVATE+KEY+" ++ t) (sym c.in-Some.ensures.cases.2) in
    let parts = c.in-Some-read_parts.parts in
    signer_other_kind c.args.kind c.args.text.now c.in-Some.public.now parts.name.now parts.digits.now parts.bytes k begins c.in-Some-read_parts.ensures c.if-parts-kind.true is

pub returns-then-not-are_digits_of : goal.returns-then-not-are_digits_of
returns-then-not-are_digits_of c = λ k is.
    let begins = c.in-Some.ensures.cases.1.1 ∙ ap (λ (t : List ℕ). codes "PRIVATE+KEY+" ++ t) (sym c.in-Some.ensures.cases.2) in
    let parts = c.in-Some-read_parts.parts in
    signer_other_digits c.args.kind c.id_of-id.result c.args.text.now c.in-Some.public.now parts.name.now parts.digits.now parts.bytes c.after_kind.result c.new-secret.result c.public_key.result.now c.are_digits_of.result k
    begins c.in-Some-read_parts.ensures c.after_kind.ensures c.new-secret.ensures c.public_key.ensures c.id_of-id.ensures c.are_digits_of.ensures c.if-not-are_digits_of.true is

pub returns : goal.returns
returns c =
    let begins = c.in-Some.ensures.cases.1.1 ∙ ap (λ (t : List ℕ). codes "PRIVATE+KEY+" ++ t) (sym c.in-Some.ensures.cases.2) in
    let parts = c.in-Some-read_parts.parts in
    signer_found c.args.kind c.id_of-id.result c.args.text.now c.in-Some.public.now parts.name.now parts.digits.now parts.bytes c.after_kind.result c.new-secret.result c.public_key.result.now c.are_digits_of.result
    (omega arith) begins c.in-Some-read_parts.ensures c.if-parts-kind.false c.after_kind.ensures c.new-secret.ensures c.public_key.ensures c.id_of-id.ensures c.are_digits_of.ensures c.if-not-are_digits_of.false
