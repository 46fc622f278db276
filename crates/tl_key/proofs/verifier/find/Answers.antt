use Rattle.std.proofs.Common.{arith}
use Rattle.tl_key.proofs.KeyTexts.{no_verifier, verifier_other_kind, verifier_other_digits, verifier_unsound, verifier_found}
use Rattle.tl_key.proofs.verifier.find.Goals as goal

pub returns-in_default : goal.returns-in_default
returns-in_default c = λ k is. no_verifier c.args.kind c.args.text.now k (rw c.in_default.is at c.read_parts.ensures) is

pub returns-then-parts-kind : goal.returns-then-parts-kind
returns-then-parts-kind c = λ k is.
    verifier_other_kind c.args.kind c.args.text.now c.in-Some.parts.name.now c.in-Some.parts.digits.now c.in-Some.parts.bytes k c.in-Some.ensures c.if-parts-kind.true is

pub returns-then-not-are_digits_of : goal.returns-then-not-are_digits_of
returns-then-not-are_digits_of c = λ k is.
    verifier_other_digits c.args.kind c.id_of-id.result c.args.text.now c.in-Some.parts.name.now c.in-Some.parts.digits.now c.in-Some.parts.bytes c.after_kind-key.result c.are_digits_of.result k
    c.in-Some.ensures c.after_kind-key.ensures c.id_of-id.ensures c.are_digits_of.ensures c.if-not-are_digits_of.true is

pub returns-then-not-is_valid_public_key : goal.returns-then-not-is_valid_public_key
returns-then-not-is_valid_public_key c = λ k is.
    verifier_unsound c.args.kind c.args.text.now c.in-Some.parts.name.now c.in-Some.parts.digits.now c.in-Some.parts.bytes c.after_kind-key.result c.is_valid_public_key.result k
    c.in-Some.ensures c.after_kind-key.ensures c.is_valid_public_key.ensures c.if-not-is_valid_public_key.true is

pub returns : goal.returns
returns c =
    verifier_found c.args.kind c.id_of-id.result c.args.text.now c.in-Some.parts.name.now c.in-Some.parts.digits.now c.in-Some.parts.bytes c.after_kind-key.result c.are_digits_of.result c.is_valid_public_key.result
    (omega arith) c.in-Some.ensures c.if-parts-kind.false c.after_kind-key.ensures c.id_of-id.ensures c.are_digits_of.ensures c.if-not-are_digits_of.false c.is_valid_public_key.ensures c.if-not-is_valid_public_key.false
