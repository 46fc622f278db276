use Rattle.std.proofs.Common.{◌≡◌, true, false, refl, arith}
use Rattle.tl_witness.proofs.LineWords.{has_size, has_root, has_count, no_root, no_count, too_many, no_proof, no_origin, fields_shown}
use Rattle.tl_witness.proofs.chain_fields.cut_fields.Goals as goal

pub returns-in_default-hash_field : goal.returns-in_default-hash_field
returns-in_default-hash_field c =
    no_root c.args.words.now c.in-Some.rest.now (has_size _ _ c.in-Some.size c.in-Some.ensures.0 c.in-Some.ensures.1) (rw c.in_default-hash_field.is at c.hash_field.ensures)

pub returns-in_default-number_field : goal.returns-in_default-number_field
returns-in_default-number_field c =
    let root = c.in-Some-hash_field.ensures in
    let size = has_size c.args.words.now c.in-Some.rest.now c.in-Some.size c.in-Some.ensures.0 c.in-Some.ensures.1 in
    no_count c.args.words.now c.in-Some-hash_field.read.1.now (has_root _ _ _ c.in-Some-hash_field.read.0 size root.0 root.1) c.in_default-number_field.ensures

pub returns-then-count : goal.returns-then-count
returns-then-count c =
    let root = c.in-Some-hash_field.ensures in
    let count = c.in-Some-number_field.ensures in
    let size = has_size c.args.words.now c.in-Some.rest.now c.in-Some.size c.in-Some.ensures.0 c.in-Some.ensures.1 in
    let two = has_root c.args.words.now c.in-Some.rest.now c.in-Some-hash_field.read.1.now c.in-Some-hash_field.read.0 size root.0 root.1 in
    too_many c.args.words.now c.in-Some-number_field.count c.in-Some-number_field.hashes.now (has_count _ _ _ _ two count.0 count.1) c.if-count.true

pub returns-in_default-skip_hashes : goal.returns-in_default-skip_hashes
returns-in_default-skip_hashes c =
    let root = c.in-Some-hash_field.ensures in
    let count = c.in-Some-number_field.ensures in
    let size = has_size c.args.words.now c.in-Some.rest.now c.in-Some.size c.in-Some.ensures.0 c.in-Some.ensures.1 in
    let two = has_root c.args.words.now c.in-Some.rest.now c.in-Some-hash_field.read.1.now c.in-Some-hash_field.read.0 size root.0 root.1 in
    no_proof c.args.words.now c.in-Some-number_field.count c.in-Some-number_field.hashes.now (has_count _ _ _ _ two count.0 count.1) (rw c.in_default-skip_hashes.is at c.skip_hashes.ensures)

pub returns-then-not-is_one_line : goal.returns-then-not-is_one_line
returns-then-not-is_one_line c =
    let root = c.in-Some-hash_field.ensures in
    let count = c.in-Some-number_field.ensures in
    let has = c.in-Some-skip_hashes.ensures.0 in
    let size = has_size c.args.words.now c.in-Some.rest.now c.in-Some.size c.in-Some.ensures.0 c.in-Some.ensures.1 in
    let two = has_root c.args.words.now c.in-Some.rest.now c.in-Some-hash_field.read.1.now c.in-Some-hash_field.read.0 size root.0 root.1 in
    no_origin c.args.words.now c.in-Some-number_field.count c.in-Some-number_field.hashes.now c.in-Some-skip_hashes.origin.now has.0
    (has_count _ _ _ _ two count.0 count.1) has.1.each has.1.number has.1.whole (λ one. let no : false ≡ true = c.if-not-is_one_line.ensures.1 one in absurd cc)

pub returns : goal.returns
returns c =
    let root = c.in-Some-hash_field.ensures in
    let count = c.in-Some-number_field.ensures in
    let has = c.in-Some-skip_hashes.ensures in
    fields_shown c.args.words.now c.in-Some.rest.now c.in-Some-hash_field.read.1.now _ c.in-Some.ensures.0 c.in-Some.ensures.1 root.0 root.1 count.1 (omega arith) has.0 has.1 (c.if-not-is_one_line.ensures.0 refl)
