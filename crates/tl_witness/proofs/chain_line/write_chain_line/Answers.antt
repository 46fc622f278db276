use Rattle.std.proofs.Common.{arith}
use Rattle.std.proofs.lemmas.Grind.{common_steps}
use Rattle.tl_witness.proofs.LineText.{line_written}
use Rattle.tl_witness.proofs.chain_line.write_chain_line.Goals as goal

pub returns : goal.returns
returns g c =
    let size = rw c.format.ensures.text at c.in_ok-push_str.ensures.bytes in
    let root = rw c.as_bytes.ensures.value at c.in_ok-encode_string.ensures.ok in
    let count = rw (c.format-2.ensures.text, c.as_slice-hashes.ensures) at c.in_ok-push_str-4.ensures.bytes in
    let hashes = rw c.as_slice-hashes.ensures at c.in_ok-push_hashes.ensures in
    line_written _ _ _ _ c.args.origin.now _ _ _ _ _ _ _ _ _ _ c.new-line.ensures.bytes size c.in_ok-push_str-2.ensures.bytes root c.in_ok-push_str-3.ensures.bytes
    count hashes c.in_ok-push_str-5.ensures.bytes c.in_ok-push_str-6.ensures.bytes c.in_ok-push_str-7.ensures.bytes

pub invariant_of-encode_string-2 : goal.invariant_of-encode_string-2
invariant_of-encode_string-2 g c = grind (arith, common_steps)
