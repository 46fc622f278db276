use Rattle.std.proofs.Common.{string_bytes}
use Rattle.tl_offline.proofs.WriteLemmas.{hash_more}
use Rattle.tl_offline.proofs.writing.push_hashes.Goals as goal

pub loop-hash-preserved : goal.loop-hash-preserved
loop-hash-preserved g c =
    hash_more (string_bytes c.args.out.now) (string_bytes c.loop-hash.out) (string_bytes c.encode_string.new.output) (string_bytes c.push_str.new.self) c.as_bytes.result.now c.hash-item.result c.args.hashes.now c.loop-hash.hash-index
    c.loop-hash-test.true c.hash-item.is c.as_bytes.ensures.value c.as_bytes.ensures.hash c.loop-hash.invariant c.in_ok-encode_string.ensures.ok c.in_ok-push_str.ensures.bytes
