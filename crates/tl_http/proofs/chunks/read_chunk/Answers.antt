use Rattle.tl_http.specs.Inner.ChunkReads.{ReadsChunk}
use Rattle.tl_http.proofs.DataLemmas.{return_missing, feed_missing, chunk_whole}
use Rattle.tl_http.proofs.Failing.{handed_on}
use Rattle.tl_http.proofs.chunks.read_chunk.Goals as goal

pub returns-in_err-read_byte : goal.returns-in_err-read_byte
returns-in_err-read_byte g c =
    handed_on (ReadsChunk c.args.size _ _ _ _ _) c.from_residual-in_err-read_byte.result _ c.from_residual-in_err-read_byte.ensures.1
    (return_missing _ _ _ _ _ _ _ _ _ _ _ _ c.in_ok-read_data.ensures c.in_err-read_byte.ensures)

pub returns-in_err-read_byte-2 : goal.returns-in_err-read_byte-2
returns-in_err-read_byte-2 g c =
    handed_on (ReadsChunk c.args.size _ _ _ _ _) c.from_residual-in_err-read_byte-2.result _ c.from_residual-in_err-read_byte-2.ensures.1
    (feed_missing _ _ _ _ _ _ _ _ _ _ _ _ _ _ _ c.in_ok-read_data.ensures c.in_ok-read_byte.ensures c.in_err-read_byte-2.ensures)

pub returns : goal.returns
returns g c = chunk_whole _ _ _ _ _ _ _ _ _ _ _ _ _ _ _ c.in_ok-read_data.ensures c.in_ok-read_byte.ensures c.in_ok-read_byte-2.ensures
