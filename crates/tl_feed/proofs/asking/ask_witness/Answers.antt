use Rattle.tl_feed.proofs.AskLemmas.{taken_status}
use Rattle.tl_feed.proofs.asking.ask_witness.Goals as goal

pub read_answer-requires : goal.read_answer-requires
read_answer-requires g c = taken_status c.args.host.now.url.authority.now c.args.target.now c.as_slice.result.now _ c.in-Ok-post.ensures
