-- The outcome of a request to one origin, given the reply.
use Rattle.std.specs.Prelude.{vec_items}
use Rattle.tl_witness.specs.declared.reply.Reply.{Reply}
use Rattle.tl_witness.specs.Decide.{Outcome}
use Rattle.tl_witness.specs.Saver.{Saved}
use Rattle.tl_witness.specs.Witnessed.{Witnessed}

-- the reply, and the saver and the origin before and after
abbrev pub outcome_of : {A : Type 0} → Reply A → Saved → Saved → Witnessed → Witnessed → Outcome
outcome_of reply saved saved_after one one_after = record {
  status = reply.status;
  body = vec_items reply.body;
  saved = saved;
  saved_after = saved_after;
  one = one;
  one_after = one_after;
}
