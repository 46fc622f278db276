use Rattle.std.proofs.Common.{arith}
use Rattle.std.proofs.lemmas.Grind.{common_steps}
use Rattle.tl_http.proofs.ClosingLemmas.{no_start, other_word, stands_where}
use Rattle.tl_http.proofs.persistence.names_close_at.Goals as goal

pub returns-then-not-eq_ignore_ascii_case : goal.returns-then-not-eq_ignore_ascii_case
returns-then-not-eq_ignore_ascii_case c = record {
  close = other_word c.args.value.now _ _ c.args.start _ c.split_at.ensures.back c.split_at-2.ensures.front c.eq_ignore_ascii_case.ensures.test.1 c.if-not-eq_ignore_ascii_case.true;
}

pub returns-then-not-is_item_start : goal.returns-then-not-is_item_start
returns-then-not-is_item_start c = record {
  close = no_start c.args.value.now _ c.args.start _ c.split_at.ensures.front c.is_item_start.ensures.start c.if-not-is_item_start.true;
}

pub returns : goal.returns
returns c = record {
  close = stands_where c.args.value.now _ _ _ _ c.args.start _ _ c.requires.within c.split_at.ensures.front c.split_at.ensures.back c.split_at-2.ensures.front c.split_at-2.ensures.back
      (c.eq_ignore_ascii_case.ensures.test.0 c.if-not-eq_ignore_ascii_case.false) c.is_item_start.ensures.start c.if-not-is_item_start.false c.is_item_end.ensures.end;
}

pub returns-then-rest-lt5 : goal.returns-then-rest-lt5
returns-then-rest-lt5 c = grind (arith, common_steps)
