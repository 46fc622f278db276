use Rattle.std.proofs.Common.{refl, inl, inr, rules}
use Rattle.std.specs.Prelude.{codes}
use Rattle.tl_server.specs.Answer.{bare, not_allowed}
use Rattle.tl_server.specs.Log.{read_answer}
use Rattle.tl_server.proofs.shelf.answer_shelf.Goals as goal

pub returns-in_default : goal.returns-in_default
returns-in_default g c = record {
  answer = bare 404;
  decided = inl (c.in_default.ensures, (tt, refl));
  sends = c.refuse.ensures;
}

pub returns-then-not-is_text : goal.returns-then-not-is_text
returns-then-not-is_text g c = record {
  answer = not_allowed (codes "GET");
  decided = inr (c.in-Some.resource, c.in-Some.ensures, inl (search rules, (tt, refl)));
  sends = c.refuse_method.ensures;
}

pub returns : goal.returns
returns g c = record {
  answer = read_answer c.in-Some.resource c.read-read.result;
  decided = inr (
    c.in-Some.resource,
    c.in-Some.ensures,
    inr (
      search rules,
      record { read = c.read-read.result; right = c.read-read.ensures.found; failed = c.read-read.ensures.failed; answer = refl },
    ),
  );
  sends = c.answer_read.ensures;
}
