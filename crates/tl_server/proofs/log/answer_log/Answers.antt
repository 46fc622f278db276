use Rattle.std.proofs.Common.{refl, inl, inr, rules}
use Rattle.std.specs.Prelude.{codes}
use Rattle.tl_server.specs.Answer.{bare, not_allowed}
use Rattle.tl_server.specs.Log.{look_answer}
use Rattle.tl_server.proofs.log.answer_log.Goals as goal

pub returns-in_default : goal.returns-in_default
returns-in_default g c = record {
  answer = bare 404;
  decided = inl (c.in_default.ensures, (refl, refl));
  sends = c.refuse.ensures;
}

pub returns-then-not-is_text : goal.returns-then-not-is_text
returns-then-not-is_text g c = record {
  answer = not_allowed (codes "GET");
  decided = inr (c.in-Some.resource, c.in-Some.ensures, inl (search rules, (refl, refl)));
  sends = c.refuse_method.ensures;
}

pub returns : goal.returns
returns g c = record {
  answer = look_answer c.in-Some.resource c.get-look.result;
  decided = inr (
    c.in-Some.resource,
    c.in-Some.ensures,
    inr (
      search rules,
      record { look = c.get-look.result; right = c.get-look.ensures; answer = refl },
    ),
  );
  sends = c.answer_look.ensures;
}
