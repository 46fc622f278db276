use Rattle.std.proofs.Common.{◌∙◌, ◌++◌, ◌∷◌, [], List, ℕ, ap, sym}
use Rattle.std.proofs.lemmas.List.Elements.{All-nil, All-push}
use Rattle.tl_command.specs.Lines.{HasNoNewline}
use Rattle.tl_command.proofs.GrowingLemmas.{IsOther, line_ended, told_after}
use Rattle.tl_command.proofs.growing.Growing.end_line.Goals as goal

pub returns-then-is_some-clause-grows : goal.returns-then-is_some-clause-grows
returns-then-is_some-clause-grows g c = λ input was. record {
  lines = was.lines ++ was.last ∷ [];
  last = [];
  whole = ap (λ (t : List ℕ). t ++ 10 ∷ []) was.whole ∙ line_ended was.lines was.last;
  plain = All-push HasNoNewline was.lines was.last was.plain was.last_plain;
  last_plain = All-nil IsOther;
  kept = c.clear.ensures.items;
  told = told_after c.args.self.now.too_long was.lines was.last _ _ (sym c.if-is_some.ensures) was.told;
}

pub returns-clause-grows : goal.returns-clause-grows
returns-clause-grows g c = λ input was. record {
  lines = was.lines ++ was.last ∷ [];
  last = [];
  whole = ap (λ (t : List ℕ). t ++ 10 ∷ []) was.whole ∙ line_ended was.lines was.last;
  plain = All-push HasNoNewline was.lines was.last was.plain was.last_plain;
  last_plain = All-nil IsOther;
  kept = c.clear-2.ensures.items;
  told = c.in_ok-log_line.ensures.told was.lines was.last was.told was.kept;
}
