use Rattle.std.proofs.Common.{◌∙◌, ◌++◌, ◌-◌, List, ℕ, ap, append_assoc, length, min, take, vec_items}
use Rattle.std.proofs.lemmas.List.Elements.{All-append}
use Rattle.tl_command.specs.Lines.{lines_text}
use Rattle.tl_command.proofs.GrowingLemmas.{kept_more, IsOther}
use Rattle.tl_command.proofs.growing.Growing.extend.Goals as goal

pub returns-clause-grows : goal.returns-clause-grows
returns-clause-grows g c = λ input was.
    let part = c.args.part.now in
    record {
      lines = was.lines;
      last = was.last ++ part;
      whole = ap (λ (t : List ℕ). t ++ part) was.whole ∙ append_assoc (lines_text was.lines) was.last part;
      plain = was.plain;
      last_plain = All-append IsOther was.last part was.last_plain c.requires;
      kept = c.in_ok-extend_from_slice.ensures.items
          ∙ ap (λ (n : ℕ). vec_items c.args.self.now.line ++ take n part) (c.min.ensures ∙ ap (λ (r : ℕ). min r (length part)) (c.saturating_sub-room.ensures ∙ ap (λ (k : ℕ). 65536 - k) (c.len.ensures ∙ c.args.self.now.line.ok.0)))
          ∙ kept_more was.last part (vec_items c.args.self.now.line) was.kept;
      told = was.told;
    }
