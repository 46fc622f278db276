use Rattle.std.proofs.Common.{◌≡◌, ℕ, ◌++◌, Option, Some, None, IfSome, ap, sym, ◌∙◌, append_assoc}
use Rattle.std.specs.Prelude.{MatchOption}
use Rattle.tl_hash.specs.Bytes.{Bytes}
use Rattle.tl_text.specs.Text.{HasNoControl, IsSize, line, number_text}
use Rattle.tl_bucket.specs.Operators.{TellsSize}
use Rattle.tl_bucket.proofs.noting.size_told.Goals as goal

-- the second line is a size
told : (X : Type 0) (note origin behind number rest : Bytes) (r : Option ℕ) → HasNoControl origin → note ≡ line origin ++ behind → behind ≡ line number ++ rest
    → MatchOption r X (λ (size : ℕ). IsSize size × (number ≡ number_text size)) → IfSome r (TellsSize note)
told X note origin behind number rest None plain first next reads = tt
told X note origin behind number rest (Some size) plain first next reads = record {
  origin = origin;
  rest = rest;
  plain = plain;
  bounded = reads.0;
  spelled = first ∙ ap (λ (t : Bytes). line origin ++ t) (next ∙ ap (λ (t : Bytes). line t ++ rest) reads.1) ∙ sym (append_assoc (line origin) (line (number_text size)) rest);
}

pub returns : goal.returns
returns c = told _ c.args.note.now c.in-Some.field-0-0.now c.in-Some.rest.now c.in-Some-cut_line.number.now c.in-Some-cut_line.field-0-1.now c.read_size.result
    c.in-Some.ensures.0 c.in-Some.ensures.1 c.in-Some-cut_line.ensures.1 c.read_size.ensures
