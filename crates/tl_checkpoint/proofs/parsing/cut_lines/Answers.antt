use Rattle.std.proofs.Common.{◌≡◌, true, false, refl}
use Rattle.tl_checkpoint.proofs.ExtensionLemmas.{none_first_line, none_second_line, none_third_line, none_extensions, in_lines}
use Rattle.tl_checkpoint.proofs.parsing.cut_lines.Goals as goal

pub returns-in_default : goal.returns-in_default
returns-in_default c = none_first_line c.args.text.now c.in_default.ensures

pub returns-in_default-split_line : goal.returns-in_default-split_line
returns-in_default-split_line c =
    let o = c.in-Some.ensures in
    none_second_line c.args.text.now c.in-Some.origin.now c.in-Some.rest.now o.0 o.1 c.in_default-split_line.ensures

pub returns-in_default-split_line-2 : goal.returns-in_default-split_line-2
returns-in_default-split_line-2 c =
    let o = c.in-Some.ensures in
    let s = c.in-Some-split_line.ensures in
    none_third_line c.args.text.now c.in-Some.origin.now c.in-Some-split_line.size.now c.in-Some.rest.now c.in-Some-split_line.rest.now o.0 s.0 o.1 s.1 c.in_default-split_line-2.ensures

pub returns-then-not-are_extensions : goal.returns-then-not-are_extensions
returns-then-not-are_extensions c =
    let o = c.in-Some.ensures in
    let s = c.in-Some-split_line.ensures in
    let r = c.in-Some-split_line-2.ensures in
    none_extensions c.args.text.now c.in-Some.origin.now c.in-Some-split_line.size.now c.in-Some-split_line-2.root.now c.in-Some.rest.now c.in-Some-split_line.rest.now c.in-Some-split_line-2.extensions.now
    o.0 s.0 r.0 o.1 s.1 r.1 (λ lines each e. let t : false ≡ true = c.if-not-are_extensions.ensures.1 (lines, record { each = each; joined = e }) in absurd cc)

pub returns : goal.returns
returns c =
    let o = c.in-Some.ensures in
    let s = c.in-Some-split_line.ensures in
    let r = c.in-Some-split_line-2.ensures in
    let all = c.if-not-are_extensions.ensures.0 refl in
    record {
      extensions = all;
      lines = in_lines c.args.text.now c.in-Some.origin.now c.in-Some-split_line.size.now c.in-Some-split_line-2.root.now c.in-Some.rest.now c.in-Some-split_line.rest.now
          c.in-Some-split_line-2.extensions.now all.0 o.0 s.0 r.0 o.1 s.1 r.1 all.1.each all.1.joined;
    }
