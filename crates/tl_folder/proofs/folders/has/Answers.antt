use Rattle.std.proofs.Common.{string_bytes, ◌∙◌, rules, tests}
use Rattle.std.specs.Str.{bytes_eq}
use Rattle.std.proofs.lemmas.Iterator.{YieldsList-from_slice}
use Rattle.std.proofs.lemmas.Iterator.Search.{any_from_yields_List}
use Rattle.tl_folder.proofs.Above.{has_any}
use Rattle.tl_folder.proofs.folders.has.Goals as goal

pub returns : goal.returns
returns c =
    any_from_yields_List (λ it. bytes_eq (string_bytes it) c.args.folder.now) _ _ c.any.result c.any.ensures.ran (YieldsList-from_slice c.args.folders.now cc) (λ x b q k. search (rules, tests))
    ∙ has_any string_bytes c.args.folders.now c.args.folder.now
