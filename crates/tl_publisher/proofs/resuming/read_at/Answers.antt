use Rattle.std.proofs.Common.{map, vec_items, sym, subst, ◌∙◌, arith}
use Rattle.std.proofs.lemmas.Grind.{common_steps}
use Rattle.std.specs.Prelude.{Err}
use Rattle.std.specs.Global.{Global}
use Rattle.std.proofs.lemmas.List.{length-map}
use Rattle.tl_tile.specs.ReadBundle.{ReadsBundle}
use Rattle.tl_publisher.specs.Inner.Resuming.{MissesBundle}
use Rattle.tl_publisher.proofs.Resumptions.{counted, item_at, bundle_refused}
use Rattle.tl_publisher.proofs.resuming.read_at.Goals as goal

pub bundle_width-width-requires : goal.bundle_width-width-requires
bundle_width-width-requires c = omega (arith, counted c.args.size, c.requires.within, c.requires.counted)

pub returns-in-Err : goal.returns-in-Err
returns-in-Err c = record {
  entries = tt;
  text = tt;
  refused = λ before.
      let many = length-map c.args.bundles.now vec_items in
      let bytes = item_at c.args.bundles.now c.args.place c.index-bundles-place.result c.requires.within c.index-bundles-place.is ∙ sym c.deref.ensures.value in
      subst (MissesBundle (map vec_items c.args.bundles.now) c.args.size) (sym c.bundle_refusal.ensures)
      (bundle_refused Global (map vec_items c.args.bundles.now) c.args.size c.args.place c.deref.result.now c.in-Err.fault (omega (arith, many, c.requires.within)) bytes
      (subst (λ w. ReadsBundle {A = Global} c.deref.result.now w (Err c.in-Err.fault)) c.bundle_width-width.ensures.value c.in-Err.ensures) before);
}

pub returns-in-Ok-clause-text : goal.returns-in-Ok-clause-text
returns-in-Ok-clause-text c = grind (arith, common_steps)
