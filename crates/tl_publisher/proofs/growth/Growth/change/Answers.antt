use Rattle.std.proofs.Common.{◌≡◌, refl, sym, subst, ◌∙◌}
use Rattle.std.proofs.lemmas.List.Elements.{same_from_all_zip}
use Rattle.sha2.specs.Sha256.{sha256}
use Rattle.tl_publisher.specs.Boards.{IsFaceOf}
use Rattle.tl_publisher.specs.Grown.{IsGrown}
use Rattle.tl_publisher.proofs.growth.Growth.change.Goals as goal

pub returns : goal.returns
returns g c start entries is =
    let own : IsGrown sha256 start entries (record { edge = c.self.inside.edge; bundle = c.self.inside.bundle.items; waiting = c.self.inside.waiting.items }) = subst (IsGrown sha256 start entries) (sym c.self.view_is) is in
    let bundle : c.in_ok-clone.field-0.items ≡ c.self.inside.bundle.items = same_from_all_zip _ _ _ c.in_ok-clone.ensures.cases.0 (λ x y same. same) in (
      c.in_ok-added.ensures ∙ own.waiting,
      subst (IsFaceOf sha256 (record { entries = entries; note = c.args.note.items })) (sym c.in_ok-face.ensures)
          (record {
            size = c.size.ensures ∙ sym own.edge.0;
            root = c.root.ensures entries own.edge;
            tiles = c.in_ok-partial_tiles.ensures entries own.edge;
            bundle = bundle ∙ own.bundle;
            note = refl;
          }),
    )
