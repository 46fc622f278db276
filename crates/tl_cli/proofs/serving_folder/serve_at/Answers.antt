use Rattle.std.proofs.Common.{ap, ◌∙◌}
use Rattle.tl_cli.specs.Lasting.{Folder}
use Rattle.tl_cli.proofs.Folders.{serves_since}
use Rattle.tl_cli.proofs.serving_folder.serve_at.Goals as goal

pub returns-clause-serves : goal.returns-clause-serves
returns-clause-serves g c = (
  (
    ap (λ (f : Folder). f.locked) c.own.view_is ∙ c.in-Ok-own_folder.ensures.at.0,
    c.serve_folder-shelf.ensures.place ∙ ap (λ (f : Folder). f.shelf.place) c.own.view_is ∙ c.in-Ok-own_folder.ensures.at.1,
  ),
  serves_since g.D.CrashOutcome.held g.D.CrashOutcome.reached c.args.options.now c.serve_folder-shelf.new.found c.own.inside.shelf c.serve_folder-shelf.result.shelf c.serve_folder-shelf.result.outcome
      (ap (λ (f : Folder). f.shelf.events) c.own.view_is ∙ c.in-Ok-own_folder.ensures.events)
      c.serve_folder-shelf.ensures.serves,
)
