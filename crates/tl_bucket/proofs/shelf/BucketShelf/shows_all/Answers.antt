use Rattle.std.proofs.Common.{◌≡◌, Some, option_map, rules}
use Rattle.tl_bucket.specs.Buckets.{Shown}
use Rattle.tl_bucket.proofs.Settled.{tells_shown}
use Rattle.tl_bucket.proofs.shelf.BucketShelf.shows_all.Goals as goal

pub returns-in-Some-size_told : goal.returns-in-Some-size_told
returns-in-Some-size_told g c =
    let there : Some c.in-Some.note.now ≡ option_map (λ (s : Shown). s.note) c.args.self.now.objects.shown = search rules in
    λ all. tells_shown c.args.self.now.objects.shown c.in-Some.note.now c.args.self.now.objects.claims.start there (search rules)
