use Rattle.std.proofs.Common.{string_bytes, ◌∙◌}
use Rattle.tl_cli.proofs.Buckets.{key_by, opened}
use Rattle.tl_cli.proofs.own_bucket.open_bucket.Goals as goal

pub returns-in-Ok : goal.returns-in-Ok
returns-in-Ok g c =
    opened c.args.options.now c.args.is_new c.in-Ok.shelf c.in_ok-client.client (string_bytes c.in_ok-token.token) c.in_ok-client.ensures.at c.in_ok-client.ensures.region
    (key_by c.args.options.now (string_bytes c.args.key.now.id) (string_bytes c.args.key.now.secret) c.in_ok-client.client.credential.id c.in_ok-client.client.credential.secret
    c.in_ok-client.ensures.key.0 c.in_ok-client.ensures.key.1 c.requires)
    c.in_ok-token.ensures c.in-Ok.ensures.waiting c.in-Ok.ensures.refuses c.in-Ok.ensures.end c.in-Ok.ensures.shown c.in-Ok.ensures.begins (c.in-Ok.ensures.place ∙ c.as_str.ensures.value) c.in-Ok.ensures.reads c.in-Ok.ensures.events c.in-Ok.ensures.unmarked
