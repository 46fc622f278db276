use Rattle.std.proofs.Common.{refl}
use Rattle.tl_append.specs.Keys.{log_key_of, opening_key_of}
use Rattle.tl_append.specs.Running.{visit}
use Rattle.tl_append.proofs.Proposals.{has_own}
use Rattle.tl_append.proofs.Runs.{key_name}
use Rattle.tl_serve.proofs.Shelves.{serves_given}
use Rattle.tl_serve.proofs.serve_shelf.run_serve_shelf.Goals as goal

pub serve_under-requires-clause-name : goal.serve_under-requires-clause-name
serve_under-requires-clause-name g c κs within = key_name c.args.options.now.key _ (log_key_of c.in-Ok.keys.signer) c.in-Ok.ensures.signer (c.if-not-is_key_name.ensures.0 refl)

pub returns-clause-serves : goal.returns-clause-serves
returns-clause-serves g c =
    serves_given c.args.options.now.key _ _ (log_key_of c.in-Ok.keys.signer) (g.S.LogShelf.quorum c.args.shelf) c.serve_under.new.found (visit g.S.LogShelf.kept g.S.LogShelf.trace c.args.shelf c.serve_under.result.shelf) c.serve_under.result.outcome
    c.as_str-origin.ensures.value c.in-Ok.ensures.signer c.serve_under.ensures.serves

pub returns-clause-newest : goal.returns-clause-newest
returns-clause-newest g c =
    has_own c.args.options.now.key _ _ (log_key_of c.in-Ok.keys.signer) (opening_key_of c.in-Ok.keys.verifier) (g.S.LogShelf.may_have c.args.shelf) _
    c.as_str-origin.ensures.value c.in-Ok.ensures.both c.serve_under.ensures.newest
