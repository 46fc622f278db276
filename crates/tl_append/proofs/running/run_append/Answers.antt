use Rattle.std.proofs.Common.{inl, inr, refl, subst, arith}
use Rattle.std.proofs.lemmas.Grind.{common_steps}
use Rattle.tl_hash.specs.Bytes.{Bytes}
use Rattle.tl_append.specs.Keys.{log_key_of, opening_key_of}
use Rattle.tl_append.specs.Running.{IsLogKey}
use Rattle.tl_append.proofs.Proposals.{has_own}
use Rattle.tl_append.proofs.Runs.{key_name, stayed, under_part}
use Rattle.tl_append.proofs.running.run_append.Goals as goal

pub append_under-requires : goal.append_under-requires
append_under-requires g c = key_name c.args.options.now.key _ (log_key_of c.in-Ok.keys.signer) c.in-Ok.ensures.signer (c.if-not-is_key_name.ensures.0 refl)

pub returns-then-not-is_key_name-clause-goes_on : goal.returns-then-not-is_key_name-clause-goes_on
returns-then-not-is_key_name-clause-goes_on g c = inl (stayed (g.S.Shelf.kept c.args.shelf.now) (g.S.Shelf.trace c.args.shelf.now) (g.R.Read.remaining c.args.reader.now.device) c.args.reader.now.failed)

pub returns-in-Err-clause-goes_on : goal.returns-in-Err-clause-goes_on
returns-in-Err-clause-goes_on g c = inl (stayed (g.S.Shelf.kept c.args.shelf.now) (g.S.Shelf.trace c.args.shelf.now) (g.R.Read.remaining c.args.reader.now.device) c.args.reader.now.failed)

pub returns-in-Ok-append_under-clause-goes_on : goal.returns-in-Ok-append_under-clause-goes_on
returns-in-Ok-append_under-clause-goes_on g c = (
  log_key_of c.in-Ok.keys.signer,
  subst (λ (n : Bytes). IsLogKey c.args.options.now.key n (log_key_of c.in-Ok.keys.signer)) c.as_str-origin.ensures.value c.in-Ok.ensures.signer,
  c.in-Ok-append_under.ensures.goes_on,
)

pub returns-in-Err-append_under-clause-goes_on : goal.returns-in-Err-append_under-clause-goes_on
returns-in-Err-append_under-clause-goes_on g c =
    under_part c.args.options.now.key _ _ (log_key_of c.in-Ok.keys.signer) _ _ _ c.as_str-origin.ensures.value c.in-Ok.ensures.signer c.in-Err-append_under.ensures.goes_on

pub returns-then-not-is_key_name-clause-left : goal.returns-then-not-is_key_name-clause-left
returns-then-not-is_key_name-clause-left g c = inr (stayed (g.S.Shelf.kept c.args.shelf.now) (g.S.Shelf.trace c.args.shelf.now) (g.R.Read.remaining c.args.reader.now.device) c.args.reader.now.failed)

pub returns-in-Err-clause-left : goal.returns-in-Err-clause-left
returns-in-Err-clause-left g c = inr (stayed (g.S.Shelf.kept c.args.shelf.now) (g.S.Shelf.trace c.args.shelf.now) (g.R.Read.remaining c.args.reader.now.device) c.args.reader.now.failed)

pub returns-then-not-is_key_name-clause-newest : goal.returns-then-not-is_key_name-clause-newest
returns-then-not-is_key_name-clause-newest g c = inl (stayed (g.S.Shelf.kept c.args.shelf.now) (g.S.Shelf.trace c.args.shelf.now) (g.R.Read.remaining c.args.reader.now.device) c.args.reader.now.failed)

pub returns-in-Err-clause-newest : goal.returns-in-Err-clause-newest
returns-in-Err-clause-newest g c = inl (stayed (g.S.Shelf.kept c.args.shelf.now) (g.S.Shelf.trace c.args.shelf.now) (g.R.Read.remaining c.args.reader.now.device) c.args.reader.now.failed)

pub returns-in-Ok-append_under-clause-newest : goal.returns-in-Ok-append_under-clause-newest
returns-in-Ok-append_under-clause-newest g c =
    has_own c.args.options.now.key _ _ (log_key_of c.in-Ok.keys.signer) (opening_key_of c.in-Ok.keys.verifier) _ _ c.as_str-origin.ensures.value c.in-Ok.ensures.both c.append_under.ensures.newest

pub returns-in-Err-append_under-clause-newest : goal.returns-in-Err-append_under-clause-newest
returns-in-Err-append_under-clause-newest g c =
    has_own c.args.options.now.key _ _ (log_key_of c.in-Ok.keys.signer) (opening_key_of c.in-Ok.keys.verifier) _ _ c.as_str-origin.ensures.value c.in-Ok.ensures.both c.append_under.ensures.newest

pub returns-in-Ok-append_under-clause-marked : goal.returns-in-Ok-append_under-clause-marked
returns-in-Ok-append_under-clause-marked g c = (
  log_key_of c.in-Ok.keys.signer,
  subst (λ (n : Bytes). IsLogKey c.args.options.now.key n (log_key_of c.in-Ok.keys.signer)) c.as_str-origin.ensures.value c.in-Ok.ensures.signer,
  c.in-Ok-append_under.ensures.marked,
)

pub returns-in-Err-append_under-clause-fresh : goal.returns-in-Err-append_under-clause-fresh
returns-in-Err-append_under-clause-fresh g c = grind (arith, common_steps)

pub returns-in-Err-append_under-clause-marked : goal.returns-in-Err-append_under-clause-marked
returns-in-Err-append_under-clause-marked g c = grind (arith, common_steps)

pub returns-in-Err-append_under-clause-place : goal.returns-in-Err-append_under-clause-place
returns-in-Err-append_under-clause-place g c = grind (arith, common_steps)

pub returns-in-Err-append_under-clause-refuses : goal.returns-in-Err-append_under-clause-refuses
returns-in-Err-append_under-clause-refuses g c = grind (arith, common_steps)

pub returns-in-Err-append_under-clause-within : goal.returns-in-Err-append_under-clause-within
returns-in-Err-append_under-clause-within g c = grind (arith, common_steps)

pub returns-in-Err-clause-refuses : goal.returns-in-Err-clause-refuses
returns-in-Err-clause-refuses g c = grind (arith, common_steps)

pub returns-in-Ok-append_under-clause-fresh : goal.returns-in-Ok-append_under-clause-fresh
returns-in-Ok-append_under-clause-fresh g c = grind (arith, common_steps)

pub returns-in-Ok-append_under-clause-left : goal.returns-in-Ok-append_under-clause-left
returns-in-Ok-append_under-clause-left g c = grind (arith, common_steps)

pub returns-in-Ok-append_under-clause-place : goal.returns-in-Ok-append_under-clause-place
returns-in-Ok-append_under-clause-place g c = grind (arith, common_steps)

pub returns-in-Ok-append_under-clause-refuses : goal.returns-in-Ok-append_under-clause-refuses
returns-in-Ok-append_under-clause-refuses g c = grind (arith, common_steps)

pub returns-then-not-is_key_name-clause-refuses : goal.returns-then-not-is_key_name-clause-refuses
returns-then-not-is_key_name-clause-refuses g c = grind (arith, common_steps)
