use Rattle.std.proofs.Common.{◌≡◌, ◌∷◌, [], inr, refl, subst, arith}
use Rattle.std.specs.Prelude.{Result, OnOk}
use Rattle.std.proofs.lemmas.Grind.{common_steps}
use Rattle.tl_append.specs.Keys.{log_key_of, opening_key_of}
use Rattle.tl_append.proofs.Runs.{grows_then, key_name}
use Rattle.tl_run.specs.declared.fault.RunFault.{RunFault}
use Rattle.tl_bucket.specs.Buckets.{bucket_kept, bucket_trace}
use Rattle.tl_bucket.proofs.finishing.finish_log.Goals as goal

pub finish-requires : goal.finish-requires
finish-requires g c = record { origin = key_name c.args.key.now c.args.origin.now (log_key_of c.in-Ok.keys.signer) c.in-Ok.ensures.signer (c.if-not-is_key_name.ensures.0 refl) }

pub returns-clause-finishes : goal.returns-clause-finishes
returns-clause-finishes g c =
    let opens = c.in-Ok-open_ledger.ensures.opens in
    let own = log_key_of c.in-Ok.keys.signer in
    let opener = opening_key_of c.in-Ok.keys.verifier in
    let kept = bucket_kept g.D.CrashOutcome.held g.D.CrashOutcome.reached in
    let trace = bucket_trace g.D.CrashOutcome.held g.D.CrashOutcome.reached in
    inr (inr (record {
      own = own;
      opener = opener;
      named = c.in-Ok.ensures.both;
      found = c.open_ledger.new.found;
      was = c.in-Ok-open_ledger.opened.ledger;
      is = c.finish.new.ledger;
      signed = opens.signed;
      sized = opens.sized;
      finishes = c.finish.ensures.finishes;
      even = λ well. subst (λ (r : Result (Unit {0}) RunFault). OnOk r (c.finish.new.ledger.edge.size ≡ c.finish.new.self.objects.claims.start)) well c.finish.ensures.even;
      grows = λ batches rest appends. grows_then own (opener ∷ []) c.open_ledger.new.found (kept c.args.shelf.now) (kept c.finish.new.self) (trace c.args.shelf.now) (trace c.finish.new.self)
          c.in-Ok-open_ledger.opened.ledger c.finish.new.ledger opens batches rest appends;
    }))

pub returns-clause-place : goal.returns-clause-place
returns-clause-place g c = grind (arith, common_steps)

pub returns-in-Err-clause-finishes : goal.returns-in-Err-clause-finishes
returns-in-Err-clause-finishes g c = grind (arith, common_steps)

pub returns-in-Err-clause-place : goal.returns-in-Err-clause-place
returns-in-Err-clause-place g c = grind (arith, common_steps)

pub returns-in-Err-open_ledger-clause-finishes : goal.returns-in-Err-open_ledger-clause-finishes
returns-in-Err-open_ledger-clause-finishes g c = grind (arith, common_steps)

pub returns-in-Err-open_ledger-clause-place : goal.returns-in-Err-open_ledger-clause-place
returns-in-Err-open_ledger-clause-place g c = grind (arith, common_steps)

pub returns-then-not-is_key_name-clause-finishes : goal.returns-then-not-is_key_name-clause-finishes
returns-then-not-is_key_name-clause-finishes g c = grind (arith, common_steps)

pub returns-then-not-is_key_name-clause-place : goal.returns-then-not-is_key_name-clause-place
returns-then-not-is_key_name-clause-place g c = grind (arith, common_steps)
