-- Commands on a log in a bucket, from their parts.
use Rattle.std.proofs.Common.{◌≡◌, ◌⊎◌, ℕ, false, true≢false, Err, [], None, ap, inl, inr, refl, string_bytes, subst, sym, ◌∙◌}
use Rattle.tl_bucket.specs.Buckets.{Bucketed, Objects, no_objects}
use Rattle.tl_bucket.specs.Opened.{BeginsThere, IsAtEnd, KnowsShown, RefusesPuts}
use Rattle.tl_hash.specs.Bytes.{Bytes}
use Rattle.tl_s3.specs.Objects.{Place}
use Rattle.tl_run.specs.declared.fault.RunFault.{RunFault}
use Rattle.tl_cli.specs.InBucket.{EndsInBucket, IsKeyFor, IsPlaceOf, IsRefused, IsToken, OpensBucket}
use Rattle.tl_cli.specs.declared.own_bucket.BucketOptions.{BucketOptions}
use Rattle.tl_cli.specs.declared.fault.CommandFault.{CommandFault}
use Rattle.tl_cli.specs.declared.fault.CommandFault.TheVariants.{Run, Bucket}
use Rattle.std.specs.Prelude.{Bool, Result, Ok}
use Rattle.std.specs.Result.{IsErr}

-- a run that ends with a fault of a bucket fails
pub refused : (fault : RunFault) (result : Result (Unit {0}) CommandFault) → EndsInBucket (Err fault) result → IsRefused result
refused fault result (inl run) = (Run fault, run)
refused fault result (inr own) = (Bucket own.0, own.1)

-- a fault that is passed on refuses
pub is_refused : (result : Result (Unit {0}) CommandFault) → IsErr result → IsRefused result
is_refused (Ok done) fails = absurd (true≢false (sym fails))
is_refused (Err fault) fails = (fault, refl)

-- a bucket opened by a client is that of the options with the client's place
pub opened : (options : BucketOptions) (new : Bool) (b : Bucketed) (p : Place) (token : Bytes) → IsPlaceOf (string_bytes options.address) p → p.credential.region ≡ string_bytes options.region
    → IsKeyFor options p.credential.id p.credential.secret → IsToken token → b.objects ≡ no_objects p b.objects.claims b.objects.shown → RefusesPuts p → IsAtEnd p token b.objects.claims → KnowsShown p b.objects.shown
    → BeginsThere new b.objects.claims b.objects.shown
    → b.place ≡ string_bytes options.address → b.reads_anew ≡ false → b.events ≡ [] → b.published ≡ None → OpensBucket options new b
opened options new b p token at region key drawn same refuses end known begins named reads events unmarked =
    let there : b.objects.at ≡ p = ap (λ (o : Objects). o.at) same in
    record {
      named = named;
      at = subst (IsPlaceOf (string_bytes options.address)) (sym there) at;
      region = ap (λ (q : Place). q.credential.region) there ∙ region;
      key = subst (λ (q : Place). IsKeyFor options q.credential.id q.credential.secret) (sym there) key;
      refuses = subst RefusesPuts (sym there) refuses;
      token = token;
      drawn = drawn;
      end = subst (λ (q : Place). IsAtEnd q token b.objects.claims) (sym there) end;
      waiting = same ∙ ap (λ (q : Place). no_objects q b.objects.claims b.objects.shown) (sym there);
      shown = subst (λ (q : Place). KnowsShown q b.objects.shown) (sym there) known;
      begins = begins;
      reads = reads;
      events = events;
      unmarked = unmarked;
    }

-- a key by other words for its name and its secret
pub key_by : (options : BucketOptions) (id secret name hidden : Bytes) → name ≡ id → hidden ≡ secret → IsKeyFor options id secret → IsKeyFor options name hidden
key_by options id secret name hidden named same key =
    subst (λ (n : Bytes). IsKeyFor options n hidden) (sym named) (subst (λ (h : Bytes). IsKeyFor options id h) (sym same) key)

-- a log of this many entries, or nothing was done
pub started : (Left : Type 0) (size start committed : ℕ) → start ≡ committed → Left ⊎ (size ≡ start) → Left ⊎ (size ≡ committed)
started Left size start committed same (inl left) = inl left
started Left size start committed same (inr is) = inr (is ∙ same)
