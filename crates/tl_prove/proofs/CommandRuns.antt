-- How `prove` and `submit` end, by what their parts say.
use Rattle.std.proofs.Common.{◌≡◌, ℕ, refl, ap, subst, inl, inr, string_bytes, vec_items, Option, Some, None, Result, Ok, Err, sym}
use Rattle.std.specs.Option.{is_some}
use Rattle.sha2.specs.Sha256.{sha256}
use Rattle.tl_hash.specs.Bytes.{Bytes}
use Rattle.tl_hash.specs.Tree.{leaf_input}
use Rattle.tl_tile.specs.declared.resource.Resource.{Resource}
use Rattle.tl_device.specs.Device.{Passage, IsUnwritten, WrotePart, WroteWhole}
use Rattle.tl_policy.specs.Terms.{Terms}
use Rattle.tl_policy.specs.ReadPolicy.{ReadsPolicy}
use Rattle.tl_source.specs.Url.{IsNoUrl}
use Rattle.tl_source.specs.declared.url.Url.{Url}
use Rattle.tl_run.specs.declared.fault.RunFault.{RunFault}
use Rattle.tl_run.specs.declared.fault.RunFault.TheVariants as run
use Rattle.tl_fetch.specs.declared.fault.FetchFault.{FetchFault}
use Rattle.tl_fetch.specs.declared.fault.FetchFault.TheVariants as fetch
use Rattle.tl_fetch.specs.declared.fault.Address.TheVariants.{From}
use Rattle.tl_fetch.specs.Command.{HasScheme, IsOriginOf}
use Rattle.tl_source.specs.Sources.{Origin}
use Rattle.tl_prove.specs.Entry.{IsGiven}
use Rattle.tl_prove.specs.Inner.Proving.{OpensSource, checkpoint_of, head_of}
use Rattle.tl_prove.specs.Prove.{RefusesLeaf}
use Rattle.tl_prove.specs.ProveCommand.{HasExtra, IsBadAddress, IsRequested, IsShownAs, ProvesBy, ProvesFor, RunsProve, source_answers}
use Rattle.tl_prove.specs.SubmitCommand.{IsProofOf, IsUrlOf, MayTake, RefusesTaken, RunsSubmit, Submits, host_answers}
use Rattle.tl_prove.specs.declared.fault.ProveFault.{ProveFault}
use Rattle.tl_prove.specs.declared.fault.ProveFault.TheVariants as flaw
use Rattle.tl_prove.specs.declared.options.ProveOptions.{ProveOptions}
use Rattle.tl_prove.specs.declared.options.SubmitOptions.{SubmitOptions}
use Rattle.tl_prove.specs.declared.proving.TrustedNote.{TrustedNote}
use Rattle.tl_prove.specs.declared.proving.Wanted.{Wanted}

-- ---- the options

-- extra data by a path behind a reference
pub extra_of : {A B : Type 0} (path : Option A) (given : Option B) (extra : Option Bytes) → is_some path ≡ is_some given → HasExtra path extra → HasExtra given extra
extra_of None None extra same has = has
extra_of None (Some y) extra same has = cc
extra_of (Some x) None extra same has = cc
extra_of (Some x) (Some y) extra same has = has

-- an address that is none
pub bad_address : (from text : Bytes) (why : FetchFault) → text ≡ from → (why ≡ fetch.BadAddress From) × HasScheme text × IsNoUrl text → IsBadAddress from (flaw.Fetch why)
bad_address from text why same bad = (ap flaw.Fetch bad.0, subst HasScheme same bad.1, subst IsNoUrl same bad.2)

-- ---- `prove`

-- a proof of what the source of the options has, or why there is none
pub proves_for : (options : ProveOptions) (policy : Bytes) (extra : Option Bytes) (from : Bytes) (origin at : Origin) (asked : Wanted) (r : Result Bytes ProveFault)
    → from ≡ string_bytes options.from → IsOriginOf from origin → at ≡ origin → IsRequested options.wanted asked → ProvesBy (source_answers at) (λ r. Unit {0}) policy asked extra r
    → ProvesFor options policy extra r
proves_for options policy extra from origin at asked (Ok text) same is there requested proves =
    (at, subst (λ (t : Bytes). IsOriginOf t at) same (subst (IsOriginOf from) (sym there) is), (asked, requested, proves))
proves_for options policy extra from origin at asked (Err fault) same is there requested proves =
    inr (inr (at, subst (λ (t : Bytes). IsOriginOf t at) same (subst (IsOriginOf from) (sym there) is), (asked, requested, proves)))

-- the end of a run of `prove`
module _ (options : ProveOptions) (policy : Bytes) (extra : Option Bytes) (o : Passage) (has : HasExtra options.extra extra) where
  pub wrote_proof : (text written : Bytes) → written ≡ text → ProvesFor options policy extra (Ok text) → WroteWhole o written → RunsProve options o (Ok tt)
  wrote_proof text written same proves whole = (policy, (extra, has, (text, proves, subst (WroteWhole o) same whole)))

  pub broke_proof : (text written : Bytes) (why : RunFault) → written ≡ text → ProvesFor options policy extra (Ok text) → why ≡ run.Write → WrotePart o written
      → RunsProve options o (Err (flaw.Fetch (fetch.Run why)))
  broke_proof text written why same proves write part =
      inr (policy, (extra, has, inr (ap (λ (w : RunFault). flaw.Fetch (fetch.Run w)) write, (text, proves, subst (WrotePart o) same part))))

  pub no_proof : (fault : ProveFault) → ProvesFor options policy extra (Err fault) → IsUnwritten o → RunsProve options o (Err fault)
  no_proof fault refused none = inr (policy, (extra, has, inl (refused, none)))

-- ---- `submit`

-- there is no proof of the entry that the log took
pub not_taken : (answers : Resource → Bytes → Type 0) (lacks : Resource → Type 0) (p : Terms) (t : TrustedNote) (entry : Bytes) (index : ℕ) (leaf : Bytes) (fault : ProveFault)
    → OpensSource answers lacks p (Ok t) → leaf ≡ sha256 (leaf_input entry)
    → RefusesLeaf answers lacks (head_of t) index leaf fault
    → RefusesTaken answers lacks p entry index fault
not_taken answers lacks p t entry index leaf fault opened is refused =
    inr (record {
      note = string_bytes t.note;
      c = checkpoint_of t;
      log = t.trusted.log;
      times = vec_items t.trusted.times;
      opened = opened;
      refused = subst (λ (l : Bytes). RefusesLeaf answers lacks (head_of t) index l fault) is refused;
    })

-- there is no proof of what the log took, by the address that the source has
pub by_host : (at url : Url) (p : Terms) (entry : Bytes) (extra : Option Bytes) (index : ℕ) (fault shown : ProveFault) → at ≡ url → MayTake url entry index
    → RefusesTaken (host_answers at) (λ r. Unit {0}) p entry index fault → IsShownAs fault shown
    → Submits url p entry extra (Err shown)
by_host at url p entry extra index fault shown is takes refused told =
    inr (record {
      index = index;
      takes = takes;
      fault = fault;
      refused = subst (λ (u : Url). RefusesTaken (host_answers u) (λ r. Unit {0}) p entry index fault) is refused;
      shown_as = told;
    })

-- a proof of what the log took, by the address that the source has
pub by_host_too : (at url : Url) (p : Terms) (entry : Bytes) (extra : Option Bytes) (index : ℕ) (text : Bytes) → at ≡ url → MayTake url entry index
    → IsProofOf (host_answers at) p entry index extra text
    → Submits url p entry extra (Ok text)
by_host_too at url p entry extra index text is takes proof =
    (index, takes, subst (λ (u : Url). IsProofOf (host_answers u) p entry index extra text) is proof)

-- the address of the options
pub url_of : (to text : Bytes) (url : Url) → text ≡ to → IsUrlOf text url → IsUrlOf to url
url_of to text url same is = subst (λ (t : Bytes). IsUrlOf t url) same is

-- an address that is none
pub bad_url : (options : SubmitOptions) (text : Bytes) (o : Passage) → text ≡ string_bytes options.to → IsNoUrl text → IsUnwritten o → RunsSubmit options o (Err (flaw.Fetch (fetch.BadAddress From)))
bad_url options text o same wrong none = inl (inr (inr (inr (inr (refl, subst IsNoUrl same wrong)))), none)

-- the end of a run of `submit`
module _ (options : SubmitOptions) (policy entry : Bytes) (extra : Option Bytes) (p : Terms) (url : Url) (o : Passage) (read : ReadsPolicy policy (Ok p)) (given : IsGiven options.entry entry) (has : HasExtra options.extra extra) (at : IsUrlOf (string_bytes options.to) url) where
  pub wrote_taken : (text written : Bytes) → written ≡ text → Submits url p entry extra (Ok text) → WroteWhole o written → RunsSubmit options o (Ok tt)
  wrote_taken text written same proves whole =
      (policy, (entry, given, (extra, has, (text, (p, read, (url, at, proves)), subst (WroteWhole o) same whole))))

  pub broke_taken : (text written : Bytes) (why : RunFault) → written ≡ text → Submits url p entry extra (Ok text) → why ≡ run.Write → WrotePart o written
      → RunsSubmit options o (Err (flaw.Fetch (fetch.Run why)))
  broke_taken text written why same proves write part =
      inr (policy, (entry, given, (extra, has, inr (ap (λ (w : RunFault). flaw.Fetch (fetch.Run w)) write, (text, (p, read, (url, at, proves)), subst (WrotePart o) same part)))))

  pub no_taken : (fault : ProveFault) → Submits url p entry extra (Err fault) → IsUnwritten o → RunsSubmit options o (Err fault)
  no_taken fault refused none = inr (policy, (entry, given, (extra, has, inl ((p, read, (url, at, refused)), none))))
