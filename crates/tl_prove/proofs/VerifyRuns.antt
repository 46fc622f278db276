-- What a run of `verify` comes to.
use Rattle.std.proofs.Common.{◌≡◌, ℕ, List, Option, Result, Ok, Err, option_map, vec_items, sym, ap, subst, ◌∙◌, inl, inr}
use Rattle.std.specs.Global.{Global}
use Rattle.sha2.specs.Sha256.{sha256}
use Rattle.tl_hash.specs.Bytes.{Bytes}
use Rattle.tl_hash.specs.Tree.{leaf_input}
use Rattle.tl_device.specs.Device.{Passage, IsUnread, IsUnwritten}
use Rattle.tl_policy.specs.Terms.{Terms}
use Rattle.tl_policy.specs.ReadPolicy.{ReadsPolicy}
use Rattle.tl_prove.specs.Entry.{IsGiven}
use Rattle.tl_prove.specs.Policies.{FailsExtra}
use Rattle.tl_prove.specs.VerifyCommand.{PrintsAccepted, RefusesInput, RunsVerify, VerifiesBy, VerifiesWhole}
use Rattle.tl_prove.specs.declared.fault.ProveFault.{ProveFault}
use Rattle.tl_prove.specs.declared.options.VerifyOptions.{VerifyOptions}
use Rattle.tl_prove.specs.declared.verifying.Verified.{Verified}

module _ (policy entry leaf : Bytes) (p : Terms) (i o : Passage) (leaf_is : leaf ≡ sha256 (leaf_input entry)) (read : ReadsPolicy policy (Ok p)) where
  pub refused_input : (fault : ProveFault) → RefusesInput p leaf i fault → IsUnwritten o → VerifiesBy policy entry i o (Err fault)
  refused_input fault refused none =
      inr (p, read, inl (subst (λ (l : Bytes). RefusesInput p l i fault) leaf_is refused, none))

  pub failed_extra : (v : Verified Global) (extra : Option Bytes) (fault : ProveFault) → VerifiesWhole p leaf i (Ok v) → extra ≡ option_map vec_items v.extra → FailsExtra extra fault → IsUnwritten o
      → VerifiesBy policy entry i o (Err fault)
  failed_extra v extra fault whole is failed none =
      inr (p, read, inr (v, subst (λ (l : Bytes). VerifiesWhole p l i (Ok v)) leaf_is whole, inl (subst (λ (e : Option Bytes). FailsExtra e fault) is failed, none)))

  pub printed : (v : Verified Global) → VerifiesWhole p leaf i (Ok v) → PrintsAccepted p v o (Ok tt) → VerifiesBy policy entry i o (Ok tt)
  printed v whole written = (p, read, (v, subst (λ (l : Bytes). VerifiesWhole p l i (Ok v)) leaf_is whole, written))

  pub not_printed : (v : Verified Global) (fault : ProveFault) → VerifiesWhole p leaf i (Ok v) → PrintsAccepted p v o (Err fault) → VerifiesBy policy entry i o (Err fault)
  not_printed v fault whole failed =
      inr (p, read, inr (v, subst (λ (l : Bytes). VerifiesWhole p l i (Ok v)) leaf_is whole, inr failed))

pub ran : (options : VerifyOptions) (policy entry slice : Bytes) (i o : Passage) (result : Result (Unit {0}) ProveFault) → slice ≡ entry → IsGiven options.entry entry
    → VerifiesBy policy slice i o result → RunsVerify options i o result
ran options policy entry slice i o result is given by =
    inl (policy, entry, given, subst (λ (e : Bytes). VerifiesBy policy e i o result) is by)
