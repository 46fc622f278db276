use Rattle.std.proofs.Common.{ap, arith, length, map, refl, sym, vec_items, ◌∙◌, ◌≡◌}
use Rattle.std.proofs.lemmas.List.{length-map}
use Rattle.sha2.specs.Sha256.{sha256}
use Rattle.tl_client.proofs.Apart.{false_is_not_true}
use Rattle.tl_client.proofs.Blamed.{bundle_refused, leaves_refused}
use Rattle.tl_client.proofs.Failing.{fault_on}
use Rattle.tl_client.proofs.LeafReads.{served_none}
use Rattle.tl_client.proofs.OtherEntries.{other_refused}
use Rattle.tl_client.proofs.SameEntries.{checked_entries}
use Rattle.tl_client.proofs.entries.read_entries_after.Goals as goal

pub returns-clause-entries : goal.returns-clause-entries
returns-clause-entries g c =
    checked_entries sha256 c.bundle_width-width.result c.args.size c.args.bundle c.args.root c.read_leaves.new.fetched (map vec_items c.in_ok-entries.entries.items) c.in_ok-leaves.leaves.items
    c.bundle_width-width.ensures.value c.bundle_width-width.ensures.inside c.in_ok-entries.ensures.entries c.in_ok-leaves.ensures.authentic
    (rw (c.deref.ensures.value, c.deref-2.ensures.value) at c.in_ok-check_leaves.ensures.leaves)

pub returns-in_err-entries-clause-refused : goal.returns-in_err-entries-clause-refused
returns-in_err-entries-clause-refused g c =
    fault_on _ c.from_residual.result _ c.from_residual.ensures.1
    (bundle_refused (g.S.ResourceSource.may_answer c.args.source.now) (g.S.ResourceSource.may_lack c.args.source.now)
    (record { size = c.args.size; root = c.args.root; bundle = c.args.bundle; fetched = c.args.fetched.now }) c.bundle_width-width.result c.in_err-entries.field-0.0
    (c.if-not-has_bundle.ensures.0 refl) c.bundle_width-width.ensures.value c.in_err-entries.ensures.refused)

pub returns-in_err-check_leaves-clause-refused : goal.returns-in_err-check_leaves-clause-refused
returns-in_err-check_leaves-clause-refused g c =
    fault_on _ c.from_residual-in_err-check_leaves.result _ c.from_residual-in_err-check_leaves.ensures.1
    (other_refused (g.S.ResourceSource.may_answer c.args.source.now) (g.S.ResourceSource.may_lack c.args.source.now)
    (record { size = c.args.size; root = c.args.root; bundle = c.args.bundle; fetched = c.read_leaves.new.fetched }) c.bundle_width-width.result (map vec_items c.in_ok-entries.entries.items) c.in_ok-leaves.leaves.items
    c.in_err-check_leaves.field-0.0 (c.if-not-has_bundle.ensures.0 refl) c.bundle_width-width.ensures.value c.bundle_width-width.ensures.inside c.in_ok-entries.ensures.entries c.in_ok-entries.ensures.answered
    c.in_ok-leaves.ensures.verified c.in_ok-leaves.ensures.authentic (rw (c.deref.ensures.value, c.deref-2.ensures.value) at c.in_err-check_leaves.ensures.fault))

pub returns-then-not-has_bundle-clause-served : goal.returns-then-not-has_bundle-clause-served
returns-then-not-has_bundle-clause-served g c = served_none (g.S.ResourceSource.may_answer c.args.source.now) c.args.size c.args.fetched.now

pub returns-in_err-entries-clause-served : goal.returns-in_err-entries-clause-served
returns-in_err-entries-clause-served g c = served_none (g.S.ResourceSource.may_answer c.args.source.now) c.args.size c.args.fetched.now

pub returns-in_err-leaves-clause-refused : goal.returns-in_err-leaves-clause-refused
returns-in_err-leaves-clause-refused g c =
    fault_on _ c.from_residual-in_err-leaves.result _ c.from_residual-in_err-leaves.ensures.1
    (leaves_refused (g.S.ResourceSource.may_answer c.args.source.now) (g.S.ResourceSource.may_lack c.args.source.now)
    (record { size = c.args.size; root = c.args.root; bundle = c.args.bundle; fetched = c.read_leaves.new.fetched }) c.bundle_width-width.result c.in_err-leaves.field-0.0
    (c.if-not-has_bundle.ensures.0 refl) c.bundle_width-width.ensures.value c.in_err-leaves.ensures.refused)

pub returns-in_err-leaves-clause-served : goal.returns-in_err-leaves-clause-served
returns-in_err-leaves-clause-served g c = c.read_leaves.ensures.served

pub returns-in_err-check_leaves-clause-served : goal.returns-in_err-check_leaves-clause-served
returns-in_err-check_leaves-clause-served g c = c.read_leaves.ensures.served

pub returns-clause-served : goal.returns-clause-served
returns-clause-served g c = c.read_leaves.ensures.served

pub returns-clause-verified : goal.returns-clause-verified
returns-clause-verified g c = c.in_ok-leaves.ensures.verified

pub returns-clause-passed : goal.returns-clause-passed
returns-clause-passed g c = c.in_ok-leaves.ensures.passed

pub returns-clause-within : goal.returns-clause-within
returns-clause-within g c = c.if-not-has_bundle.ensures.0 refl

pub returns-then-not-has_bundle-clause-refused : goal.returns-then-not-has_bundle-clause-refused
returns-then-not-has_bundle-clause-refused g c = λ has. false_is_not_true (c.if-not-has_bundle.ensures.1 has)

pub fetch_bundle-requires-clause-index : goal.fetch_bundle-requires-clause-index
fetch_bundle-requires-clause-index g c =
    let has = c.if-not-has_bundle.ensures.0 refl in
    omega (arith, has.within, has.limit)

pub check_leaves-requires : goal.check_leaves-requires
check_leaves-requires g c =
    let has = c.if-not-has_bundle.ensures.0 refl in
    let many : length c.deref.result.now ≡ c.bundle_width-width.result =
    ap (λ xs. length xs) c.deref.ensures.value ∙ (sym (length-map c.in_ok-entries.entries.items vec_items) ∙ c.in_ok-entries.ensures.entries.count) in
    record {
      count = ap (λ xs. length xs) c.deref-2.ensures.value ∙ (c.in_ok-leaves.ensures.count ∙ sym many);
      limit = omega (arith, many, c.bundle_width-width.ensures.inside, has.limit);
    }
