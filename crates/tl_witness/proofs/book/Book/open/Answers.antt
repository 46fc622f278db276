use Rattle.std.proofs.Common.{refl, inl, map, subst, sym, ap, ◌∙◌, string_bytes, arith}
use Rattle.std.proofs.lemmas.Grind.{common_steps}
use Rattle.tl_witness.specs.ByOrigin.{Indexes, index_of}
use Rattle.tl_witness.proofs.ByOriginLaws.{all_known, first_not_known}
use Rattle.tl_witness.proofs.Moved.{shown_twice}
use Rattle.tl_witness.proofs.OpeningLaws.{once_to, once_from, trusted_to, untrusted_to, names_to, bad_name_to, opened_to, origins_once}
use Rattle.tl_witness.proofs.OpeningFaults.{chain_fault, memory_refused}
use Rattle.tl_witness.proofs.book.Book.open.Goals as goal

pub returns-in-Ok-None-clause-err : goal.returns-in-Ok-None-clause-err
returns-in-Ok-None-clause-err g c = λ once.
    let test = rw (c.in-Ok-None.field-0-is, c.as_slice.ensures.value, c.as_slice-2.ensures.value) at c.in-Ok-None.ensures.ok in
    test (once_from _ _ _ _ _ c.args.trusts.items c.args.chains.items (λ t. refl) (λ t. refl) (λ d. refl) once)

pub returns-in-Err-clause-err : goal.returns-in-Err-clause-err
returns-in-Err-clause-err g c =
    let some = rw (c.as_slice.ensures.value, c.as_slice-2.ensures.value) at c.in-Err.ensures.err in
    memory_refused _ _ c.args.trusts.items c.args.chains.items some

pub returns-in-Some-clause-err : goal.returns-in-Some-clause-err
returns-in-Some-clause-err g c =
    let test = rw (c.in-Ok-Some.field-0-is, c.as_slice.ensures.value, c.as_slice-2.ensures.value) at c.in-Ok-Some.ensures.ok in
    let first = first_not_known _ _ _ _ test.1 (rw c.as_slice-3.ensures.value at c.in-Some.ensures) in
    (once_to _ _ _ _ _ c.args.trusts.items c.args.chains.items (λ t. refl) (λ t. refl) (λ d. refl) test.0, untrusted_to _ _ _ _ c.args.trusts.items c.args.chains.items c.in-Some.chain (λ t. refl) (λ d. refl) first)

pub returns-in-Some-first_bad_name-clause-err : goal.returns-in-Some-first_bad_name-clause-err
returns-in-Some-first_bad_name-clause-err g c =
    let test = rw (c.in-Ok-Some.field-0-is, c.as_slice.ensures.value, c.as_slice-2.ensures.value) at c.in-Ok-Some.ensures.ok in
    let listed = all_known _ _ _ test.1 (rw c.as_slice-3.ensures.value at c.in_default.ensures) in
    let first = rw c.as_slice-4.ensures.value at c.in-Some-first_bad_name.ensures in
    (once_to _ _ _ _ _ c.args.trusts.items c.args.chains.items (λ t. refl) (λ t. refl) (λ d. refl) test.0, trusted_to _ _ _ _ c.args.trusts.items c.args.chains.items (λ t. refl) (λ d. refl) listed, bad_name_to _ _ c.args.trusts.items c.in-Some-first_bad_name.trust (λ t. refl) first)

pub returns-in-Err-check_chains-clause-err : goal.returns-in-Err-check_chains-clause-err
returns-in-Err-check_chains-clause-err g c =
    let test = rw (c.in-Ok-Some.field-0-is, c.as_slice.ensures.value, c.as_slice-2.ensures.value) at c.in-Ok-Some.ensures.ok in
    let listed = all_known _ _ _ test.1 (rw c.as_slice-3.ensures.value at c.in_default.ensures) in
    let named = rw c.as_slice-4.ensures.value at c.in_default-first_bad_name.ensures in
    chain_fault g.T.TreeHash.digest_of _ _ c.in-Err-check_chains.fault
    (once_to _ _ _ _ _ c.args.trusts.items c.args.chains.items (λ t. refl) (λ t. refl) (λ d. refl) test.0)
    (trusted_to _ _ _ _ c.args.trusts.items c.args.chains.items (λ t. refl) (λ d. refl) listed)
    (names_to _ _ c.args.trusts.items (λ t. refl) named)
    c.in-Err-check_chains.ensures.err

pub enter-requires-clause-places : goal.enter-requires-clause-places
enter-requires-clause-places g c =
    let test = rw (c.in-Ok-Some.field-0-is, c.as_slice.ensures.value, c.as_slice-2.ensures.value) at c.in-Ok-Some.ensures.ok in
    let saved = shown_twice _ (λ d. d.origin) (λ d. string_bytes d.0) c.args.chains.items (λ d. refl) in
    let checked = shown_twice _ (λ d. d.origin) (λ d. string_bytes d.origin) c.in-Ok.checked.items (λ d. refl) in
    subst (Indexes (index_of c.in-Ok-Some.places.chains)) (saved ∙ (ap (map (λ d. d.origin)) (sym c.in-Ok.ensures.ok.0) ∙ sym checked)) test.2

pub enter-requires-clause-once : goal.enter-requires-clause-once
enter-requires-clause-once g c =
    let test = rw (c.in-Ok-Some.field-0-is, c.as_slice.ensures.value, c.as_slice-2.ensures.value) at c.in-Ok-Some.ensures.ok in
    origins_once _ _ c.args.trusts.items (λ t. refl) test.0.0

pub enter-requires-clause-named : goal.enter-requires-clause-named
enter-requires-clause-named g c =
    let named = rw c.as_slice-4.ensures.value at c.in_default-first_bad_name.ensures in
    names_to _ _ c.args.trusts.items (λ t. refl) named

pub returns-in_default-enter-clause-err : goal.returns-in_default-enter-clause-err
returns-in_default-enter-clause-err g c = memory_refused _ _ c.args.trusts.items c.args.chains.items (inl c.in_default-enter.ensures.memory)

pub returns-clause-ok : goal.returns-clause-ok
returns-clause-ok g c =
    let test = rw (c.in-Ok-Some.field-0-is, c.as_slice.ensures.value, c.as_slice-2.ensures.value) at c.in-Ok-Some.ensures.ok in
    let listed = all_known _ _ _ test.1 (rw c.as_slice-3.ensures.value at c.in_default.ensures) in
    let named = rw c.as_slice-4.ensures.value at c.in_default-first_bad_name.ensures in
    opened_to g.T.TreeHash.digest_of _ _ _ _
    (once_to _ _ _ _ _ c.args.trusts.items c.args.chains.items (λ t. refl) (λ t. refl) (λ d. refl) test.0)
    (trusted_to _ _ _ _ c.args.trusts.items c.args.chains.items (λ t. refl) (λ d. refl) listed)
    (names_to _ _ c.args.trusts.items (λ t. refl) named)
    c.in-Ok.ensures.ok.1 c.in-Ok.ensures.ok.0 c.in-Ok-enter.ensures.kept

pub returns-clause-err : goal.returns-clause-err
returns-clause-err g c = grind (arith, common_steps)

pub returns-in-Err-check_chains-clause-ok : goal.returns-in-Err-check_chains-clause-ok
returns-in-Err-check_chains-clause-ok g c = grind (arith, common_steps)

pub returns-in-Some-first_bad_name-clause-ok : goal.returns-in-Some-first_bad_name-clause-ok
returns-in-Some-first_bad_name-clause-ok g c = grind (arith, common_steps)

pub returns-in_default-enter-clause-ok : goal.returns-in_default-enter-clause-ok
returns-in_default-enter-clause-ok g c = grind (arith, common_steps)
