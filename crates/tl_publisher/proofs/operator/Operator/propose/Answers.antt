use Rattle.std.proofs.Common.{refl, sym, subst, ◌∙◌, map, take, string_bytes, true≢false, arith}
use Rattle.std.proofs.lemmas.Grind.{common_steps}
use Rattle.std.specs.Prelude.{Err, option_map}
use Rattle.std.specs.Global.{Global}
use Rattle.tl_publisher.specs.Running.{Running}
use Rattle.tl_publisher.specs.Operating.{Operated, IsOperating}
use Rattle.tl_sequencer.specs.Log.{entries_of}
use Rattle.tl_publisher.specs.Publishing.{EndsWith, IsSame}
use Rattle.tl_publisher.specs.Inner.Noting.{NotesHead}
use Rattle.tl_publisher.specs.Proposing.{ProposeRefuses}
use Rattle.tl_publisher.proofs.Proposals.{same_err, sign_refuses, proposed_of, operating_proposes}
use Rattle.tl_publisher.proofs.Resumptions.{err_passes}
use Rattle.tl_publisher.proofs.operator.Operator.propose.Goals as goal

pub note_of-requires-clause-signers : goal.note_of-requires-clause-signers
note_of-requires-clause-signers g c = rw c.as_slice.ensures.value c.requires.signers

pub returns-in_err-note-clause-why : goal.returns-in_err-note-clause-why
returns-in_err-note-clause-why g c =
    let fresh : EndsWith c.args.self.now.run.past.log (entries_of c.args.self.now.run.log) → ⊥ = λ ends. true≢false (sym (c.is_published.ensures.1 ends) ∙ c.if-is_published.false) in
    let root = c.head.ensures.root c.args.self.now.run.grown (entries_of c.args.self.now.run.log) c.in_ok-next.ensures in
    let told = subst (λ o. NotesHead o (map (λ b. (goal.Signer-dyn g (b.vtable, b.value)).signing_key b.value) c.args.self.now.signers.items) c.head.result.size c.head.result.root (Err c.in_err-note.field-0.0)) c.as_str.ensures.value
    (subst (λ keys. NotesHead c.as_str.result.now (map (λ b. (goal.Signer-dyn g (b.vtable, b.value)).signing_key b.value) keys) c.head.result.size c.head.result.root (Err c.in_err-note.field-0.0)) c.as_slice.ensures.value c.in_err-note.ensures) in
    let a : Operated Global = record {
      origin = string_bytes c.args.self.now.origin;
      signers = map (λ b. (goal.Signer-dyn g (b.vtable, b.value)).signing_key b.value) c.args.self.now.signers.items;
      quorum = record { witnesses = map (λ b. (goal.Verifier-dyn g (b.vtable, b.value)).key b.value) c.args.self.now.witnesses.items; need = c.args.self.now.need };
      log = c.args.self.now.run.log;
      proposal = option_map (λ note. record { entries = take c.args.self.now.run.grown (entries_of c.args.self.now.run.log); note = string_bytes note }) c.args.self.now.proposal;
      past = c.args.self.now.run.past;
    } in
    err_passes (ProposeRefuses a) c.in_err-note.field-0.0 c.from_residual-in_err-note.result c.from_residual-in_err-note.ensures.1
    (sign_refuses a c.args.self.now.run.log c.args.self.now.run.grown c.in_ok-next.next c.head.result.size c.head.result.root c.in_err-note.field-0.0 refl c.if-self-eq0.false fresh c.in_ok-next.ensures c.head.ensures.size root told)

pub returns-clause-proposed : goal.returns-clause-proposed
returns-clause-proposed g c =
    let fresh : EndsWith c.args.self.now.run.past.log (entries_of c.args.self.now.run.log) → ⊥ = λ ends. true≢false (sym (c.is_published.ensures.1 ends) ∙ c.if-is_published.false) in
    let root = c.head.ensures.root c.args.self.now.run.grown (entries_of c.args.self.now.run.log) c.in_ok-next.ensures in
    let signed = rw (c.as_str.ensures.value, c.as_slice.ensures.value) at c.in_ok-note.ensures in
    proposed_of _ _ c.args.self.now.run c.adopt.new.self c.in_ok-next.next c.head.result.size c.size-size.result c.head.result.root (string_bytes c.in_ok-note.note) (string_bytes c.in_ok-copy.copy)
    refl refl refl refl refl c.in_ok-adopt.ensures.same c.in_ok-adopt.ensures.grown c.if-self-eq0.false fresh c.in_ok-next.ensures c.head.ensures.size root c.size-size.ensures signed (c.in_ok-copy.ensures.ok ∙ c.as_str-2.ensures.value)

pub returns-clause-operating : goal.returns-clause-operating
returns-clause-operating g c =
    let fresh : EndsWith c.args.self.now.run.past.log (entries_of c.args.self.now.run.log) → ⊥ = λ ends. true≢false (sym (c.is_published.ensures.1 ends) ∙ c.if-is_published.false) in
    let root = c.head.ensures.root c.args.self.now.run.grown (entries_of c.args.self.now.run.log) c.in_ok-next.ensures in
    let signed = rw (c.as_str.ensures.value, c.as_slice.ensures.value) at c.in_ok-note.ensures in
    operating_proposes _ _ c.size-size.result (string_bytes c.in_ok-note.note) (record { origin = refl; signers = refl; quorum = refl })
    (proposed_of _ _ c.args.self.now.run c.adopt.new.self c.in_ok-next.next c.head.result.size c.size-size.result c.head.result.root (string_bytes c.in_ok-note.note) (string_bytes c.in_ok-note.note)
    refl refl refl refl refl c.in_ok-adopt.ensures.same c.in_ok-adopt.ensures.grown c.if-self-eq0.false fresh c.in_ok-next.ensures c.head.ensures.size root c.size-size.ensures signed refl)
    c.requires

pub returns-in_err-adopt-clause-operating : goal.returns-in_err-adopt-clause-operating
returns-in_err-adopt-clause-operating g c =
    let of : Running Global → Operated Global = λ r. record {
      origin = string_bytes c.args.self.now.origin;
      signers = map (λ b. (goal.Signer-dyn g (b.vtable, b.value)).signing_key b.value) c.args.self.now.signers.items;
      quorum = record { witnesses = map (λ b. (goal.Verifier-dyn g (b.vtable, b.value)).key b.value) c.args.self.now.witnesses.items; need = c.args.self.now.need };
      log = r.log;
      proposal = option_map (λ note. record { entries = take r.grown (entries_of r.log); note = string_bytes note }) c.args.self.now.proposal;
      past = r.past;
    } in
    subst (λ r. IsOperating (of r)) (sym c.in_err-adopt.ensures.refused) c.requires

pub returns-in_err-adopt-clause-same : goal.returns-in_err-adopt-clause-same
returns-in_err-adopt-clause-same g c =
    let of : Running Global → Operated Global = λ r. record {
      origin = string_bytes c.args.self.now.origin;
      signers = map (λ b. (goal.Signer-dyn g (b.vtable, b.value)).signing_key b.value) c.args.self.now.signers.items;
      quorum = record { witnesses = map (λ b. (goal.Verifier-dyn g (b.vtable, b.value)).key b.value) c.args.self.now.witnesses.items; need = c.args.self.now.need };
      log = r.log;
      proposal = option_map (λ note. record { entries = take r.grown (entries_of r.log); note = string_bytes note }) c.args.self.now.proposal;
      past = r.past;
    } in
    same_err c.from_residual-in_err-adopt.result _ (subst (λ r. IsSame (of c.args.self.now.run) (of r)) (sym c.in_err-adopt.ensures.refused) (record { log = refl; proposal = refl; past = refl }))

pub note_of-requires-clause-origin : goal.note_of-requires-clause-origin
note_of-requires-clause-origin g c = grind (arith, common_steps)

pub returns-clause-keys : goal.returns-clause-keys
returns-clause-keys g c = grind (arith, common_steps)

pub returns-then-is_published-clause-why : goal.returns-then-is_published-clause-why
returns-then-is_published-clause-why g c = grind (arith, common_steps)

pub same-next : goal.same-next
same-next g c = grind (arith, common_steps)
