use Rattle.std.proofs.Common.{◌≡◌, ◌<◌, [], All, length, map, take, string_bytes, vec_items, sym, ap, subst, ◌∙◌, arith}
use Rattle.std.proofs.lemmas.Grind.{common_steps}
use Rattle.std.specs.Prelude.{option_map}
use Rattle.std.specs.Global.{Global}
use Rattle.sha2.specs.Sha256.{sha256}
use Rattle.tl_hash.specs.Tree.{tree_hash}
use Rattle.tl_checkpoint.specs.Checkpoint.{checkpoint_text}
use Rattle.tl_sequencer.specs.Log.{entries_of}
use Rattle.tl_log.specs.Checkpoints.{text_of_log}
use Rattle.tl_publisher.specs.Operating.{Operated}
use Rattle.tl_publisher.specs.Proposing.{IsCosigned}
use Rattle.tl_publisher.specs.Inner.Attaching.{HasBehind}
use Rattle.tl_publisher.proofs.Cosigners.{lines_within, proposed_entries, cosigns_note}
use Rattle.tl_publisher.proofs.operator.Operator.cosigned.Goals as goal

pub cosignatures_by-requires : goal.cosignatures_by-requires
cosignatures_by-requires g c = rw c.as_slice.ensures.value c.requires.apart

pub with_lines-requires : goal.with_lines-requires
with_lines-requires g c =
    subst (λ found. All (λ x. x.line < length c.deref-2.result.now) found) (sym c.deref-3.ensures.value)
    (subst (λ lines. All (λ x. x.line < length lines) c.in_ok-found.found.items) (c.deref.ensures.value ∙ sym c.deref-2.ensures.value) (lines_within _ _ _ _ c.in_ok-found.ensures))

pub returns : goal.returns
returns g c q at same =
    let a : Operated Global = record {
      origin = string_bytes c.args.self.now.origin;
      signers = map (λ b. (goal.Signer-dyn g (b.vtable, b.value)).signing_key b.value) c.args.self.now.signers.items;
      quorum = record { witnesses = map (λ b. (goal.Verifier-dyn g (b.vtable, b.value)).key b.value) c.args.self.now.witnesses.items; need = c.args.self.now.need };
      log = c.args.self.now.run.log;
      proposal = option_map (λ note. record { entries = take c.args.self.now.run.grown (entries_of c.args.self.now.run.log); note = string_bytes note }) c.args.self.now.proposal;
      past = c.args.self.now.run.past;
    } in
    let entries : take c.args.self.now.run.grown (entries_of c.args.self.now.run.log) ≡ q.entries = proposed_entries c.args.self.now.proposal _ string_bytes q at in
    let size = c.grown.ensures.size ∙ ap (λ es. length es) entries in
    let root = c.grown.ensures.root ∙ ap (tree_hash sha256) entries in
    let text : c.as_str-2.result.now ≡ text_of_log a.origin q.entries =
    c.as_str-2.ensures.value ∙ c.in_ok-text.ensures.text ∙ (let words = c.as_str.ensures.value in λ i. checkpoint_text (record { origin = words i; size = size i; root = root i; extensions = [] })) in
    let first = rw (c.as_slice.ensures.value, c.deref.ensures.value) at c.in_ok-found.ensures in
    let behind = rw (c.deref-2.ensures.value, c.deref-3.ensures.value) at c.in_ok-whole.ensures in (
      c.in_ok-lines.lines.items,
      c.in_ok-lines.ensures,
      subst (IsCosigned a q c.in_ok-lines.lines.items) (sym (ap vec_items c.into_bytes.ensures.value))
          (cosigns_note a q c.args.lines.now c.in_ok-lines.lines.items c.in_ok-found.found.items c.as_str-2.result.now (string_bytes c.in_ok-whole.whole) c.requires at c.in_ok-lines.ensures text first (omega (arith, c.len.ensures, c.if-len-self.false))
          (subst (λ n. HasBehind n c.in_ok-lines.lines.items c.in_ok-found.found.items (string_bytes c.in_ok-whole.whole)) (sym same) behind)),
    )

pub overflow_cast-result : goal.overflow_cast-result
overflow_cast-result g c = grind (arith, common_steps)

pub text_of-requires-clause-origin : goal.text_of-requires-clause-origin
text_of-requires-clause-origin g c = grind (arith, common_steps)
