use Rattle.std.proofs.Common.{◌≡◌, map, take, string_bytes, ap, arith}
use Rattle.std.proofs.lemmas.Grind.{common_steps}
use Rattle.std.specs.Prelude.{Some, option_map}
use Rattle.std.specs.Global.{Global}
use Rattle.tl_sequencer.specs.Log.{entries_of}
use Rattle.tl_log.specs.Histories.{Prefix, last_of}
use Rattle.tl_publisher.specs.Operating.{Operated}
use Rattle.tl_publisher.proofs.Cosigners.{follows_under}
use Rattle.tl_publisher.proofs.operator.Operator.attach_lines.Goals as goal

pub show-requires : goal.show-requires
show-requires g c =
    let a : Operated Global = record {
      origin = string_bytes c.args.self.now.origin;
      signers = map (λ b. (goal.Signer-dyn g (b.vtable, b.value)).signing_key b.value) c.args.self.now.signers.items;
      quorum = record { witnesses = map (λ b. (goal.Verifier-dyn g (b.vtable, b.value)).key b.value) c.args.self.now.witnesses.items; need = c.args.self.now.need };
      log = c.args.self.now.run.log;
      proposal = option_map (λ note. record { entries = take c.args.self.now.run.grown (entries_of c.args.self.now.run.log); note = string_bytes note }) c.args.self.now.proposal;
      past = c.args.self.now.run.past;
    } in
    let q : Prefix = record { entries = take c.args.self.now.run.grown (entries_of c.args.self.now.run.log); note = string_bytes c.in-Some.note } in
    let at : a.proposal ≡ Some q = ap (λ o. option_map (λ note. record { entries = take c.args.self.now.run.grown (entries_of c.args.self.now.run.log); note = string_bytes note }) o) c.in-Some.is in
    follows_under (last_of c.args.self.now.run.past.log) q c.in_ok-whole.whole.items (c.requires.proposed q at).next

pub returns-clause-keys : goal.returns-clause-keys
returns-clause-keys g c = grind (arith, common_steps)

pub returns-in_default-clause-attached : goal.returns-in_default-clause-attached
returns-in_default-clause-attached g c = grind (arith, common_steps)

pub returns-in_err-published-clause-keys : goal.returns-in_err-published-clause-keys
returns-in_err-published-clause-keys g c = grind (arith, common_steps)
