use Rattle.tl_witness.proofs.HashFields.{HasSkipped}
use Rattle.tl_witness.proofs.chain_fields.skip_hashes.Given as goal

abbrev pub invariant-loop : goal.invariant-loop
invariant-loop l = HasSkipped l.count l.text l.counter l.left
