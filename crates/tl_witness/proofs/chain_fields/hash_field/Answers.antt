use Rattle.std.proofs.Common.{rules}
use Rattle.tl_witness.proofs.FieldLaws.{no_hash_field, no_hash, known_field}
use Rattle.tl_witness.proofs.chain_fields.hash_field.Goals as goal

pub returns-in_default : goal.returns-in_default
returns-in_default c = no_hash_field c.args.text.now c.in_default.ensures.cases

pub returns-in_default-parse_hash : goal.returns-in_default-parse_hash
returns-in_default-parse_hash c = no_hash c.args.text.now c.in-Some.words c.in-Some.rest c.in-Some.ensures.cases c.in_default-parse_hash.ensures

pub returns : goal.returns
returns c = (
  c.in-Some-parse_hash.ensures.0,
  known_field c.args.text.now _ c.in-Some.words c.in-Some.rest c.in-Some.ensures.cases c.in-Some-parse_hash.ensures.1,
  search rules,
)
