use Rattle.tl_witness.proofs.FieldLaws.{no_number_field, no_number, known_field}
use Rattle.tl_witness.proofs.chain_fields.number_field.Goals as goal

pub returns-in_default : goal.returns-in_default
returns-in_default c = no_number_field c.args.text.now c.in_default.ensures.cases

pub returns-in_default-parse_size : goal.returns-in_default-parse_size
returns-in_default-parse_size c = no_number c.args.text.now c.in-Some.words c.in-Some.rest c.in-Some.ensures.cases c.in_default-parse_size.ensures

pub returns : goal.returns
returns c = (
  c.in-Some-parse_size.ensures.0,
  known_field c.args.text.now _ c.in-Some.words c.in-Some.rest c.in-Some.ensures.cases c.in-Some-parse_size.ensures.1,
)
