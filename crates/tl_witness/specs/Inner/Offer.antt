-- What a request asks of its origin, once it is read.
use Rattle.std.specs.Prelude.{ℕ, []}
use Rattle.tl_hash.specs.Bytes.{Bytes}
use Rattle.tl_proof.specs.Acceptance.{Step, step_of}
use Rattle.tl_witness.specs.declared.finding.Offer.{Offer}
use Rattle.tl_witness.specs.Decide.{Asked}

-- what is asked at this time
abbrev pub asked_by : {A : Type 0} → Offer A → ℕ → Asked
asked_by offer time = record {
  old = offer.old;
  step = step_of offer.link;
  text = offer.note.text.now;
  lines = offer.note.signatures.items;
  time = time;
}

-- what is asked once the signatures are verified: the signature lines no longer matter
abbrev pub asked_without_lines : ℕ → Step → Bytes → ℕ → Asked
asked_without_lines old step text time = record { old = old; step = step; text = text; lines = []; time = time }
