-- What contracts see of an origin.
use Rattle.std.specs.Prelude.{List, string_bytes}
use Rattle.tl_note.specs.Key.{Key, SigningKey, named_key}
use Rattle.tl_proof.specs.Acceptance.{Step}
use Rattle.tl_witness.specs.declared.origin_state.Origin.{Origin}
use Rattle.tl_witness.specs.Witnessed.{Witnessed}

-- an origin whose verifiers and cosigner have these keys, with this chain; its cosigner signs under the name that it
-- had when the book was opened
abbrev pub witnessed : {A X Y : Type 0} {F : X → Type 0} {G : Y → Type 0} → Origin A X Y F G → List Key → SigningKey → List Step → Witnessed
witnessed o verifiers cosigner chain = record {
  origin = string_bytes o.name;
  verifiers = verifiers;
  cosigner = named_key (string_bytes o.cosigner_name.text) cosigner;
  chain = chain;
}
