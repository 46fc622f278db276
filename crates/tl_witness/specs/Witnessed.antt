-- What a witness keeps of one origin.
use Rattle.std.specs.Prelude.{List, ◌++◌, ◌∷◌, []}
use Rattle.tl_hash.specs.Bytes.{Bytes}
use Rattle.tl_note.specs.Key.{Key, SigningKey}
use Rattle.tl_proof.specs.Acceptance.{Step}

-- one origin: its name, the keys of its verifiers, the key of its cosigner, and its chain
pub record Witnessed : Type 0 where
  pub origin : Bytes
  pub verifiers : List Key
  pub cosigner : SigningKey
  pub chain : List Step

-- the origin with one more step
abbrev pub with_step : Witnessed → Step → Witnessed
with_step one step = record one { chain = one.chain ++ step ∷ [] }
