-- Who must cosign what a log shows (C2SP tlog-cosignature; signed-note, "Verifier keys").
use Rattle.std.specs.Prelude.{◌≡◌, ◌≢◌, ◌⊎◌, [], ◌∷◌, List, Result, Err, map, option_map, string_bytes, vec_items}
use Rattle.std.specs.List.{AllPairs}
use Rattle.tl_hash.specs.Bytes.{Bytes}
use Rattle.tl_key.specs.KeyText.{IsVerifierText}
use Rattle.tl_key.specs.NoteKey.{PublicKey, cosignature_kind, verifier_key}
use Rattle.tl_ledger.specs.Opening.{Found}
use Rattle.tl_run.specs.declared.fault.RunFault.{RunFault}
use Rattle.tl_append.specs.Cosigning.{Quorum}
use Rattle.tl_append.specs.Running.{Visit}
use Rattle.tl_serve.specs.declared.options.ServeOptions.{ServeOptions}
use Rattle.tl_serve.specs.Serving.{IsLeft, Serves}

-- these are the keys of witnesses that these texts spell, one after another
abbrev pub AreKeysOf : List Bytes → List PublicKey → Type 0
AreKeysOf [] [] = Unit {0}
AreKeysOf [] (key ∷ keys) = ⊥
AreKeysOf (text ∷ texts) [] = ⊥
AreKeysOf (text ∷ texts) (key ∷ keys) = IsVerifierText cosignature_kind text key × AreKeysOf texts keys

-- two keys have neither one name nor one public key
abbrev pub AreApart : PublicKey → PublicKey → Type 0
AreApart a b = (a.name ≢ b.name) × (a.key ≢ b.key)

-- as many as the options ask for of the witnesses that they name, each by the text of a key with a name and a public
-- key of its own; and what the text of a policy says, if they have one
pub record IsQuorumOf (options : ServeOptions) (q : Quorum) : Type 0 where
  pub keys : List PublicKey
  pub spelled : AreKeysOf (map (λ w. string_bytes w.key) (vec_items options.witnesses)) keys
  pub apart : AllPairs AreApart keys
  pub witnesses : q.witnesses ≡ map verifier_key keys
  pub need : q.need ≡ options.need
  pub policy : q.policy ≡ option_map string_bytes options.quorum

-- how a log is served whose checkpoints are shown once enough of these witnesses have cosigned them; or nothing was
-- written
abbrev pub ServesCosigned : ServeOptions → Found → Visit → Result (Unit {0}) RunFault → Type 0
ServesCosigned options found v outcome =
    (IsLeft v × ((fault : RunFault) × (outcome ≡ Err fault)))
    ⊎ ((q : Quorum) × IsQuorumOf options q × Serves options.key (string_bytes options.origin) q found v outcome)
