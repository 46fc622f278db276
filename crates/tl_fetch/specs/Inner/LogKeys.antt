-- The keys that the options name, as they are read.
use Rattle.std.specs.Prelude.{◌≡◌, ◌≢◌, ◌⊎◌, List, Option, Result, Ok, Err, map, option_map}
use Rattle.tl_hash.specs.Bytes.{Bytes}
use Rattle.tl_key.specs.NoteKey.{PublicKey, verifier_key}
use Rattle.tl_device.specs.Device.{Passage, IsUnwritten}
use Rattle.tl_run.specs.declared.fault.RunFault.TheVariants.{OutOfMemory}
use Rattle.tl_fetch.specs.declared.fault.FetchFault.{FetchFault}
use Rattle.tl_fetch.specs.declared.fault.FetchFault.TheVariants.{Run}
use Rattle.tl_fetch.specs.declared.conditions.Conditions.{Conditions}
use Rattle.tl_fetch.specs.declared.options.FetchOptions.{FetchOptions}
use Rattle.tl_fetch.specs.Command.{HaveLogKeys, HaveOwnKeys, keys_of, log_texts, public_keys, witness_texts}
use Rattle.tl_fetch.specs.Trusting.{Policy, under_of}

-- the second key has the name of the first, and a public key of its own
pub record AreTwo (key other : PublicKey) : Type 0 where
  pub named : other.name ≡ key.name
  pub own : other.key ≢ key.key

-- the second key has another name, or the public key of the first
abbrev pub AreNotTwo : PublicKey → PublicKey → Type 0
AreNotTwo key other = (other.name ≢ key.name) ⊎ (other.key ≡ key.key)

-- the keys that the options name: of the log of this name, and of the witnesses, of which none has a public key of it
pub record AreNamed (options : FetchOptions) (name : Bytes) (keys witnesses : List PublicKey) : Type 0 where
  pub spelled : HaveLogKeys name (log_texts options) keys
  pub own : HaveOwnKeys (public_keys keys) (witness_texts options) witnesses

-- the policy that asks this of a checkpoint that one of these keys of the log signed
abbrev pub of_log : PublicKey → Option PublicKey → Conditions → Policy
of_log key other asked = record {
  origin = asked.origin.now;
  trust = record { keys = map verifier_key (keys_of key other); witnesses = map verifier_key asked.witnesses.now; need = asked.need };
  since = asked.since;
  under = option_map under_of asked.under;
}

-- a run is one of `Runs`, or memory ran out before it and nothing was printed
abbrev pub OrEarly : (Result (Unit {0}) FetchFault → Type 0) → Passage → Result (Unit {0}) FetchFault → Type 0
OrEarly Runs o (Ok done) = Runs (Ok done)
OrEarly Runs o (Err fault) = Runs (Err fault) ⊎ ((fault ≡ Run OutOfMemory) × IsUnwritten o)
