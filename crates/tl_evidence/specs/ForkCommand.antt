-- The command `check --fork`: whether a text is evidence that a log forked.
use Rattle.std.specs.Prelude.{◌≡◌, List, [], ◌∷◌, ◌++◌, codes, Result, Err}
use Rattle.tl_hash.specs.Bytes.{Bytes}
use Rattle.tl_text.specs.Text.{line}
use Rattle.tl_note.specs.Key.{Key}
use Rattle.tl_device.specs.Device.{Passage, IsSteady, IsUnread, IsUnwritten}
use Rattle.tl_key.specs.NoteKey.{verifier_key}
use Rattle.tl_run.specs.Keys.{IsNoKey}
use Rattle.tl_command.specs.Open.{IsKeyWith}
use Rattle.tl_run.specs.Run.{Output, Prints, PrintsRefusal, Fails, Runs}
use Rattle.tl_run.specs.declared.fault.RunFault.{RunFault}
use Rattle.tl_run.specs.declared.fault.RunFault.TheVariants.{BadKey, OutOfMemory}
use Rattle.tl_fork.specs.Evidence.{IsEvidence}

-- what is printed for an input: that the log forked, if the input is evidence against it, and else a refusal
abbrev pub ForkComes : List Key → Bytes → Bytes → Output → Type 0
ForkComes keys name input (Prints text) = IsEvidence keys name input × (text ≡ line (codes "fork of " ++ name))
ForkComes keys name input (PrintsRefusal text) = ¬ (IsEvidence keys name input) × (text ≡ line (codes "refused"))
ForkComes keys name input (Fails fault) = ⊥

-- a run with the text of the log's verifier key: a text that isn't such a key is a fault before anything is read
abbrev pub RunsFork : Bytes → Passage → Passage → Result (Unit {0}) RunFault → Type 0
RunsFork text i o (Err BadKey) = IsNoKey text × IsUnread i × IsUnwritten o
RunsFork text i o (Err OutOfMemory) = IsKeyWith text (λ k. IsSteady i × IsUnwritten o)
RunsFork text i o result = IsKeyWith text (λ k. Runs (ForkComes (verifier_key k ∷ []) k.name) i o result)
