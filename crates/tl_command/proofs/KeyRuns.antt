-- Runs of `keygen`, from the key that was made.
use Rattle.std.proofs.Common.{◌≡◌, ℕ, inl, inr, List, [], sym, ap, subst}
use Rattle.std.specs.Prelude.{Result, Ok, Err, OnOk, OnErr, IfErr}
use Rattle.tl_text.specs.Text.{line}
use Rattle.tl_note.specs.Key.{IsKeyName}
use Rattle.tl_device.specs.Device.{Passage, IsUnwritten, WroteWhole, WrotePart}
use Rattle.tl_key.specs.KeyText.{IsSignerText, private_text, verifier_text}
use Rattle.tl_key.specs.NoteKey.{SeedKey, public_of}
use Rattle.tl_run.specs.declared.fault.RunFault.{RunFault}
use Rattle.tl_run.specs.declared.fault.RunFault.TheVariants.{Refused, Read, Write, TooLarge, EntryTooLong, BadOrigin, BadIndex, BadOld, BadPath, NotThere, Malformed, Chain, Sign, Operator, Listen, Accept, OutOfMemory, BadName, BadKey, BadCheckpoint, WrongSignature, Unverified, Device, BadKeyFile, NothingThere}
use Rattle.tl_command.specs.Keygen.{IsKeyOf, IsSilent, GivesKey}
use Rattle.tl_command.specs.Inner.Texts.{MakesKey}

is_key_of : (name seed : List ℕ) (kind : ℕ) (k : SeedKey) → (k ≡ record { name = name; kind = kind; seed = seed }) × IsKeyName name → IsSignerText kind (private_text k) k → IsKeyOf name kind k
is_key_of name seed kind k made text = record { lawful = made.1; name_is = ap (λ (s : SeedKey). s.name) made.0; kind_is = text.kind_asked; seed = text.seed }

-- standard error failed
pub gives_part : (name seed : List ℕ) (kind : ℕ) (k : SeedKey) (o e : Passage) (verifier : List ℕ) (fault : RunFault) → (k ≡ record { name = name; kind = kind; seed = seed }) × IsKeyName name
    → IsSignerText kind (private_text k) k → verifier ≡ line (verifier_text (public_of k)) → IsUnwritten o → fault ≡ Write → WrotePart e verifier → GivesKey name kind o e (Err fault)
gives_part name seed kind k o e verifier fault made text spelled none failed part =
    subst (λ (f : RunFault). GivesKey name kind o e (Err f)) (sym failed)
    (record { key = k; of = is_key_of name seed kind k made text; part = inl (subst (WrotePart e) spelled part, none) })

-- standard error has the verifier's text
pub gives : (name seed : List ℕ) (kind : ℕ) (k : SeedKey) (o e : Passage) (verifier private : List ℕ) (r : Result (Unit {0}) RunFault) → (k ≡ record { name = name; kind = kind; seed = seed }) × IsKeyName name
    → IsSignerText kind (private_text k) k → verifier ≡ line (verifier_text (public_of k)) → private ≡ line (private_text k) → WroteWhole e verifier
    → OnOk r (WroteWhole o private) → IfErr r (λ fault. fault ≡ Write) → OnErr r (WrotePart o private) → GivesKey name kind o e r
gives name seed kind k o e verifier private (Ok done) made text spelled written told whole failed part =
    record { key = k; of = is_key_of name seed kind k made text; private = subst (WroteWhole o) written whole; verifier = subst (WroteWhole e) spelled told }
gives name seed kind k o e verifier private (Err fault) made text spelled written told whole failed part =
    subst (λ (f : RunFault). GivesKey name kind o e (Err f)) (sym failed)
    (record { key = k; of = is_key_of name seed kind k made text; part = inr (subst (WroteWhole e) spelled told, subst (WrotePart o) written part) })

-- no key was made
pub no_key : (name : List ℕ) (kind : ℕ) (o e : Passage) (fault : RunFault) → IsSilent o e → MakesKey (record { name = name; kind = kind; seed = [] }) (Err fault)
    → GivesKey name kind o e (Err fault)
no_key name kind o e Refused silent given = absurd given
no_key name kind o e Read silent given = absurd given
no_key name kind o e Write silent given = absurd given
no_key name kind o e TooLarge silent given = absurd given
no_key name kind o e (EntryTooLong place) silent given = absurd given
no_key name kind o e BadOrigin silent given = absurd given
no_key name kind o e BadIndex silent given = absurd given
no_key name kind o e BadOld silent given = absurd given
no_key name kind o e BadPath silent given = absurd given
no_key name kind o e NotThere silent given = absurd given
no_key name kind o e Malformed silent given = absurd given
no_key name kind o e (Chain place) silent given = absurd given
no_key name kind o e Sign silent given = absurd given
no_key name kind o e Operator silent given = absurd given
no_key name kind o e Listen silent given = absurd given
no_key name kind o e Accept silent given = absurd given
no_key name kind o e OutOfMemory silent given = (given, silent)
no_key name kind o e BadName silent given = (given, silent)
no_key name kind o e BadKey silent given = absurd given
no_key name kind o e (BadCheckpoint place) silent given = absurd given
no_key name kind o e (WrongSignature place) silent given = absurd given
no_key name kind o e Unverified silent given = absurd given
no_key name kind o e (Device place why) silent given = absurd given
no_key name kind o e BadKeyFile silent given = absurd given
no_key name kind o e (NothingThere _) silent given = absurd given
