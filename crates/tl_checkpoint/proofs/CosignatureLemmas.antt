-- A cosignature line, put together from its parts.
use Rattle.std.proofs.Common.{◌≡◌, ℕ, ◌<◌, List, length, Err, refl, ap, subst, ◌∙◌}
use Rattle.std.specs.Prelude.{IsTrue, IsErrOf}
use Rattle.std.proofs.lemmas.Result.{IfErr-at_err}
use Rattle.tl_note.specs.Key.{SigningKey, IsKeyName, named_key}
use Rattle.tl_note.specs.Note.{signature_line}
use Rattle.tl_note.specs.declared.keys.SignFault.{SignFault}
use Rattle.tl_checkpoint.specs.Cosignature.{cosigned_message, cosignature, Cosigns}

abbrev line_of : List ℕ → ℕ → List ℕ → List ℕ
line_of name id bytes = signature_line (record { name = name; id = id; bytes = bytes })

pub cosigned : (text : List ℕ) (time : ℕ) (key : SigningKey) (name words message signature bytes : List ℕ) (id : ℕ)
    → message ≡ cosigned_message time text → IsTrue (key.may_give message signature) → 0 < length signature → IsKeyName name
    → id ≡ key.id → bytes ≡ cosignature time signature → words ≡ line_of name id bytes → Cosigns text time (named_key name key) words
cosigned text time key name words message signature bytes id m given some named i b spelled = record {
  signature = signature;
  given = subst (λ (t : List ℕ). IsTrue (key.may_give t signature)) m given;
  some = some;
  named = named;
  spelled = spelled ∙ ap (λ (k : ℕ). line_of name k bytes) i ∙ ap (λ (t : List ℕ). line_of name key.id t) b;
}

-- a cosignature under the key's own name is the key's
pub own_name : (text : List ℕ) (time : ℕ) (key : SigningKey) (name words : List ℕ)
    → name ≡ key.name → Cosigns text time (named_key name key) words → Cosigns text time key words
own_name text time key name words same given =
    subst (λ (n : List ℕ). Cosigns text time (named_key n key) words) same given

-- the fault of one call is that of another
pub same_fault : {A B : Type 0} → (fault told : SignFault)
    → IsErrOf {T = A} (Err fault) told → IsErrOf {T = B} (Err fault) told
same_fault {B = B} fault told is = IfErr-at_err (λ (f : SignFault). IsErrOf {T = B} (Err fault) f) is refl
