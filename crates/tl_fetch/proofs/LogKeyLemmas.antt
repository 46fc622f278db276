-- The keys of the log that the options name, one or two.
use Rattle.std.proofs.Common.{◌≡◌, ◌∙◌, ◌⊎◌, ◌∷◌, [], ap, None, Option, Some, String, refl, sym, subst, arith, zero, suc, string_bytes}
use Rattle.std.specs.Prelude.{◌≢◌, Contains, IsSomeAnd}
use Rattle.std.specs.List.{Any}
use Rattle.std.specs.Global.{Global}
use Rattle.tl_hash.specs.Bytes.{Bytes}
use Rattle.tl_key.specs.KeyText.{IsVerifierText}
use Rattle.tl_key.specs.NoteKey.{PublicKey, note_kind}
use Rattle.tl_key.specs.Reading.{IsNoVerifierText}
use Rattle.tl_fetch.specs.declared.options.FetchOptions.{FetchOptions}
use Rattle.tl_fetch.specs.Command.{HaveLogKeys, IsOtherKey, log_texts, other_texts}
use Rattle.tl_fetch.specs.Inner.LogKeys.{AreTwo}

-- one public key is not among none
none : (x : Bytes) → Contains [] x → ⊥
none x (k, within, is) = absurd (omega (arith, within))

one_other : (key x : Bytes) → key ≢ x → Contains (key ∷ []) x → ⊥
one_other key x apart (zero, within, is) = apart is
one_other key x apart (suc k, within, is) = absurd (omega (arith, within))

pub one_told : (options : FetchOptions) (k : PublicKey) → options.other_key ≡ None → IsVerifierText note_kind (string_bytes options.key) k
    → HaveLogKeys k.name (log_texts options) (k ∷ [])
one_told options k alone spelled =
    subst (λ (o : Option (String Global)). HaveLogKeys k.name (string_bytes options.key ∷ other_texts o) (k ∷ [])) (sym alone)
    (spelled, refl, none k.key, tt)

pub two_told : (options : FetchOptions) (text : String Global) (k o : PublicKey) → options.other_key ≡ Some text
    → IsVerifierText note_kind (string_bytes options.key) k → IsVerifierText note_kind (string_bytes text) o → AreTwo k o
    → HaveLogKeys k.name (log_texts options) (k ∷ o ∷ [])
two_told options text k o other spelled other_spelled two =
    subst (λ (t : Option (String Global)). HaveLogKeys k.name (string_bytes options.key ∷ other_texts t) (k ∷ o ∷ [])) (sym other)
    (spelled, refl, one_other o.key k.key two.own, (other_spelled, two.named, none o.key, tt))

pub no_second : (options : FetchOptions) (text : String Global) → options.other_key ≡ Some text → IsNoVerifierText note_kind (string_bytes text)
    → Any (λ t. IsNoVerifierText note_kind t) (log_texts options)
no_second options text other no_key =
    subst (λ (t : Option (String Global)). Any (λ b. IsNoVerifierText note_kind b) (string_bytes options.key ∷ other_texts t)) (sym other)
    (1, string_bytes text, omega arith, refl, no_key)

pub no_first : (options : FetchOptions) → IsNoVerifierText note_kind (string_bytes options.key) → Any (λ t. IsNoVerifierText note_kind t) (log_texts options)
no_first options no_key = (0, string_bytes options.key, omega arith, refl, no_key)

pub no_other : (options : FetchOptions) (text : String Global) (k o : PublicKey) → options.other_key ≡ Some text
    → IsVerifierText note_kind (string_bytes options.key) k → IsVerifierText note_kind (string_bytes text) o
    → (o.name ≢ k.name) ⊎ (o.key ≡ k.key) → IsOtherKey options
no_other options text k o other spelled other_spelled differs = record {
  key = k;
  other = o;
  spelled = spelled;
  other_spelled = subst (λ (t : Option (String Global)). IsSomeAnd t (λ b. IsVerifierText note_kind (string_bytes b) o)) (sym other) other_spelled;
  differs = differs;
}

pub both_same : (a b c d : Bytes) → a ≡ b → c ≡ d → a ∷ c ∷ [] ≡ b ∷ d ∷ []
both_same a b c d e f = ap (λ (x : Bytes). x ∷ c ∷ []) e ∙ ap (λ (y : Bytes). b ∷ y ∷ []) f
