-- The text of a private key in a file, with a newline after it or without.
use Rattle.std.proofs.Common.{◌≡◌, ◌≢◌, ℕ, inl, inr, List, [], ◌∷◌, refl, sym, subst, ◌∙◌}
use Rattle.std.proofs.lemmas.List.{append_cancel_right}
use Rattle.std.specs.Prelude.{Err}
use Rattle.tl_text.specs.Text.{line}
use Rattle.tl_key.specs.NoteKey.{SeedKey}
use Rattle.tl_key.specs.KeyText.{IsSignerText}
use Rattle.tl_key.specs.Reading.{ReadsSigner, IsNoSignerText}
use Rattle.tl_key.specs.declared.fault.KeyFault.{KeyFault}
use Rattle.tl_key.specs.declared.fault.KeyFault.TheVariants.{Malformed, BadName, Unsound, OutOfMemory}
use Rattle.tl_run.specs.Keys.{IsTextOf, IsPrivateFile, IsNoPrivateFile}

-- bytes have one text
one_text : (bytes a b : List ℕ) → IsTextOf bytes a → IsTextOf bytes b → a ≡ b
one_text bytes a b of_a of_b =
    elim of_a as (λ _. a ≡ b) [
      | inl is_a ↦
          elim of_b as (λ _. a ≡ b) [
            | inl is_b ↦ append_cancel_right a b (10 ∷ []) (sym is_a ∙ is_b)
            | inr plain_b ↦ absurd (plain_b.1 a is_a)
          ]
      | inr plain_a ↦
          elim of_b as (λ _. a ≡ b) [
            | inl is_b ↦ absurd (plain_a.1 b is_b)
            | inr plain_b ↦ sym plain_a.0 ∙ plain_b.0
          ]
    ]

-- they are the text of this key
pub private_of : (kind : ℕ) (bytes text line : List ℕ) (k : SeedKey) → text ≡ bytes → IsTextOf text line → IsSignerText kind line k → IsPrivateFile kind bytes k
private_of kind bytes text line k same of spelled = record { text = line; is = subst (λ (b : List ℕ). IsTextOf b line) same of; of = spelled }

-- their text is that of no key
no_private : (kind : ℕ) (bytes text line : List ℕ) → text ≡ bytes → IsTextOf text line → IsNoSignerText kind line → IsNoPrivateFile kind bytes
no_private kind bytes text line same of none = inr (λ k file.
    let found = one_text bytes file.text line file.is (subst (λ (b : List ℕ). IsTextOf b line) same of) in
    none k (subst (λ (t : List ℕ). IsSignerText kind t k) found file.of))

-- why it is of none
pub private_refused : (kind : ℕ) (bytes text line : List ℕ) (fault : KeyFault) → text ≡ bytes → IsTextOf text line → fault ≢ OutOfMemory → ReadsSigner kind line (Err fault) → IsNoPrivateFile kind bytes
private_refused kind bytes text line Malformed same of known given = no_private kind bytes text line same of given
private_refused kind bytes text line BadName same of known given = absurd given
private_refused kind bytes text line Unsound same of known given = absurd given
private_refused kind bytes text line OutOfMemory same of known given = absurd (known refl)
