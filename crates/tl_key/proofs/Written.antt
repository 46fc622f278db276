-- A text that is written is that of the key.
use Rattle.std.proofs.Common.{◌≡◌, ℕ, suc, ◌<◌, List, ◌∷◌, ◌++◌, refl, ap, subst, ◌∙◌, arith}
use Rattle.std.specs.Prelude.{codes, IsTrue}
use Rattle.tl_text.specs.Text.{base64_text}
use Rattle.tl_ed25519.specs.Eddsa.{is_valid_public_key, public_key}
use Rattle.tl_key.specs.NoteKey.{IsKept, PublicKey, SeedKey, key_id}
use Rattle.tl_key.specs.KeyText.{hex8, key_text, Are32Bytes, IsVerifierText, IsSignerText}
use Rattle.tl_key.specs.Inner.Parts.{Are33Bytes}

after_first : (kind : ℕ) (bytes : List ℕ) → Are33Bytes (kind ∷ bytes) → Are32Bytes bytes
after_first kind bytes are = record { size = omega (arith, are.size); fit = λ i. are.fit (suc i) }

-- what is put behind a name
behind : (kind sent id : ℕ) (name start key rest text known : List ℕ) → IsKept name kind known id → sent ≡ kind → rest ≡ key → start ≡ name
    → text ≡ start ++ 0x2B ∷ (hex8 id ++ 0x2B ∷ base64_text (sent ∷ rest)) → text ≡ key_text name (hex8 (key_id name kind known)) (kind ∷ key)
behind kind sent id name start key rest text known kept sent_is rest_is start_is is =
    is ∙ ap (λ (x : List ℕ). key_text x (hex8 id) (sent ∷ rest)) start_is ∙ ap (λ (n : ℕ). key_text name (hex8 n) (sent ∷ rest)) kept.id_is
    ∙ ap (λ (n : ℕ). key_text name (hex8 (key_id name kind known)) (n ∷ rest)) sent_is ∙ ap (λ (x : List ℕ). key_text name (hex8 (key_id name kind known)) (kind ∷ x)) rest_is

pub verifier_written : (kind sent id : ℕ) (name word start key text : List ℕ) (k : PublicKey) → record { name = name; kind = kind; key = key } ≡ k → IsKept name kind key id → sent ≡ kind
    → Are33Bytes (sent ∷ key) → word ≡ name → start ≡ word → text ≡ start ++ 0x2B ∷ (hex8 id ++ 0x2B ∷ base64_text (sent ∷ key)) → IsTrue (is_valid_public_key k.key) → IsVerifierText kind text k
verifier_written kind sent id name word start key text k view kept sent_is fit word_is start_is is =
    subst (λ (x : PublicKey). IsTrue (is_valid_public_key x.key) → IsVerifierText kind text x) view (λ sound. record {
      name = kept.lawful;
      kind_asked = refl;
      byte = subst (λ (n : ℕ). n < 256) sent_is (fit.fit 0);
      key = after_first sent key fit;
      sound = sound;
      spelled = behind kind sent id name start key key text key kept sent_is refl (start_is ∙ word_is) is;
    })

pub signer_written : (kind sent id : ℕ) (name word begun start seed rest text : List ℕ) (k : SeedKey) → record { name = name; kind = kind; seed = seed } ≡ k → IsKept name kind (public_key seed) id
    → sent ≡ kind → rest ≡ seed → Are33Bytes (sent ∷ rest) → word ≡ name → begun ≡ codes "PRIVATE+KEY+" → start ≡ begun ++ word
    → text ≡ start ++ 0x2B ∷ (hex8 id ++ 0x2B ∷ base64_text (sent ∷ rest)) → IsSignerText kind text k
signer_written kind sent id name word begun start seed rest text k view kept sent_is rest_is fit word_is begun_is start_is is =
    let front : start ≡ codes "PRIVATE+KEY+" ++ name = start_is ∙ ap (λ (x : List ℕ). x ++ word) begun_is ∙ ap (λ (x : List ℕ). codes "PRIVATE+KEY+" ++ x) word_is in
    let tail : name ++ 0x2B ∷ (hex8 id ++ 0x2B ∷ base64_text (sent ∷ rest)) ≡ key_text name (hex8 (key_id name kind (public_key seed))) (kind ∷ seed) =
    behind kind sent id name name seed rest (name ++ 0x2B ∷ (hex8 id ++ 0x2B ∷ base64_text (sent ∷ rest))) (public_key seed) kept sent_is rest_is refl refl in
    subst (λ (x : SeedKey). IsSignerText kind text x) view (record {
      name = kept.lawful;
      kind_asked = refl;
      byte = subst (λ (n : ℕ). n < 256) sent_is (fit.fit 0);
      seed = subst Are32Bytes rest_is (after_first sent rest fit);
      spelled = is ∙ ap (λ (x : List ℕ). x ++ 0x2B ∷ (hex8 id ++ 0x2B ∷ base64_text (sent ∷ rest))) front ∙ ap (λ (x : List ℕ). codes "PRIVATE+KEY+" ++ x) tail;
    })
