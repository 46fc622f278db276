-- Texts of keys: what their parts are, and that a text is that of one key.
use Rattle.std.proofs.Common.{◌≡◌, ℕ, zero, suc, ◌<◌, List, [], ◌∷◌, ◌++◌, drop, get_or, refl, sym, ap, subst, ◌∙◌, arith, Bool, true, false}
use Rattle.std.specs.Prelude.{◌≢◌, bytes_eq, codes}
use Rattle.std.proofs.lemmas.Slice.Eq.{bytes_eq-Decides}
use Rattle.base64.specs.GeneralPurpose.{IsBytes}
use Rattle.tl_ed25519.specs.Eddsa.{is_valid_public_key, public_key}
use Rattle.tl_key.specs.NoteKey.{PublicKey, SeedKey, key_id}
use Rattle.tl_key.specs.KeyText.{hex8, key_text, Are32Bytes, IsVerifierText, IsSignerText}
use Rattle.tl_key.specs.Inner.Parts.{Are33Bytes, HasParts}
use Rattle.tl_key.specs.Inner.Law.{VerifierTextIsOne, SignerTextIsOne}
use Rattle.tl_key.proofs.PartsLemmas.{parts_once, length-hex8}

-- ---- the type and 32 bytes

byte_first : (kind : ℕ) (bytes : List ℕ) → kind < 256 → IsBytes bytes → IsBytes (kind ∷ bytes)
byte_first kind bytes small fit zero = small
byte_first kind bytes small fit (suc i) = fit i

kind_first : (kind : ℕ) (bytes : List ℕ) → kind < 256 → Are32Bytes bytes → Are33Bytes (kind ∷ bytes)
kind_first kind bytes small are = record { size = omega (arith, are.size); fit = byte_first kind bytes small are.fit }

taken_apart : (bytes : List ℕ) (kind : ℕ) → Are33Bytes bytes → get_or bytes 0 0 ≡ kind → (bytes ≡ kind ∷ drop 1 bytes) × Are32Bytes (drop 1 bytes)
taken_apart [] kind are is = absurd (omega (arith, are.size))
taken_apart (first ∷ rest) kind are is = (ap (λ (b : ℕ). b ∷ rest) is, record { size = omega (arith, are.size); fit = λ i. are.fit (suc i) })

-- ---- the parts of a key's text

verifier_parts : (kind : ℕ) (text : List ℕ) (k : PublicKey) → IsVerifierText kind text k → HasParts text k.name (hex8 (key_id k.name k.kind k.key)) (k.kind ∷ k.key)
verifier_parts kind text k is = record { name_is = is.name; eight = length-hex8 (key_id k.name k.kind k.key); fit = kind_first k.kind k.key is.byte is.key; spelled = is.spelled }

signer_parts : (kind : ℕ) (text public : List ℕ) (k : SeedKey) → text ≡ codes "PRIVATE+KEY+" ++ public → IsSignerText kind text k → HasParts public k.name (hex8 (key_id k.name k.kind (public_key k.seed))) (k.kind ∷ k.seed)
signer_parts kind text public k begins is = record { name_is = is.name; eight = length-hex8 (key_id k.name k.kind (public_key k.seed)); fit = kind_first k.kind k.seed is.byte is.seed; spelled = ap (drop 12) (sym begins ∙ is.spelled) }

-- ---- a text that is no key's

-- digits are those of the identifier that the parts have
wrong_digits : (n name digits key known : List ℕ) (asked kind id : ℕ) (t : Bool) → n ≡ name → asked ≡ kind → key ≡ known → digits ≡ hex8 (key_id name kind known)
    → id ≡ key_id n asked key → t ≡ bytes_eq digits (hex8 id) → t ≡ false → ⊥
wrong_digits n name digits key known asked kind id t same_name same_kind same_key are is test fails =
    let id_is : id ≡ key_id name kind known = is ∙ ap (λ (m : List ℕ). key_id m asked key) same_name ∙ ap (λ (m : ℕ). key_id name m key) same_kind ∙ ap (λ (m : List ℕ). key_id name kind m) same_key in
    let right : bytes_eq digits (hex8 id) ≡ true = (bytes_eq-Decides digits (hex8 id)).1 (are ∙ ap hex8 (sym id_is)) in
    let both : true ≡ false = sym right ∙ sym test ∙ fails in
    cc

pub verifier_other_kind : (kind : ℕ) (text n d b : List ℕ) (k : PublicKey) → HasParts text n d b → get_or b 0 0 ≢ kind → IsVerifierText kind text k → ⊥
verifier_other_kind kind text n d b k has other is =
    let same = parts_once text n k.name d (hex8 (key_id k.name k.kind k.key)) b (k.kind ∷ k.key) has (verifier_parts kind text k is) in
    other (ap (λ (l : List ℕ). get_or l 0 0) same.2 ∙ is.kind_asked)

pub verifier_other_digits : (kind id : ℕ) (text n d b key : List ℕ) (t : Bool) (k : PublicKey) → HasParts text n d b → key ≡ drop 1 b → id ≡ key_id n kind key → t ≡ bytes_eq d (hex8 id) → t ≡ false → IsVerifierText kind text k → ⊥
verifier_other_digits kind id text n d b key t k has at id_is test fails is =
    let same = parts_once text n k.name d (hex8 (key_id k.name k.kind k.key)) b (k.kind ∷ k.key) has (verifier_parts kind text k is) in
    wrong_digits n k.name d key k.key kind k.kind id t same.0 (sym is.kind_asked) (at ∙ ap (drop 1) same.2) same.1 id_is test fails

pub verifier_unsound : (kind : ℕ) (text n d b key : List ℕ) (t : Bool) (k : PublicKey) → HasParts text n d b → key ≡ drop 1 b → t ≡ is_valid_public_key key → t ≡ false → IsVerifierText kind text k → ⊥
verifier_unsound kind text n d b key t k has at test fails is =
    let same = parts_once text n k.name d (hex8 (key_id k.name k.kind k.key)) b (k.kind ∷ k.key) has (verifier_parts kind text k is) in
    let key_is : key ≡ k.key = at ∙ ap (drop 1) same.2 in
    let sound : is_valid_public_key k.key ≡ true = is.sound in
    let both : true ≡ false = sym sound ∙ ap is_valid_public_key (sym key_is) ∙ sym test ∙ fails in
    cc

pub no_verifier : (kind : ℕ) (text : List ℕ) (k : PublicKey) → ((n d b : List ℕ) → HasParts text n d b → ⊥) → IsVerifierText kind text k → ⊥
no_verifier kind text k none is = none k.name (hex8 (key_id k.name k.kind k.key)) (k.kind ∷ k.key) (verifier_parts kind text k is)

pub signer_other_kind : (kind : ℕ) (text public n d b : List ℕ) (k : SeedKey) → text ≡ codes "PRIVATE+KEY+" ++ public → HasParts public n d b → get_or b 0 0 ≢ kind → IsSignerText kind text k → ⊥
signer_other_kind kind text public n d b k begins has other is =
    let same = parts_once public n k.name d (hex8 (key_id k.name k.kind (public_key k.seed))) b (k.kind ∷ k.seed) has (signer_parts kind text public k begins is) in
    other (ap (λ (l : List ℕ). get_or l 0 0) same.2 ∙ is.kind_asked)

pub signer_other_digits : (kind id : ℕ) (text public n d b rest seed key : List ℕ) (t : Bool) (k : SeedKey) → text ≡ codes "PRIVATE+KEY+" ++ public → HasParts public n d b
    → rest ≡ drop 1 b → seed ≡ rest → key ≡ public_key seed → id ≡ key_id n kind key → t ≡ bytes_eq d (hex8 id) → t ≡ false → IsSignerText kind text k → ⊥
signer_other_digits kind id text public n d b rest seed key t k begins has at seed_is key_is id_is test fails is =
    let same = parts_once public n k.name d (hex8 (key_id k.name k.kind (public_key k.seed))) b (k.kind ∷ k.seed) has (signer_parts kind text public k begins is) in
    wrong_digits n k.name d key (public_key k.seed) kind k.kind id t same.0 (sym is.kind_asked) (key_is ∙ ap public_key (seed_is ∙ at ∙ ap (drop 1) same.2)) same.1 id_is test fails

pub no_signer : (kind : ℕ) (text public : List ℕ) (k : SeedKey) → text ≡ codes "PRIVATE+KEY+" ++ public → ((n d b : List ℕ) → HasParts public n d b → ⊥) → IsSignerText kind text k → ⊥
no_signer kind text public k begins none is = none k.name (hex8 (key_id k.name k.kind (public_key k.seed))) (k.kind ∷ k.seed) (signer_parts kind text public k begins is)

pub not_private : (kind : ℕ) (text : List ℕ) (k : SeedKey) → ((rest : List ℕ) → text ≢ codes "PRIVATE+KEY+" ++ rest) → IsSignerText kind text k → ⊥
not_private kind text k other is = other (key_text k.name (hex8 (key_id k.name k.kind (public_key k.seed))) (k.kind ∷ k.seed)) is.spelled

-- ---- a text that is read

digits_right : (digits : List ℕ) (id : ℕ) (t : Bool) → t ≡ bytes_eq digits (hex8 id) → t ≡ true → digits ≡ hex8 id
digits_right digits id t test holds = (bytes_eq-Decides digits (hex8 id)).0 (sym test ∙ holds)

spelled_as : (text n d b key : List ℕ) (kind id : ℕ) → text ≡ key_text n d b → d ≡ hex8 id → b ≡ kind ∷ key → text ≡ key_text n (hex8 id) (kind ∷ key)
spelled_as text n d b key kind id is digits bytes = is ∙ ap (λ (x : List ℕ). key_text n x b) digits ∙ ap (λ (x : List ℕ). key_text n (hex8 id) x) bytes

pub verifier_found : (kind id : ℕ) (text n d b key : List ℕ) (t sound : Bool) → kind < 256 → HasParts text n d b → get_or b 0 0 ≡ kind → key ≡ drop 1 b → id ≡ key_id n kind key
    → t ≡ bytes_eq d (hex8 id) → t ≡ true → sound ≡ is_valid_public_key key → sound ≡ true → IsVerifierText kind text (record { name = n; kind = kind; key = key }) × (id ≡ key_id n kind key)
verifier_found kind id text n d b key t sound small has first at id_is test holds sound_is stands =
    let apart = taken_apart b kind has.fit first in
    let bytes : b ≡ kind ∷ key = apart.0 ∙ ap (λ (x : List ℕ). kind ∷ x) (sym at) in (
      record {
        name = has.name_is;
        kind_asked = refl;
        byte = small;
        key = subst Are32Bytes (sym at) apart.1;
        sound = sym sound_is ∙ stands;
        spelled = spelled_as text n d b key kind (key_id n kind key) has.spelled (digits_right d id t test holds ∙ ap hex8 id_is) bytes;
      },
      id_is,
    )

pub signer_found : (kind id : ℕ) (text public n d b rest seed key : List ℕ) (t : Bool) → kind < 256 → text ≡ codes "PRIVATE+KEY+" ++ public → HasParts public n d b → get_or b 0 0 ≡ kind
    → rest ≡ drop 1 b → seed ≡ rest → key ≡ public_key seed → id ≡ key_id n kind key → t ≡ bytes_eq d (hex8 id) → t ≡ true
    → IsSignerText kind text (record { name = n; kind = kind; seed = seed }) × (id ≡ key_id n kind (public_key seed))
signer_found kind id text public n d b rest seed key t small begins has first at seed_is key_is id_is test holds =
    let apart = taken_apart b kind has.fit first in
    let same : seed ≡ drop 1 b = seed_is ∙ at in
    let bytes : b ≡ kind ∷ seed = apart.0 ∙ ap (λ (x : List ℕ). kind ∷ x) (sym same) in
    let id_of_seed : id ≡ key_id n kind (public_key seed) = id_is ∙ ap (λ (x : List ℕ). key_id n kind x) key_is in (
      record {
        name = has.name_is;
        kind_asked = refl;
        byte = small;
        seed = subst Are32Bytes (sym same) apart.1;
        spelled = begins ∙ ap (λ (x : List ℕ). codes "PRIVATE+KEY+" ++ x) (spelled_as public n d b seed kind (key_id n kind (public_key seed)) has.spelled (digits_right d id t test holds ∙ ap hex8 id_of_seed) bytes);
      },
      id_of_seed,
    )

-- ---- the laws

abbrev verifier_made : List ℕ → List ℕ → PublicKey
verifier_made name bytes = record { name = name; kind = get_or bytes 0 0; key = drop 1 bytes }

abbrev signer_made : List ℕ → List ℕ → SeedKey
signer_made name bytes = record { name = name; kind = get_or bytes 0 0; seed = drop 1 bytes }

one_verifier : (m n : ℕ) (text : List ℕ) (k l : PublicKey) → IsVerifierText m text k → IsVerifierText n text l → k ≡ l
one_verifier m n text k l is also =
    let same = parts_once text k.name l.name (hex8 (key_id k.name k.kind k.key)) (hex8 (key_id l.name l.kind l.key)) (k.kind ∷ k.key) (l.kind ∷ l.key) (verifier_parts m text k is) (verifier_parts n text l also) in
    ap (λ (x : List ℕ). verifier_made x (k.kind ∷ k.key)) same.0 ∙ ap (λ (x : List ℕ). verifier_made l.name x) same.2

pub verifier_law : VerifierTextIsOne
verifier_law m n s t k l is also = (
  λ e. one_verifier m n t k l (subst (λ (x : List ℕ). IsVerifierText m x k) e is) also,
  λ e. is.spelled ∙ ap (λ (x : PublicKey). key_text x.name (hex8 (key_id x.name x.kind x.key)) (x.kind ∷ x.key)) e ∙ sym also.spelled,
)

one_signer : (m n : ℕ) (text : List ℕ) (k l : SeedKey) → IsSignerText m text k → IsSignerText n text l → k ≡ l
one_signer m n text k l is also =
    let rest = key_text k.name (hex8 (key_id k.name k.kind (public_key k.seed))) (k.kind ∷ k.seed) in
    let same = parts_once rest k.name l.name (hex8 (key_id k.name k.kind (public_key k.seed))) (hex8 (key_id l.name l.kind (public_key l.seed))) (k.kind ∷ k.seed) (l.kind ∷ l.seed) (signer_parts m text rest k is.spelled is) (signer_parts n text rest l is.spelled also) in
    ap (λ (x : List ℕ). signer_made x (k.kind ∷ k.seed)) same.0 ∙ ap (λ (x : List ℕ). signer_made l.name x) same.2

pub signer_law : SignerTextIsOne
signer_law m n s t k l is also = (
  λ e. one_signer m n t k l (subst (λ (x : List ℕ). IsSignerText m x k) e is) also,
  λ e. is.spelled ∙ ap (λ (x : SeedKey). codes "PRIVATE+KEY+" ++ key_text x.name (hex8 (key_id x.name x.kind (public_key x.seed))) (x.kind ∷ x.seed)) e ∙ sym also.spelled,
)
