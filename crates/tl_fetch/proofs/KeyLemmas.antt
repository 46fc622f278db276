-- Public keys of witnesses, each its own, and those of the log.
use Rattle.std.proofs.Common.{◌≡◌, ◌<◌, ◌≤◌, ◌+◌, ◌⊎◌, ◌++◌, ◌∷◌, [], List, ℕ, zero, suc, refl, sym, subst, inl, inr, arith, drop, length}
use Rattle.std.specs.Prelude.{Contains}
use Rattle.std.specs.List.{Any}
use Rattle.std.proofs.lemmas.List.{append-nil, append_assoc, drop_all, drop_more}
use Rattle.std.proofs.lemmas.List.Elements.{Contains-append_cases}
use Rattle.tl_hash.specs.Bytes.{Bytes}
use Rattle.tl_key.specs.KeyText.{IsVerifierText}
use Rattle.tl_key.specs.NoteKey.{PublicKey, cosignature_kind, note_kind}
use Rattle.tl_fetch.specs.declared.options.FetchOptions.{FetchOptions}
use Rattle.tl_fetch.specs.Command.{HaveLogKeys, HaveOwnKeys, IsEarlierKey, IsTextOf, log_texts, public_keys, witness_text, witness_texts}

-- the texts before a place are of these keys, each with a public key of its own; these are all public keys, with the
-- log's
pub record HaveOwnSoFar (options : FetchOptions) (log known : List Bytes) (keys : List PublicKey) (place : ℕ) : Type 0 where
  pub own : (rest : List PublicKey) → HaveOwnKeys known (drop place (witness_texts options)) rest → HaveOwnKeys log (witness_texts options) (keys ++ rest)
  pub earlier : (x : Bytes) → Contains known x → IsEarlierKey options place x

-- what holds of one of these holds of one of more
behind : {X : Type 0} (P : X → Type 0) (x : X) (xs : List X) → Any P xs → Any P (x ∷ xs)
behind P x xs (k, y, within, is, so) = (suc k, y, omega (arith, within), is, so)

-- a public key of one of these keys is that of a text
of_text : (name : Bytes) (texts : List Bytes) (keys : List PublicKey) (x : Bytes) → HaveLogKeys name texts keys
    → Contains (public_keys keys) x → Any (IsTextOf note_kind x) texts
of_text name [] [] x have (k, within, is) = absurd (omega (arith, within))
of_text name [] (k ∷ keys) x have among = absurd have
of_text name (text ∷ texts) [] x have among = absurd have
of_text name (text ∷ texts) (k ∷ keys) x have (zero, within, is) = (0, text, omega arith, refl, (k, have.0, is))
of_text name (text ∷ texts) (k ∷ keys) x have (suc at, within, is) =
    behind (IsTextOf note_kind x) text texts (of_text name texts keys x have.3 (at, omega (arith, within), is))

pub own_first : (options : FetchOptions) (log : List Bytes) (name : Bytes) (keys : List PublicKey)
    → HaveLogKeys name (log_texts options) keys → log ≡ public_keys keys → HaveOwnSoFar options log log [] 0
own_first options log name keys have same = record {
  own = λ rest have. have;
  earlier = λ x among. inl (of_text name (log_texts options) keys x have (subst (λ (ks : List Bytes). Contains ks x) same among));
}

-- what came before this place came before the next
later : (options : FetchOptions) (place : ℕ) (x : Bytes) → IsEarlierKey options place x → IsEarlierKey options (place + 1) x
later options place x (inl logs) = inl logs
later options place x (inr (earlier, before, of)) = inr (earlier, omega (arith, before), of)

only : (key x : Bytes) → Contains (key ∷ []) x → key ≡ x
only key x (zero, within, is) = is
only key x (suc k, within, is) = absurd (omega (arith, within))

-- all texts are of these keys
pub own_all : (options : FetchOptions) (log known : List Bytes) (keys : List PublicKey) (place : ℕ) → length (witness_texts options) ≤ place
    → HaveOwnSoFar options log known keys place → HaveOwnKeys log (witness_texts options) keys
own_all options log known keys place past so =
    subst (HaveOwnKeys log (witness_texts options)) (append-nil keys)
    (so.own [] (subst (λ (ts : List Bytes). HaveOwnKeys known ts []) (sym (drop_all place (witness_texts options) past)) tt))

pub own_next : (options : FetchOptions) (log known : List Bytes) (keys : List PublicKey) (place : ℕ) (k : PublicKey) → place < length (witness_texts options)
    → IsVerifierText cosignature_kind (witness_text options place) k → (Contains known k.key → ⊥)
    → HaveOwnSoFar options log known keys place → HaveOwnSoFar options log (known ++ k.key ∷ []) (keys ++ k ∷ []) (place + 1)
own_next options log known keys place k within spelled new so = record {
  own = λ rest have. subst (HaveOwnKeys log (witness_texts options)) (sym (append_assoc keys (k ∷ []) rest))
      (so.own (k ∷ rest) (subst (λ (ts : List Bytes). HaveOwnKeys known ts (k ∷ rest)) (sym (drop_more (witness_texts options) place [] within)) (spelled, new, have)));
  earlier = λ x among. among_next x (Contains-append_cases known (k.key ∷ []) x among);
} where
  among_next : (x : Bytes) → Contains known x ⊎ Contains (k.key ∷ []) x → IsEarlierKey options (place + 1) x
  among_next x (inl before) = later options place x (so.earlier x before)
  among_next x (inr this) = inr (place, omega arith, (k, spelled, only k.key x this))
