-- Logs after the commits of one store.
use Rattle.std.proofs.Common.{◌≡◌, ℕ, zero, suc, ◌<◌, ◌≤◌, inl, inr, ◌⊎◌, List, [], ◌∷◌, ◌++◌, length, Some, refl, sym, ap, ◌∙◌, subst, append-nil, append_assoc, arith}
use Rattle.std.specs.Prelude.{Contains}
use Rattle.std.proofs.lemmas.Bool.{cases_eq}
use Rattle.std.proofs.lemmas.List.{length-append}
use Rattle.tl_hash.specs.Bytes.{Bytes, Digest}
use Rattle.tl_tile.specs.declared.resource.Resource.{Resource}
use Rattle.tl_tile.specs.Needed.{needed_resources}
use Rattle.tl_log.specs.Histories.{Begins}
use Rattle.tl_archive.specs.Complete.{text_of}
use Rattle.tl_archive.proofs.Stays.{needed_bytes_stay}
use Rattle.tl_bucket.specs.Bucket.{Store, Committed, IsCommitted}
use Rattle.tl_bucket.specs.Histories.{AreConsistent}

pub some_same : {X : Type 0} (x y : X) → Some x ≡ Some y → x ≡ y
some_same x y e = cc

pub total : (m n : ℕ) → (m ≤ n) ⊎ (n ≤ m)
total zero n = inl (omega arith)
total (suc m) zero = inr (omega arith)
total (suc m) (suc n) = elim (total m n) as (λ _. (suc m ≤ suc n) ⊎ (suc n ≤ suc m)) [
  | inl le ↦ inl (omega (arith, le))
  | inr ge ↦ inr (omega (arith, ge))
]

-- the log after the first n commits is unique
pub same_log : (store : Store) (n : ℕ) (a b : List Bytes) → Committed store n a → Committed store n b → a ≡ b
same_log store zero a b is was = is ∙ sym was
same_log store (suc n) a b (front, batch, before, at, joined) (front', batch', before', at', joined') =
    let f : front ≡ front' = same_log store n front front' before before' in
    let g : batch ≡ batch' = some_same batch batch' (sym at ∙ at') in
    let same : front ++ batch ≡ front' ++ batch' = (λ i. f i ++ g i) in
    sym joined ∙ same ∙ joined'

-- the log after fewer commits is a prefix of the log after more
pub log_extends : (store : Store) (m n : ℕ) (a b : List Bytes) → m ≤ n → Committed store m a → Committed store n b → Begins a b
log_extends store zero n a b le is was = (b, ap (λ (t : List Bytes). t ++ b) is)
log_extends store (suc m) zero a b le is was = absurd (omega (arith, le))
log_extends store (suc m) (suc n) a b le is (front, batch, before, at, joined) =
    elim (cases_eq m n) as (λ _. Begins a b) [
      | inl same ↦
          let own : Committed store (suc n) a = subst (λ (k : ℕ). Committed store (suc k) a) same is in
          ([], append-nil a ∙ same_log store (suc n) a b own (front, batch, before, at, joined))
      | inr other ↦
          let r = log_extends store (suc m) n a front (omega (arith, le, other)) is before in
          (r.0 ++ batch, sym (append_assoc a r.0 batch) ∙ ap (λ (t : List Bytes). t ++ batch) r.1 ∙ joined)
    ]

none_left : (xs : List Bytes) → length xs ≡ 0 → xs ≡ []
none_left [] e = refl
none_left (x ∷ xs) e = absurd (omega (arith, e))

-- if b is a prefix of a and no shorter, a is a prefix of b
begins_back : (a b : List Bytes) → Begins b a → length a ≤ length b → Begins a b
begins_back a b (rest, joined) le =
    let sum = length-append b rest in
    let long = ap length joined in
    let none : rest ≡ [] = none_left rest (omega (arith, sum, long, le)) in
    ([], append-nil a ∙ sym joined ∙ ap (λ (t : List Bytes). b ++ t) none ∙ append-nil b)

-- of two logs of one store one is a prefix of the other
pub consistent : (store : Store) (a b : List Bytes) → IsCommitted store a → IsCommitted store b → AreConsistent a b
consistent store a b (m, is) (n, was) = elim (total m n) as (λ _. AreConsistent a b) [
  | inl le ↦ inl (log_extends store m n a b le is was)
  | inr ge ↦ inr (log_extends store n m b a ge was is)
]

-- of two logs of one store the one with no more entries is a prefix of the other
pub by_size : (store : Store) (a b : List Bytes) → IsCommitted store a → IsCommitted store b → length a ≤ length b → Begins a b
by_size store a b is was le = elim (consistent store a b is was) as (λ _. Begins a b) [
  | inl front ↦ front
  | inr back ↦ begins_back a b back le
]

-- a log and its prefix have the same bytes under a resource that the prefix needs
pub begun_bytes : (H : Digest) (a b : List Bytes) (r : Resource) → Begins a b → Contains (needed_resources (length a)) r → text_of H r b ≡ text_of H r a
begun_bytes H a b r begins has = ap (text_of H r) (sym begins.1) ∙ needed_bytes_stay H a begins.0 r has

-- two logs of one store that need a resource have the same bytes under it
pub same_bytes : (H : Digest) (store : Store) (a b : List Bytes) (r : Resource) → IsCommitted store a → IsCommitted store b
    → Contains (needed_resources (length a)) r → Contains (needed_resources (length b)) r → text_of H r a ≡ text_of H r b
same_bytes H store a b r is was has had = elim (consistent store a b is was) as (λ _. text_of H r a ≡ text_of H r b) [
  | inl front ↦ sym (begun_bytes H a b r front has)
  | inr back ↦ begun_bytes H b a r back had
]

-- the commits up to the last are there
pub is_there : (store : Store) (n m : ℕ) (entries : List Bytes) → Committed store n entries → 0 < m → m ≤ n → (own : List Bytes) × (store.commits m ≡ Some own)
is_there store zero m entries is some le = absurd (omega (arith, some, le))
is_there store (suc n) m entries (front, batch, before, at, joined) some le =
    elim (cases_eq m (suc n)) as (λ _. (own : List Bytes) × (store.commits m ≡ Some own)) [
      | inl same ↦ (batch, ap store.commits same ∙ at)
      | inr other ↦ is_there store n m front before some (omega (arith, le, other))
    ]
