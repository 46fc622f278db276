-- When a note was cosigned: a line has one time, and what holds of the lines and the keys follows from the first and
-- the others.
use Rattle.std.proofs.Common.{◌≡◌, ◌∙◌, ◌⊎◌, ◌<◌, ◌≤◌, ◌^◌, ◌∷◌, [], ℕ, zero, suc, List, Bool, true, false, Option, Some, None, Result, Ok, Err, MatchBool, Contains, length, map, take, drop, get_or, inl, inr, refl, ap, sym, subst, arith}
use Rattle.std.specs.Prelude.{IfOk, nat_le}
use Rattle.std.specs.Int.{w64, to_be_bytes, from_be_bytes}
use Rattle.std.proofs.lemmas.Bool.{cases_lt, le-leb, lt-leb}
use Rattle.std.proofs.lemmas.Nat.{from_be_bytes-to_be_bytes_8}
use Rattle.tl_hash.specs.Bytes.{Bytes}
use Rattle.tl_note.specs.Key.{Key}
use Rattle.tl_note.specs.Note.{Note, Signature}
use Rattle.tl_checkpoint.specs.Checkpoint as checkpoint
use Rattle.tl_checkpoint.specs.Cosignature.{ChecksCosignature, IsCosignature, cosignature}
use Rattle.tl_client.specs.Trusted.{IsTrusted}
use Rattle.tl_client.specs.declared.head.HeadFault.TheVariants as head
use Rattle.tl_fetch.specs.declared.fault.FetchFault.{FetchFault}
use Rattle.tl_fetch.specs.Inner.Freshness.{AllEarly, IsEarly, IsLate, IsOld, RefusesFresh, SomeLate}
use Rattle.tl_fetch.specs.Opening.{RefusesNote}
use Rattle.tl_fetch.specs.Trusting.{IsCosignedSince, IsFresh, Policy}

-- ---- a line

-- its bytes are of one time
one_time : (a b : ℕ) (s r : Bytes) → a < 2 ^ 64 → b < 2 ^ 64 → cosignature a s ≡ cosignature b r → a ≡ b
one_time a b s r small_a small_b same =
    let heads : to_be_bytes w64 a ≡ to_be_bytes w64 b = ap (take 8) same in
    sym (from_be_bytes-to_be_bytes_8 a small_a) ∙ ap (from_be_bytes w64) heads ∙ from_be_bytes-to_be_bytes_8 b small_b

same_time : (text : Bytes) (key : Key) (line : Signature) (a b : ℕ) → IsCosignature text key line a → IsCosignature text key line b → a ≡ b
same_time text key line a b one other = one_time a b one.signature other.signature one.range other.range (sym one.bytes ∙ other.bytes)

line_early : (text : Bytes) (since : ℕ) (key : Key) (line : Signature) (time : ℕ) → IsCosignature text key line time → time < since → IsEarly text since key line
line_early text since key line time valid before =
    λ other is. subst (λ (t : ℕ). t < since) (same_time text key line time other valid is) before

-- a cosignature is late or early, and what is none is early
pub line_judged : (text : Bytes) (since : ℕ) (key : Key) (line : Signature) (time : ℕ) → IsCosignature text key line time
    → MatchBool (nat_le since time) (IsLate text since key line) (IsEarly text since key line)
line_judged text since key line time valid =
    elim (cases_lt time since) as (λ _. MatchBool (nat_le since time) (IsLate text since key line) (IsEarly text since key line)) [
      | inl before ↦
          subst (λ (b : Bool). MatchBool b (IsLate text since key line) (IsEarly text since key line)) (sym (lt-leb since time before))
          (line_early text since key line time valid before)
      | inr after ↦
          subst (λ (b : Bool). MatchBool b (IsLate text since key line) (IsEarly text since key line)) (sym (le-leb since time after))
          (time, valid, after)
    ]

pub line_never : (text : Bytes) (since : ℕ) (key : Key) (line : Signature) → ChecksCosignature text key line None → IsEarly text since key line
line_never text since key line none = λ time valid. absurd (none time valid)

-- ---- lists by their first element and the others

pub list_is : {X : Type 0} (xs : List X) (first : X) (rest : List X) → rest ≡ drop 1 xs → 1 ≤ length xs → first ≡ get_or xs 0 first → xs ≡ first ∷ rest
list_is [] first rest left some is = absurd (omega (arith, some))
list_is (x ∷ xs) first rest left some is = ap (λ y. y ∷ xs) (sym is) ∙ ap (λ ys. first ∷ ys) (sym left)

pub keys_are : {W : Type 0} (key : W → Key) (ws : List W) (first : W) (rest : List W) → rest ≡ drop 1 ws → 1 ≤ length ws → first ≡ get_or ws 0 first
    → map key ws ≡ key first ∷ map key rest
keys_are {W} key ws first rest left some is = ap (λ (vs : List W). map key vs) (list_is ws first rest left some is)

-- of nothing all holds
pub none_each : {X : Type 0} (N : X → Type 0) (xs : List X) → length xs ≡ 0 → (x : X) → Contains xs x → N x
none_each N [] none x (k, within, is) = absurd (omega (arith, within))
none_each N (y ∷ xs) none x among = absurd (omega (arith, none))

pub none_mapped : {W : Type 0} (key : W → Key) (N : Key → Type 0) (ws : List W) → length ws ≡ 0 → (k : Key) → Contains (map key ws) k → N k
none_mapped key N [] none x (k, within, is) = absurd (omega (arith, within))
none_mapped key N (w ∷ ws) none x among = absurd (omega (arith, none))

first_or_rest : {X : Type 0} (first : X) (rest : List X) (x : X) → Contains (first ∷ rest) x → (first ≡ x) ⊎ Contains rest x
first_or_rest first rest x (zero, within, is) = inl is
first_or_rest first rest x (suc k, within, is) = inr (k, omega (arith, within), is)

pub first_found : {X : Type 0} (P : X → Type 0) (xs : List X) (first : X) (rest : List X) → xs ≡ first ∷ rest → P first → (x : X) × Contains xs x × P x
first_found {X} P xs first rest whole here =
    (first, subst (λ (ys : List X). Contains ys first) (sym whole) (0, omega arith, refl), here)

each_more : {X : Type 0} (N : X → Type 0) (xs : List X) (first : X) (rest : List X) → xs ≡ first ∷ rest → N first → ((x : X) → Contains rest x → N x)
    → (x : X) → Contains xs x → N x
each_more {X} N xs first rest whole here others =
    λ x among. of_either x (first_or_rest first rest x (subst (λ (ys : List X). Contains ys x) whole among)) where
      of_either : (x : X) → (first ≡ x) ⊎ Contains rest x → N x
      of_either x (inl same) = subst N same here
      of_either x (inr there) = others x there

-- what a search answers of the others, it answers of all, after a first one that it didn't take
pub search_more : {X E : Type 0} (P N : X → Type 0) (xs : List X) (first : X) (rest : List X) → xs ≡ first ∷ rest → N first → (found : Result Bool E)
    → IfOk found (λ f. MatchBool f ((x : X) × Contains rest x × P x) ((x : X) → Contains rest x → N x))
    → IfOk found (λ f. MatchBool f ((x : X) × Contains xs x × P x) ((x : X) → Contains xs x → N x))
search_more {X} P N xs first rest whole none (Ok true) (x, (k, within, is), so) =
    (x, subst (λ (ys : List X). Contains ys x) (sym whole) (suc k, omega (arith, within), is), so)
search_more P N xs first rest whole none (Ok false) others = each_more N xs first rest whole none others
search_more P N xs first rest whole none (Err fault) below = tt

-- ---- a note

pub unasked : (note : Bytes) (witnesses : List Key) (asked : Option ℕ) → asked ≡ None → IsFresh note witnesses asked
unasked note witnesses asked none = subst (λ (a : Option ℕ). IsFresh note witnesses a) (sym none) tt

fresh_by : (note : Bytes) (witnesses : List Key) (since : ℕ) (text : Bytes) (lines : List Signature) → Note note text lines → SomeLate text lines since witnesses
    → IsCosignedSince note witnesses since
fresh_by note witnesses since text lines noted (key, known, (line, stands, (time, valid, late))) = record {
  text = text;
  lines = lines;
  noted = noted;
  line = line;
  stands = stands;
  key = key;
  known = known;
  time = time;
  valid = valid;
  late = late;
}

pub found_fresh : (note : Bytes) (witnesses : List Key) (asked : Option ℕ) (since : ℕ) (text : Bytes) (lines read : List Signature) → asked ≡ Some since
    → Note note text lines → read ≡ lines → SomeLate text read since witnesses → IsFresh note witnesses asked
found_fresh note witnesses asked since text lines read told noted same some =
    subst (λ (a : Option ℕ). IsFresh note witnesses a) (sym told)
    (fresh_by note witnesses since text lines noted (subst (λ (ls : List Signature). SomeLate text ls since witnesses) same some))

pub found_old : (note : Bytes) (witnesses : List Key) (asked : Option ℕ) (since : ℕ) (text : Bytes) (lines read : List Signature) → asked ≡ Some since
    → Note note text lines → read ≡ lines → AllEarly text read since witnesses → IsOld note witnesses asked since
found_old note witnesses asked since text lines read told noted same all = record {
  told = told;
  text = text;
  lines = lines;
  noted = noted;
  early = subst (λ (ls : List Signature). AllEarly text ls since witnesses) same all;
}

-- a checkpoint of the log that is trusted but for its age
pub not_fresh : (policy : Policy) (note : Bytes) (c : checkpoint.Head) (fault : FetchFault) → IsTrusted note policy.trust c → c.origin ≡ policy.origin
    → RefusesFresh note policy.trust.witnesses policy.since fault → RefusesNote policy note fault
not_fresh policy note c fault trusted named (inl memory) =
    inr (inl (head.OutOfMemory, (checkpoint.checkpoint_text c, trusted.1.signed.lines, trusted.1.signed.noted), memory))
not_fresh policy note c fault trusted named (inr (inl none)) =
    absurd (none (checkpoint.checkpoint_text c) trusted.1.signed.lines trusted.1.signed.noted)
not_fresh policy note c fault trusted named (inr (inr (since, told, old))) = inr (inr (inl (
  since,
  told,
  record {
    checkpoint = c;
    trusted = trusted;
    origin = named;
    asked = old.told;
    text = old.text;
    lines = old.lines;
    noted = old.noted;
    early = λ key line time known stands valid. old.early key known line stands time valid;
  },
)))
