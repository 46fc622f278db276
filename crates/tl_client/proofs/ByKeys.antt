-- The witnesses that cosigned a text, with one key more.
use Rattle.std.proofs.Common.{◌≡◌, ◌<◌, ◌≤◌, ◌⊎◌, ◌++◌, ◌∷◌, ◌∙◌, [], List, ℕ, Bool, true, false, None, Result, Ok, Err, MatchBool, zero, suc, length, map, drop, get_or, inl, inr, refl, ap, sym, subst, arith, Any, Contains}
use Rattle.std.specs.List.{All}
use Rattle.std.specs.Prelude.{IfOk, slice_index_or}
use Rattle.std.specs.declared.alloc.AllocError.{AllocError}
use Rattle.std.proofs.lemmas.List.{map-append}
use Rattle.std.proofs.lemmas.List.Elements.{All-push, Contains-append_left, Contains-get_or, Contains-push}
use Rattle.std.proofs.lemmas.List.Quantifiers.{all_pairs_push}
use Rattle.tl_hash.specs.Bytes.{Bytes}
use Rattle.tl_note.specs.Key.{Key}
use Rattle.tl_note.specs.Note.{Signature}
use Rattle.tl_checkpoint.specs.Cosignature.{ChecksCosignature, IsCosignature}
use Rattle.tl_client.specs.Trusted.{AreCosigners, HasCosigned}

-- a line is a cosignature by a key, or none is
abbrev pub SomeBy : Bytes → Key → List Signature → Type 0
SomeBy text key lines = Any (λ line. (time : ℕ) × IsCosignature text key line time) lines

abbrev pub NoneBy : Bytes → Key → List Signature → Type 0
NoneBy text key lines = All (λ line. (time : ℕ) → IsCosignature text key line time → ⊥) lines

no_true : false ≡ true → ⊥
no_true e = cc

-- a name is among those that are lent
pub among_lent : {X : Type 0} (f : X → Bytes) (names : List X) (name : Bytes) → Any (λ n. f n ≡ name) names → Contains (map f names) name
among_lent f [] name (k, n, within, is, same) = absurd (omega (arith, within))
among_lent f (x ∷ names) name (zero, n, within, is, same) = (zero, omega arith, ap f is ∙ same)
among_lent f (x ∷ names) name (suc k, n, within, is, same) =
    let (place, inside, at) = among_lent f names name (k, n, omega (arith, within), is, same) in
    (suc place, omega (arith, inside), at)

pub lent_among : {X : Type 0} (f : X → Bytes) (names : List X) (name : Bytes) → Contains (map f names) name → Any (λ n. f n ≡ name) names
lent_among f [] name (k, within, is) = absurd (omega (arith, within))
lent_among f (x ∷ names) name (zero, within, is) = (zero, x, omega arith, refl, is)
lent_among f (x ∷ names) name (suc k, within, is) =
    let (place, n, inside, at, same) = lent_among f names name (k, omega (arith, within), is) in
    (suc place, n, omega (arith, inside), at, same)

-- a line more, which is none
pub line_more : (text : Bytes) (key : Key) (first : Signature) (rest : List Signature) (found : Bool) → ChecksCosignature text key first None
    → MatchBool found (SomeBy text key rest) (NoneBy text key rest) → MatchBool found (SomeBy text key (first ∷ rest)) (NoneBy text key (first ∷ rest))
line_more text key first rest true other (k, line, within, is, by) = (suc k, line, omega (arith, within), is, by)
line_more text key first rest false other none = λ k d. of_place k d where
  of_place : (k : ℕ) (d : Signature) → k < length (first ∷ rest) → (time : ℕ) → IsCosignature text key (slice_index_or (first ∷ rest) k d) time → ⊥
  of_place zero d within = other
  of_place (suc k) d within = none k d (omega (arith, within))

none_is_some : (text : Bytes) (key : Key) (lines : List Signature) → NoneBy text key lines → SomeBy text key lines → ⊥
none_is_some text key lines none (k, line, within, is, (time, valid)) =
    none k line within time (subst (λ (l : Signature). IsCosignature text key l time) (sym is) valid)

known_more : (text : Bytes) (first : Key) (rest : List Key) (lines : List Signature) (name : Bytes) → HasCosigned text rest lines name
    → HasCosigned text (first ∷ rest) lines name
known_more text first rest lines name is = record {
  line = is.line;
  stands = is.stands;
  key = is.key;
  known = (suc is.known.0, omega (arith, is.known.1), is.known.2);
  named = is.named;
  time = is.time;
  valid = is.valid;
}

known_first : (text : Bytes) (first : Key) (rest : List Key) (lines : List Signature) → SomeBy text first lines
    → HasCosigned text (first ∷ rest) lines first.name
known_first text first rest lines (k, line, within, is, (time, valid)) = record {
  line = line;
  stands = (k, within, is);
  key = first;
  known = (0, omega arith, refl);
  named = refl;
  time = time;
  valid = valid;
}

-- whoever cosigned it used the first key or another
by_first_or_rest : (text : Bytes) (first : Key) (rest : List Key) (lines : List Signature) (name : Bytes) → HasCosigned text (first ∷ rest) lines name
    → ((first.name ≡ name) × SomeBy text first lines) ⊎ HasCosigned text rest lines name
by_first_or_rest text first rest lines name is = of_place is.known.0 is.known.1 is.known.2 where
  of_place : (k : ℕ) → k < length (first ∷ rest) → slice_index_or (first ∷ rest) k is.key ≡ is.key
      → ((first.name ≡ name) × SomeBy text first lines) ⊎ HasCosigned text rest lines name
  of_place zero within same = inl (
    subst (λ (k : Key). k.name ≡ name) (sym same) is.named,
    (is.stands.0, is.line, is.stands.1, is.stands.2, (is.time, subst (λ (k : Key). IsCosignature text k is.line is.time) (sym same) is.valid)),
  )
  of_place (suc k) within same = inr (record {
    line = is.line;
    stands = is.stands;
    key = is.key;
    known = (k, omega (arith, within), same);
    named = is.named;
    time = is.time;
    valid = is.valid;
  })

pub by_nobody : (text : Bytes) (lines : List Signature) → AreCosigners text [] lines []
by_nobody text lines = record {
  each = λ k d within. absurd (omega (arith, within));
  apart = λ i j d less within. absurd (omega (arith, within));
  all = λ name is. absurd (omega (arith, is.known.1));
}

-- without witnesses nobody cosigned
pub by_none : {W N : Type 0} (key : W → Key) (now : N → Bytes) (text : Bytes) (witnesses : List W) (lines : List Signature) (items : List N) → length witnesses ≡ 0 → items ≡ []
    → AreCosigners text (map key witnesses) lines (map now items)
by_none key now text [] lines [] none nothing = by_nobody text lines
by_none key now text (w ∷ witnesses) lines items none nothing = absurd (omega (arith, none))
by_none key now text [] lines (n ∷ items) none nothing = absurd cc

module _ (text : Bytes) (first : Key) (rest : List Key) (lines : List Signature) (names : List Bytes) (old : AreCosigners text rest lines names) where
  each_more : All (HasCosigned text (first ∷ rest) lines) names
  each_more k d within = known_more text first rest lines (slice_index_or names k d) (old.each k d within)

  -- its name is among those already
  pub by_one_again : Contains names first.name → AreCosigners text (first ∷ rest) lines names
  by_one_again among = record { each = each_more; apart = old.apart; all = λ name is. of_either name (by_first_or_rest text first rest lines name is) } where
    of_either : (name : Bytes) → ((first.name ≡ name) × SomeBy text first lines) ⊎ HasCosigned text rest lines name → Contains names name
    of_either name (inl (named, some)) = subst (λ (n : Bytes). Contains names n) named among
    of_either name (inr is) = old.all name is

  -- no line is by it
  pub by_no_more : NoneBy text first lines → AreCosigners text (first ∷ rest) lines names
  by_no_more none = record { each = each_more; apart = old.apart; all = λ name is. of_either name (by_first_or_rest text first rest lines name is) } where
    of_either : (name : Bytes) → ((first.name ≡ name) × SomeBy text first lines) ⊎ HasCosigned text rest lines name → Contains names name
    of_either name (inl (named, some)) = absurd (none_is_some text first lines none some)
    of_either name (inr is) = old.all name is

  -- a line is, and its name is new
  pub by_one_more : (Contains names first.name → ⊥) → SomeBy text first lines → AreCosigners text (first ∷ rest) lines (names ++ first.name ∷ [])
  by_one_more new some = record {
    each = All-push (HasCosigned text (first ∷ rest) lines) names first.name each_more (known_first text first rest lines some);
    apart = all_pairs_push (λ (a b : Bytes). a ≡ b → ⊥) names first.name old.apart
        (λ k d within same. new (subst (λ (n : Bytes). Contains names n) same (Contains-get_or names k d within)));
    all = λ name is. of_either name (by_first_or_rest text first rest lines name is);
  } where
    of_either : (name : Bytes) → ((first.name ≡ name) × SomeBy text first lines) ⊎ HasCosigned text rest lines name → Contains (names ++ first.name ∷ []) name
    of_either name (inl (named, by)) = subst (λ (n : Bytes). Contains (names ++ first.name ∷ []) n) named (Contains-push names first.name)
    of_either name (inr is) = Contains-append_left names (first.name ∷ []) name (old.all name is)

-- ---- over lists by their first element and the others

list_is : {X : Type 0} (xs : List X) (first : X) (rest : List X) → rest ≡ drop 1 xs → 1 ≤ length xs → first ≡ get_or xs 0 first → xs ≡ first ∷ rest
list_is [] first rest left some is = absurd (omega (arith, some))
list_is (x ∷ xs) first rest left some is = ap (λ y. y ∷ xs) (sym is) ∙ ap (λ ys. first ∷ ys) (sym left)

pub line_found : (text : Bytes) (key : Key) (lines : List Signature) (first : Signature) (rest : List Signature) → rest ≡ drop 1 lines → 1 ≤ length lines → first ≡ get_or lines 0 first
    → ChecksCosignature text key first None → (found : Result Bool AllocError) → IfOk found (λ f. MatchBool f (SomeBy text key rest) (NoneBy text key rest))
    → IfOk found (λ f. MatchBool f (SomeBy text key lines) (NoneBy text key lines))
line_found text key lines first rest left some is none (Ok f) below =
    let whole : lines ≡ first ∷ rest = list_is lines first rest left some is in
    subst (λ (ls : List Signature). MatchBool f (SomeBy text key ls) (NoneBy text key ls)) (sym whole) (line_more text key first rest f none below)
line_found text key lines first rest left some is none (Err fault) below = tt

module _ {W : Type 0} (key : W → Key) (text : Bytes) (witnesses : List W) (first : W) (rest : List W) (lines : List Signature) (left : rest ≡ drop 1 witnesses)
    (some : 1 ≤ length witnesses) (is : first ≡ get_or witnesses 0 first) where
  by_all : (names : List Bytes) → AreCosigners text (key first ∷ map key rest) lines names → AreCosigners text (map key witnesses) lines names
  by_all names are = subst (λ (ws : List W). AreCosigners text (map key ws) lines names) (sym (list_is witnesses first rest left some is)) are

  module _ {N : Type 0} (now : N → Bytes) (items : List N) (old : AreCosigners text (map key rest) lines (map now items)) (lent : List N) (same : lent ≡ items) where
    pub one_again : (name : Bytes) → name ≡ (key first).name → Any (λ n. now n ≡ name) lent → AreCosigners text (map key witnesses) lines (map now items)
    one_again name named among =
        let known : Contains (map now items) name = among_lent now items name (subst (λ (ns : List N). Any (λ n. now n ≡ name) ns) same among) in
        by_all (map now items) (by_one_again text (key first) (map key rest) lines (map now items) old (subst (λ (n : Bytes). Contains (map now items) n) named known))

    pub no_more : NoneBy text (key first) lines → AreCosigners text (map key witnesses) lines (map now items)
    no_more none = by_all (map now items) (by_no_more text (key first) (map key rest) lines (map now items) old none)

    pub one_more : (name : N) → now name ≡ (key first).name → (Any (λ n. now n ≡ now name) lent → false ≡ true) → SomeBy text (key first) lines → (all : List N)
        → all ≡ items ++ name ∷ [] → AreCosigners text (map key witnesses) lines (map now all)
    one_more name named new by all pushed =
        let other : Contains (map now items) (key first).name → ⊥ = λ among.
        let lent_name = lent_among now items (now name) (subst (λ (n : Bytes). Contains (map now items) n) (sym named) among) in
        no_true (new (subst (λ (ns : List N). Any (λ n. now n ≡ now name) ns) (sym same) lent_name)) in
        let names : map now all ≡ map now items ++ (key first).name ∷ [] =
        ap (map now) pushed ∙ (map-append now items (name ∷ []) ∙ ap (λ (n : Bytes). map now items ++ n ∷ []) named) in
        subst (λ (ns : List Bytes). AreCosigners text (map key witnesses) lines ns) (sym names)
        (by_all (map now items ++ (key first).name ∷ []) (by_one_more text (key first) (map key rest) lines (map now items) old other by))
