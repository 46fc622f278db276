-- An entry at a place in a bundle.
use Rattle.std.proofs.Common.{◌≡◌, ◌≢◌, ℕ, zero, suc, ◌+◌, ◌<◌, List, [], ◌∷◌, ◌++◌, Option, Some, None, length, refl, sym, ◌∙◌, ap, inl, inr, arith, Bor, MatchOption}
use Rattle.std.specs.Prelude.{slice_get, option_map}
use Rattle.tl_tile.specs.Bundle.{IsBundle, IsPartialEntry, HasTrailing}
use Rattle.tl_tile.proofs.BundleLemmas.{HasRead, truncated_at, not_truncated, bundles_are_one, all_read}
use Rattle.tl_server.specs.Inner.Places.{FindsNone, HasEntry, LacksIt}

-- an element appended to a list changes no other place
get_push_other : {X : Type 0} (xs : List X) (x : X) (k : ℕ) → k ≢ length xs → slice_get (xs ++ x ∷ []) k ≡ slice_get xs k
get_push_other [] x zero other = absurd (other refl)
get_push_other [] x (suc k) other = refl
get_push_other (y ∷ xs) x zero other = refl
get_push_other (y ∷ xs) x (suc k) other = get_push_other xs x k (λ e. other (ap suc e))

-- an element appended to a list has the list's length as its place
get_push_same : {X : Type 0} (xs : List X) (x : X) → slice_get (xs ++ x ∷ []) (length xs) ≡ Some x
get_push_same [] x = refl
get_push_same (y ∷ xs) x = get_push_same xs x

-- what was found among the entries that were read
pub record Walked (bytes : List ℕ) (count : ℕ) (rest : List ℕ) (place : ℕ) (found : Option (Bor (List ℕ))) : Type 0 where
  pub entries : List (List ℕ)
  pub read : HasRead bytes count entries rest
  pub there : slice_get entries place ≡ option_map (λ e. e.now) found

pub walked_none : (bytes : List ℕ) (place : ℕ) → HasRead bytes 0 [] bytes → Walked bytes 0 bytes place None
walked_none bytes place read = record { entries = []; read = read; there = refl }

-- the next entry is at another place
pub walked_past : (bytes : List ℕ) (count : ℕ) (rest : List ℕ) (place : ℕ) (found : Option (Bor (List ℕ))) (walked : Walked bytes count rest place found)
    (e after : List ℕ) → HasRead bytes (count + 1) (walked.entries ++ e ∷ []) after → place ≢ count → Walked bytes (count + 1) after place found
walked_past bytes count rest place found walked e after read other = record {
  entries = walked.entries ++ e ∷ [];
  read = read;
  there = get_push_other walked.entries e place (λ same. other (same ∙ walked.read.len)) ∙ walked.there;
}

-- the next entry is the one at the place
pub walked_here : (bytes : List ℕ) (count : ℕ) (rest : List ℕ) (place : ℕ) (found : Option (Bor (List ℕ))) (walked : Walked bytes count rest place found)
    (e : Bor (List ℕ)) (after : List ℕ) → HasRead bytes (count + 1) (walked.entries ++ e.now ∷ []) after → place ≡ count → Walked bytes (count + 1) after place (Some e)
walked_here bytes count rest place found walked e after read same = record {
  entries = walked.entries ++ e.now ∷ [];
  read = read;
  there = ap (λ k. slice_get (walked.entries ++ e.now ∷ []) k) (same ∙ sym walked.read.len) ∙ get_push_same walked.entries e.now;
}

-- an entry ends too soon
pub walked_cut : (bytes : List ℕ) (count width : ℕ) (rest : List ℕ) (place : ℕ) (found : Option (Bor (List ℕ))) → Walked bytes count rest place found
    → count < width → IsPartialEntry rest → ¬ IsBundle bytes width
walked_cut bytes count width rest place found walked less partial whole =
    let read = walked.read in
    not_truncated bytes width whole (truncated_at bytes width walked.entries rest read.joined read.short (omega (arith, read.len, less)) partial)

-- bytes follow
pub walked_on : (bytes : List ℕ) (width : ℕ) (rest : List ℕ) (place : ℕ) (found : Option (Bor (List ℕ))) → Walked bytes width rest place found
    → length rest ≢ 0 → ¬ IsBundle bytes width
walked_on bytes width rest place found walked some (entries, are, spelled) =
    let read = walked.read in
    let trailing : HasTrailing bytes width = (
      walked.entries,
      record { short = read.short; count = read.len },
      record { rest = rest; joined = read.joined; more = λ none. some (ap length none) },
    ) in
    (bundles_are_one bytes width entries are spelled).ended trailing

-- all was read
pub walked_all : (bytes : List ℕ) (width : ℕ) (rest : List ℕ) (place : ℕ) (found : Option (Bor (List ℕ))) → Walked bytes width rest place found
    → length rest ≡ 0 → MatchOption found (FindsNone bytes width place) (λ e. HasEntry bytes width place e.now)
walked_all bytes width rest place None walked none =
    let all = all_read bytes width walked.entries rest walked.read none in
    inr (record { entries = walked.entries; are = all.0; spelled = all.1; there = walked.there })
walked_all bytes width rest place (Some e) walked none =
    let all = all_read bytes width walked.entries rest walked.read none in
    record { entries = walked.entries; are = all.0; spelled = all.1; there = walked.there }

some_same : (x y : List ℕ) → Some x ≡ Some y → x ≡ y
some_same x y same = cc

-- another entry has the place
pub finds_other : (bytes : List ℕ) (width place : ℕ) (found entry : List ℕ) → HasEntry bytes width place found → ¬ (found ≡ entry) → LacksIt bytes width place entry
finds_other bytes width place found entry has other = inr (record {
  entries = has.entries;
  are = has.are;
  spelled = has.spelled;
  other = λ same. other (some_same found entry (sym has.there ∙ same));
})

none_some : (x : List ℕ) → None ≡ Some x → ⊥
none_some x same = absurd cc

-- none has it
pub finds_none : (bytes : List ℕ) (width place : ℕ) (entry : List ℕ) → FindsNone bytes width place → LacksIt bytes width place entry
finds_none bytes width place entry (inl none) = inl none
finds_none bytes width place entry (inr found) = inr (record {
  entries = found.entries;
  are = found.are;
  spelled = found.spelled;
  other = λ same. none_some entry (sym found.there ∙ same);
})
