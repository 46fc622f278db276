-- Lines that aren't cosignatures, by one key or one line more.
use Rattle.std.proofs.Common.{◌≡◌, ◌<◌, ◌≤◌, ◌+◌, ◌∙◌, ◌∷◌, [], ℕ, zero, suc, Bool, true, false, List, All, Any, Contains, MatchBool, None, Result, Ok, Err, get_or, inl, length, map, drop, refl, ap, sym, subst, take, arith}
use Rattle.std.specs.Prelude.{IfOk}
use Rattle.std.specs.declared.alloc.AllocError.{AllocError}
use Rattle.std.proofs.lemmas.List.{take_all}
use Rattle.std.proofs.lemmas.List.Elements.{All-map, All-more}
use Rattle.tl_hash.specs.Bytes.{Bytes}
use Rattle.tl_note.specs.Key.{Key}
use Rattle.tl_note.specs.Note.{IsSignature, Signature, signature_line}
use Rattle.tl_note.specs.View.{AreLines}
use Rattle.tl_checkpoint.specs.Cosignature.{ChecksCosignature, IsCosignature}
use Rattle.tl_feed.specs.Lines.{CosignsText}
use Rattle.tl_feed.specs.Inner.Answered.{AreOthers, IsOther}

-- whether a line is a cosignature by one of these keys
abbrev pub Finds : {W : Type 0} → (W → Key) → Bytes → Signature → List W → Bool → Type 0
Finds key text line ws own =
    MatchBool own (Any (λ w. (time : ℕ) × IsCosignature text (key w) line time) ws) (All (λ w. (time : ℕ) → IsCosignature text (key w) line time → ⊥) ws)

key_more : {W : Type 0} (key : W → Key) (text : Bytes) (line : Signature) (first : W) (rest : List W) (own : Bool) → ChecksCosignature text (key first) line None
    → Finds key text line rest own → Finds key text line (first ∷ rest) own
key_more {W = W} key text line first rest true none (k, w, within, is, by) = (suc k, w, omega (arith, within), is, by)
key_more {W = W} key text line first rest false none others = λ k d. of_place k d where
  of_place : (k : ℕ) (d : W) → k < length (first ∷ rest) → (time : ℕ) → IsCosignature text (key (get_or (first ∷ rest) k d)) line time → ⊥
  of_place zero d within = none
  of_place (suc k) d within = others k d (omega (arith, within))

list_is : {X : Type 0} (xs : List X) (first : X) (rest : List X) → rest ≡ drop 1 xs → 1 ≤ length xs → first ≡ get_or xs 0 first → xs ≡ first ∷ rest
list_is [] first rest left some is = absurd (omega (arith, some))
list_is (x ∷ xs) first rest left some is = ap (λ y. y ∷ xs) (sym is) ∙ ap (λ ys. first ∷ ys) (sym left)

-- the keys behind the first decide if the line isn't a cosignature by that
pub key_found : {W : Type 0} (key : W → Key) (text : Bytes) (line : Signature) (ws : List W) (first : W) (rest : List W) → rest ≡ drop 1 ws → 1 ≤ length ws
    → first ≡ get_or ws 0 first → ChecksCosignature text (key first) line None → (own : Result Bool AllocError) → IfOk own (Finds key text line rest)
    → IfOk own (Finds key text line ws)
key_found {W = W} key text line ws first rest left some is none (Ok own) below =
    subst (λ (all : List W). Finds key text line all own) (sym (list_is ws first rest left some is)) (key_more key text line first rest own none below)
key_found {W = W} key text line ws first rest left some is none (Err fault) below = tt

-- the key by which a line is a cosignature
pub own_key : {W : Type 0} (key : W → Key) (text : Bytes) (line : Signature) (ws : List W) → Finds key text line ws true
    → (own : Key) × Contains (map key ws) own × ((time : ℕ) × IsCosignature text own line time)
own_key {W = W} key text line [] (k, w, within, is, by) = absurd (omega (arith, within))
own_key {W = W} key text line (x ∷ ws) (zero, w, within, is, by) =
    (key x, (0, omega arith, refl), subst (λ (v : W). (time : ℕ) × IsCosignature text (key v) line time) (sym is) by)
own_key {W = W} key text line (x ∷ ws) (suc k, w, within, is, by) =
    let (own, (place, inside, at), of) = own_key key text line ws (k, w, omega (arith, within), is, by) in
    (own, (suc place, omega (arith, inside), at), of)

-- a line that is a cosignature by one of the keys cosigns the text
pub cosigns : {W : Type 0} (key : W → Key) (text : Bytes) (line : Signature) (ws : List W) (bytes : Bytes) → IsSignature line → bytes ≡ signature_line line
    → Finds key text line ws true → CosignsText (map key ws) text bytes
cosigns {W = W} key text line ws bytes lawful spelled found =
    let (own, known, (time, by)) = own_key key text line ws found in
    record { signature = line; lawful = lawful; spelled = spelled; key = own; known = known; time = time; valid = by }

pub none_own : {W : Type 0} (key : W → Key) (text : Bytes) (line : Signature) (ws : List W) → Finds key text line ws false → IsOther text (map key ws) line
none_own key text line ws none = All-map (λ k. (time : ℕ) → IsCosignature text k line time → ⊥) key ws none

-- one line more that isn't a cosignature
pub others_more : (text : Bytes) (keys : List Key) (lines : List Signature) (i : ℕ) (line : Signature) → i < length lines → line ≡ get_or lines i line
    → IsOther text keys line → All (IsOther text keys) (take i lines) → All (IsOther text keys) (take (i + 1) lines)
others_more text keys lines i line within is none before = All-more (IsOther text keys) lines i line within before (subst (IsOther text keys) is none)

-- no line is a cosignature
pub others_all : (text : Bytes) (keys : List Key) (bytes : Bytes) (views lines : List Signature) (i : ℕ) → lines ≡ views → AreLines bytes views → length lines ≤ i
    → All (IsOther text keys) (take i lines) → AreOthers text keys bytes
others_all text keys bytes views lines i same are whole each =
    inl (views, are, subst (λ (l : List Signature). All (IsOther text keys) l) (take_all i lines whole ∙ same) each)
