-- The first cosignature by a key.
use Rattle.std.proofs.Common.{◌≡◌, ℕ, ◌+◌, ◌<◌, ◌≤◌, List, [], ◌∷◌, ◌++◌, length, get_or, drop, map, take, sym, ap, subst, ◌∙◌, Option, None, Result, Ok, Err, inr, arith}
use Rattle.std.specs.Prelude.{IfOk}
use Rattle.std.proofs.lemmas.List.{map_more}
use Rattle.std.specs.List.{AllZip}
use Rattle.tl_key.specs.NoteKey.{PublicKey, verifier_key}
use Rattle.tl_note.specs.Note.{Signature}
use Rattle.tl_checkpoint.specs.Cosignature.{ChecksCosignature}
use Rattle.tl_policy.specs.declared.policy.PolicyWitness.{PolicyWitness}
use Rattle.tl_policy.specs.Terms.{WitnessTerm, witness_term}
use Rattle.tl_policy.specs.Cosigned.{AreTimes, IsFirstTime}

-- the list is its first element and the others
pub list_is : {X : Type 0} (xs rest : List X) (first : X) → 1 ≤ length xs → first ≡ get_or xs 0 first → rest ≡ drop 1 xs → xs ≡ first ∷ rest
list_is [] rest first some read others = absurd (omega (arith, some))
list_is (x ∷ xs) rest first some read others = ap (λ y. y ∷ xs) (sym read) ∙ ap (λ ys. first ∷ ys) (sym others)

module _ (text : List ℕ) (key : PublicKey) (lines rest : List Signature) (line : Signature) (is : lines ≡ line ∷ rest) where
  pub line_missed : (time : Option ℕ) → ChecksCosignature text (verifier_key key) line None → IsFirstTime text key rest time → IsFirstTime text key lines time
  line_missed time none later = subst (λ (ls : List Signature). IsFirstTime text key ls time) (sym is) (inr (none, later))

-- of a call that goes on behind a line
pub line_passed : {E : Type 0} (text : List ℕ) (key : PublicKey) (lines rest : List Signature) (line : Signature) (r : Result (Option ℕ) E) → lines ≡ line ∷ rest
    → ChecksCosignature text (verifier_key key) line None → IfOk r (IsFirstTime text key rest) → IfOk r (IsFirstTime text key lines)
line_passed text key lines rest line (Ok time) is none later = line_missed text key lines rest line is time none later
line_passed text key lines rest line (Err fault) is none later = tt

-- one more of each
zip_push : {X Y : Type 0} (R : X → Y → Type 0) (xs : List X) (ys : List Y) (x : X) (y : Y) → AllZip R xs ys → R x y → AllZip R (xs ++ x ∷ []) (ys ++ y ∷ [])
zip_push R [] [] x y all r = (r, tt)
zip_push R [] (b ∷ ys) x y all r = absurd all
zip_push R (a ∷ xs) [] x y all r = absurd all
zip_push R (a ∷ xs) (b ∷ ys) x y all r = (all.0, zip_push R xs ys x y all.1 r)

-- one witness more
pub times_more : (text : List ℕ) (lines : List Signature) (witnesses : List PolicyWitness) (place : ℕ) (w : PolicyWitness) (times more : List (Option ℕ)) (time : Option ℕ)
    → place < length witnesses → w ≡ get_or witnesses place w → AreTimes text lines (map witness_term (take place witnesses)) times → IsFirstTime text w.key lines time → more ≡ times ++ time ∷ []
    → AreTimes text lines (map witness_term (take (place + 1) witnesses)) more
times_more text lines witnesses place w times more time less read are is put =
    let before : List WitnessTerm = map witness_term (take place witnesses) in
    let longer : map witness_term (take (place + 1) witnesses) ≡ before ++ witness_term w ∷ []
    = map_more witness_term witnesses place w less ∙ ap (λ (v : PolicyWitness). before ++ witness_term v ∷ []) (sym read) in
    subst (λ (ws : List WitnessTerm). AreTimes text lines ws more) (sym longer)
    (subst (λ (ts : List (Option ℕ)). AreTimes text lines (before ++ witness_term w ∷ []) ts) (sym put)
    (zip_push (λ v t. IsFirstTime text v.key lines t) before times (witness_term w) time are is))
