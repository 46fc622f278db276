-- Texts that are cut at the first byte of a kind.
use Rattle.std.proofs.Common.{◌≡◌, ℕ, ◌<◌, ◌≤◌, List, [], ◌∷◌, ◌++◌, length, get_or, take, refl, sym, ap, ◌∙◌, arith, inl, inr}
use Rattle.std.specs.Prelude.{◌≢◌}
use Rattle.std.proofs.lemmas.List.{get_or-take, length-take-le}
use Rattle.std.proofs.lemmas.List.Elements.{All-head, All-tail, All-from_get_or}
use Rattle.tl_source.specs.Inner.Authorities.{Lacks, BeginsWith}

-- a text without the byte at any place
pub lacks_all : (mark : ℕ) (text : List ℕ) → ((i : ℕ) → i < length text → get_or text i 0 ≢ mark) → Lacks mark text
lacks_all mark text none = All-from_get_or (λ b. b ≢ mark) text 0 none

-- the part before the first such byte
pub lacks_before : (mark place : ℕ) (text front : List ℕ) → front ≡ take place text → place ≤ length text → ((i : ℕ) → i < place → get_or text i 0 ≢ mark) → Lacks mark front
lacks_before mark place text front cut inside none =
    lacks_all mark front
    (λ i l e.
    let within : i < place = omega (arith, ap (λ (t : List ℕ). length t) cut, length-take-le place text) in
    none i within (sym (ap (λ (t : List ℕ). get_or t i 0) cut ∙ get_or-take place text i 0 within) ∙ e))

-- what begins with the mark doesn't begin with another byte
not_here : (mark y : ℕ) (b t : List ℕ) → y ≢ mark → BeginsWith mark b → b ≡ y ∷ t → ⊥
not_here mark y b t other (inl empty) e = cc
not_here mark y b t other (inr begun) e = let more = begun.1 in other (cc)

-- a text is cut at the first such byte in one way
pub one_cut : (mark : ℕ) (a b c d : List ℕ) → Lacks mark a → Lacks mark c → BeginsWith mark b → BeginsWith mark d → a ++ b ≡ c ++ d → (a ≡ c) × (b ≡ d)
one_cut mark [] b [] d la lc bb bd e = (refl, e)
one_cut mark [] b (y ∷ c) d la lc bb bd e = absurd (not_here mark y b (c ++ d) (All-head (λ b. b ≢ mark) y c lc) bb e)
one_cut mark (x ∷ a) b [] d la lc bb bd e = absurd (not_here mark x d (a ++ b) (All-head (λ b. b ≢ mark) x a la) bd (sym e))
one_cut mark (x ∷ a) b (y ∷ c) d la lc bb bd e =
    let rest : a ++ b ≡ c ++ d = cc in
    let first : x ≡ y = cc in
    let more = one_cut mark a b c d (All-tail (λ b. b ≢ mark) x a la) (All-tail (λ b. b ≢ mark) y c lc) bb bd rest in
    let same = more.0 in (cc, more.1)
