-- The bytes of a body, from those that came with the head on.
use Rattle.std.proofs.Common.{◌≡◌, ◌+◌, ◌≤◌, ℕ, List, [], ◌∷◌, ◌++◌, append-nil, ap, arith, drop, length, length-append, min, subst, sym, take, ◌∙◌}
use Rattle.std.proofs.lemmas.List.{drop_all, length-drop, length-take-le, take-append-drop, take-append-le, take_all}
use Rattle.tl_device.specs.Device.{Passage}
use Rattle.tl_server.specs.Head.{HasBody}
use Rattle.tl_server.specs.Inner.Bodies.{GrownBody, ReadBody, ReadCut}

-- a body of no bytes
pub no_bytes : (begun body : List ℕ) (n : ℕ) → n ≡ 0 → body ≡ [] → HasBody (begun ++ []) n body
no_bytes begun body n none same = record {
  after = begun;
  joined = append-nil begun ∙ ap (λ (l : List ℕ). l ++ begun) (sym same);
  length_is = ap (λ (l : List ℕ). length l) same ∙ sym none;
}

-- the bytes that came with the head and those read since are the body and what came with the head behind it
rest_joined : (begun bytes : List ℕ) (n len : ℕ) → len ≡ min (length begun) n → len + length bytes ≡ n
    → begun ++ bytes ≡ (take len begun ++ bytes) ++ drop n begun
rest_joined begun [] n len least sum =
    let same : len ≡ n = omega (arith, sum) in
    append-nil begun
    ∙ (sym (take-append-drop n begun)
    ∙ ap (λ (l : List ℕ). l ++ drop n begun) (ap (λ k. take k begun) (sym same) ∙ sym (append-nil (take len begun))))
rest_joined begun (b ∷ bytes) n len least sum =
    let short : length begun ≤ n = omega (arith, least, sum) in
    let front : take len begun ≡ begun = take_all len begun (omega (arith, least, sum)) in
    ap (λ (l : List ℕ). l ++ b ∷ bytes) (sym front)
    ∙ (sym (append-nil (take len begun ++ b ∷ bytes))
    ∙ ap (λ (l : List ℕ). (take len begun ++ b ∷ bytes) ++ l) (sym (drop_all n begun short)))

-- what came with the head, no more than the whole of it, and what was read since
has_body : (begun bytes body : List ℕ) (n len : ℕ) → len ≡ min (length begun) n → take len begun ++ bytes ≡ body → length body ≡ n
    → HasBody (begun ++ bytes) n body
has_body begun bytes body n len least joined whole =
    let front : length (take len begun) ≡ len = length-take-le len begun (omega (arith, least)) in
    let same : length (take len begun ++ bytes) ≡ n = ap (λ (l : List ℕ). length l) joined ∙ whole in
    let sum : len + length bytes ≡ n = omega (arith, front, same, length-append (take len begun) bytes) in
    record {
      after = drop n begun;
      joined = rest_joined begun bytes n len least sum ∙ ap (λ (l : List ℕ). l ++ drop n begun) joined;
      length_is = whole;
    }

-- the buffer is the body
pub whole_body : (p : Passage) (begun start buf rest : List ℕ) (n len m : ℕ) → len ≡ min (length begun) n → start ≡ take len begun
    → GrownBody p start buf → length buf ≡ n → m ≡ n → ReadBody p begun n (take m (buf ++ rest))
whole_body p begun start buf rest n len m least same grown whole all =
    let is_buf : take m (buf ++ rest) ≡ buf = take-append-le m buf rest (omega (arith, whole, all)) ∙ take_all m buf (omega (arith, whole, all)) in
    let joined : take len begun ++ grown.bytes ≡ buf = ap (λ (l : List ℕ). l ++ grown.bytes) (sym same) ∙ grown.joined in
    record {
      bytes = grown.bytes;
      gave = grown.gave;
      has = subst (λ (l : List ℕ). HasBody (begun ++ grown.bytes) n l) (sym is_buf) (has_body begun grown.bytes buf n len least joined whole);
    }

-- the input ended before the buffer was full
pub cut_body : (p : Passage) (begun start : List ℕ) (n len m : ℕ) → len ≡ min (length begun) n → start ≡ take len begun
    → ReadCut p start m → m ≡ n → ReadCut p begun n
cut_body p begun start n len m least same cut all =
    let front : length start ≡ len = ap (λ (l : List ℕ). length l) same ∙ length-take-le len begun (omega (arith, least)) in
    let before = length-append start cut.bytes in
    let short = cut.short in
    record {
      bytes = cut.bytes;
      gave = cut.gave;
      short = omega (arith, length-append begun cut.bytes, before, short, front, least, all);
    }

-- the beginning of a body was copied to the front of a buffer
pub copied : (k : ℕ) (new rest begun : List ℕ) → k ≤ length begun → new ≡ take k begun → take k (new ++ rest) ≡ take k begun
copied k new rest begun within same =
    let long : length new ≡ k = ap (λ (l : List ℕ). length l) same ∙ length-take-le k begun within in
    take-append-le k new rest (omega (arith, long)) ∙ (take_all k new (omega (arith, long)) ∙ same)

-- copying leaves the buffer's length
pub copied_length : (k n : ℕ) (new buf begun : List ℕ) → k ≤ length begun → k ≤ length buf → new ≡ take k begun → length buf ≡ n
    → length (new ++ drop k buf) ≡ n
copied_length k n new buf begun within fits same whole =
    let long : length new ≡ k = ap (λ (l : List ℕ). length l) same ∙ length-take-le k begun within in
    omega (arith, length-append new (drop k buf), length-drop k buf, long, fits, whole)
