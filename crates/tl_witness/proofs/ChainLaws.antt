-- Laws of chains.
use Rattle.std.proofs.Common.{◌≡◌, ℕ, zero, suc, ◌+◌, ◌-◌, List, [], ◌∷◌, ◌++◌, Some, refl, ap, sym, subst, ◌∙◌, length, map, take, get_or, arith, slice_get, ◌<◌, false, None, Ok, Err, Result}
use Rattle.std.specs.Prelude.{is_err, OnOk, OnErr}
use Rattle.std.proofs.lemmas.List.{length-map, map_more, take-map, get_or-map}
use Rattle.std.proofs.lemmas.Option.{slice_get_within, slice_get-map, slice_get-get_or}
use Rattle.std.specs.Option.{option_map}
use Rattle.std.proofs.lemmas.List.Elements.{All-nil, All-push}
use Rattle.tl_hash.specs.Bytes.{Digest}
use Rattle.tl_proof.specs.Acceptance.{Step, Linked}
use Rattle.tl_proof.specs.Laws.{MadeOfHashes}
use Rattle.tl_witness.specs.Chain.{TreeHead, head_after, first_head, Follows, IsLinked, IsChain, last_head}
use Rattle.tl_witness.specs.ChainLine.{ChainLine, IsChainLine}
use Rattle.tl_witness.specs.Open.{IsFirstBreak}

-- the steps lead where the last of them leads
pub last_head-snoc : (old : TreeHead) (steps : List Step) (step : Step) → last_head old (steps ++ step ∷ []) ≡ head_after step
last_head-snoc old [] step = refl
last_head-snoc old (s ∷ steps) step = last_head-snoc (head_after s) steps step

-- linked steps are followed by more that are linked from where they lead
pub linked-append : (H : Digest) (old : TreeHead) (steps more : List Step)
    → IsLinked H old steps → IsLinked H (last_head old steps) more → IsLinked H old (steps ++ more)
unfolding Linked
linked-append H old [] more first then = then
linked-append H old (s ∷ steps) more first then = (first.0, linked-append H (head_after s) steps more first.1 then)

-- a chain grows by a step that follows its last head
pub linked-snoc : (H : Digest) (old : TreeHead) (steps : List Step) (step : Step)
    → IsLinked H old steps → Follows H (last_head old steps) step → IsLinked H old (steps ++ step ∷ [])
unfolding Linked
linked-snoc H old steps step first then = linked-append H old steps (step ∷ []) first (then, tt)

-- no steps are linked
pub linked-none : (H : Digest) (old : TreeHead) → IsLinked H old []
unfolding Linked
linked-none H old = tt

-- one step that follows is linked
pub linked-one : (H : Digest) (old : TreeHead) (step : Step) → Follows H old step → IsLinked H old (step ∷ [])
unfolding Linked
linked-one H old step follows = (follows, tt)

-- the steps after the first ones are linked from where those lead
pub linked-after : (H : Digest) (old : TreeHead) (steps more : List Step)
    → IsLinked H old (steps ++ more) → IsLinked H (last_head old steps) more
unfolding Linked
linked-after H old [] more all = all
linked-after H old (s ∷ steps) more all = linked-after H (head_after s) steps more all.1

-- the head after the steps is that of the last step
pub last_head-at : (old : TreeHead) (steps : List Step) (i : ℕ) (step : Step)
    → slice_get steps i ≡ Some step → i + 1 ≡ length steps → last_head old steps ≡ head_after step
last_head-at old [] i step there last = absurd (omega arith)
last_head-at old (s ∷ []) zero step there last = (let e : s ≡ step = cc in ap head_after e)
last_head-at old (s ∷ (m ∷ steps)) zero step there last = absurd (omega arith)
last_head-at old (s ∷ steps) (suc i) step there last = last_head-at (head_after s) steps i step there (omega arith)

-- the same of the last position
pub last_head-last : (old : TreeHead) (steps : List Step) (step : Step)
    → slice_get steps (length steps - 1) ≡ Some step → last_head old steps ≡ head_after step
last_head-last old steps step there =
    let within = slice_get_within steps (length steps - 1) step there in
    last_head-at old steps (length steps - 1) step there (omega arith)

-- the same of a list that shows the steps
pub last_head-map : {A : Type 0} (f : A → Step) (old : TreeHead) (xs : List A) (x : A)
    → Some x ≡ slice_get xs (length xs - 1) → last_head old (map f xs) ≡ head_after (f x)
last_head-map f old xs x there =
    let shown : slice_get (map f xs) (length xs - 1) ≡ Some (f x) = slice_get-map f xs (length xs - 1) ∙ ap (option_map f) (sym there) in
    last_head-last old (map f xs) (f x) (ap (λ n. slice_get (map f xs) (n - 1)) (length-map xs f) ∙ shown)

-- no steps are a chain
pub chain-none : (H : Digest) → IsChain H []
chain-none H = record { linked = linked-none H (first_head H); made = All-nil MadeOfHashes }

-- a chain grows by a step of hashes that follows its last head
pub chain-snoc : (H : Digest) (steps : List Step) (step : Step) → IsChain H steps → Follows H (last_head (first_head H) steps) step → MadeOfHashes step
    → IsChain H (steps ++ step ∷ [])
chain-snoc H steps step is follows made = record {
  linked = linked-snoc H (first_head H) steps step is.linked follows;
  made = All-push MadeOfHashes steps step is.made made;
}

-- what has a line is made of hashes
pub line_made : (l : ChainLine) → IsChainLine l → MadeOfHashes l.step
line_made l is = (is.root.length, λ k d lt. (is.hashes k d lt).length)

-- what the steps before a position lead to, and the step there
pub record HasCome {A : Type 0} (H : Digest) (f : A → Step) (xs : List A) (i size : ℕ) (root : List ℕ) : Type 0 where
  pub chain : IsChain H (map f (take i xs))
  pub size_is : (last_head (first_head H) (map f (take i xs))).size ≡ size
  pub root_is : (last_head (first_head H) (map f (take i xs))).root ≡ root

pub come_first : {A : Type 0} (H : Digest) (f : A → Step) (xs : List A) → HasCome H f xs 0 0 (H [])
come_first H f xs = record { chain = chain-none H; size_is = refl; root_is = refl }

follows_here : {A : Type 0} (H : Digest) (f : A → Step) (xs : List A) (i size : ℕ) (root : List ℕ) (step : Step) → HasCome H f xs i size root
    → Follows H (record { size = size; root = root }) step → Follows H (last_head (first_head H) (map f (take i xs))) step
follows_here H f xs i size root step come follows = rw (come.size_is, come.root_is) follows

pub come_more : {A : Type 0} (H : Digest) (f : A → Step) (xs : List A) (i size : ℕ) (root : List ℕ) (x : A) → i < length xs → x ≡ get_or xs i x
    → HasCome H f xs i size root → Follows H (record { size = size; root = root }) (f x) → MadeOfHashes (f x) → HasCome H f xs (i + 1) (f x).size (f x).root
come_more H f xs i size root x lt is come follows made =
    let more : map f (take (i + 1) xs) ≡ map f (take i xs) ++ f x ∷ [] = map_more f xs i x lt ∙ ap (λ (y : _). map f (take i xs) ++ f y ∷ []) (sym is) in
    let leads : last_head (first_head H) (map f (take (i + 1) xs)) ≡ head_after (f x) = ap (last_head (first_head H)) more ∙ last_head-snoc (first_head H) (map f (take i xs)) (f x) in
    record {
      chain = subst (IsChain H) (sym more) (chain-snoc H (map f (take i xs)) (f x) come.chain (follows_here H f xs i size root (f x) come follows) made);
      size_is = ap (λ (h : TreeHead). h.size) leads;
      root_is = ap (λ (h : TreeHead). h.root) leads;
    }

pub come_break : {A : Type 0} (H : Digest) (f : A → Step) (xs : List A) (i size : ℕ) (root : List ℕ) (x : A) → i < length xs → x ≡ get_or xs i x
    → HasCome H f xs i size root → ¬ (Follows H (record { size = size; root = root }) (f x)) → IsFirstBreak H (map f xs) i
come_break H f xs i size root x lt is come breaks = record {
  step = f x;
  there = slice_get-get_or (map f xs) i (f x) (omega (arith, length-map xs f)) ∙ ap (λ (s : Step). Some s) (get_or-map f xs i x (f x) lt ∙ ap f (sym is));
  before = subst (IsChain H) (sym (take-map f i xs)) come.chain;
  breaks = λ follows. breaks (rw (← come.size_is, ← come.root_is) (subst (λ (l : List Step). Follows H (last_head (first_head H) l) (f x)) (take-map f i xs) follows));
}

-- what a call ensures if a test finds no error
pub unless_err : {T E : Type 0} (r : Result T E) (Fact : Type 0) → false ≡ is_err r → OnOk r Fact → Fact
unless_err (Ok x) Fact test fact = fact
unless_err (Err y) Fact test fact = absurd cc

-- what holds if there is an error
pub at_err : {T E : Type 0} (r : Result T E) (Fact : Type 0) → Fact → OnErr r Fact
at_err (Ok x) Fact fact = tt
at_err (Err y) Fact fact = fact

-- there is no last step if there is none
pub last_head-none : {A : Type 0} (f : A → Step) (old : TreeHead) (xs : List A) → None ≡ slice_get xs (length xs - 1) → last_head old (map f xs) ≡ old
last_head-none f old [] none = refl
last_head-none f old (x ∷ xs) none =
    absurd (let some : None ≡ Some (get_or (x ∷ xs) (length (x ∷ xs) - 1) x) = none ∙ slice_get-get_or (x ∷ xs) (length (x ∷ xs) - 1) x (omega arith) in cc)
