-- Laws of the heads that lines lead to, when one line more follows.
use Rattle.std.proofs.Common.{◌≡◌, ◌≢◌, ℕ, Bool, true, false, List, [], ◌∷◌, ◌++◌, map, refl, sym, ap, subst, ◌∙◌, cond, inl, inr, Some, All, slice_get, arith, append_assoc, append-nil}
use Rattle.std.specs.Prelude.{◌||◌, bytes_eq, filter, slice_set}
use Rattle.std.specs.List.{list_any}
use Rattle.std.proofs.lemmas.Bool.{cases_Bool}
use Rattle.std.proofs.lemmas.List.{map-append, map-set}
use Rattle.std.proofs.lemmas.List.Elements.{All-nil, All-push, All-set, filter-append}
use Rattle.std.proofs.lemmas.Option.{get_or_from_slice_get, slice_get_within}
use Rattle.tl_hash.specs.Bytes.{Digest}
use Rattle.tl_proof.specs.Acceptance.{Step}
use Rattle.tl_witness.specs.Chain.{Follows, IsChain, TreeHead, first_head, head_after, last_head}
use Rattle.tl_witness.specs.ChainLine.{ChainLine, IsChainLine, chains, origins, steps_of}
use Rattle.tl_witness.specs.Open.{SavedChain, chain_origins, saved_chain}
use Rattle.tl_witness.specs.Open as witness
use Rattle.tl_witness.proofs.ChainLaws.{chain-none, chain-snoc, last_head-snoc, line_made}
use Rattle.tl_witness.proofs.Grouping.{Grouped, grouped_none, grouped_more, puts_line}
use Rattle.tl_witness.proofs.ListLaws.{among_none}
use Rattle.tl_logs.specs.State.{Counts, OriginHead, counting, end_of, origin_head, whole_line}
use Rattle.tl_logs.specs.Inner.Heads.{AddsHead, BreaksHead, HasHead, HasNone, MovesHead, head_origins}
use Rattle.tl_logs.proofs.ListLaws.{shown_twice, stands_at}

-- ---- lines

go_grouped : (done rest : List ChainLine) → Grouped done → Grouped (done ++ rest)
go_grouped done [] is = subst Grouped (sym (append-nil done)) is
go_grouped done (l ∷ rest) is = subst Grouped (append_assoc done (l ∷ []) rest) (go_grouped (done ++ l ∷ []) rest (grouped_more done l is))

-- each origin of lines is among their origins once
pub grouped_all : (lines : List ChainLine) → Grouped lines
grouped_all lines = go_grouped [] lines grouped_none

-- one line more counts or not
pub counting_more : (counts : Counts) (lines : List ChainLine) (l : ChainLine) → counts l.origin ≡ true → counting counts (lines ++ l ∷ []) ≡ counting counts lines ++ l ∷ []
counting_more counts lines l is =
    filter-append (λ (m : ChainLine). counts m.origin) lines (l ∷ [])
    ∙ ap (λ (b : Bool). counting counts lines ++ cond b (l ∷ []) []) is

pub counting_same : (counts : Counts) (lines : List ChainLine) (l : ChainLine) → counts l.origin ≡ false → counting counts (lines ++ l ∷ []) ≡ counting counts lines
counting_same counts lines l not =
    filter-append (λ (m : ChainLine). counts m.origin) lines (l ∷ [])
    ∙ ap (λ (b : Bool). counting counts lines ++ cond b (l ∷ []) []) not
    ∙ append-nil (counting counts lines)

-- ---- a head and its chain

-- the chain that a head is of
pub record ChainAt (H : Digest) (lines : List ChainLine) (place : ℕ) (origin : List ℕ) (head : TreeHead) : Type 0 where
  pub steps : List Step
  pub there : slice_get (chains lines) place ≡ Some (saved_chain origin steps)
  pub leads : last_head (first_head H) steps ≡ head

same_chain : (c : SavedChain) (origin : List ℕ) → c.origin ≡ origin → c ≡ saved_chain origin c.steps
same_chain c origin same = ap (λ (o : List ℕ). saved_chain o c.steps) same

pub chain_at : (H : Digest) (lines : List ChainLine) (heads : List OriginHead) (place : ℕ) (origin : List ℕ) (head : TreeHead)
    → heads ≡ map (end_of H) (chains lines) → HasHead heads place origin head → ChainAt H lines place origin head
chain_at H lines heads place origin head same has =
    let at = stands_at (end_of H) (chains lines) place (origin_head origin head) (subst (λ (hs : List OriginHead). HasHead hs place origin head) same has) in
    record {
      steps = at.0.steps;
      there = at.1 ∙ ap (λ (c : SavedChain). Some c) (same_chain at.0 origin (ap (λ (o : OriginHead). o.origin) at.2));
      leads = ap (λ (o : OriginHead). o.head) at.2;
    }

-- the steps of an origin are those of its chain
pub steps_there : (lines : List ChainLine) (place : ℕ) (origin : List ℕ) (steps : List Step) → slice_get (chains lines) place ≡ Some (saved_chain origin steps) → steps_of origin lines ≡ steps
steps_there lines place origin steps there =
    let at = stands_at (λ (o : List ℕ). saved_chain o (steps_of o lines)) (origins lines) place (saved_chain origin steps) there in
    ap (λ (o : List ℕ). steps_of o lines) (sym (ap (λ (c : SavedChain). c.origin) at.2)) ∙ ap (λ (c : SavedChain). c.steps) at.2

pub origins_shown : (H : Digest) (cs : List SavedChain) → head_origins (map (end_of H) cs) ≡ chain_origins cs
origins_shown H cs = sym (shown_twice (end_of H) (λ (o : OriginHead). o.origin) (λ (c : SavedChain). c.origin) cs (λ c. refl))

pub origins_of_chains : (lines : List ChainLine) (os : List (List ℕ)) → chain_origins (map (λ (o : List ℕ). saved_chain o (steps_of o lines)) os) ≡ os
origins_of_chains lines [] = refl
origins_of_chains lines (o ∷ os) = ap (λ (t : List (List ℕ)). o ∷ t) (origins_of_chains lines os)

pub no_chain : (H : Digest) (lines : List ChainLine) (heads : List OriginHead) (origin : List ℕ) → heads ≡ map (end_of H) (chains lines) → HasNone heads origin
    → (place : ℕ) → slice_get (chain_origins (chains lines)) place ≢ Some origin
no_chain H lines heads origin same none =
    subst (λ (os : List (List ℕ)). (place : ℕ) → slice_get os place ≢ Some origin) (ap head_origins same ∙ origins_shown H (chains lines)) none

nothing_passes : {A : Type 0} (p : A → Bool) (xs : List A) → list_any p xs ≡ false → filter p xs ≡ []
nothing_passes p [] none = refl
nothing_passes p (x ∷ xs) none = elim (cases_Bool (p x)) [
  | inl passes ↦ let bad : true ≡ false = ap (λ (b : Bool). b || list_any p xs) (sym passes) ∙ none in absurd cc
  | inr fails ↦
      let later : list_any p xs ≡ false = ap (λ (b : Bool). b || list_any p xs) (sym fails) ∙ none in
      ap (λ (b : Bool). cond b (x ∷ filter p xs) (filter p xs)) fails ∙ nothing_passes p xs later
]

-- an origin that isn't there has no steps
pub no_steps : (H : Digest) (lines : List ChainLine) (heads : List OriginHead) (origin : List ℕ) → heads ≡ map (end_of H) (chains lines) → HasNone heads origin
    → steps_of origin lines ≡ []
no_steps H lines heads origin same none =
    let absent : ¬ (witness.IsAmong origin (origins lines)) =
    among_none (origins lines) origin (subst (λ (os : List (List ℕ)). (place : ℕ) → slice_get os place ≢ Some origin) (origins_of_chains lines (origins lines)) (no_chain H lines heads origin same none)) in
    elim (cases_Bool (list_any (λ (l : ChainLine). bytes_eq l.origin origin) lines)) [
      | inl any ↦ absurd (absent ((grouped_all lines).among origin any))
      | inr not ↦ ap (map (λ (l : ChainLine). l.step)) (nothing_passes (λ (l : ChainLine). bytes_eq l.origin origin) lines not)
    ]

-- ---- one line more

-- of these lines these are the heads, and the chains are lawful
pub record AreHeads (H : Digest) (lines : List ChainLine) (heads : List OriginHead) : Type 0 where
  pub linked : All (λ c. IsChain H c.steps) (chains lines)
  pub same : heads ≡ map (end_of H) (chains lines)
  pub written : All (λ o. IsChainLine (whole_line o)) heads

pub heads_none : (H : Digest) → AreHeads H [] []
heads_none H = record { linked = All-nil (λ c. IsChain H c.steps); same = refl; written = All-nil (λ o. IsChainLine (whole_line o)) }

-- the line of a step has the line of the head that it leads to
whole_written : (l : ChainLine) → IsChainLine l → IsChainLine (whole_line (origin_head l.origin (head_after l.step)))
whole_written l is = record { origin = is.origin; utf8 = is.utf8; size = is.size; root = is.root; few = omega arith; hashes = All-nil _ }

pub heads_moved : (H : Digest) (lines : List ChainLine) (l : ChainLine) (heads new : List OriginHead) → IsChainLine l → AreHeads H lines heads
    → MovesHead H l.origin l.step heads new → AreHeads H (lines ++ l ∷ []) new
heads_moved H lines l heads new is has (place, head, there, follows, now) =
    let at = chain_at H lines heads place l.origin head has.same there in
    let longer : SavedChain = saved_chain l.origin (at.steps ++ l.step ∷ []) in
    let grown : slice_set (chains lines) place longer ≡ chains (lines ++ l ∷ []) =
    puts_line lines l (slice_set (chains lines) place longer) (grouped_all lines) (inl (place, at.steps, at.there, refl)) in
    let leads : end_of H longer ≡ origin_head l.origin (head_after l.step) = ap (origin_head l.origin) (last_head-snoc (first_head H) at.steps l.step) in
    let old : IsChain H at.steps = subst (λ (c : SavedChain). IsChain H c.steps) (get_or_from_slice_get (chains lines) place (saved_chain l.origin at.steps) (saved_chain l.origin at.steps) at.there)
    (has.linked place (saved_chain l.origin at.steps) (slice_get_within (chains lines) place (saved_chain l.origin at.steps) at.there)) in
    let chain : IsChain H (at.steps ++ l.step ∷ []) = chain-snoc H at.steps l.step old (subst (λ (h : TreeHead). Follows H h l.step) (sym at.leads) follows) (line_made l is) in
    record {
      linked = subst (All (λ c. IsChain H c.steps)) grown (All-set (λ c. IsChain H c.steps) (chains lines) place longer chain has.linked);
      same = now ∙ ap (λ (hs : List OriginHead). slice_set hs place (origin_head l.origin (head_after l.step))) has.same
          ∙ ap (slice_set (map (end_of H) (chains lines)) place) (sym leads)
          ∙ sym (map-set (end_of H) (chains lines) place longer)
          ∙ ap (map (end_of H)) grown;
      written = subst (All (λ o. IsChainLine (whole_line o))) (sym now)
          (All-set (λ o. IsChainLine (whole_line o)) heads place (origin_head l.origin (head_after l.step)) (whole_written l is) has.written);
    }

pub heads_added : (H : Digest) (lines : List ChainLine) (l : ChainLine) (heads new : List OriginHead) → IsChainLine l → AreHeads H lines heads
    → AddsHead H l.origin l.step heads new → AreHeads H (lines ++ l ∷ []) new
heads_added H lines l heads new is has (none, follows, now) =
    let one : SavedChain = saved_chain l.origin (l.step ∷ []) in
    let grown : chains lines ++ one ∷ [] ≡ chains (lines ++ l ∷ []) =
    puts_line lines l (chains lines ++ one ∷ []) (grouped_all lines) (inr (no_chain H lines heads l.origin has.same none, refl)) in
    let chain : IsChain H (l.step ∷ []) = chain-snoc H [] l.step (chain-none H) follows (line_made l is) in
    record {
      linked = subst (All (λ c. IsChain H c.steps)) grown (All-push (λ c. IsChain H c.steps) (chains lines) one has.linked chain);
      same = now ∙ ap (λ (hs : List OriginHead). hs ++ origin_head l.origin (head_after l.step) ∷ []) has.same
          ∙ sym (map-append (end_of H) (chains lines) (one ∷ []))
          ∙ ap (map (end_of H)) grown;
      written = subst (All (λ o. IsChainLine (whole_line o))) (sym now)
          (All-push (λ o. IsChainLine (whole_line o)) heads (origin_head l.origin (head_after l.step)) has.written (whole_written l is));
    }

-- a link that breaks isn't accepted from where the steps of its origin lead
pub heads_broken : (H : Digest) (lines : List ChainLine) (heads : List OriginHead) (origin : List ℕ) (step : Step) → heads ≡ map (end_of H) (chains lines)
    → BreaksHead H origin step heads → ¬ (Follows H (last_head (first_head H) (steps_of origin lines)) step)
heads_broken H lines heads origin step same (inl (place, head, there, breaks)) = λ follows.
    let at = chain_at H lines heads place origin head same there in
    breaks (subst (λ (h : TreeHead). Follows H h step) (ap (last_head (first_head H)) (steps_there lines place origin at.steps at.there) ∙ at.leads) follows)
heads_broken H lines heads origin step same (inr (none, breaks)) = λ follows.
    breaks (subst (λ (h : TreeHead). Follows H h step) (ap (last_head (first_head H)) (no_steps H lines heads origin same none)) follows)
