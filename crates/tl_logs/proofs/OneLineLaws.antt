-- Laws of a state of one line.
use Rattle.std.proofs.Common.{◌≡◌, ◌≢◌, ℕ, Bool, List, [], ◌∷◌, ◌++◌, map, refl, sym, ap, subst, ◌∙◌, cond, All, string_bytes, vec_items}
use Rattle.std.specs.Prelude.{Err, String}
use Rattle.std.specs.declared.vec.Vec.{Vec}
use Rattle.std.proofs.lemmas.List.{map-append}
use Rattle.std.proofs.lemmas.List.Concat.{flat_map-cons}
use Rattle.std.proofs.lemmas.List.Elements.{All-head}
use Rattle.std.proofs.lemmas.Slice.Eq.{bytes_eq-Decides}
use Rattle.tl_proof.specs.Acceptance.{Step, step_of}
use Rattle.tl_proof.specs.declared.link.Link.{Link}
use Rattle.tl_witness.specs.ChainLine.{ChainLine, IsChainLine, IsMalformedAt, chain_line, chain_text, chains}
use Rattle.tl_witness.specs.ChainFields.{chain_words}
use Rattle.tl_witness.specs.Open.{SavedChain, saved_chain}
use Rattle.tl_witness.specs.ReadChain.{AreChainsOf, IsLineOf, ReadsChain, chains_shown}
use Rattle.tl_witness.proofs.FieldTexts.{one_end}
use Rattle.tl_witness.proofs.LineText.{line_of_words, words_plain}
use Rattle.tl_witness.specs.declared.chain_reading.ChainFault.{ChainFault}
use Rattle.tl_witness.specs.declared.chain_reading.ChainFault.TheVariants.{Malformed, OutOfMemory}
use Rattle.tl_logs.specs.LogsFile.{IsInOneLine}
use Rattle.tl_logs.specs.Inner.OneLine.{ReadsLink}

-- ---- the bytes

ends_some : (begun after : List ℕ) → begun ++ 10 ∷ after ≢ []
ends_some [] after e = absurd cc
ends_some (b ∷ begun) after e = absurd cc

front_empty : (xs ys : List ℕ) → xs ++ ys ≡ [] → ys ≡ []
front_empty [] ys e = e
front_empty (x ∷ xs) ys e = absurd cc

text_of : (l : ChainLine) (lines : List ChainLine) (after : List ℕ) → chain_text (l ∷ lines) ++ after ≡ chain_words l ++ 10 ∷ (chain_text lines ++ after)
text_of l lines after =
    ap (λ (t : List ℕ). t ++ after) (flat_map-cons chain_line l lines ∙ line_of_words l (chain_text lines))
    ∙ assoc (chain_words l) (10 ∷ chain_text lines) after
  where
    assoc : (a b c : List ℕ) → (a ++ b) ++ c ≡ a ++ (b ++ c)
    assoc [] b c = refl
    assoc (x ∷ a) b c = ap (λ (t : List ℕ). x ∷ t) (assoc a b c)

no_text : (lines : List ChainLine) → chain_text lines ≡ [] → lines ≡ []
no_text [] e = refl
no_text (l ∷ lines) e = absurd (ends_some (chain_words l) (chain_text lines) (sym (flat_map-cons chain_line l lines ∙ line_of_words l (chain_text lines)) ∙ e))

-- the one line that the bytes are
pub record OneLine (words : List ℕ) (lines : List ChainLine) : Type 0 where
  pub one : ChainLine
  pub is : IsChainLine one
  pub spelled : words ≡ chain_words one
  pub alone : lines ≡ one ∷ []

pub one_line : (words : List ℕ) (lines : List ChainLine) → IsInOneLine words → All IsChainLine lines → words ++ 10 ∷ [] ≡ chain_text lines → OneLine words lines
one_line words [] plain each e = absurd (ends_some words [] e)
one_line words (l ∷ lines) plain each e =
    let is = All-head IsChainLine l lines each in
    let cut = one_end 10 words (chain_words l) [] (chain_text lines) plain (words_plain l is) (e ∙ flat_map-cons chain_line l lines ∙ line_of_words l (chain_text lines)) in
    record { one = l; is = is; spelled = cut.0; alone = ap (λ (t : List ChainLine). l ∷ t) (no_text lines (sym cut.1)) }

-- bytes that are malformed are of no line
pub none_malformed : (words : List ℕ) (place : ℕ) → IsInOneLine words → IsMalformedAt (words ++ 10 ∷ []) place → (l : ChainLine) → IsChainLine l → words ≢ chain_words l
none_malformed words place plain bad l is same = go bad.before bad.each bad.joined
  where
    go : (before : List ChainLine) → All IsChainLine before → words ++ 10 ∷ [] ≡ chain_text before ++ bad.rest → ⊥
    go [] each joined =
        bad.no_line l [] is (sym joined ∙ ap (λ (t : List ℕ). t ++ 10 ∷ []) same ∙ sym (line_of_words l []))
    go (m ∷ before) each joined =
        let cut = one_end 10 words (chain_words m) [] (chain_text before ++ bad.rest) plain (words_plain m (All-head IsChainLine m before each)) (joined ∙ text_of m before bad.rest) in
        bad.more (front_empty (chain_text before) bad.rest (sym cut.1))

-- ---- what was read

chains_one : (l : ChainLine) → chains (l ∷ []) ≡ saved_chain l.origin (l.step ∷ []) ∷ []
chains_one l = ap (λ (b : Bool). saved_chain l.origin (map (λ (m : ChainLine). m.step) (cond b (l ∷ []) [])) ∷ []) ((bytes_eq-Decides l.origin l.origin).1 refl)

last_one : {X : Type 0} (xs : List X) (y z : X) → xs ++ y ∷ [] ≡ z ∷ [] → y ≡ z
last_one [] y z e = cc
last_one (x ∷ []) y z e = absurd cc
last_one (x ∷ (w ∷ xs)) y z e = absurd cc

one_there : {X Y : Type 0} (f : X → Y) (xs rest : List X) (x : X) (y : Y) → map f xs ≡ y ∷ [] → xs ≡ rest ++ x ∷ [] → f x ≡ y
one_there f xs rest x y shown popped = last_one (map f rest) (f x) y (sym (map-append f rest (x ∷ [])) ∙ ap (map f) (sym popped) ∙ shown)

none_there : {X Y : Type 0} (f : X → Y) (xs : List X) (y : Y) → map f xs ≡ y ∷ [] → xs ≡ [] → ⊥
none_there f xs y shown none = let bad : [] ≡ y ∷ [] = ap (map f) (sym none) ∙ shown in absurd cc

shown_one : {A : Type 0} (line words : List ℕ) (read : List (String A × Vec (Link A) A)) → AreChainsOf line (chains_shown read) → IsInOneLine words → line ≡ words ++ 10 ∷ []
    → (l : ChainLine) × IsChainLine l × (words ≡ chain_words l) × (chains_shown read ≡ saved_chain l.origin (l.step ∷ []) ∷ [])
shown_one line words read is plain cut =
    let one = one_line words is.lines plain is.text.each (sym cut ∙ is.text.spelled) in
    (one.one, one.is, one.spelled, is.same ∙ ap chains one.alone ∙ chains_one one.one)

-- there is a chain
pub chain_read : {A : Type 0} (line words : List ℕ) (read : List (String A × Vec (Link A) A)) → AreChainsOf line (chains_shown read) → IsInOneLine words → line ≡ words ++ 10 ∷ []
    → read ≡ [] → ⊥
chain_read line words read is plain cut none =
    let one = shown_one line words read is plain cut in
    none_there (λ c. saved_chain (string_bytes c.0) (map step_of (vec_items c.1))) read (saved_chain one.0.origin (one.0.step ∷ [])) one.3 none

-- it has a link
pub link_read : {A : Type 0} (line words : List ℕ) (read rest : List (String A × Vec (Link A) A)) (origin : String A) (links : Vec (Link A) A) → AreChainsOf line (chains_shown read)
    → IsInOneLine words → line ≡ words ++ 10 ∷ [] → read ≡ rest ++ (origin, links) ∷ [] → vec_items links ≡ [] → ⊥
link_read line words read rest origin links is plain cut popped none =
    let one = shown_one line words read is plain cut in
    let shown = one_there (λ c. saved_chain (string_bytes c.0) (map step_of (vec_items c.1))) read rest (origin, links) (saved_chain one.0.origin (one.0.step ∷ [])) one.3 popped in
    none_there step_of (vec_items links) one.0.step (ap (λ (c : SavedChain). c.steps) shown) none

-- and that is the line's
pub line_read : {A : Type 0} (line words : List ℕ) (read rest : List (String A × Vec (Link A) A)) (origin : String A) (links : Vec (Link A) A) (others : List (Link A)) (link : Link A)
    → AreChainsOf line (chains_shown read) → IsInOneLine words → line ≡ words ++ 10 ∷ [] → read ≡ rest ++ (origin, links) ∷ [] → vec_items links ≡ others ++ link ∷ []
    → IsLineOf words (string_bytes origin) (step_of link)
line_read line words read rest origin links others link is plain cut popped last =
    let one = shown_one line words read is plain cut in
    let shown = one_there (λ c. saved_chain (string_bytes c.0) (map step_of (vec_items c.1))) read rest (origin, links) (saved_chain one.0.origin (one.0.step ∷ [])) one.3 popped in
    let step : step_of link ≡ one.0.step = one_there step_of (vec_items links) others link one.0.step (ap (λ (c : SavedChain). c.steps) shown) last in
    let named : string_bytes origin ≡ one.0.origin = ap (λ (c : SavedChain). c.origin) shown in
    let same : one.0 ≡ record { origin = string_bytes origin; step = step_of link } = made one.0 (string_bytes origin) (step_of link) (sym named) (sym step) in
    record { lawful = subst IsChainLine same one.1; spelled = one.2 ∙ ap chain_words same }
  where
    made : (l : ChainLine) (o : List ℕ) (s : Step) → l.origin ≡ o → l.step ≡ s → l ≡ record { origin = o; step = s }
    made l o s e f = ap (λ (p : List ℕ). record { origin = p; step = l.step }) e ∙ ap (λ (t : Step). record { origin = o; step = t }) f

-- why the bytes aren't read
pub refuses_line : (A : Type 0) (words line : List ℕ) (fault : ChainFault) → IsInOneLine words → line ≡ words ++ 10 ∷ [] → ReadsChain {A = A} line (Err fault)
    → ReadsLink {A = A} words (Err fault)
refuses_line A words line (Malformed place) plain cut bad = none_malformed words place plain (subst (λ (t : List ℕ). IsMalformedAt t place) cut bad)
refuses_line A words line OutOfMemory plain cut bad = tt
