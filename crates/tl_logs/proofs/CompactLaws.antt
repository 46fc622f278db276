-- Laws of a state that is compacted.
use Rattle.std.proofs.Common.{◌≡◌, ◌≢◌, ◌<◌, ℕ, List, [], ◌∷◌, ◌++◌, length, map, refl, sym, ap, subst, ◌∙◌, inr, arith, append_assoc, append-nil, Some, vec_items, slice_get}
use Rattle.std.specs.Prelude.{IfErr, IfOk, Option, None, Result, Ok, Err}
use Rattle.std.specs.declared.vec.Vec.{Vec}
use Rattle.std.proofs.lemmas.List.{map-append}
use Rattle.std.proofs.lemmas.List.Elements.{All-map}
use Rattle.tl_hash.specs.Bytes.{Digest}
use Rattle.tl_device.specs.Device.{Passage}
use Rattle.tl_witness.specs.ChainLine.{ChainLine, IsChainLine, chain_text, chains, origins}
use Rattle.tl_witness.specs.Open.{HasTwice, SavedChain, chain_origins, saved_chain}
use Rattle.tl_witness.proofs.Grouping.{puts_line}
use Rattle.tl_witness.proofs.ListLaws.{among_at, comes_again}
use Rattle.tl_logs.specs.LogsFile.{Log}
use Rattle.tl_logs.specs.State as state
use Rattle.tl_logs.specs.State.{Counts, IsCompacted, KnowsHeads, counting, end_of, in_one_step, of_logs, whole_line}
use Rattle.tl_logs.specs.StateFaults.{RefusesReading, RefusesState}
use Rattle.tl_logs.specs.ReadState.{ReadsState, heads_shown}
use Rattle.tl_logs.specs.Inner.Heads.{head_origins}
use Rattle.tl_logs.specs.declared.head.OriginHead.{OriginHead}
use Rattle.tl_logs.specs.declared.state_fault.StateFault.{StateFault}
use Rattle.tl_logs.specs.declared.state_fault.StateFault.TheVariants.{Read, Malformed, Broken, TooLarge, OutOfMemory}
use Rattle.tl_logs.proofs.HeadLaws.{grouped_all, origins_of_chains, origins_shown}
use Rattle.tl_logs.proofs.ListLaws.{shown_twice}
use Rattle.tl_logs.proofs.StreamLaws.{few_lines}

-- ---- one line of each origin

one_origins : (heads : List state.OriginHead) → chain_origins (map in_one_step heads) ≡ head_origins heads
one_origins heads = sym (shown_twice in_one_step (λ (c : SavedChain). c.origin) (λ (o : state.OriginHead). o.origin) heads (λ o. refl))

twice_moved : (done rest : List state.OriginHead) (o : state.OriginHead) → ¬ (HasTwice (head_origins (done ++ o ∷ rest))) → ¬ (HasTwice (head_origins done ++ o.origin ∷ head_origins rest))
twice_moved done rest o once = subst (λ (os : List (List ℕ)). ¬ (HasTwice os)) (map-append (λ (h : state.OriginHead). h.origin) done (o ∷ rest)) once

one_each_from : (done rest : List state.OriginHead) → chains (map whole_line done) ≡ map in_one_step done → ¬ (HasTwice (head_origins (done ++ rest)))
    → chains (map whole_line (done ++ rest)) ≡ map in_one_step (done ++ rest)
one_each_from done [] so_far once = subst (λ (hs : List state.OriginHead). chains (map whole_line hs) ≡ map in_one_step hs) (sym (append-nil done)) so_far
one_each_from done (o ∷ rest) so_far once =
    let new : (place : ℕ) → slice_get (chain_origins (chains (map whole_line done))) place ≢ Some o.origin =
    λ place there. twice_moved done rest o once
    (comes_again o.origin (head_origins done) (head_origins rest)
    (among_at (head_origins done) place o.origin (ap (λ (os : List (List ℕ)). slice_get os place) (sym (ap chain_origins so_far ∙ one_origins done)) ∙ there))) in
    let grown : chains (map whole_line done) ++ saved_chain o.origin ((whole_line o).step ∷ []) ∷ [] ≡ chains (map whole_line done ++ whole_line o ∷ []) =
    puts_line (map whole_line done) (whole_line o) (chains (map whole_line done) ++ saved_chain o.origin ((whole_line o).step ∷ []) ∷ []) (grouped_all (map whole_line done)) (inr (new, refl)) in
    let next : chains (map whole_line (done ++ o ∷ [])) ≡ map in_one_step (done ++ o ∷ []) =
    ap chains (map-append whole_line done (o ∷ [])) ∙ sym grown ∙ ap (λ (cs : List SavedChain). cs ++ in_one_step o ∷ []) so_far ∙ sym (map-append in_one_step done (o ∷ [])) in
    subst (λ (hs : List state.OriginHead). chains (map whole_line hs) ≡ map in_one_step hs) (append_assoc done (o ∷ []) rest)
    (one_each_from (done ++ o ∷ []) rest next (subst (λ (hs : List state.OriginHead). ¬ (HasTwice (head_origins hs))) (sym (append_assoc done (o ∷ []) rest)) once))

-- heads of different origins have these chains, once they are written
pub one_each : (heads : List state.OriginHead) → ¬ (HasTwice (head_origins heads)) → chains (map whole_line heads) ≡ map in_one_step heads
one_each heads once = one_each_from [] heads refl once

heads_once : (H : Digest) (lines : List ChainLine) → ¬ (HasTwice (head_origins (map (end_of H) (chains lines))))
heads_once H lines =
    subst (λ (os : List (List ℕ)). ¬ (HasTwice os)) (sym (origins_shown H (chains lines) ∙ origins_of_chains lines (origins lines))) (grouped_all lines).once

-- ---- all origins count

all_count : (lines : List ChainLine) → counting (of_logs None) lines ≡ lines
all_count [] = refl
all_count (l ∷ lines) = ap (λ (ls : List ChainLine). l ∷ ls) (all_count lines)

pub compacted : (H : Digest) (counts : Counts) (p : Passage) (heads : List state.OriginHead) (text : List ℕ) → counts ≡ of_logs None → KnowsHeads H counts p heads
    → text ≡ chain_text (map whole_line heads) → IsCompacted H p text
compacted H counts p heads text all knows spelled =
    let is : KnowsHeads H (of_logs None) p heads = subst (λ (f : Counts). KnowsHeads H f p heads) all knows in
    let same : heads ≡ map (end_of H) (chains is.lines) = is.same ∙ ap (λ (ls : List ChainLine). map (end_of H) (chains ls)) (all_count is.lines) in
    record {
      lines = is.lines;
      gave = is.gave;
      lawful = is.lawful;
      short = map whole_line heads;
      text = record { each = All-map IsChainLine whole_line heads is.written; spelled = spelled };
      same = one_each heads (subst (λ (hs : List state.OriginHead). ¬ (HasTwice (head_origins hs))) (sym same) (heads_once H is.lines))
          ∙ ap (map in_one_step) same
          ∙ sym (shown_twice (end_of H) in_one_step (λ c. in_one_step (end_of H c)) (chains is.lines) (λ c. refl));
    }

-- ---- faults

pub refuses_state : (H : Digest) (logs : Option (List Log)) (p : Passage) (fault : StateFault) → RefusesReading H (of_logs logs) p fault → RefusesState H logs p fault
refuses_state H logs p Read refused = refused
refuses_state H logs p (Malformed place) refused = refused
refuses_state H logs p (Broken place) refused = refused
refuses_state H logs p TooLarge refused = refused
refuses_state H logs p OutOfMemory refused = inr refused

pub refuses_by : (H : Digest) (logs : Option (List Log)) (counts : Counts) (p : Passage) (fault : StateFault) → counts ≡ of_logs logs → RefusesReading H counts p fault → RefusesState H logs p fault
refuses_by H logs counts p fault same refused = refuses_state H logs p fault (subst (λ (f : Counts). RefusesReading H f p fault) same refused)

pub reads_state : {A : Type 0} (H : Digest) (logs : Option (List Log)) (counts : Counts) (p : Passage) (r : Result (Vec (OriginHead A) A) StateFault) → counts ≡ of_logs logs
    → IfOk r (λ heads. KnowsHeads H counts p (heads_shown (vec_items heads))) → IfErr r (RefusesReading H counts p) → ReadsState H logs p r
reads_state H logs counts p (Ok heads) same knows refused = subst (λ (f : Counts). KnowsHeads H f p (heads_shown (vec_items heads))) same knows
reads_state H logs counts p (Err fault) same knows refused = refuses_by H logs counts p fault same refused

-- memory ran out for the lines of some heads
pub lines_refused : (H : Digest) (counts : Counts) (p : Passage) (heads : List state.OriginHead) → counts ≡ of_logs None → KnowsHeads H counts p heads → 0 < length heads
    → RefusesState H None p OutOfMemory
lines_refused H counts p heads all knows some =
    let is : KnowsHeads H (of_logs None) p heads = subst (λ (f : Counts). KnowsHeads H f p heads) all knows in
    let same : heads ≡ map (end_of H) (chains is.lines) = is.same ∙ ap (λ (ls : List ChainLine). map (end_of H) (chains ls)) (all_count is.lines) in
    inr (record { bytes = chain_text is.lines; consumed = is.gave.consumed; steady = is.gave.steady; refused = some_bytes is.lines (ap length same) })
  where
    some_bytes : (lines : List ChainLine) → length heads ≡ length (map (end_of H) (chains lines)) → 0 < length (chain_text lines)
    some_bytes [] same = absurd (omega (arith, some, same))
    some_bytes (l ∷ lines) same = omega (arith, few_lines (l ∷ lines))
