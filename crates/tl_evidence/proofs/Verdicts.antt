-- What the code finds is what evidence is.
use Rattle.std.proofs.Common.{◌≡◌, ◌≢◌, ℕ, zero, suc, ◌<◌, ◌^◌, ◌⊎◌, inl, inr, List, [], ◌∷◌, ◌++◌, length, take, drop, get_or, map, Bool, true, false, refl, sym, ap, subst, ◌∙◌, arith, All}
use Rattle.std.specs.declared.vec.Vec.{Vec}
use Rattle.std.specs.Prelude.{◌↔◌, ◌==◌, vec_items, IfOk, IsTrue, MatchOption, Option, Some, None, Result, Ok, Err, codes, string_bytes}
use Rattle.std.specs.List.{flat_map}
use Rattle.std.proofs.lemmas.Bool.{true≢false}
use Rattle.std.proofs.lemmas.Fmt.{decimal_injective}
use Rattle.std.proofs.lemmas.List.{append_cancel_left}
use Rattle.std.proofs.lemmas.List.Elements.{All-append, All-head, All-nil, All-tail}
use Rattle.std.proofs.lemmas.List.Concat.{flat_map-append}
use Rattle.tl_hash.specs.Bytes.{IsHash}
use Rattle.tl_text.specs.Text.{IsSize, base64_text, line, number_text}
use Rattle.tl_text.proofs.Lines.{line_not_empty}
use Rattle.tl_text.proofs.PlainText.{base64_once}
use Rattle.tl_note.specs.Key.{Key, IsKeyName}
use Rattle.tl_checkpoint.specs.Checkpoint.{Head, head_of}
use Rattle.tl_checkpoint.specs.OpenCheckpoint.{IsSignedCheckpoint, OpensCheckpoint}
use Rattle.tl_checkpoint.specs.declared.checkpoint.Checkpoint.{Checkpoint}
use Rattle.tl_checkpoint.specs.declared.opening.OpenCheckpointFault.{OpenCheckpointFault}
use Rattle.tl_checkpoint.specs.declared.opening.OpenCheckpointFault.TheVariants.{OutOfMemory}
use Rattle.tl_command.specs.Lines.{HasNoNewline, entries_of, lines_text}
use Rattle.tl_command.specs.ProofText.{Consistency, Consistent, IsConsistency, consistency_lines, consistency_text}
use Rattle.tl_command.proofs.LineTexts.{entries_of_lines}
use Rattle.tl_command.proofs.ProofTexts.{proof_plain}
use Rattle.tl_fork.specs.Evidence.{Disagree, HaveTwoRoots, IsEvidence, IsOfLog, LeadsElsewhere}
use Rattle.tl_evidence.specs.Inner.Cutting.{note_length}
use Rattle.tl_evidence.specs.Inner.Opening.{OpensOrNot}
use Rattle.tl_evidence.proofs.Cuts.{AreCutEvidence, AreEvidence, cut_is_evidence, evidence_is_cut, evidence_lines, one_of_log}
use Rattle.tl_evidence.proofs.NotSigned.{not_signed}

-- a fact that never holds
never : (P : Type 0) → (P → ⊥) → IsTrue false ↔ P
never P not = (λ t. absurd (true≢false (sym t)), λ p. absurd (not p))

-- ---- a checkpoint

pub none_opened : (A E : Type 0) (bytes note : List ℕ) (keys : List Key) (fault : OpenCheckpointFault) (r : Result (Option (Checkpoint A)) E) → OpensCheckpoint {A = A} note keys (Err fault) → note ≡ bytes
    → IfOk r (λ o. (o ≡ None) × (fault ≢ OutOfMemory)) → OpensOrNot bytes keys r
none_opened A E bytes note keys fault (Err e) given same known = tt
none_opened A E bytes note keys fault (Ok None) given same known =
    not_signed A bytes keys fault (subst (λ (b : List ℕ). OpensCheckpoint {A = A} b keys (Err fault)) same given) known.1
none_opened A E bytes note keys fault (Ok (Some c)) given same known = let other : Some c ≡ None = known.0 in absurd cc

pub named_of : (A : Type 0) (keys : List Key) (name bytes : List ℕ) (c : Checkpoint A) (o : Option (Checkpoint A)) → IsSignedCheckpoint bytes keys (head_of c)
    → MatchOption o ((head_of c).origin ≢ name) (λ d. (d ≡ c) × ((head_of c).origin ≡ name))
    → MatchOption o ((h : Head) → IsOfLog keys name bytes h → ⊥) (λ d. IsOfLog keys name bytes (head_of d))
named_of A keys name bytes c None signed other = λ h is.
    let own : IsOfLog keys (head_of c).origin bytes (head_of c) = record { signed = signed; named = refl } in
    let theirs : IsOfLog keys h.origin bytes h = record { signed = is.signed; named = refl } in
    let same : head_of c ≡ h = one_of_log keys (head_of c).origin h.origin bytes (head_of c) h own theirs in
    other (ap (λ (d : Head). d.origin) same ∙ is.named)
named_of A keys name bytes c (Some d) signed is =
    subst (λ (x : Checkpoint A). IsOfLog keys name bytes (head_of x)) (sym is.0) (record { signed = signed; named = is.1 })

-- ---- two checkpoints and a text

same_hashes : (xs ys : List (List ℕ)) → All IsHash xs → All IsHash ys → map base64_text xs ≡ map base64_text ys → xs ≡ ys
same_hashes [] [] of_x of_y e = refl
same_hashes [] (y ∷ ys) of_x of_y e = absurd cc
same_hashes (x ∷ xs) [] of_x of_y e = absurd cc
same_hashes (x ∷ xs) (y ∷ ys) of_x of_y e =
    let head : base64_text x ≡ base64_text y = cc in
    let tail : map base64_text xs ≡ map base64_text ys = cc in
    ap (λ (z : List ℕ). z ∷ xs) (base64_once x y (All-head IsHash x xs of_x).bytes (All-head IsHash y ys of_y).bytes head)
    ∙ ap (λ (zs : List (List ℕ)). y ∷ zs) (same_hashes xs ys (All-tail IsHash x xs of_x) (All-tail IsHash y ys of_y) tail)

abbrev made : ℕ → List ℕ → ℕ → List ℕ → List (List ℕ) → Consistency
made old old_root size root proof = record { old = old; old_root = old_root; size = size; root = root; proof = proof }

same_made : (a b : ℕ) (r s : List ℕ) (m n : ℕ) (t u : List ℕ) (xs ys : List (List ℕ)) → a ≡ b → r ≡ s → m ≡ n → t ≡ u → xs ≡ ys → made a r m t xs ≡ made b s n u ys
same_made a b r s m n t u xs ys e f g h i =
    ap (λ (k : ℕ). made k r m t xs) e ∙ ap (λ (k : List ℕ). made b k m t xs) f ∙ ap (λ (k : ℕ). made b s k t xs) g
    ∙ ap (λ (k : List ℕ). made b s n k xs) h ∙ ap (λ (k : List (List ℕ)). made b s n u k) i

one_consistency : (p q : Consistency) → IsConsistency p → IsConsistency q → consistency_lines p ≡ consistency_lines q → p ≡ q
one_consistency p q of_p of_q e =
    let old : number_text p.old ≡ number_text q.old = append_cancel_left (codes "old ") (number_text p.old) (number_text q.old) (ap (λ (ls : List (List ℕ)). get_or ls 1 []) e) in
    let old_root : base64_text p.old_root ≡ base64_text q.old_root = append_cancel_left (codes "oldroot ") (base64_text p.old_root) (base64_text q.old_root) (ap (λ (ls : List (List ℕ)). get_or ls 2 []) e) in
    let size : number_text p.size ≡ number_text q.size = append_cancel_left (codes "size ") (number_text p.size) (number_text q.size) (ap (λ (ls : List (List ℕ)). get_or ls 3 []) e) in
    let root : base64_text p.root ≡ base64_text q.root = append_cancel_left (codes "root ") (base64_text p.root) (base64_text q.root) (ap (λ (ls : List (List ℕ)). get_or ls 4 []) e) in
    let proof : map base64_text p.proof ≡ map base64_text q.proof = ap (drop 5) e in
    same_made p.old q.old p.old_root q.old_root p.size q.size p.root q.root p.proof q.proof
    (decimal_injective p.old q.old (omega (arith, of_p.old)) (omega (arith, of_q.old)) old)
    (base64_once p.old_root q.old_root of_p.old_root.bytes of_q.old_root.bytes old_root)
    (decimal_injective p.size q.size (omega (arith, of_p.size)) (omega (arith, of_q.size)) size)
    (base64_once p.root q.root of_p.root.bytes of_q.root.bytes root)
    (same_hashes p.proof q.proof of_p.proof of_q.proof proof)

-- the text of a proof isn't empty, nor is that of lines if there are some
no_proof : (p : Consistency) → [] ≡ consistency_text p → ⊥
no_proof p e = line_not_empty (codes "consistency") _ (sym e)

no_lines : (lines : List (List ℕ)) → 0 < length lines → lines_text lines ≡ [] → ⊥
no_lines [] some e = omega (arith, some)
no_lines (text ∷ lines) some e = line_not_empty text (lines_text lines) e

-- lines with the text of a proof are its lines
lines_of : (lines : List (List ℕ)) (p : Consistency) → All HasNoNewline lines → IsConsistency p → lines_text lines ≡ consistency_text p → lines ≡ consistency_lines p
lines_of lines p plain lawful e =
    sym (entries_of_lines lines plain) ∙ ap entries_of e ∙ entries_of_lines (consistency_lines p) (proof_plain (Consistent p) lawful)

abbrev Leads : Head → Head → Consistency → Type 0
Leads a b p = LeadsElsewhere a b p ⊎ LeadsElsewhere b a p

two_roots : (a b : Head) (r : Bool) → (HaveTwoRoots a b → IsTrue r) → Disagree a b [] → IsTrue r
two_roots a b r says (inl (none, two)) = says two
two_roots a b r says (inr (p, lawful, spelled, leads)) = absurd (no_proof p spelled)

pub for_none : (a b : Head) (lines : List (List ℕ)) (r : Bool) → lines ≡ [] → (IsTrue r ↔ HaveTwoRoots a b) → IsTrue r ↔ Disagree a b (lines_text lines)
for_none a b lines r none says =
    subst (λ (ls : List (List ℕ)). IsTrue r ↔ Disagree a b (lines_text ls)) (sym none)
    (λ t. inl (refl, says.0 t), two_roots a b r says.1)

by_proof : (a b : Head) (lines : List (List ℕ)) (p : Consistency) (r : Bool) → All HasNoNewline lines → IsConsistency p → lines ≡ consistency_lines p → (Leads a b p → IsTrue r)
    → Disagree a b (lines_text lines) → IsTrue r
by_proof a b lines p r plain lawful is says (inl (none, two)) = absurd (no_proof p (sym none ∙ ap lines_text is))
by_proof a b lines p r plain lawful is says (inr (q, lawful_q, spelled, leads)) =
    let same : q ≡ p = one_consistency q p lawful_q lawful (sym (lines_of lines q plain lawful_q spelled) ∙ is) in
    says (subst (λ (c : Consistency). Leads a b c) same leads)

pub for_proof : (a b : Head) (lines : List (List ℕ)) (p : Consistency) (r : Bool) → All HasNoNewline lines → IsConsistency p → lines ≡ consistency_lines p → (IsTrue r ↔ Leads a b p)
    → IsTrue r ↔ Disagree a b (lines_text lines)
for_proof a b lines p r plain lawful is says =
    (λ t. inr (p, lawful, ap lines_text is, says.0 t), by_proof a b lines p r plain lawful is says.1)

no_disagreement : (a b : Head) (lines : List (List ℕ)) → 0 < length lines → All HasNoNewline lines → ((p : Consistency) → IsConsistency p → lines ≢ consistency_lines p) → Disagree a b (lines_text lines) → ⊥
no_disagreement a b lines some plain other (inl (none, two)) = no_lines lines some none
no_disagreement a b lines some plain other (inr (q, lawful, spelled, leads)) = other q lawful (lines_of lines q plain lawful spelled)

pub for_other : (a b : Head) (lines : List (List ℕ)) → 0 < length lines → All HasNoNewline lines → ((p : Consistency) → IsConsistency p → lines ≢ consistency_lines p)
    → IsTrue false ↔ Disagree a b (lines_text lines)
for_other a b lines some plain other = never (Disagree a b (lines_text lines)) (no_disagreement a b lines some plain other)

-- a list that isn't empty
pub some_lines : {A : Type 0} (lines : List (Vec ℕ A)) (r : Bool) → r ≡ (length lines == 0) → r ≡ false → 0 < length (map vec_items lines)
some_lines [] r is not = absurd (true≢false (sym is ∙ not))
some_lines (x ∷ lines) r is not = omega arith

-- ---- all of the lines

join_cut : {A : Type 0} (n : ℕ) (xs : List A) → take n xs ++ drop n xs ≡ xs
join_cut zero xs = refl
join_cut (suc n) [] = refl
join_cut (suc n) (x ∷ xs) = ap (λ l. x ∷ l) (join_cut n xs)

-- how lines are cut into parts
pub record IsCutInto (lines first rest second proof : List (List ℕ)) : Type 0 where
  pub first_is : first ≡ take (note_length lines) lines
  pub rest_is : rest ≡ drop (note_length lines) lines
  pub second_is : second ≡ take (note_length rest) rest
  pub proof_is : proof ≡ drop (note_length rest) rest

parts_of : (keys : List Key) (name : List ℕ) (lines first rest second proof : List (List ℕ)) → IsCutInto lines first rest second proof → AreCutEvidence keys name lines → AreEvidence keys name first second proof
parts_of keys name lines first rest second proof cut are =
    let r : drop (note_length lines) lines ≡ rest = sym cut.rest_is in
    let s = ap (λ (ls : List (List ℕ)). take (note_length ls) ls) r ∙ sym cut.second_is in
    let p = ap (λ (ls : List (List ℕ)). drop (note_length ls) ls) r ∙ sym cut.proof_is in
    subst (λ (x : List (List ℕ)). AreEvidence keys name x second proof) (sym cut.first_is)
    (subst (λ (x : List (List ℕ)). AreEvidence keys name (take (note_length lines) lines) x proof) s
    (subst (λ (x : List (List ℕ)). AreEvidence keys name (take (note_length lines) lines) (take (note_length (drop (note_length lines) lines)) (drop (note_length lines) lines)) x) p are))

whole_of : (lines first rest second proof : List (List ℕ)) → IsCutInto lines first rest second proof → first ++ (second ++ proof) ≡ lines
whole_of lines first rest second proof cut =
    ap (λ (x : List (List ℕ)). first ++ (x ++ proof)) cut.second_is ∙ ap (λ (x : List (List ℕ)). first ++ (take (note_length rest) rest ++ x)) cut.proof_is
    ∙ ap (λ (x : List (List ℕ)). first ++ x) (join_cut (note_length rest) rest)
    ∙ ap (λ (x : List (List ℕ)). x ++ rest) cut.first_is ∙ ap (λ (x : List (List ℕ)). take (note_length lines) lines ++ x) cut.rest_is
    ∙ join_cut (note_length lines) lines

pub no_first : (keys : List Key) (name : List ℕ) (lines first : List (List ℕ)) → IsKeyName name → All HasNoNewline lines → first ≡ take (note_length lines) lines
    → ((c : Head) → IsOfLog keys name (lines_text first) c → ⊥) → IsTrue false ↔ IsEvidence keys name (lines_text lines)
no_first keys name lines first is plain first_is none = never (IsEvidence keys name (lines_text lines)) (λ e.
    let cut = evidence_is_cut keys name lines is plain e in
    none cut.a (subst (λ (x : List (List ℕ)). IsOfLog keys name (lines_text x) cut.a) (sym first_is) cut.first_of))

pub no_second : (keys : List Key) (name : List ℕ) (lines rest second : List (List ℕ)) → IsKeyName name → All HasNoNewline lines → rest ≡ drop (note_length lines) lines
    → second ≡ take (note_length rest) rest → ((c : Head) → IsOfLog keys name (lines_text second) c → ⊥) → IsTrue false ↔ IsEvidence keys name (lines_text lines)
no_second keys name lines rest second is plain rest_is second_is none = never (IsEvidence keys name (lines_text lines)) (λ e.
    let cut = evidence_is_cut keys name lines is plain e in
    let same = second_is ∙ ap (λ (ls : List (List ℕ)). take (note_length ls) ls) rest_is in
    none cut.b (subst (λ (x : List (List ℕ)). IsOfLog keys name (lines_text x) cut.b) (sym same) cut.second_of))

shown_by : (keys : List Key) (name : List ℕ) (first second proof : List (List ℕ)) (a b : Head) → IsOfLog keys name (lines_text first) a → IsOfLog keys name (lines_text second) b
    → AreEvidence keys name first second proof → Disagree a b (lines_text proof)
shown_by keys name first second proof a b of_a of_b are =
    let same_a : are.a ≡ a = one_of_log keys name name (lines_text first) are.a a are.first_of of_a in
    let same_b : are.b ≡ b = one_of_log keys name name (lines_text second) are.b b are.second_of of_b in
    subst (λ (h : Head). Disagree a h (lines_text proof)) same_b (subst (λ (h : Head). Disagree h are.b (lines_text proof)) same_a are.disagree)

pub judged : (keys : List Key) (name : List ℕ) (lines first rest second proof : List (List ℕ)) (a b : Head) (r : Bool) → IsKeyName name → All HasNoNewline lines
    → IsCutInto lines first rest second proof → IsOfLog keys name (lines_text first) a → IsOfLog keys name (lines_text second) b → (IsTrue r ↔ Disagree a b (lines_text proof))
    → IsTrue r ↔ IsEvidence keys name (lines_text lines)
judged keys name lines first rest second proof a b r is plain cut of_a of_b says = (
  λ t. subst (λ (ls : List (List ℕ)). IsEvidence keys name (lines_text ls)) (whole_of lines first rest second proof cut)
      (cut_is_evidence keys name first second proof (record { a = a; b = b; first_of = of_a; second_of = of_b; disagree = says.0 t })),
  λ e. says.1 (shown_by keys name first second proof a b of_a of_b (parts_of keys name lines first rest second proof cut (evidence_is_cut keys name lines is plain e))),
)

pub judged_all : {E : Type 0} (keys : List Key) (name : List ℕ) (lines first rest second proof : List (List ℕ)) (a b : Head) (r : Result Bool E) → IsKeyName name → All HasNoNewline lines
    → IsCutInto lines first rest second proof → IsOfLog keys name (lines_text first) a → IsOfLog keys name (lines_text second) b → IfOk r (λ s. IsTrue s ↔ Disagree a b (lines_text proof))
    → IfOk r (λ s. IsTrue s ↔ IsEvidence keys name (lines_text lines))
judged_all keys name lines first rest second proof a b (Ok s) is plain cut of_a of_b says = judged keys name lines first rest second proof a b s is plain cut of_a of_b says
judged_all keys name lines first rest second proof a b (Err fault) is plain cut of_a of_b says = tt

all_behind : {A : Type 0} (P : A → Type 0) (n : ℕ) (xs : List A) → All P xs → All P (drop n xs)
all_behind P zero xs each = each
all_behind P (suc n) [] each = each
all_behind P (suc n) (x ∷ xs) each = all_behind P n xs (All-tail P x xs each)

-- the rest of lines without newlines has none either
pub plain_rest : (lines rest proof : List (List ℕ)) (n m : ℕ) → All HasNoNewline lines → rest ≡ drop n lines → proof ≡ drop m rest → All HasNoNewline proof
plain_rest lines rest proof n m plain rest_is proof_is =
    subst (All HasNoNewline) (sym (proof_is ∙ ap (drop m) rest_is)) (all_behind HasNoNewline m (drop n lines) (all_behind HasNoNewline n lines plain))

-- a text that isn't lines isn't evidence
pub no_text_lines : (keys : List Key) (name text : List ℕ) → ((lines : List (List ℕ)) → All HasNoNewline lines → text ≢ lines_text lines) → IsTrue false ↔ IsEvidence keys name text
no_text_lines keys name text other = never (IsEvidence keys name text) (λ e. let found = evidence_lines keys name text e in other found.0 found.1 found.2)
