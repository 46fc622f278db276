-- The note of a proposal with the lines of witnesses.
use Rattle.std.proofs.Common.{◌≡◌, ◌≢◌, ℕ, zero, suc, ◌+◌, ◌<◌, ◌≤◌, Bool, true, false, List, [], ◌∷◌, ◌++◌, length, map, take, get_or, Option, Some, None, All, refl, sym, ap, subst, ◌∙◌, append-nil, append_assoc, arith}
use Rattle.std.specs.Prelude.{slice_get, ◌||◌, option_map, Result, Ok, Err}
use Rattle.std.specs.List.{AllZip, AllPairs, flat_map, list_any}
use Rattle.std.proofs.Math.Dec.{eqb}
use Rattle.std.proofs.lemmas.Bool.{eqb-true, eq-eqb}
use Rattle.std.proofs.lemmas.Map.Steps.{length-le_from_distinct_below}
use Rattle.std.proofs.lemmas.Map.Made.{IsDistinct-from_AllPairs}
use Rattle.std.proofs.lemmas.List.{length-append, length-map, get_or-map, take_more}
use Rattle.std.proofs.lemmas.Slice.Zip.{AllZip-long}
use Rattle.std.proofs.lemmas.Option.{slice_get_within}
use Rattle.std.proofs.lemmas.Grind.{flat_map-append}
use Rattle.tl_note.specs.Key.{Key}
use Rattle.tl_note.specs.Note.{Signature, Note, IsSignature, signature_line}
use Rattle.tl_note.specs.SignNote.{IsSignedBy}
use Rattle.tl_note.specs.View.{AreLines}
use Rattle.tl_checkpoint.specs.declared.quorum.Cosigned.{Cosigned}
use Rattle.tl_checkpoint.specs.Quorum.{AreFirst, IsBy}
use Rattle.tl_publisher.specs.declared.fault.AttachFault.{AttachFault}
use Rattle.tl_publisher.specs.declared.fault.AttachFault.TheVariants as attach
use Rattle.tl_log.specs.Histories.{Prefix, last_of}
use Rattle.tl_publisher.specs.Pasts.{Past}
use Rattle.tl_log.specs.Checkpoints.{text_of_log}
use Rattle.tl_publisher.specs.Signed.{IsSignedNote, IsByWitness, AreCosigned, no_quorum}
use Rattle.tl_publisher.specs.Stages.{IsNextOf}
use Rattle.tl_publisher.specs.Operating.{Operated, IsOperating, IsOfSame, IsProposal}
use Rattle.tl_publisher.specs.Proposing.{IsCosigned, IsAttached, Attaches}
use Rattle.tl_publisher.specs.Inner.Attaching.{HasBehind}
use Rattle.tl_publisher.proofs.Operations.{operating_next, operating_still}

-- the line at the position of a cosignature
abbrev pub IsAt : List Signature → Cosigned → Signature → Type 0
IsAt lines c line = slice_get lines c.line ≡ Some line

-- ---- the lines of the note

-- without a quorum there is no witness
pub no_others : (text : List ℕ) (lines : List Signature) (places : List ℕ) → AllZip (IsByWitness text []) places lines → lines ≡ []
no_others text [] places each = refl
no_others text (l ∷ lines) [] each = absurd each
no_others text (l ∷ lines) (p ∷ places) each = absurd (let none : None ≡ Some each.0.0 = each.0.2 in cc)

-- each kept line is one of those that were read
kept_lawful : (lines kept : List Signature) (found : List Cosigned) → All IsSignature lines → AllZip (IsAt lines) found kept → All IsSignature kept
kept_lawful lines [] found lawful each k d less = absurd (omega (arith, less))
kept_lawful lines (l ∷ kept) [] lawful each k d less = absurd each
kept_lawful lines (l ∷ kept) (c ∷ found) lawful each zero d less = at lines c.line l lawful each.0
  where
    at : (xs : List Signature) (n : ℕ) (x : Signature) → All IsSignature xs → slice_get xs n ≡ Some x → IsSignature x
    at [] n x all is = absurd (cc)
    at (y ∷ xs) zero x all is = (let same : y ≡ x = cc in subst IsSignature same (all 0 y (omega arith)))
    at (y ∷ xs) (suc n) x all is = at xs n x (λ i e within. all (suc i) e (omega (arith, within))) is
kept_lawful lines (l ∷ kept) (c ∷ found) lawful each (suc k) d less = kept_lawful lines kept found lawful each.1 k d (omega (arith, less))

module _ (bytes text : List ℕ) (own kept lines : List Signature) (found : List Cosigned) where
  -- lines behind the note's own
  pub noted_more : (note : List ℕ) → Note note text own → All IsSignature lines → AllZip (IsAt lines) found kept → length own + length kept ≤ 100 → bytes ≡ note ++ flat_map signature_line kept → Note bytes text (own ++ kept)
  noted_more note is lawful each few spelled = record {
    readable = is.readable;
    each = all_both own kept is.each (kept_lawful lines kept found lawful each);
    some = (let len = length-append own kept in omega (arith, len, is.some));
    few = (let len = length-append own kept in omega (arith, len, few));
    spelled = spelled ∙ ap (λ (t : List ℕ). t ++ flat_map signature_line kept) is.spelled
        ∙ append_assoc text (10 ∷ flat_map signature_line own) (flat_map signature_line kept)
        ∙ ap (λ (t : List ℕ). text ++ 10 ∷ t) (sym (flat_map-append signature_line own kept));
  }
    where
      all_both : (xs ys : List Signature) → All IsSignature xs → All IsSignature ys → All IsSignature (xs ++ ys)
      all_both [] ys left right k d less = right k d less
      all_both (x ∷ xs) ys left right zero d less = left 0 d (omega arith)
      all_both (x ∷ xs) ys left right (suc k) d less = all_both xs ys (λ i e within. left (suc i) e (omega (arith, within))) right k d (omega (arith, less))

-- ---- the witnesses of the lines

-- each has another witness
cosigned_places : (found : List Cosigned) → AllPairs (λ a b. a.witness ≢ b.witness) found → AllPairs (λ x y. x ≢ y) (map (λ c. c.witness) found)
cosigned_places found apart i j d less within same =
    let long = length-map found (λ (c : Cosigned). c.witness) in
    let e : Cosigned = record { line = 0; witness = d; time = 0 } in
    apart i j e less (omega (arith, within, long)) (sym (get_or-map (λ (c : Cosigned). c.witness) found i e d (omega (arith, less, within, long))) ∙ same ∙ get_or-map (λ (c : Cosigned). c.witness) found j e d (omega (arith, within, long)))

-- each is by another witness
pub cosigned_of : (text : List ℕ) (keys : List Key) (lines kept : List Signature) (found : List Cosigned) → AreFirst text keys lines found → AllZip (IsAt lines) found kept → AreCosigned text keys kept
cosigned_of text keys lines kept found first at = record {
  places = map (λ c. c.witness) found;
  apart = cosigned_places found first.apart;
  each = by_each found kept first.each at;
}
  where
    one : (x y : Signature) → Some x ≡ Some y → x ≡ y
    one x y e = cc

    by_one : (c : Cosigned) (l : Signature) → IsBy text keys lines c → slice_get lines c.line ≡ Some l → IsByWitness text keys c.witness l
    by_one c l (line, at, of) here = subst (IsByWitness text keys c.witness) (one line l (sym at ∙ here)) (of.0, c.time, of.1, of.2)

    by_each : (found : List Cosigned) (kept : List Signature) → All (IsBy text keys lines) found → AllZip (IsAt lines) found kept → AllZip (IsByWitness text keys) (map (λ c. c.witness) found) kept
    by_each [] [] each at = tt
    by_each [] (l ∷ kept) each at = absurd at
    by_each (c ∷ found) [] each at = absurd at
    by_each (c ∷ found) (l ∷ kept) each at = (by_one c l (each 0 c (omega arith)) at.0, by_each found kept (λ k d less. each (suc k) d (omega (arith, less))) at.1)

-- no more of them than witnesses
pub found_few : (text : List ℕ) (keys : List Key) (lines : List Signature) (found : List Cosigned) → AreFirst text keys lines found → length found ≤ length keys
found_few text keys lines found first =
    let many = length-map found (λ (c : Cosigned). c.witness) in
    let most = length-le_from_distinct_below (map (λ (c : Cosigned). c.witness) found) (length keys)
    (IsDistinct-from_AllPairs {eq = eqb} (λ a b. (eqb-true a b, eq-eqb a b)) (map (λ (c : Cosigned). c.witness) found) (cosigned_places found first.apart)) (below found first.each) in
    omega (arith, many, most)
  where
    within : (n : ℕ) (found : List Cosigned) (c : Cosigned) (b : Bool) → eqb n c.witness ≡ b → c.witness < length keys → (list_any (eqb n) (map (λ (c : Cosigned). c.witness) found) ≡ true → n < length keys)
        → (b || list_any (eqb n) (map (λ (c : Cosigned). c.witness) found)) ≡ true → n < length keys
    within n found c true at less rest any = (let same = eqb-true n c.witness at in omega (arith, same, less))
    within n found c false at less rest any = rest any

    inside : (c : Cosigned) → IsBy text keys lines c → c.witness < length keys
    inside c (line, at, of) = slice_get_within keys c.witness of.0 of.1

    below : (found : List Cosigned) → All (IsBy text keys lines) found → (n : ℕ) → list_any (eqb n) (map (λ (c : Cosigned). c.witness) found) ≡ true → n < length keys
    below [] each n any = absurd (cc)
    below (c ∷ found) each n any =
        within n found c (eqb n c.witness) refl (inside c (each 0 c (omega arith))) (below found (λ k d less. each (suc k) d (omega (arith, less))) n) any

-- ---- what is attached

-- only the entries of a publication count for what it follows
pub follows_under : (last : Option Prefix) (q : Prefix) (note : List ℕ) → IsNextOf last q → IsNextOf last (record { entries = q.entries; note = note })
follows_under None q note is = tt
follows_under (Some p) q note is = is

-- the note of the proposal with the lines of enough witnesses is one of the log
pub note_cosigned : {A : Type 0} (a : Operated A) (q : Prefix) (lines : List Signature) (note : List ℕ) → IsCosigned a q lines note → IsSignedNote a.signers a.quorum (text_of_log a.origin q.entries) note
note_cosigned a q lines note is = record {
  own = is.own;
  others = is.kept;
  noted = is.noted;
  signed = is.signed;
  cosigned = cosigned_of (text_of_log a.origin q.entries) a.quorum.witnesses lines is.kept is.found is.first is.each;
  enough = (let long = AllZip-long (IsAt lines) is.found is.kept is.each in omega (arith, long, is.enough));
}

-- the note with one line more
pub behind_more : (note : List ℕ) (lines : List Signature) (found : List Cosigned) (index : ℕ) (c : Cosigned) (line : Signature) (before after : List ℕ) → index < length found → c ≡ get_or found index c → slice_get lines c.line ≡ Some line
    → HasBehind note lines (take index found) before → after ≡ before ++ signature_line line → HasBehind note lines (take (index + 1) found) after
behind_more note lines found index c line before after less at has (kept, each, spelled) pushed = (
  kept ++ line ∷ [],
  subst (λ (cs : List Cosigned). AllZip (IsAt lines) cs (kept ++ line ∷ [])) (sym (take_more found index c less ∙ ap (λ (x : Cosigned). take index found ++ x ∷ []) (sym at))) (zip_push (take index found) kept each),
  pushed ∙ ap (λ (t : List ℕ). t ++ signature_line line) spelled ∙ append_assoc note (flat_map signature_line kept) (signature_line line)
      ∙ ap (λ (t : List ℕ). note ++ t) (ap (λ (t : List ℕ). flat_map signature_line kept ++ t) (sym (append-nil (signature_line line))) ∙ sym (flat_map-append signature_line kept (line ∷ []))),
)
  where
    zip_push : (cs : List Cosigned) (ls : List Signature) → AllZip (IsAt lines) cs ls → AllZip (IsAt lines) (cs ++ c ∷ []) (ls ++ line ∷ [])
    zip_push [] [] zip = (has, tt)
    zip_push [] (l ∷ ls) zip = absurd zip
    zip_push (d ∷ cs) [] zip = absurd zip
    zip_push (d ∷ cs) (l ∷ ls) zip = (zip.0, zip_push cs ls zip.1)

-- each line that was found is there
pub lines_within : (text : List ℕ) (keys : List Key) (lines : List Signature) (found : List Cosigned) → AreFirst text keys lines found → All (λ c. c.line < length lines) found
lines_within text keys lines found first k d less = at (get_or found k d) (first.each k d less)
  where
    at : (c : Cosigned) → IsBy text keys lines c → c.line < length lines
    at c (line, is, of) = slice_get_within lines c.line line is

-- the entries of what is proposed
pub proposed_entries : {X : Type 0} (o : Option X) (entries : List (List ℕ)) (bytes : X → List ℕ) (q : Prefix) → option_map (λ x. record { entries = entries; note = bytes x }) o ≡ Some q → entries ≡ q.entries
proposed_entries None entries bytes q is = absurd (cc)
proposed_entries (Some x) entries bytes q is = ap (λ (p : Prefix). p.entries) (one (record { entries = entries; note = bytes x }) q is)
  where
    one : (x y : Prefix) → Some x ≡ Some y → x ≡ y
    one x y e = cc

-- the note of the proposal, followed by the lines of enough witnesses
pub cosigns_note : {A : Type 0} (a : Operated A) (q : Prefix) (words : List ℕ) (lines : List Signature) (found : List Cosigned) (text whole : List ℕ) → IsOperating a → a.proposal ≡ Some q → AreLines words lines → text ≡ text_of_log a.origin q.entries
    → AreFirst text a.quorum.witnesses lines found → a.quorum.need ≤ length found → HasBehind q.note lines found whole → IsCosigned a q lines whole
cosigns_note a q words lines found text whole is at are same first enough (kept, each, spelled) =
    let T : List ℕ = text_of_log a.origin q.entries in
    let signed : IsSignedNote a.signers no_quorum T q.note = (is.proposed q at).signed in
    let none : signed.others ≡ [] = no_others T signed.others signed.cosigned.places signed.cosigned.each in
    let noted : Note q.note T signed.own = subst (Note q.note T) (ap (λ (ls : List Signature). signed.own ++ ls) none ∙ append-nil signed.own) signed.noted in
    let their : AreFirst T a.quorum.witnesses lines found = subst (λ (t : List ℕ). AreFirst t a.quorum.witnesses lines found) same first in
    let many = AllZip-long (IsSignedBy T) a.signers signed.own signed.signed in
    let kept_many = AllZip-long (IsAt lines) found kept each in
    let most = found_few T a.quorum.witnesses lines found their in
    record {
      own = signed.own;
      found = found;
      kept = kept;
      proposed = noted;
      signed = signed.signed;
      first = their;
      enough = enough;
      each = each;
      noted = noted_more whole T signed.own kept lines found q.note noted are.each each (omega (arith, many, kept_many, most, is.few)) spelled;
    }

-- what is attached keeps an operator one
pub operating_attaches : {A : Type 0} (a b : Operated A) (q : Prefix) (lines : List Signature) (p : Past) → IsOfSame a b → a.proposal ≡ Some q → IsAttached a b q lines p → IsOperating a → IsOperating b
operating_attaches a b q lines p same at is before =
    let proposal : IsProposal a q = before.proposed q at in
    operating_next a b (record { entries = q.entries; note = is.note }) same is.log is.proposal is.history proposal.beginning proposal.based
    (follows_under (last_of a.past.log) q is.note proposal.next) (note_cosigned a q lines is.note is.cosigned) before

pub operating_answers : {A : Type 0} (r : Result Past AttachFault) (text : List ℕ) (a b : Operated A) → IsOfSame a b → Attaches text a b r → IsOperating a → IsOperating b
operating_answers (Ok p) text a b same (q, lines, at, are, is) before = operating_attaches a b q lines p same at is before
operating_answers (Err attach.NoProposal) text a b same is before = operating_still a b same is.1 before
operating_answers (Err attach.Malformed) text a b same (q, at, wrong, still) before = operating_still a b same still before
operating_answers (Err (attach.TooFew k)) text a b same (q, lines, at, are, few, still) before = operating_still a b same still before
operating_answers (Err attach.OutOfMemory) text a b same (q, lines, at, are, still) before = operating_still a b same still before
