use Rattle.std.proofs.Common.{◌≡◌, ◌<◌, ◌≤◌, ◌+◌, ◌∙◌, ℕ, List, [], length, get_or, ap, arith, refl, sym}
use Rattle.std.proofs.lemmas.Bool.{both_ways}
use Rattle.std.proofs.lemmas.List.{get_or-map}
use borrow.Author.Count.{below_more}
use Rattle.tl_key.specs.NoteKey.{PublicKey}
use Rattle.tl_fetch.specs.Inner.Witnesses.{AreOfOne, name_at}
use Rattle.tl_fetch.proofs.feed.feeding.end_of.Goals as goal

-- the name at a place is that of the key there
named : (keys : List PublicKey) (i : ℕ) (k : PublicKey) → i < length keys → k ≡ get_or keys i k → name_at keys i ≡ k.name
named keys i k within at = get_or-map (λ (k : PublicKey). k.name) keys i k [] within ∙ ap (λ (k : PublicKey). k.name) (sym at)

-- one key more with the name
one_more : (keys : List PublicKey) (start end : ℕ) → AreOfOne keys start end → name_at keys end ≡ name_at keys start → AreOfOne keys start (end + 1)
one_more keys start end so is = λ place from to. below_more (λ k. start ≤ k → name_at keys k ≡ name_at keys start) end (λ k below low. so k low below) (λ low. is) place to from

pub loop-end-init : goal.loop-end-init
loop-end-init c = one_more _ c.args.start c.args.start (λ place from to. absurd (omega (arith, from, to))) refl

pub loop-end-preserved : goal.loop-end-preserved
loop-end-preserved c =
    let xs = c.args.witnesses.now in
    let start = c.args.start in
    let end = c.loop-end.end in
    one_more _ start end c.loop-end.invariant
    (named xs end c.index-witnesses-end.result (omega arith) c.index-witnesses-end.is
    ∙ sym (c.are_one.ensures.0 c.if-not-are_one.false)
    ∙ sym (named xs start c.index-witnesses-start.result c.requires c.index-witnesses-start.is))

pub returns-then-not-are_one-clause-other : goal.returns-then-not-are_one-clause-other
returns-then-not-are_one-clause-other c =
    let xs = c.args.witnesses.now in
    let start = c.args.start in
    let end = c.loop-end.end in
    λ within same. both_ways c.are_one.result c.if-not-are_one.true
    (c.are_one.ensures.1 (sym (named xs start c.index-witnesses-start.result c.requires c.index-witnesses-start.is)
    ∙ sym same ∙ named xs end c.index-witnesses-end.result (omega arith) c.index-witnesses-end.is))

pub returns-clause-one : goal.returns-clause-one
returns-clause-one c = λ place from to. c.loop-end.invariant place from (omega (arith, to))

pub returns-clause-other : goal.returns-clause-other
returns-clause-other c = λ within. absurd (omega (arith, within))
