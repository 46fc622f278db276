-- Bytes that were put under their resources, one after another.
use Rattle.std.proofs.Common.{◌≡◌, ℕ, true, false, inl, inr, ◌⊎◌, List, [], ◌∷◌, Some, refl, sym, ap, subst, ◌∙◌}
use Rattle.std.specs.Prelude.{Bool, Contains, ◌==◌, if◌then◌else◌}
use Rattle.std.proofs.lemmas.Bool.{eqb-true, eq-eqb}
use Rattle.tl_tile.specs.declared.resource.Tile.{Tile}
use Rattle.tl_tile.specs.declared.resource.Resource.{Resource}
use Rattle.tl_tile.specs.declared.resource.Resource.TheVariants as resource
use Rattle.tl_archive.specs.Shelves.{Item, Held, Between, HasPut}
use Rattle.tl_archive.proofs.Lists.{none_has, has_head, has_tail, cons_cases}
use Rattle.tl_folder.specs.Folders.{is_same, put}

-- ---- resources that are the same

pub two : (b c : Bool) → b ≡ true → c ≡ true → (if b then c else false) ≡ true
two true c is also = also
two false c is also = is

pub firsts : (b c : Bool) → (if b then c else false) ≡ true → b ≡ true
firsts true c is = refl
firsts false c is = is

pub seconds : (b c : Bool) → (if b then c else false) ≡ true → c ≡ true
seconds true c is = is
seconds false c is = absurd (cc)

pub same_self : (r : Resource) → is_same r r ≡ true
same_self (resource.Tile t) = two (t.level == t.level) _ (eq-eqb t.level t.level refl) (two (t.index == t.index) _ (eq-eqb t.index t.index refl) (eq-eqb t.width t.width refl))
same_self (resource.Entries i w) = two (i == i) _ (eq-eqb i i refl) (eq-eqb w w refl)
same_self resource.Checkpoint = refl

pub no : {X : Type 0} → ◌≡◌ {A = Bool} false true → X
no e = absurd (cc)

tiles : (a b : Tile) → a.level ≡ b.level → a.index ≡ b.index → a.width ≡ b.width → a ≡ b
tiles a b level index width =
    let tile : ℕ → ℕ → ℕ → Tile = λ l i w. record { level = l; index = i; width = w } in
    ap (λ (x : ℕ). tile x a.index a.width) level ∙ ap (λ (x : ℕ). tile b.level x a.width) index ∙ ap (λ (x : ℕ). tile b.level b.index x) width

pub same_is : (a b : Resource) → is_same a b ≡ true → a ≡ b
same_is (resource.Tile a) (resource.Tile b) e =
    let rest = seconds (a.level == b.level) _ e in
    ap resource.Tile (tiles a b (eqb-true _ _ (firsts (a.level == b.level) _ e)) (eqb-true _ _ (firsts (a.index == b.index) _ rest)) (eqb-true _ _ (seconds (a.index == b.index) _ rest)))
same_is (resource.Tile a) (resource.Entries index width) e = no e
same_is (resource.Tile a) resource.Checkpoint e = no e
same_is (resource.Entries i w) (resource.Tile b) e = no e
same_is (resource.Entries i w) (resource.Entries index width) e =
    ap (λ (x : ℕ). resource.Entries x w) (eqb-true i index (firsts (i == index) _ e)) ∙ ap (λ (x : ℕ). resource.Entries index x) (eqb-true w width (seconds (i == index) _ e))
same_is (resource.Entries i w) resource.Checkpoint e = no e
same_is resource.Checkpoint (resource.Tile b) e = no e
same_is resource.Checkpoint (resource.Entries index width) e = no e
same_is resource.Checkpoint resource.Checkpoint e = refl

-- ---- what is there

-- the resource has these bytes if it is the item's, else what it had
replaced : (b : Bool) (before : Held) (item : Item) (r : Resource) → (b ≡ true → r ≡ item.0)
    → ((if b then Some item.1 else before r) ≡ before r) ⊎ ((bytes : List ℕ) × ((if b then Some item.1 else before r) ≡ Some bytes) × (◌≡◌ {A = Item} item (r, bytes)))
replaced true before item r is = inr (item.1, refl, ap (λ (x : Resource). (x, item.1)) (sym (is refl)))
replaced false before item r is = inl refl

pub put_between : (items : List Item) (held : Held) → Between held items (put items held)
put_between [] held r = inl refl
put_between (item ∷ more) held r =
    let now : Held = λ x. if is_same x item.0 then Some item.1 else held x in
    elim (put_between more now r) as (λ _. (put more now r ≡ held r) ⊎ ((bytes : List ℕ) × (put more now r ≡ Some bytes) × Contains (item ∷ more) (r, bytes))) [
      | inl same ↦
          elim (replaced (is_same r item.0) held item r (same_is r item.0)) as (λ _. (put more now r ≡ held r) ⊎ ((bytes : List ℕ) × (put more now r ≡ Some bytes) × Contains (item ∷ more) (r, bytes))) [
            | inl old ↦ inl (same ∙ old)
            | inr own ↦ inr (own.0, same ∙ own.1, subst (λ (x : Item). Contains (item ∷ more) x) own.2 (has_head item more))
          ]
      | inr own ↦ inr (own.0, own.1, has_tail item more (r, own.0) own.2)
    ]

chosen : (b : Bool) (bytes : List ℕ) (before : Held) (r : Resource) → b ≡ true → (if b then Some bytes else before r) ≡ Some bytes
chosen true bytes before r is = refl
chosen false bytes before r is = no is

pub put_there : (items : List Item) (held : Held) → HasPut items (put items held)
put_there [] held r bytes has = absurd (none_has (r, bytes) has)
put_there (item ∷ more) held r bytes has =
    let now : Held = λ x. if is_same x item.0 then Some item.1 else held x in
    elim (cons_cases item more (r, bytes) has) as (λ _. (own : List ℕ) × (put more now r ≡ Some own) × Contains (item ∷ more) (r, own)) [
      | inl first ↦
          elim (put_between more now r) as (λ _. (own : List ℕ) × (put more now r ≡ Some own) × Contains (item ∷ more) (r, own)) [
            | inl same ↦
                let is : is_same r item.0 ≡ true = subst (λ (x : Resource). is_same r x ≡ true) (sym (ap (λ (p : Item). p.0) first)) (same_self r) in
                let at : item ≡ (r, item.1) = ap (λ (x : Resource). (x, item.1)) (ap (λ (p : Item). p.0) first) in
                (item.1, same ∙ chosen (is_same r item.0) item.1 held r is, subst (λ (x : Item). Contains (item ∷ more) x) at (has_head item more))
            | inr own ↦ (own.0, own.1, has_tail item more (r, own.0) own.2)
          ]
      | inr later ↦
          let own = put_there more now r bytes later in
          (own.0, own.1, has_tail item more (r, own.0) own.2)
    ]
