-- Folders among others.
use Rattle.std.proofs.Common.{◌≡◌, ◌+◌, ◌<◌, true, false, inl, inr, ◌⊎◌, List, [], ◌∷◌, ◌++◌, length, map, Some, None, refl, sym, ap, subst, ◌∙◌, arith}
use Rattle.std.specs.Prelude.{Bool, ◌||◌, IsTrue, Option, Contains}
use Rattle.std.specs.List.{list_any}
use Rattle.std.specs.Str.{bytes_eq}
use Rattle.std.specs.Path.{path_parent, path_components}
use Rattle.std.proofs.lemmas.Paths.{path_components_parent}
use Rattle.std.proofs.lemmas.Slice.Eq.{bytes_eq-Decides}
use Rattle.std.proofs.lemmas.List.{map-append, length-append}
use Rattle.tl_archive.proofs.Lists.{none_has, cons_cases, has_head, has_tail}
use Rattle.tl_folder.specs.Step.{Path}
use Rattle.tl_folder.specs.Posix.{spelled}
use Rattle.tl_folder.specs.Settling.{Move, IsAbove, nearest, farther, has_path, AreCovered}

pub has_any : {X : Type 0} (text : X → Path) (folders : List X) (path : Path) → list_any (λ it. bytes_eq (text it) path) folders ≡ has_path (map text folders) path
has_any text [] path = refl
has_any text (first ∷ more) path = ap (λ (b : Bool). bytes_eq (text first) path || b) (has_any text more path)

pub or_true : (b : Bool) → (b || true) ≡ true
or_true true = refl
or_true false = refl

or_more : (b c d : Bool) → (c ≡ true → d ≡ true) → (b || c) ≡ true → (b || d) ≡ true
or_more true c d more is = refl
or_more false c d more is = more is

has_front : (folders more : List Path) (path : Path) → IsTrue (has_path folders path) → IsTrue (has_path (folders ++ more) path)
has_front [] more path has = absurd (cc)
has_front (first ∷ rest) more path has = or_more (bytes_eq first path) (has_path rest path) (has_path (rest ++ more) path) (has_front rest more path) has

has_end : (folders : List Path) (path : Path) → IsTrue (has_path (folders ++ path ∷ []) path)
has_end [] path = ap (λ (b : Bool). b || false) ((bytes_eq-Decides path path).1 refl)
has_end (first ∷ rest) path = ap (λ (b : Bool). bytes_eq first path || b) (has_end rest path) ∙ or_true (bytes_eq first path)

-- one text more after the others
pub has_more : {X : Type 0} (text : X → Path) (folders now : List X) (one : X) (path : Path) → now ≡ folders ++ one ∷ [] → IsTrue (has_path (map text folders) path) → IsTrue (has_path (map text now) path)
has_more {X} text folders now one path is has =
    let all : map text now ≡ map text folders ++ text one ∷ [] = ap (λ (x : List X). map text x) is ∙ map-append text folders (one ∷ []) in
    ap (λ (x : List Path). has_path x path) all ∙ has_front (map text folders) (text one ∷ []) path has

pub has_last : {X : Type 0} (text : X → Path) (folders now : List X) (one : X) (path : Path) → now ≡ folders ++ one ∷ [] → text one ≡ path → IsTrue (has_path (map text now) path)
has_last {X} text folders now one path is same =
    let all : map text now ≡ map text folders ++ text one ∷ [] = ap (λ (x : List X). map text x) is ∙ map-append text folders (one ∷ []) in
    ap (λ (x : List Path). has_path x path) all ∙ ap (λ (x : Path). has_path (map text folders ++ x ∷ []) path) same ∙ has_end (map text folders) path

-- ---- the folders above a path

same_some : (a b : Path) → Some a ≡ Some b → a ≡ b
same_some a b e = cc

never_some : (a : Path) → ◌≡◌ {A = Option Path} None (Some a) → ⊥
never_some a e = absurd (cc)

-- the folder above, and those above it
pub above_cases : {root path folder : Path} (parent : Path) → path_parent path ≡ Some parent → IsAbove root path folder
    → (folder ≡ parent) ⊎ ((length root < length parent) × IsAbove root parent folder)
above_cases parent is (nearest here) = inl (same_some _ _ (sym here ∙ is))
above_cases {root} {path} {folder} parent is (farther {between = between} here longer above) =
    let same : between ≡ parent = same_some _ _ (sym here ∙ is) in
    inr (subst (λ (x : Path). length root < length x) same longer, subst (λ (x : Path). IsAbove root x folder) same above)

pub none_above : {root path folder : Path} → path_parent path ≡ None → IsAbove root path folder → ⊥
none_above none (nearest here) = never_some _ (sym none ∙ here)
none_above none (farther here longer above) = never_some _ (sym none ∙ here)

pub fewer_above : (path folder : Path) → path_parent path ≡ Some folder → length (path_components folder) < length (path_components path)
fewer_above path folder is =
    let all = path_components_parent path folder is in
    let count : length (path_components path) ≡ length (path_components folder) + 1 = ap length all.1 ∙ length-append (path_components folder) (all.0 ∷ []) in
    omega arith

-- ---- the places of files

end_cases : (moves : List Move) (last move : Move) → Contains (moves ++ last ∷ []) move → Contains moves move ⊎ (move ≡ last)
end_cases [] last move has =
    elim (cons_cases last [] move has) as (λ _. Contains [] move ⊎ (move ≡ last)) [ inl same ↦ inr (sym same) | inr none ↦ absurd (none_has move none) ]
end_cases (first ∷ more) last move has =
    elim (cons_cases first (more ++ last ∷ []) move has) as (λ _. Contains (first ∷ more) move ⊎ (move ≡ last)) [
      | inl same ↦ inl (subst (λ (x : Move). Contains (first ∷ more) x) same (has_head first more))
      | inr later ↦ elim (end_cases more last move later) as (λ _. Contains (first ∷ more) move ⊎ (move ≡ last)) [ inl old ↦ inl (has_tail first more move old) | inr new ↦ inr new ]
    ]

pub covered_none : (root : Path) (folders : List Path) → AreCovered root folders []
covered_none root folders move folder has above = absurd (none_has move has)

pub covered_more : (root : Path) (folders now : List Path) (moves : List Move) → ((it : Path) → IsTrue (has_path folders it) → IsTrue (has_path now it)) → AreCovered root folders moves → AreCovered root now moves
covered_more root folders now moves kept covered move folder has above = kept (spelled folder) (covered move folder has above)

pub covered_last : (root : Path) (folders : List Path) (moves : List Move) (last : Move)
    → ((folder : Path) → IsAbove root last.1 folder → IsTrue (has_path folders (spelled folder))) → AreCovered root folders moves → AreCovered root folders (moves ++ last ∷ [])
covered_last root folders moves last new covered move folder has above =
    elim (end_cases moves last move has) as (λ _. IsTrue (has_path folders (spelled folder))) [
      | inl old ↦ covered move folder old above
      | inr same ↦ new folder (subst (λ (x : Move). IsAbove root x.1 folder) same above)
    ]

-- one file more is staged, and the folders above its place are noted
pub staged_covered : {X Y : Type 0} (g : X → Move) (h : Y → Path) (old mid now : List X) (one : X) (folders more : List Y) (root text place : Path)
    → mid ≡ old → now ≡ mid ++ one ∷ [] → text ≡ root → place ≡ (g one).1
    → ((it : Path) → IsTrue (has_path (map h folders) it) → IsTrue (has_path (map h more) it))
    → ((folder : Path) → IsAbove text place folder → IsTrue (has_path (map h more) (spelled folder)))
    → AreCovered root (map h folders) (map g old) → AreCovered root (map h more) (map g now)
staged_covered {X} g h old mid now one folders more root text place same is spelt at kept noted covered =
    let all : map g now ≡ map g old ++ g one ∷ [] = ap (λ (x : List X). map g x) (is ∙ ap (λ (x : List X). x ++ one ∷ []) same) ∙ map-append g old (one ∷ []) in
    let here : (folder : Path) → IsAbove root (g one).1 folder → IsTrue (has_path (map h more) (spelled folder)) =
    subst (λ (x : Path). (folder : Path) → IsAbove root x folder → IsTrue (has_path (map h more) (spelled folder))) at
    (subst (λ (x : Path). (folder : Path) → IsAbove x place folder → IsTrue (has_path (map h more) (spelled folder))) spelt noted) in
    subst (λ (x : List Move). AreCovered root (map h more) x) (sym all) (covered_last root (map h more) (map g old) (g one) here (covered_more root (map h folders) (map h more) (map g old) kept covered))
