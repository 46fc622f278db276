-- Calls that take entries in, while they are made one after another.
use Rattle.std.proofs.Common.{◌≡◌, ℕ, suc, ◌+◌, ◌-◌, ◌^◌, ◌<◌, ◌≤◌, inl, inr, List, [], ◌∷◌, length, ap, arith, refl, subst, sym}
use Rattle.std.specs.Prelude.{Err, Ok, Result, min}
use Rattle.std.specs.List.{range_with_len}
use Rattle.tl_run.specs.declared.fault.RunFault.{RunFault}
use Rattle.tl_sequencer.specs.Log.{Log}
use Rattle.tl_serve.specs.Inner.Rounds.{AllInTurn, InTurn}

-- this many more
abbrev pub plus : ℕ → Result ℕ RunFault → Result ℕ RunFault
plus n (Ok m) = Ok (n + m)
plus n (Err fault) = Err fault

-- this much was counted, and whatever comes of the calls that are left comes, with it, of all
pub record IsOnward {A X : Type 0} (Does : X → Log A → Log A → Result ℕ RunFault → Type 0) (all left : List X) (a b : Log A) (count : ℕ) : Type 0 where
  pub sum : ℕ
  pub counted : count ≡ min sum (2 ^ 64 - 1)
  pub onward : (c : Log A) (r : Result ℕ RunFault) → InTurn Does left b c r → InTurn Does all a c (plus sum r)

none_before : {A X : Type 0} (Does : X → Log A → Log A → Result ℕ RunFault → Type 0) (all : List X) (a c : Log A) (r : Result ℕ RunFault) → InTurn Does all a c r → InTurn Does all a c (plus 0 r)
none_before Does all a c (Ok m) done = let same : m ≡ 0 + m = omega arith in subst (λ n. InTurn Does all a c (Ok n)) same done
none_before Does all a c (Err fault) done = done

pub onward_first : {A X : Type 0} (Does : X → Log A → Log A → Result ℕ RunFault → Type 0) (all left : List X) (a : Log A) → left ≡ all → IsOnward Does all left a a 0
onward_first Does all left a same = record {
  sum = 0;
  counted = refl;
  onward = λ c r done. none_before Does all a c r (subst (λ xs. InTurn Does xs a c r) same done);
}

one_before : {A X : Type 0} (Does : X → Log A → Log A → Result ℕ RunFault → Type 0) (all rest : List X) (x : X) (a b c d : Log A) (sum n : ℕ) (r : Result ℕ RunFault)
    → ((r : Result ℕ RunFault) → InTurn Does (x ∷ rest) b d r → InTurn Does all a d (plus sum r)) → Does x b c (Ok n) → InTurn Does rest c d r
    → InTurn Does all a d (plus (sum + n) r)
one_before Does all rest x a b c d sum n (Ok m) onward did done =
    let same : sum + (n + m) ≡ sum + n + m = omega arith in
    subst (λ k. InTurn Does all a d (Ok k)) same (onward (Ok (n + m)) (c, n, m, did, done, refl))
one_before Does all rest x a b c d sum n (Err fault) onward did done = onward (Err fault) (inr (c, n, did, done))

pub onward_next : {A X : Type 0} (Does : X → Log A → Log A → Result ℕ RunFault → Type 0) (all left rest : List X) (x : X) (a b c : Log A) (count n next : ℕ)
    → IsOnward Does all left a b count → left ≡ x ∷ rest → Does x b c (Ok n) → next ≡ min (count + n) (2 ^ 64 - 1) → IsOnward Does all rest a c next
onward_next Does all left rest x a b c count n next so_far is did counted = record {
  sum = so_far.sum + n;
  counted = omega (arith, so_far.counted, counted);
  onward = λ d r done. one_before Does all rest x a b c d so_far.sum n r (λ r done. so_far.onward d r (subst (λ xs. InTurn Does xs b d r) (sym is) done)) did done;
}

pub onward_fails : {A X : Type 0} (Does : X → Log A → Log A → Result ℕ RunFault → Type 0) (all left rest : List X) (x : X) (a b c : Log A) (count : ℕ) (fault : RunFault)
    → IsOnward Does all left a b count → left ≡ x ∷ rest → Does x b c (Err fault) → AllInTurn Does all a c (Err fault)
onward_fails Does all left rest x a b c count fault so_far is did =
    so_far.onward c (Err fault) (subst (λ xs. InTurn Does xs b c (Err fault)) (sym is) (inl did))

pub onward_ends : {A X : Type 0} (Does : X → Log A → Log A → Result ℕ RunFault → Type 0) (all left : List X) (a b : Log A) (count : ℕ)
    → IsOnward Does all left a b count → left ≡ [] → AllInTurn Does all a b (Ok count)
onward_ends Does all left a b count so_far is =
    let same : so_far.sum + 0 ≡ so_far.sum = omega arith in (
      so_far.sum,
      subst (λ n. InTurn Does all a b (Ok n)) same (so_far.onward b (Ok 0) (subst (λ xs. InTurn Does xs b b (Ok 0)) (sym is) (refl, refl))),
      so_far.counted,
    )

-- ---- the ends and the lanes that are left

pub none_left : {X : Type 0} (xs : List X) (n : ℕ) → n ≡ length xs → n ≡ 0 → xs ≡ []
none_left [] n counted none = refl
none_left (x ∷ xs) n counted none = absurd (omega (arith, counted, none))

pub lanes_first : (lanes : ℕ) → range_with_len 0 (lanes - 0) ≡ range_with_len 0 lanes
lanes_first lanes = let same : lanes - 0 ≡ lanes = omega arith in ap (range_with_len 0) same

pub lanes_next : (lane lanes : ℕ) → lane < lanes → range_with_len lane (lanes - lane) ≡ lane ∷ range_with_len (lane + 1) (lanes - (lane + 1))
lanes_next lane lanes less = let same : lanes - lane ≡ suc (lanes - (lane + 1)) = omega (arith, less) in ap (range_with_len lane) same

pub lanes_end : (lane lanes : ℕ) → lanes ≤ lane → range_with_len lane (lanes - lane) ≡ []
lanes_end lane lanes all = let same : lanes - lane ≡ 0 = omega (arith, all) in ap (range_with_len lane) same
