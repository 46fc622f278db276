-- Whether one of several keys has a name, and a checkpoint that name.
use Rattle.std.proofs.Common.{◌≡◌, ◌↔◌, zero, suc, ◌-◌, ◌≤◌, ◌^◌, Bool, List, [], ◌∷◌, length, map, take, drop, get_or, refl, sym, ap, subst, ◌∙◌, arith}
use Rattle.std.specs.Prelude.{IsTrue, false}
use Rattle.std.proofs.lemmas.List.{take_rest}
use Rattle.tl_hash.specs.Bytes.{Bytes}
use Rattle.tl_note.specs.Key.{Key}
use Rattle.tl_checkpoint.specs.Checkpoint.{Head as Checkpoint}
use Rattle.tl_checkpoint.specs.OpenCheckpoint.{IsSignedCheckpoint}
use Rattle.tl_hash.specs.declared.head.Head.{Head}
use Rattle.tl_ledger.specs.Opening.{IsNamed, IsOfNote}
use Rattle.tl_ledger.specs.OpenFaults.{IsOfOther, StatesTooMany}

never : IsTrue false → ⊥
never told = cc

-- the first of them has another one
not_first : (first : Key) (keys : List Key) (name : Bytes) → (first.name ≡ name → IsTrue false) → IsNamed (first ∷ keys) name → IsNamed keys name
not_first first keys name other (zero, key, less, at, same) = absurd (never (other (ap (λ (k : Key). k.name) at ∙ same)))
not_first first keys name other (suc i, key, less, at, same) = (i, key, omega (arith, less), at, same)

still_named : (first : Key) (keys : List Key) (name : Bytes) → IsNamed keys name → IsNamed (first ∷ keys) name
still_named first keys name (i, key, less, at, same) = (suc i, key, omega (arith, less), at, same)

-- if the first key has another name, the rest decides
pub named_rest : {X : Type 0} (key : X → Key) (xs : List X) (first : X) (name : Bytes) (told : Bool) → 1 ≤ length xs → first ≡ get_or xs 0 first → ((key first).name ≡ name → IsTrue false)
    → (IsTrue told ↔ IsNamed (map key (take (length xs - 1) (drop 1 xs))) name) → IsTrue told ↔ IsNamed (map key xs) name
named_rest key [] first name told some is other rest = absurd (omega (arith, some))
named_rest key (x ∷ xs) first name told some is other rest =
    let same : take (length (x ∷ xs) - 1) (drop 1 (x ∷ xs)) ≡ xs = take_rest (x ∷ xs) 1 in
    let own : IsTrue told ↔ IsNamed (map key xs) name = subst (λ (ys : List _). IsTrue told ↔ IsNamed (map key ys) name) same rest in
    let another : (key x).name ≡ name → IsTrue false = subst (λ y. (key y).name ≡ name → IsTrue false) is other in
    ((λ t. still_named (key x) (map key xs) name (own.0 t)), (λ named. own.1 (not_first (key x) (map key xs) name another named)))

-- ---- a checkpoint that opens

-- its origin is the name of none
pub of_other : (note : Bytes) (keys : List Key) (c : Checkpoint) (name : Bytes) → IsSignedCheckpoint note keys c → name ≡ c.origin → (IsNamed keys name → IsTrue false) → IsOfOther keys note
of_other note keys c name signed same none = (c, signed, (λ named. never (none (subst (IsNamed keys) (sym same) named))))

-- it is of the log, and too large
pub of_too_many : (note : Bytes) (keys : List Key) (c : Checkpoint) (name : Bytes) → IsSignedCheckpoint note keys c → name ≡ c.origin → IsNamed keys name → 2 ^ 32 ≤ c.size → StatesTooMany keys note
of_too_many note keys c name signed same named large = (c.size, record { checkpoint = c; signed = signed; named = subst (IsNamed keys) same named; sized = refl }, large)

-- the note is of a log with the name of one of the keys
pub of_note : (note : Bytes) (keys : List Key) (c : Checkpoint) (name : Bytes) → IsSignedCheckpoint note keys c → name ≡ c.origin → IsNamed keys name
    → (head : Head) → c.size ≡ head.size → c.root ≡ head.root → IsOfNote note keys head
of_note note keys c name signed same named head size root = (c, signed, subst (IsNamed keys) same named, size, root)
