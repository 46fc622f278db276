-- A list that is moved into another, one element after the other.
use Rattle.std.proofs.Common.{◌≡◌, ℕ, ◌+◌, ◌<◌, get_or, take, List, [], ◌∷◌, ◌++◌, refl, sym, ap, subst, ◌∙◌, map, length, append_assoc, append-nil, arith, All}
use Rattle.std.proofs.lemmas.List.Elements.{All-push}
use Rattle.std.proofs.lemmas.List.{length-map, map-append, map_more}
use Rattle.tl_witness.proofs.ListLaws.{some_there}

-- what was moved shows as it did
pub moved : {E G Y : Type 0} (f : E → Y) (h : G → Y) (done : List G) (one : G) (first : E) (left now : List E) (all : List Y)
    → h one ≡ f first → left ≡ first ∷ now → map h done ++ map f left ≡ all → map h (done ++ one ∷ []) ++ map f now ≡ all
moved f h done one first left now all same next so_far =
    ap (λ (t : List _). t ++ map f now) (map-append h done (one ∷ []))
    ∙ append_assoc (map h done) (h one ∷ []) (map f now)
    ∙ ap (λ (x : _). map h done ++ x ∷ map f now) same
    ∙ ap (λ (t : List _). map h done ++ map f t) (sym next)
    ∙ so_far

-- and all of it, once nothing is left
pub moved_all : {E G Y : Type 0} (f : E → Y) (h : G → Y) (done : List G) (left : List E) (all : List Y)
    → length left ≡ 0 → map h done ++ map f left ≡ all → map h done ≡ all
moved_all f h done [] all none so_far = sym (append-nil (map h done)) ∙ so_far
moved_all f h done (x ∷ left) all none so_far = absurd (omega arith)

-- what shows of what shows
pub shown_twice : {E W Y : Type 0} (view : E → W) (g : W → Y) (f : E → Y) (xs : List E) → ((x : E) → f x ≡ g (view x)) → map f xs ≡ map g (map view xs)
shown_twice view g f [] same = refl
shown_twice view g f (x ∷ xs) same = ap (λ (t : _). t ∷ map f xs) (same x) ∙ ap (λ (ts : List _). g (view x) ∷ ts) (shown_twice view g f xs same)

-- what holds of all that was moved, and of the next
pub moved_each : {G Y : Type 0} (P : Y → Type 0) (h : G → Y) (done : List G) (one : G) → All P (map h done) → P (h one) → All P (map h (done ++ one ∷ []))
moved_each P h done one each is = subst (All P) (sym (map-append h done (one ∷ []))) (All-push P (map h done) (h one) each is)

-- copies that show the same as what was copied, and one more
pub copied_more : {E G Y : Type 0} (f : E → Y) (h : G → Y) (xs : List E) (i : ℕ) (x : E) (copies now : List G) (copy : G)
    → i < length xs → x ≡ get_or xs i x → map h copies ≡ map f (take i xs) → h copy ≡ f x → now ≡ copies ++ copy ∷ [] → map h now ≡ map f (take (i + 1) xs)
copied_more f h xs i x copies now copy lt is so_far same pushed =
    ap (map h) pushed
    ∙ (map-append h copies (copy ∷ [])
    ∙ (ap (λ (t : List _). t ++ h copy ∷ []) so_far
    ∙ (ap (λ (y : _). map f (take i xs) ++ y ∷ []) (same ∙ ap f is) ∙ sym (map_more f xs i x lt))))

-- if one of them is left, there is one
pub some_left : {E Y : Type 0} (f : E → Y) (done left now : List E) (one : E) (all : List E) → left ≡ one ∷ now → map f done ++ map f left ≡ map f all → 0 < length all
some_left f done left now one all next so_far =
    let whole : map f done ++ f one ∷ map f now ≡ map f all = ap (λ (t : List _). map f done ++ map f t) (sym next) ∙ so_far in
    let some : 0 < length (map f all) = some_there (map f done) (f one) (map f now) (map f all) whole in
    omega (arith, some, length-map all f)
