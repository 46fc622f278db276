-- What was written before a call and in it.
use Rattle.std.proofs.Common.{◌≡◌, ◌++◌, take, refl, sym, ap, subst, ◌∙◌, inl, inr, Bool, Option, Some, None, Result, Ok, Err, OnErr}
use Rattle.std.proofs.KnownBytes.{Keeps-trans}
use Rattle.std.specs.Io.KnownBytes.{Appends, Keeps}
use Rattle.tl_hash.specs.Bytes.{Bytes}
use Rattle.tl_device.specs.Device.{Passage, IsUnwritten, WrotePart, WroteWhole}
use Rattle.tl_fetch.specs.Printed.{PrintedSome, PrintedWhole}

-- both together
abbrev pub joined : Passage → Passage → Passage
joined o p = record { old = o.old; new = p.new; had_failed = o.had_failed; has_failed = p.has_failed }

-- one passage goes on from the end of another
pub record GoesOn (o p : Passage) : Type 0 where
  pub bytes : o.new ≡ p.old
  pub failed : o.has_failed ≡ p.had_failed

pub keeps_appends : (a b c : Option Bytes) (bs : Bytes) → Keeps a b → Appends b c bs → Appends a c bs
keeps_appends None b c bs k p = tt
keeps_appends (Some x) None c bs k p = absurd k
keeps_appends (Some x) (Some y) None bs k p = absurd p
keeps_appends (Some x) (Some y) (Some z) bs k p = p ∙ ap (λ (l : Bytes). l ++ bs) k

-- after nothing was written
pub silent_whole : (Is : Bytes → Type 0) (o p : Passage) → GoesOn o p → IsUnwritten o → PrintedWhole Is p → PrintedWhole Is (joined o p)
silent_whole Is o p on none (t, is, wrote) = (
  t,
  is,
  record {
    appended = keeps_appends o.old o.new p.new t none.0 (subst (λ (k : Option Bytes). Appends k p.new t) (sym on.bytes) wrote.appended);
    steady = wrote.steady ∙ sym on.failed ∙ none.1;
  },
)

pub silent_some : (Is : Bytes → Type 0) (o p : Passage) → GoesOn o p → IsUnwritten o → PrintedSome Is p → PrintedSome Is (joined o p)
silent_some Is o p on none (inl still) =
    inl (Keeps-trans o.old o.new p.new none.0 (subst (λ (k : Option Bytes). Keeps k p.new) (sym on.bytes) still.0), still.1 ∙ sym on.failed ∙ none.1)
silent_some Is o p on none (inr (t, is, count, part)) =
    inr (t, is, count, keeps_appends o.old o.new p.new (take count t) none.0 (subst (λ (k : Option Bytes). Appends k p.new (take count t)) (sym on.bytes) part))

pub silent_both : (o p : Passage) → GoesOn o p → IsUnwritten o → IsUnwritten p → IsUnwritten (joined o p)
silent_both o p on none still =
    (Keeps-trans o.old o.new p.new none.0 (subst (λ (k : Option Bytes). Keeps k p.new) (sym on.bytes) still.0), still.1 ∙ sym on.failed ∙ none.1)

-- a text that is one is another
pub some_map : (Is Js : Bytes → Type 0) (o : Passage) → ((t : Bytes) → Is t → Js t) → PrintedSome Is o → PrintedSome Js o
some_map Is Js o f (inl none) = inl none
some_map Is Js o f (inr (t, is, count, part)) = inr (t, f t is, count, part)

-- nothing was written
keeps_same : (b : Option Bytes) → Keeps b b
keeps_same None = tt
keeps_same (Some bytes) = refl

pub still : (b : Option Bytes) (f : Bool) → IsUnwritten (record { old = b; new = b; had_failed = f; has_failed = f })
still b f = (keeps_same b, refl)

-- what holds whatever the fault
pub on_err : {X E P : Type 0} (r : Result X E) → P → OnErr r P
on_err (Ok done) p = tt
on_err (Err fault) p = p

-- a text that was written whole, or in part
pub whole_of : (Is : Bytes → Type 0) (text read : Bytes) (o : Passage) → Is text → read ≡ text → WroteWhole o read → PrintedWhole Is o
whole_of Is text read o is same whole = (text, is, subst (λ (t : Bytes). WroteWhole o t) same whole)

pub part_of : (Is : Bytes → Type 0) (text read : Bytes) (o : Passage) → Is text → read ≡ text → WrotePart o read → PrintedSome Is o
part_of Is text read o is same part = inr (text, is, part.count, subst (λ (t : Bytes). Appends o.old o.new (take part.count t)) same part.appended)
