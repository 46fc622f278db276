-- From one fact of a result to another.
use Rattle.std.proofs.Common.{◌≡◌, Result, Ok, Err, OnOk, OnErr, false}
use Rattle.std.specs.Prelude.{is_ok}

pub on_ok : {A E P Q : Type 0} (r : Result A E) → (P → Q) → OnOk r P → OnOk r Q
on_ok (Ok a) f p = f p
on_ok (Err e) f p = p

pub on_err : {A E P Q : Type 0} (r : Result A E) → (P → Q) → OnErr r P → OnErr r Q
on_err (Ok a) f p = p
on_err (Err e) f p = f p

pub unless_ok : {A E P : Type 0} (r : Result A E) → is_ok r ≡ false → OnErr r P → P
unless_ok (Ok a) off p = absurd cc
unless_ok (Err e) off p = p

pub always_err : {A E P : Type 0} (r : Result A E) → P → OnErr r P
always_err (Ok a) p = tt
always_err (Err e) p = p
