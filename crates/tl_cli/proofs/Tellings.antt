-- Lines of faults with the place that the options name.
use Rattle.std.proofs.Common.{◌≡◌, ◌++◌, ◌∙◌, ap, subst, Result, Ok, Err, IfOk, Option, Some}
use Rattle.std.specs.Prelude.{codes}
use Rattle.tl_hash.specs.Bytes.{Bytes}
use Rattle.tl_text.specs.Text.{line}
use Rattle.tl_tile.specs.declared.resource.Resource.{Resource}
use Rattle.tl_run.specs.declared.place.Place.{Place}
use Rattle.tl_cli.specs.Told.{IsLineAt, IsWhere, resource_of}

-- a line that was made of the place under what the options name
pub line_under : {X E : Type 0} (f : X → Bytes) (r : Result X E) (found : Option Bytes) (base : Bytes) (place : Place) (o : Option Resource) (words said path : Bytes) → Some base ≡ found
    → o ≡ resource_of place → IsWhere base o path → said ≡ path → IfOk r (λ x. f x ≡ line (codes "tlog: " ++ said ++ codes ": " ++ words))
    → IfOk r (λ x. IsLineAt found place words (f x))
line_under f (Ok x) found base place o words said path named same there spelled told =
    subst (λ (b : Option Bytes). IsLineAt b place words (f x)) named (
      path,
      subst (λ (r : Option Resource). IsWhere base r path) same there,
      told ∙ ap (λ (p : Bytes). line (codes "tlog: " ++ p ++ codes ": " ++ words)) spelled,
    )
line_under f (Err e) found base place o words said path named same there spelled told = tt
