-- The steps of finding how a body is framed.
use Rattle.std.specs.Prelude.{◌≡◌, ◌⊎◌, ℕ, List, Option, Result, Ok, Err}
use Rattle.tl_hash.specs.Bytes.{Bytes}
use Rattle.tl_http.specs.Fields.{AnnouncesLength, HasFraming, IsSent}
use Rattle.tl_http.specs.declared.fault.HttpFault.{HttpFault}
use Rattle.tl_http.specs.declared.fault.HttpFault.TheVariants.{BadLength, Encoded}
use Rattle.tl_http.specs.declared.framing.Framing.{Framing}

-- what the values of Content-Length announce, or that they announce nothing
abbrev pub SaysLength : List Bytes → Result (Option ℕ) HttpFault → Type 0
SaysLength values (Ok n) = AnnouncesLength values n
SaysLength values (Err fault) = (fault ≡ BadLength) × ((n : Option ℕ) → ¬ (AnnouncesLength values n))

-- how the fields of a head with this minor version frame its body, or why they don't
abbrev pub FramesBody : ℕ → List (Bytes × Bytes) → Result Framing HttpFault → Type 0
FramesBody minor fields (Ok framing) = IsSent minor fields × HasFraming fields framing
FramesBody minor fields (Err fault) =
    ((fault ≡ Encoded) × ¬ (IsSent minor fields))
    ⊎ ((fault ≡ BadLength) × IsSent minor fields × ((framing : Framing) → ¬ (HasFraming fields framing)))
