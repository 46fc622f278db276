-- The witnesses that cosigned a checkpoint (C2SP tlog-cosignature).
use Rattle.std.specs.Prelude.{◌≡◌, ◌≢◌, ℕ, ◌<◌, ◌≤◌, List, Some, slice_get}
use Rattle.std.specs.List.{All, AllPairs, Any}
use Rattle.tl_hash.specs.Bytes.{Bytes}
use Rattle.tl_note.specs.Key.{Key}
use Rattle.tl_note.specs.Note.{Signature}
use Rattle.tl_checkpoint.specs.declared.quorum.Cosigned.{Cosigned}
use Rattle.tl_checkpoint.specs.Cosignature.{IsCosignature}

-- the names of the witnesses are all different
abbrev pub AreApart : List Key → Type 0
AreApart witnesses = AllPairs (λ a b. a.name ≢ b.name) witnesses

-- the line is a cosignature of the text by the witness at this index, at this time
abbrev pub IsOfSome : Bytes → List Key → Signature → ℕ → ℕ → Type 0
IsOfSome text witnesses line place time = (key : Key) × (slice_get witnesses place ≡ Some key) × IsCosignature text key line time

-- line `c.line` is a cosignature by witness `c.witness`, at the time `c.time`
abbrev pub IsBy : Bytes → List Key → List Signature → Cosigned → Type 0
IsBy text witnesses lines c = (line : Signature) × (slice_get lines c.line ≡ Some line) × IsOfSome text witnesses line c.witness c.time

-- the first cosignature by each witness, in the order of the lines
pub record AreFirst (text : Bytes) (witnesses : List Key) (lines : List Signature) (found : List Cosigned) : Type 0 where
  pub each : All (IsBy text witnesses lines) found
  pub rising : AllPairs (λ a b. a.line < b.line) found
  pub apart : AllPairs (λ a b. a.witness ≢ b.witness) found
  pub first : All (λ c. (d : Cosigned) → IsBy text witnesses lines d → d.witness ≡ c.witness → c.line ≤ d.line) found
  pub all : (c : Cosigned) → IsBy text witnesses lines c → Any (λ d. d.witness ≡ c.witness) found
