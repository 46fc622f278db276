-- Parsing an authority.
use Rattle.std.specs.Prelude.{◌≡◌, ◌≢◌, ℕ, ◌⊎◌, [], ◌∷◌, All}
use Rattle.tl_hash.specs.Bytes.{Bytes}
use Rattle.tl_source.specs.Url.{IsPort, IsNamed, IsBracketed, IsAuthority}

-- the text has no such byte
abbrev pub Lacks : ℕ → Bytes → Type 0
Lacks mark text = All (λ b. b ≢ mark) text

-- the text is empty, or begins with this byte
abbrev pub BeginsWith : ℕ → Bytes → Type 0
BeginsWith mark text = (text ≡ []) ⊎ ((more : Bytes) × (text ≡ mark ∷ more))

-- the text gives no port
abbrev pub HasNoPort : Bytes → Type 0
HasNoPort text = (port : ℕ) → ¬ (IsPort text port)

-- the text is no authority with a name
abbrev pub IsNotNamed : Bytes → Type 0
IsNotNamed text = (host : Bytes) (port : ℕ) → ¬ (IsNamed text host port)

-- a bracket and the text are no authority with an IPv6 address
abbrev pub IsNotBracketed : Bytes → Type 0
IsNotBracketed text = (host : Bytes) (port : ℕ) → ¬ (IsBracketed (91 ∷ text) host port)

-- the text is no authority
abbrev pub IsNoAuthority : Bytes → Type 0
IsNoAuthority text = (host : Bytes) (port : ℕ) → ¬ (IsAuthority text host port)
