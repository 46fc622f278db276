-- Addresses over HTTP (RFC 3986, section 3): `http://HOST[:PORT][/PREFIX]`.
use Rattle.std.specs.Prelude.{◌≡◌, ◌≢◌, ℕ, ◌^◌, ◌<◌, ◌≤◌, ◌⊎◌, [], ◌∷◌, ◌++◌, length, All, codes}
use Rattle.std.specs.Char.{IsAsciiHexdigit}
use Rattle.tl_hash.specs.Bytes.{Bytes}
use Rattle.tl_text.specs.Text.{number_text}

-- visible ASCII, but none of `?`, `#` and `@`: an address has no query, fragment or user here (sections 3.2.1, 3.4,
-- 3.5)
abbrev pub IsUrlByte : ℕ → Type 0
IsUrlByte b = (33 ≤ b) × (b ≤ 126) × (b ≢ 63) × (b ≢ 35) × (b ≢ 64)

-- none of `/`, `:`, `[` and `]`
abbrev pub IsNameByte : ℕ → Type 0
IsNameByte b = (b ≢ 47) × (b ≢ 58) × (b ≢ 91) × (b ≢ 93)

-- the name or IPv4 address of a host (section 3.2.2), which is not empty
pub record IsName (host : Bytes) : Type 0 where
  pub some : 0 < length host
  pub plain : All IsNameByte host

-- a hexadecimal digit, a colon or a dot
abbrev pub IsAddressByte : ℕ → Type 0
IsAddressByte b = IsAsciiHexdigit b ⊎ ((b ≡ 58) ⊎ (b ≡ 46))

-- one or more characters of an IPv6 address (section 3.2.2)
pub record IsAddress (host : Bytes) : Type 0 where
  pub some : 0 < length host
  pub plain : All IsAddressByte host

-- what follows a host: nothing, for port 80, or a colon and the port in decimal without leading zeros (section 3.2.3)
abbrev pub IsPort : Bytes → ℕ → Type 0
IsPort text port = ((text ≡ []) × (port ≡ 80)) ⊎ ((text ≡ 58 ∷ number_text port) × (port < 2 ^ 16))

-- the authority is a name or an IPv4 address, and a port
pub record IsNamed (authority host : Bytes) (port : ℕ) : Type 0 where
  pub rest : Bytes
  pub joined : authority ≡ host ++ rest
  pub host_is : IsName host
  pub port_is : IsPort rest port

-- the authority is an IPv6 address in brackets, and a port; the host is what is between the brackets
pub record IsBracketed (authority host : Bytes) (port : ℕ) : Type 0 where
  pub rest : Bytes
  pub joined : authority ≡ 91 ∷ (host ++ 93 ∷ rest)
  pub host_is : IsAddress host
  pub port_is : IsPort rest port

-- the authority has this host and port
abbrev pub IsAuthority : Bytes → Bytes → ℕ → Type 0
IsAuthority authority host port = IsNamed authority host port ⊎ IsBracketed authority host port

-- empty, or a slash and more (section 3.3)
abbrev pub IsPrefix : Bytes → Type 0
IsPrefix prefix = (prefix ≡ []) ⊎ ((more : Bytes) × (prefix ≡ 47 ∷ more))

-- the text is an address with these parts
pub record IsUrl (text authority host : Bytes) (port : ℕ) (prefix : Bytes) : Type 0 where
  pub joined : text ≡ codes "http://" ++ (authority ++ prefix)
  pub plain : All IsUrlByte text
  pub authority_is : IsAuthority authority host port
  pub prefix_is : IsPrefix prefix

-- the text is no address
abbrev pub IsNoUrl : Bytes → Type 0
IsNoUrl text = (authority host : Bytes) (port : ℕ) (prefix : Bytes) → ¬ (IsUrl text authority host port prefix)
