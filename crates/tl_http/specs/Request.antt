-- A GET request (RFC 9112, section 3; RFC 9110, sections 7.2 and 9.3.1).
use Rattle.std.specs.Prelude.{◌≡◌, ◌<◌, ◌≤◌, ◌++◌, All, codes, length}
use Rattle.tl_hash.specs.Bytes.{Bytes}

-- the text is visible ASCII characters, at least one, and no other byte
pub record IsVisible (text : Bytes) : Type 0 where
  pub some : 0 < length text
  pub visible : All (λ b. (33 ≤ b) × (b ≤ 126)) text

-- what can be sent: host and target are visible, and the target begins with a slash
pub record IsAskable (host target : Bytes) : Type 0 where
  pub host_visible : IsVisible host
  pub target_visible : IsVisible target
  pub path : Bytes
  pub rooted : target ≡ codes "/" ++ path

-- the whole request as it is sent; it asks to close the connection
unfoldable pub request_text : Bytes → Bytes → Bytes
request_text host target =
    codes "GET " ++ target ++ codes " HTTP/1.1\r\nHost: " ++ host ++ codes "\r\nConnection: close\r\n\r\n"
