-- A request with the caller's own fields (RFC 9110, sections 5.5, 5.6.2 and 9.3; RFC 9112, sections 2.1, 3 and 6).
use Rattle.std.specs.Prelude.{◌≡◌, ◌≢◌, ◌⊎◌, ◌++◌, ◌==◌, ◌&&◌, Bool, true, false, List, [], ◌∷◌, IsTrue, bytes_eq, codes, decimal, length, map, nat_le, if◌then◌else◌}
use Rattle.std.specs.List.{AllByRecursion, flat_map}
use Rattle.httparse.specs.Grammar.{is_ows, is_token}
use Rattle.tl_hash.specs.Bytes.{Bytes}
use Rattle.tl_http.specs.Fields.{IsSameWord}
use Rattle.tl_http.specs.Request.{IsVisible}
use Rattle.tl_http.specs.declared.message.FieldLine.{FieldLine}
use Rattle.tl_http.specs.declared.message.Message as declared

-- a request; a field is its name and its value
pub record Sent : Type 0 where
  pub method : Bytes
  pub target : Bytes
  pub fields : List (Bytes × Bytes)
  pub body : Bytes

-- a field's name and its value
abbrev pub field_of : FieldLine → Bytes × Bytes
field_of f = (f.name.now, f.value.now)

-- the request of a call
abbrev pub sent : declared.Message → Sent
sent m = record { method = m.method.now; target = m.target.now; fields = map field_of m.fields.now; body = m.body.now }

-- whether these bytes can go on a value: visible ASCII characters, with single spaces or tabs between them, and a
-- visible one last. `visible` is whether the byte before them is visible
abbrev pub is_value_after : Bool → Bytes → Bool
is_value_after visible [] = visible
is_value_after visible (b ∷ more) =
    if is_ows b then (if visible then is_value_after false more else false)
    else (if nat_le 33 b then (if nat_le b 126 then is_value_after true more else false) else false)

-- whether a field may have this value: an empty one, or visible ASCII characters with single spaces or tabs between
-- them (RFC 9110, section 5.5, without characters past ASCII and without longer white space)
abbrev pub is_value : Bytes → Bool
is_value [] = true
is_value (b ∷ more) = is_value_after false (b ∷ more)

-- the name of a field that says how long the message is or when the connection ends; the library writes it, not the
-- caller (RFC 9112, sections 6 and 9.1)
abbrev pub IsFraming : Bytes → Type 0
IsFraming name =
    IsSameWord name (codes "content-length") ⊎ IsSameWord name (codes "transfer-encoding")
    ⊎ IsSameWord name (codes "connection")

-- a field that can be sent
pub record IsFieldSendable (field : Bytes × Bytes) : Type 0 where
  pub name : IsTrue (is_token field.0)
  pub value : IsTrue (is_value field.1)
  pub free : ¬ (IsFraming field.0)

-- a method whose responses are framed as usual: not HEAD, whose responses have no body, and not CONNECT, which ends
-- HTTP on the connection (RFC 9110, sections 9.3.2 and 9.3.6)
pub record IsMethod (method : Bytes) : Type 0 where
  pub token : IsTrue (is_token method)
  pub not_head : method ≢ codes "HEAD"
  pub not_connect : method ≢ codes "CONNECT"

-- a request that can be sent: no part of its head can be read as another part
pub record IsSendable (m : Sent) : Type 0 where
  pub method : IsMethod m.method
  pub visible : IsVisible m.target
  pub path : Bytes
  pub rooted : m.target ≡ codes "/" ++ path
  pub each : AllByRecursion IsFieldSendable m.fields

-- a field's line as it is sent
abbrev pub field_text : Bytes × Bytes → Bytes
field_text field = field.0 ++ codes ": " ++ field.1 ++ codes "\r\n"

-- the line that says how long the body is, in decimal; a GET without a body has none (RFC 9110, section 8.6)
abbrev pub length_text : Bytes → Bytes → Bytes
length_text method body =
    if bytes_eq method (codes "GET") && length body == 0 then []
    else codes "content-length: " ++ decimal (length body) ++ codes "\r\n"

-- the head as it is sent: the caller's fields, and behind them the length of the body
unfoldable pub sent_head : Sent → Bytes
sent_head m =
    m.method ++ codes " " ++ m.target ++ codes " HTTP/1.1\r\n" ++ flat_map field_text m.fields
    ++ length_text m.method m.body ++ codes "\r\n"

-- the whole request as it is sent; no field asks to close the connection
abbrev pub sent_text : Sent → Bytes
sent_text m = sent_head m ++ m.body
