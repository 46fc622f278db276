-- The steps of writing a request.
use Rattle.std.specs.Prelude.{List, [], ◌∷◌, codes}
use Rattle.tl_hash.specs.Bytes.{Bytes}

-- a GET request in pieces
abbrev pub request_pieces : Bytes → Bytes → List Bytes
request_pieces host target =
    codes "GET " ∷ target ∷ codes " HTTP/1.1\r\nHost: " ∷ host ∷ codes "\r\nConnection: close\r\n\r\n" ∷ []

-- a POST request in pieces
abbrev pub post_pieces : Bytes → Bytes → Bytes → Bytes → List Bytes
post_pieces host target size body =
    codes "POST " ∷ target ∷ codes " HTTP/1.1\r\nHost: " ∷ host ∷ codes "\r\nContent-Length: " ∷ size
    ∷ codes "\r\nConnection: close\r\n\r\n" ∷ body ∷ []
