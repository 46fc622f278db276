-- The steps of writing an answer.
use Rattle.std.specs.Prelude.{ℕ, List, [], ◌∷◌, ◌==◌, if◌then◌else◌, codes}
use Rattle.tl_hash.specs.Bytes.{Bytes}
use Rattle.tl_server.specs.Answer.{Answer, bare, crlf, not_allowed}

-- the text, or nothing if the list is empty
abbrev pub beside : Bytes → Bytes → Bytes
beside [] text = []
beside (b ∷ list) text = text

-- the bytes of an answer in pieces
abbrev pub answer_pieces : Bytes → Bytes → Bytes → Bytes → Bytes → Bytes → Bytes → List Bytes
answer_pieces status reason allow retry kind size body =
    codes "HTTP/1.1 " ∷ status ∷ codes " " ∷ reason ∷ crlf
    ∷ beside allow (codes "Allow: ") ∷ allow ∷ beside allow crlf
    ∷ retry
    ∷ beside body (codes "Content-Type: ") ∷ beside body kind ∷ beside body crlf
    ∷ codes "Content-Length: " ∷ size ∷ codes "\r\nConnection: close\r\n\r\n" ∷ body ∷ []

-- the answer with this status to a POST whose body wasn't received
abbrev pub refusal : ℕ → Answer
refusal status = if status == 405 then not_allowed (codes "POST") else bare status
