-- The pieces of an answer are its text.
use Rattle.std.proofs.Common.{◌≡◌, ◌∙◌, ap, ℕ, List, [], ◌∷◌, ◌++◌, append_assoc, length, codes, decimal, refl}
use Rattle.tl_server.specs.Answer.{answer_text, phrase, crlf, field_line, retry_line, type_line}
use Rattle.tl_device.specs.Pieces.{pieces_text}
use Rattle.tl_server.specs.Inner.Sending.{answer_pieces, beside}

three : (x y z r : List ℕ) → ((x ++ y) ++ z) ++ r ≡ x ++ (y ++ (z ++ r))
three x y z r = append_assoc (x ++ y) z r ∙ append_assoc x y (z ++ r)

allow_in_pieces : (allow r : List ℕ) → field_line (codes "Allow: ") allow ++ r ≡ beside allow (codes "Allow: ") ++ (allow ++ (beside allow crlf ++ r))
allow_in_pieces [] r = refl
allow_in_pieces (a ∷ allow) r = three (codes "Allow: ") (a ∷ allow) crlf r

type_in_pieces : (kind body r : List ℕ) → type_line kind body ++ r ≡ beside body (codes "Content-Type: ") ++ (beside body kind ++ (beside body crlf ++ r))
type_in_pieces kind [] r = refl
type_in_pieces kind (b ∷ body) r = three (codes "Content-Type: ") kind crlf r

pub answer_in_pieces : (status : ℕ) (allow kind body : List ℕ)
    → answer_text (record { status = status; allow = allow; kind = kind; body = body })
    ≡ pieces_text (λ p. p) (answer_pieces (decimal status) (phrase status) allow (retry_line status) kind (decimal (length body)) body)
unfolding answer_text
answer_in_pieces status allow kind body =
    let rest : List ℕ = codes "Content-Length: " ++ (decimal (length body) ++ (codes "\r\nConnection: close\r\n\r\n" ++ (body ++ []))) in
    ap (λ (r : List ℕ). codes "HTTP/1.1 " ++ (decimal status ++ (codes " " ++ (phrase status ++ (crlf ++ r)))))
    (allow_in_pieces allow (retry_line status ++ (type_line kind body ++ rest))
    ∙ ap (λ (r : List ℕ). beside allow (codes "Allow: ") ++ (allow ++ (beside allow crlf ++ (retry_line status ++ r)))) (type_in_pieces kind body rest))
