-- The pieces of a request are its text.
use Rattle.std.proofs.Common.{◌≡◌, ◌∙◌, ◌++◌, ℕ, List, [], ap, append-nil, append_assoc, codes, decimal, length, sym}
use Rattle.tl_http.specs.Post.{post_text}
use Rattle.tl_http.specs.Request.{request_text}
use Rattle.tl_device.specs.Pieces.{pieces_text}
use Rattle.tl_http.specs.Inner.Sending.{post_pieces, request_pieces}

joined : (a b c d e : List ℕ) → a ++ (b ++ (c ++ (d ++ (e ++ [])))) ≡ (((a ++ b) ++ c) ++ d) ++ e
joined a b c d e =
    ap (λ (l : List ℕ). a ++ (b ++ (c ++ (d ++ l)))) (append-nil e)
    ∙ sym (append_assoc ((a ++ b) ++ c) d e ∙ (append_assoc (a ++ b) c (d ++ e) ∙ append_assoc a b (c ++ (d ++ e))))

pub request_in_pieces : (host target : List ℕ) → pieces_text (λ p. p) (request_pieces host target) ≡ request_text host target
unfolding request_text
request_in_pieces host target =
    joined (codes "GET ") target (codes " HTTP/1.1\r\nHost: ") host (codes "\r\nConnection: close\r\n\r\n")

joined_post : (a b c d e f g h : List ℕ)
    → a ++ (b ++ (c ++ (d ++ (e ++ (f ++ (g ++ (h ++ []))))))) ≡ ((((((a ++ b) ++ c) ++ d) ++ e) ++ f) ++ g) ++ h
joined_post a b c d e f g h =
    ap (λ (l : List ℕ). a ++ (b ++ (c ++ (d ++ (e ++ (f ++ (g ++ l))))))) (append-nil h)
    ∙ sym (
    append_assoc (((((a ++ b) ++ c) ++ d) ++ e) ++ f) g h
    ∙ (append_assoc ((((a ++ b) ++ c) ++ d) ++ e) f (g ++ h)
    ∙ (append_assoc (((a ++ b) ++ c) ++ d) e (f ++ (g ++ h))
    ∙ (append_assoc ((a ++ b) ++ c) d (e ++ (f ++ (g ++ h)))
    ∙ (append_assoc (a ++ b) c (d ++ (e ++ (f ++ (g ++ h))))
    ∙ append_assoc a b (c ++ (d ++ (e ++ (f ++ (g ++ h)))))))))
    )

pub post_in_pieces : (host target body : List ℕ) → pieces_text (λ p. p) (post_pieces host target (decimal (length body)) body) ≡ post_text host target body
unfolding post_text
post_in_pieces host target body =
    joined_post (codes "POST ") target (codes " HTTP/1.1\r\nHost: ") host (codes "\r\nContent-Length: ") (decimal (length body)) (codes "\r\nConnection: close\r\n\r\n") body

-- a text was appended to what is known
put_on : (old grown begun piece : List ℕ) → old ≡ begun → grown ≡ old ++ piece → grown ≡ begun ++ piece
put_on old grown begun piece is put = put ∙ ap (λ (l : List ℕ). l ++ piece) is

-- seven texts were appended to none
pub seven_pieces : (none i j k l m n o a b c d e f g : List ℕ)
    → none ≡ [] → i ≡ none ++ a → j ≡ i ++ b → k ≡ j ++ c → l ≡ k ++ d → m ≡ l ++ e → n ≡ m ++ f → o ≡ n ++ g
    → o ≡ (((((a ++ b) ++ c) ++ d) ++ e) ++ f) ++ g
seven_pieces none i j k l m n o a b c d e f g empty is js ks ls ms ns os =
    let one = put_on none i [] a empty is in
    let two = put_on i j a b one js in
    let three = put_on j k (a ++ b) c two ks in
    let four = put_on k l ((a ++ b) ++ c) d three ls in
    let five = put_on l m (((a ++ b) ++ c) ++ d) e four ms in
    let six = put_on m n ((((a ++ b) ++ c) ++ d) ++ e) f five ns in
    put_on n o (((((a ++ b) ++ c) ++ d) ++ e) ++ f) g six os
