use Rattle.std.proofs.Common.{Contains, List, ℕ, [], ◌∷◌}
use Rattle.tl_http.specs.Response.{BodyDecides}
use Rattle.tl_http.proofs.ExchangeLemmas.{body_after, decides_alone, found_receives}
use Rattle.tl_http.proofs.getting.read_response.Goals as goal

pub returns-in-Err : goal.returns-in-Err
returns-in-Err g c =
    found_receives c.args.limit _ _ (decides_alone (List ℕ) (Contains (200 ∷ [])) (λ b framing r. BodyDecides c.args.limit framing b.rest r) _ c.in-Err.fault c.in-Err.ensures)

pub returns-in-Ok : goal.returns-in-Ok
returns-in-Ok g c =
    let taken = c.in-Ok.taken in
    found_receives c.args.limit _ _
    (body_after (List ℕ) (Contains (200 ∷ [])) (λ b framing r. BodyDecides c.args.limit framing b.rest r) (BodyDecides c.args.limit taken.framing) _ _ _ _ _ _ c.read_taken.new.buf c.read_taken.new.headers taken.start taken.len taken.spans taken.framing _ _
    c.in-Ok.ensures.headed c.in-Ok.ensures.is (λ same. same) (λ rest decides. decides) c.read_body.ensures.decides)
