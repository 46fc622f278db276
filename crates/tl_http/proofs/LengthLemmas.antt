-- What several values of Content-Length announce.
use Rattle.std.proofs.Common.{◌≡◌, ◌≢◌, ◌∙◌, ℕ, List, [], ◌∷◌, Option, Some, None, refl, sym}
use Rattle.tl_http.specs.Fields.{AnnouncesLength, IsLength}

-- a text writes one number
pub one_number : (text : List ℕ) (m n : ℕ) → IsLength m text → IsLength n text → m ≡ n
one_number text m n a b = sym a.written.value ∙ b.written.value

-- one value more, if the others aren't clear
pub still_unclear : (text : List ℕ) (values : List (List ℕ)) → ((n : Option ℕ) → ¬ (AnnouncesLength values n)) → (n : Option ℕ) → ¬ (AnnouncesLength (text ∷ values) n)
still_unclear text [] none n said = none None refl
still_unclear text (v ∷ values) none None said = absurd cc
still_unclear text (v ∷ values) none (Some n) said = none (Some n) ((λ e. absurd cc), said.1.1)

-- one value more, if the others announce another number
pub two_numbers : (text : List ℕ) (values : List (List ℕ)) (n m : ℕ) → IsLength n text → AnnouncesLength values (Some m) → m ≢ n
    → (k : Option ℕ) → ¬ (AnnouncesLength (text ∷ values) k)
two_numbers text [] n m is others apart k said = others.0 refl
two_numbers text (v ∷ values) n m is others apart None said = absurd cc
two_numbers text (v ∷ values) n m is others apart (Some k) said =
    apart (one_number v m k others.1.0 said.1.1.0 ∙ one_number text k n said.1.0 is)
