-- A proof's text, written line by line.
use Rattle.std.proofs.Common.{◌≡◌, ℕ, ◌+◌, ◌<◌, ◌≤◌, ◌^◌, List, [], ◌∷◌, ◌++◌, length, get_or, take, sym, ap, subst, ◌∙◌, append_assoc, append-nil, All}
use Rattle.std.proofs.lemmas.List.{take_more}
use Rattle.std.proofs.lemmas.List.Elements.{All-push}
use Rattle.std.proofs.lemmas.List.Concat.{flat_map-cons, flat_map-append}
use Rattle.tl_hash.specs.Bytes.{IsHash}
use Rattle.tl_text.specs.Text.{line, base64_text}
use Rattle.tl_offline.specs.ProofText.{TlogProof, IsProof, hash_lines}
use Rattle.tl_offline.specs.Inner.Typed.{IsTyped}

abbrev hash_line : List ℕ → List ℕ
hash_line hash = line (base64_text hash)

-- one hash more is one line more
pub hash_more : (start out text ended shown item : List ℕ) (hashes : List (List ℕ)) (i : ℕ) → i < length hashes → item ≡ get_or hashes i item → shown ≡ item → IsHash item
    → (out ≡ start ++ hash_lines (take i hashes)) × All IsHash (take i hashes) → text ≡ out ++ base64_text shown → ended ≡ text ++ 10 ∷ []
    → (ended ≡ start ++ hash_lines (take (i + 1) hashes)) × All IsHash (take (i + 1) hashes)
hash_more start out text ended shown item hashes i lt at same is so_far encoded newline =
    let front : List (List ℕ) = take i hashes in
    let more : take (i + 1) hashes ≡ front ++ item ∷ [] = take_more hashes i item lt ∙ ap (λ (h : List ℕ). front ++ h ∷ []) (sym at) in
    let lines : hash_lines (front ++ item ∷ []) ≡ hash_lines front ++ hash_line item = flat_map-append hash_line front (item ∷ []) ∙ ap (λ (t : List ℕ). hash_lines front ++ t) (flat_map-cons hash_line item [] ∙ append-nil (hash_line item)) in (
      newline ∙ ap (λ (t : List ℕ). t ++ 10 ∷ []) (encoded ∙ ap (λ (t : List ℕ). t ++ base64_text shown) so_far.0)
          ∙ append_assoc (start ++ hash_lines front) (base64_text shown) (10 ∷ [])
          ∙ ap (λ (h : List ℕ). (start ++ hash_lines front) ++ line (base64_text h)) same
          ∙ append_assoc start (hash_lines front) (hash_line item)
          ∙ ap (λ (t : List ℕ). start ++ t) (sym lines ∙ ap hash_lines (sym more)),
      subst (All IsHash) (sym more) (All-push IsHash front item so_far.1 is),
    )

pub is_proof : (p : TlogProof) → p.index < 2 ^ 63 → length p.hashes ≤ 63 → IsTyped p → IsProof p
is_proof p small few typed = record { extra = typed.extra; index = small; few = few; hashes = typed.hashes; utf8 = typed.utf8 }
