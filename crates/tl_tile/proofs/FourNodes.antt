-- Four nodes more of the tree over the hashes of a full tile.
use Rattle.std.proofs.Common.{◌≡◌, ℕ, ◌+◌, ◌*◌, ◌<◌, List, [], ◌∷◌, ◌++◌, length, get_or, sym, subst, ◌∙◌, arith}
use Rattle.std.proofs.lemmas.List.{append-nil, append_assoc, get_or_append_left, get_or_default}
use Rattle.tl_hash.specs.Bytes.{Digest}
use Rattle.tl_hash.specs.Tree.{node_input}
use Rattle.tl_tile.specs.Inner.TileTree.{IsTreeSoFar}
use Rattle.tl_tile.proofs.TileTrees.{tree-push}

-- a hash of the first list, found in both with any default
found-before : (hashes more : List (List ℕ)) (n i : ℕ) → n ≡ i → n < length hashes → get_or hashes n [] ≡ get_or (hashes ++ more) i (get_or hashes n [])
found-before hashes more n i same less =
    let hash : List ℕ = get_or hashes n [] in
    subst (λ (x : ℕ). hash ≡ get_or (hashes ++ more) x hash) same
    (get_or_default hashes n [] hash less ∙ sym (get_or_append_left hashes more hash n less))

-- a node after those that were added since
node-after : (H : Digest) (text : List ℕ) (i from : ℕ) (hashes more : List (List ℕ)) (new : List ℕ) → i < 255 → from ≡ 2 * i → from + 1 < length hashes
    → IsTreeSoFar H text (256 + i) (hashes ++ more) → new ≡ H (node_input (get_or hashes from []) (get_or hashes (from + 1) []))
    → IsTreeSoFar H text (256 + (i + 1)) (hashes ++ (more ++ new ∷ []))
node-after H text i from hashes more new low at inside tree is =
    tree-push H text i (hashes ++ more) (hashes ++ (more ++ new ∷ [])) (get_or hashes from []) (get_or hashes (from + 1) []) new low tree
    (found-before hashes more from (2 * i) at (omega (arith, inside)))
    (found-before hashes more (from + 1) (2 * i + 1) (omega (arith, at)) inside)
    is (sym (append_assoc hashes more (new ∷ [])))

-- what each of four nodes is
abbrev pub AreNodes : Digest → ℕ → List (List ℕ) → List (List ℕ) → Type 0
AreNodes H from hashes nodes = (j : ℕ) → j < 4 → get_or nodes j [] ≡ H (node_input (get_or hashes (from + 2 * j) []) (get_or hashes (from + 2 * j + 1) []))

four-written : (H : Digest) (text : List ℕ) (four : ℕ) (hashes : List (List ℕ)) (a b c d : List ℕ) → four < 63 → IsTreeSoFar H text (256 + 4 * four) hashes
    → AreNodes H (8 * four) hashes (a ∷ b ∷ c ∷ d ∷ []) → IsTreeSoFar H text (256 + 4 * (four + 1)) (hashes ++ (a ∷ b ∷ c ∷ d ∷ []))
four-written H text four hashes a b c d low tree are =
    let many = tree.many in
    let inside : 8 * four + 7 < length hashes = omega (arith, many, low) in
    let none : IsTreeSoFar H text (256 + 4 * four) (hashes ++ []) = subst (IsTreeSoFar H text (256 + 4 * four)) (sym (append-nil hashes)) tree in
    let one = node-after H text (4 * four) (8 * four + 2 * 0) hashes [] a (omega (arith, low)) (omega arith) (omega (arith, inside)) none (are 0 (omega arith)) in
    let two = node-after H text (4 * four + 1) (8 * four + 2 * 1) hashes (a ∷ []) b (omega (arith, low)) (omega arith) (omega (arith, inside)) one (are 1 (omega arith)) in
    let three = node-after H text (4 * four + 1 + 1) (8 * four + 2 * 2) hashes (a ∷ b ∷ []) c (omega (arith, low)) (omega arith) (omega (arith, inside)) two (are 2 (omega arith)) in
    let all = node-after H text (4 * four + 1 + 1 + 1) (8 * four + 2 * 3) hashes (a ∷ b ∷ c ∷ []) d (omega (arith, low)) (omega arith) (omega (arith, inside)) three (are 3 (omega arith)) in
    let count : 256 + (4 * four + 1 + 1 + 1 + 1) ≡ 256 + 4 * (four + 1) = omega arith in
    subst (λ (made : ℕ). IsTreeSoFar H text made (hashes ++ (a ∷ b ∷ c ∷ d ∷ []))) count all

pub four-more : (H : Digest) (text : List ℕ) (four : ℕ) (hashes nodes : List (List ℕ)) → length nodes ≡ 4 → four < 63 → IsTreeSoFar H text (256 + 4 * four) hashes
    → AreNodes H (8 * four) hashes nodes → IsTreeSoFar H text (256 + 4 * (four + 1)) (hashes ++ nodes)
four-more H text four hashes [] many low tree are = absurd (omega (arith, many))
four-more H text four hashes (a ∷ []) many low tree are = absurd (omega (arith, many))
four-more H text four hashes (a ∷ b ∷ []) many low tree are = absurd (omega (arith, many))
four-more H text four hashes (a ∷ b ∷ c ∷ []) many low tree are = absurd (omega (arith, many))
four-more H text four hashes (a ∷ b ∷ c ∷ d ∷ []) many low tree are = four-written H text four hashes a b c d low tree are
four-more H text four hashes (a ∷ b ∷ c ∷ d ∷ e ∷ more) many low tree are = absurd (omega (arith, many))
