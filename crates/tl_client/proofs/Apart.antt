-- What a reader of kept tiles gives holds for each list that is apart from them.
use Rattle.std.proofs.Common.{◌≡◌, ℕ, true, false, ◌≤◌, ◌^◌, List, ◌++◌, [], length, take, Some, refl, sym, ap, ◌∙◌, arith}
use Rattle.std.proofs.lemmas.List.{append-nil, take_all}
use Rattle.tl_hash.specs.Bytes.{Digest}
use Rattle.tl_tile.specs.declared.resource.Tile.{Tile}
use Rattle.tl_tile.specs.Fetched.{tiles_of}
use Rattle.tl_tile.specs.TileReader.{StandsAgainst}
use Rattle.tl_proof.specs.Acceptance.{AcceptsInclusion}
use Rattle.tl_proof.specs.Proofs.{inclusion_proof}
use Rattle.tl_proof.specs.ProveFaults.{IsIndex}
use Rattle.tl_proof.proofs.Inclusion.{inclusion_is_accepted}
use Rattle.tl_tile.specs.Verified.{AreVerified}
use Rattle.tl_client.specs.Refused.{IsApart, IsOtherLeaf}

pub false_is_not_true : false ≡ true → ⊥
false_is_not_true e = cc

pub apart_stands : (H : Digest) (size : ℕ) (root : List ℕ) (fetched : List (Tile × List ℕ)) (all : List (List ℕ)) → size ≤ 2 ^ 62 → IsApart H size root fetched all
    → StandsAgainst H (λ t text. tiles_of fetched t ≡ Some text) size root H all
apart_stands H size root fetched all limit apart =
    (apart.sized, omega (arith, limit, apart.sized), refl, apart.rooted, apart.free)

-- what a prover makes over a reader of these tiles, of this size and root
abbrev pub IsMadeFor : Digest → ℕ → List ℕ → List (Tile × List ℕ) → ℕ → List (List ℕ) → (List (List ℕ) → List (List ℕ)) → Type 0
IsMadeFor H reader_size reader_root fetched size proof proof_of =
    (entries more : List (List ℕ)) → StandsAgainst H (λ t text. tiles_of fetched t ≡ Some text) reader_size reader_root H entries → size ≤ length (entries ++ more)
    → proof ≡ proof_of (take size (entries ++ more))

pub made_for : (H : Digest) (size : ℕ) (root : List ℕ) (fetched : List (Tile × List ℕ)) (proof : List (List ℕ)) (proof_of : List (List ℕ) → List (List ℕ)) → size ≤ 2 ^ 62
    → IsMadeFor H size root fetched size proof proof_of → (all : List (List ℕ)) → IsApart H size root fetched all → proof ≡ proof_of all
made_for H size root fetched proof proof_of limit made all apart =
    let none : all ++ [] ≡ all = append-nil all in
    let len : size ≤ length (all ++ []) = omega (arith, ap (λ (xs : List (List ℕ)). length xs) none, apart.sized) in
    let same : take size (all ++ []) ≡ all = ap (take size) none ∙ take_all size all (omega (arith, apart.sized)) in
    made all [] (apart_stands H size root fetched all limit apart) len ∙ ap proof_of same

-- a proof that is made for a list and not accepted is for another leaf
pub other_leaf : (H : Digest) (size : ℕ) (root : List ℕ) (index : ℕ) (leaf : List ℕ) (fetched : List (Tile × List ℕ)) (proof : List (List ℕ)) → IsIndex size index
    → AreVerified H size root fetched → IsMadeFor H size root fetched size proof (inclusion_proof H index)
    → (AcceptsInclusion H proof size root index leaf → ⊥) → IsOtherLeaf H size root index leaf
other_leaf H size root index leaf fetched proof inside verified made refused = (
  fetched,
  verified,
  λ all apart same.
      let accepted = inclusion_is_accepted H all index (omega (arith, inside.0, apart.sized)) in
      let is = made_for H size root fetched proof (inclusion_proof H index) inside.1 made all apart in
      refused (rw (is, sym apart.sized, sym apart.rooted, sym same) accepted),
)
