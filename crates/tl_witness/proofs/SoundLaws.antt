-- A book that is opened is sound.
use Rattle.std.proofs.Common.{◌≡◌, ℕ, List, [], ◌∷◌, inl, inr, ◌⊎◌, refl, sym, ap, subst, ◌∙◌, All}
use Rattle.std.specs.List.{AllZip}
use Rattle.std.proofs.lemmas.List.Elements.{All-head, All-tail, All-nil, All-cons}
use Rattle.tl_hash.specs.Bytes.{Digest}
use Rattle.tl_witness.specs.Book.{IsLawful}
use Rattle.tl_witness.specs.Chain.{IsChain}
use Rattle.tl_witness.specs.Cosigned.{origins_of}
use Rattle.tl_witness.specs.Inner.Laws.{OpenedBooksAreSound}
use Rattle.tl_witness.specs.Open.{HasTwice, IsAmong, IsKept, SavedChain, saved_chain, Trusted, chain_origins, trusted_origins}
use Rattle.tl_witness.specs.Witnessed.{Witnessed}
use Rattle.tl_witness.proofs.ChainLaws.{chain-none}

abbrev HasChain : (List ℕ → List ℕ) → Witnessed → Type 0
HasChain H one = IsChain H one.chain

among_all : {A : Type 0} (P : A → Type 0) (x : A) (xs : List A) → IsAmong x xs → All P xs → P x
among_all P x [] is each = absurd is
among_all P x (y ∷ xs) (inl same) each = subst P same (All-head P y xs each)
among_all P x (y ∷ xs) (inr later) each = among_all P x xs later (All-tail P y xs each)

kept_chain : (H : Digest) (chains : List SavedChain) (trust : Trusted) (one : Witnessed) → All (λ c. IsChain H c.steps) chains → IsKept chains trust one → IsChain H one.chain
kept_chain H chains trust one each kept = go kept.chain
  where
    go : IsAmong (saved_chain trust.origin one.chain) chains ⊎ (¬ (IsAmong trust.origin (chain_origins chains)) × (one.chain ≡ [])) → IsChain H one.chain
    go (inl is) = among_all (λ (c : SavedChain). IsChain H c.steps) (saved_chain trust.origin one.chain) chains is each
    go (inr none) = subst (IsChain H) (sym none.1) (chain-none H)

lawful : (H : Digest) (chains : List SavedChain) (trusts : List Trusted) (book : List Witnessed) → All (λ c. IsChain H c.steps) chains → AllZip (IsKept chains) trusts book → IsLawful H book
lawful H chains [] [] each kept = All-nil (HasChain H)
lawful H chains [] (one ∷ book) each kept = absurd kept
lawful H chains (trust ∷ trusts) [] each kept = absurd kept
lawful H chains (trust ∷ trusts) (one ∷ book) each kept =
    All-cons (HasChain H) one book (kept_chain H chains trust one each kept.0) (lawful H chains trusts book each kept.1)

kept_origins : (chains : List SavedChain) (trusts : List Trusted) (book : List Witnessed) → AllZip (IsKept chains) trusts book → origins_of book ≡ trusted_origins trusts
kept_origins chains [] [] kept = refl
kept_origins chains [] (one ∷ book) kept = absurd kept
kept_origins chains (trust ∷ trusts) [] kept = absurd kept
kept_origins chains (trust ∷ trusts) (one ∷ book) kept =
    ap (λ (o : List ℕ). o ∷ origins_of book) kept.0.origin ∙ ap (λ (os : List (List ℕ)). trust.origin ∷ os) (kept_origins chains trusts book kept.1)

pub opened_sound : OpenedBooksAreSound
opened_sound H trusts chains book opens = record {
  lawful = lawful H chains trusts book opens.lawful opens.kept;
  once = subst (λ (os : List (List ℕ)). ¬ (HasTwice os)) (sym (kept_origins chains trusts book opens.kept)) opens.once.trusts_once;
}
