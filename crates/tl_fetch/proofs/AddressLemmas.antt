-- Addresses that are read from texts, one after the other.
use Rattle.std.proofs.Common.{◌≡◌, ◌≤◌, ◌<◌, ◌+◌, ◌++◌, ◌∷◌, [], ℕ, List, arith, below_more, length, subst, sym, take}
use Rattle.std.specs.List.{AllZip}
use Rattle.std.specs.Prelude.{slice_index_or}
use Rattle.std.proofs.lemmas.List.{take_all, take_more}
use Rattle.std.proofs.lemmas.Slice.Zip.{all_zipped_more}
use Rattle.tl_hash.specs.Bytes.{Bytes}
use Rattle.tl_source.specs.Url.{IsNoUrl}
use Rattle.tl_source.specs.declared.url.Url.{Url}
use Rattle.tl_fetch.specs.FeedCommand.{IsFirstNoUrl}
use Rattle.tl_fetch.specs.Inner.Witnesses.{IsAddressOf}

-- the texts before a place are those of these addresses
pub record AreReadUpTo (texts : List Bytes) (place : ℕ) (urls : List Url) : Type 0 where
  pub read : AllZip IsAddressOf (take place texts) urls
  pub good : (before : ℕ) → before < place → IsNoUrl (slice_index_or texts before []) → ⊥

pub read_none : (texts : List Bytes) (urls : List Url) → urls ≡ [] → AreReadUpTo texts 0 urls
read_none texts urls none = record {
  read = subst (λ (us : List Url). AllZip IsAddressOf (take 0 texts) us) (sym none) tt;
  good = λ before less. absurd (omega (arith, less));
}

pub read_more : (texts : List Bytes) (place : ℕ) (url : Url) (urls more : List Url) → place < length texts → IsAddressOf (slice_index_or texts place []) url
    → more ≡ urls ++ url ∷ [] → AreReadUpTo texts place urls → AreReadUpTo texts (place + 1) more
read_more texts place url urls more within is pushed so = record {
  read = subst (λ (us : List Url). AllZip IsAddressOf (take (place + 1) texts) us) (sym pushed)
      (subst (λ (ts : List Bytes). AllZip IsAddressOf ts (urls ++ url ∷ [])) (sym (take_more texts place [] within))
      (all_zipped_more IsAddressOf (take place texts) urls (slice_index_or texts place []) url so.read is));
  good = below_more (λ (k : ℕ). IsNoUrl (slice_index_or texts k []) → ⊥) place so.good
      (λ none. none url.authority.now url.host.now url.port url.prefix.now is);
}

pub read_all : (texts : List Bytes) (place : ℕ) (urls : List Url) → length texts ≤ place → AreReadUpTo texts place urls → AllZip IsAddressOf texts urls
read_all texts place urls past so = subst (λ (ts : List Bytes). AllZip IsAddressOf ts urls) (take_all place texts past) so.read

pub first_none : (texts : List Bytes) (place : ℕ) (urls : List Url) → place < length texts → IsNoUrl (slice_index_or texts place []) → AreReadUpTo texts place urls
    → IsFirstNoUrl texts place
first_none texts place urls within none so = record { within = within; none = none; earlier = so.good }
