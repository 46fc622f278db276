-- What a history shows encodes beginnings of its log.
use Rattle.std.proofs.Common.{◌≡◌, ℕ, Bool, true, false, List, ◌++◌, All, Option, Some, None, refl, sym, subst, ◌∙◌, arith}
use Rattle.std.specs.Prelude.{if◌then◌else◌}
use Rattle.std.proofs.lemmas.List.{length-append, get_or_append_left}
use Rattle.sha2.specs.Sha256.{sha256}
use Rattle.tl_note.specs.Key.{SigningKey}
use Rattle.tl_tile.specs.declared.resource.Resource.{Resource}
use Rattle.tl_tile.specs.declared.resource.Resource.TheVariants as resource
use Rattle.tl_log.specs.Histories.{Prefix, Begins, AreOf, last_of, note_if, sizes_of}
use Rattle.tl_log.specs.Checkpoints.{text_of_log}
use Rattle.tl_publisher.specs.Signed.{IsSignedNote, AreSignedBy, Quorum}
use Rattle.tl_log.specs.Resources.{was_needed}
use Rattle.tl_publisher.specs.Boards.{shown, tile_if, bundle_if}
use Rattle.tl_publisher.specs.Encoded.{Encodes, AreEncoded}
use Rattle.tl_publisher.proofs.Runs.{last_all, some_one}

all_front : (P : Prefix → Type 0) (xs ys : List Prefix) → All P (xs ++ ys) → All P xs
all_front P xs ys all k d less = subst P (get_or_append_left xs ys d k less) (all k d (omega (arith, less, length-append xs ys)))

-- what is shown under a condition is shown
where_true : (b : Bool) (x : Option (List ℕ)) (y : List ℕ) → (if b then x else None) ≡ Some y → x ≡ Some y
where_true true x y is = is
where_true false x y is = absurd (cc)

module _ (origin : List ℕ) (signers : List SigningKey) (quorum : Quorum) (log : List (List ℕ)) (seen : List Prefix) (are : AreOf log seen) (signed : AreSignedBy origin signers quorum seen) where
  -- what the last publication shows
  of_last : (r : Resource) (bytes : List ℕ) (show : Option Prefix → Option (List ℕ)) → (show None ≡ None)
      → ((q : Prefix) → IsSignedNote signers quorum (text_of_log origin q.entries) q.note → show (Some q) ≡ Some bytes → Encodes origin signers quorum q.entries r bytes)
      → show (last_of seen) ≡ Some bytes → (front : List (List ℕ)) × Begins front log × Encodes origin signers quorum front r bytes
  of_last r bytes show none is = from (last_of seen) refl
    where
      from : (last : Option Prefix) → last_of seen ≡ last → show last ≡ Some bytes → (front : List (List ℕ)) × Begins front log × Encodes origin signers quorum front r bytes
      from None at e = absurd (let no : None ≡ Some bytes = sym none ∙ e in cc)
      from (Some q) at e =
          (q.entries, last_all (λ (x : Prefix). Begins x.entries log) seen q are at, is q (last_all (λ (x : Prefix). IsSignedNote signers quorum (text_of_log origin x.entries) x.note) seen q signed at) e)

  pub encoded : (r : Resource) (bytes : List ℕ) → shown sha256 r seen ≡ Some bytes → (front : List (List ℕ)) × Begins front log × Encodes origin signers quorum front r bytes
  encoded (resource.Tile t) bytes e =
      of_last (resource.Tile t) bytes (tile_if sha256 t) refl (λ q note is. sym (some_one _ bytes is)) (where_true (was_needed (resource.Tile t) (sizes_of seen)) (tile_if sha256 t (last_of seen)) bytes e)
  encoded (resource.Entries index width) bytes e =
      of_last (resource.Entries index width) bytes (bundle_if index width) refl (λ q note is. sym (some_one _ bytes is)) (where_true (was_needed (resource.Entries index width) (sizes_of seen)) (bundle_if index width (last_of seen)) bytes e)
  encoded resource.Checkpoint bytes e =
      of_last resource.Checkpoint bytes note_if refl (λ q note is. subst (IsSignedNote signers quorum (text_of_log origin q.entries)) (some_one q.note bytes is) note) e

pub all_encoded : (origin : List ℕ) (signers : List SigningKey) (quorum : Quorum) (log : List (List ℕ)) (history : List Prefix) → AreOf log history → AreSignedBy origin signers quorum history → AreEncoded origin signers quorum log history
all_encoded origin signers quorum log history are signed seen (rest, joined) =
    encoded origin signers quorum log seen
    (all_front (λ (q : Prefix). Begins q.entries log) seen rest (subst (AreOf log) (sym joined) are))
    (all_front (λ (q : Prefix). IsSignedNote signers quorum (text_of_log origin q.entries) q.note) seen rest (subst (AreSignedBy origin signers quorum) (sym joined) signed))
