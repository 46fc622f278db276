-- Partial tiles and bundles that were removed.
use Rattle.std.proofs.Common.{◌≡◌, true, false, inl, inr, ◌⊎◌, List, ℕ, None, refl, ap}
use Rattle.std.specs.Prelude.{Bool, Option, ◌==◌, if◌then◌else◌}
use Rattle.std.proofs.lemmas.Bool.{eqb-true, eq-eqb, ltb-true, lt-ltb}
use Rattle.tl_tile.specs.declared.resource.Resource.{Resource}
use Rattle.tl_tile.specs.declared.resource.Resource.TheVariants as resource
use Rattle.tl_archive.specs.Partials.{IsPartialOf}
use Rattle.tl_archive.specs.Shelves.{Held}
use Rattle.tl_folder.specs.Folders.{is_partial_of, without}
use Rattle.tl_folder.proofs.Puts.{two, firsts, seconds, no}

pub partial_is : (full r : Resource) → is_partial_of full r ≡ true → IsPartialOf full r
partial_is (resource.Tile f) (resource.Tile t) e =
    let rest = seconds (t.level == f.level) _ e in
    (eqb-true _ _ (firsts (t.level == f.level) _ e), eqb-true _ _ (firsts (t.index == f.index) _ rest), ltb-true _ _ (seconds (t.index == f.index) _ rest))
partial_is (resource.Tile f) (resource.Entries index width) e = no e
partial_is (resource.Tile f) resource.Checkpoint e = no e
partial_is (resource.Entries own full) (resource.Tile t) e = no e
partial_is (resource.Entries own full) (resource.Entries index width) e = (eqb-true _ _ (firsts (index == own) _ e), ltb-true _ _ (seconds (index == own) _ e))
partial_is (resource.Entries own full) resource.Checkpoint e = no e
partial_is resource.Checkpoint r e = no e

pub is_partial : (full r : Resource) → IsPartialOf full r → is_partial_of full r ≡ true
is_partial (resource.Tile f) (resource.Tile t) is =
    two (t.level == f.level) _ (eq-eqb _ _ is.0) (two (t.index == f.index) _ (eq-eqb _ _ is.1) (lt-ltb _ _ is.2))
is_partial (resource.Tile f) (resource.Entries index width) is = absurd is
is_partial (resource.Tile f) resource.Checkpoint is = absurd is
is_partial (resource.Entries own full) (resource.Tile t) is = absurd is
is_partial (resource.Entries own full) (resource.Entries index width) is = two (index == own) _ (eq-eqb _ _ is.0) (lt-ltb _ _ is.1)
is_partial (resource.Entries own full) resource.Checkpoint is = absurd is
is_partial resource.Checkpoint r is = absurd is

one_gone : {A : Type 0} (b : Bool) (before : Option (List ℕ)) → (b ≡ true → A) → ((if b then None else before) ≡ before) ⊎ (A × ((if b then None else before) ≡ None))
one_gone true before is = inr (is refl, refl)
one_gone false before is = inl refl

pub some_gone : (full : Resource) (gone : Resource → Bool) (held : Held) → ((r : Resource) → gone r ≡ true → IsPartialOf full r)
    → (r : Resource) → (without gone held r ≡ held r) ⊎ (IsPartialOf full r × (without gone held r ≡ None))
some_gone full gone held is r = one_gone (gone r) (held r) (is r)

pub is_gone : (gone : Resource → Bool) (held : Held) (r : Resource) → gone r ≡ true → without gone held r ≡ None
is_gone gone held r is = ap (λ (b : Bool). if b then None else held r) is
