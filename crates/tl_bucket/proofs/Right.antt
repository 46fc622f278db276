-- What is there is right.
use Rattle.std.proofs.Common.{◌≡◌, ◌≢◌, ◌≤◌, inl, inr, List, length, Option, Some, None, refl, ◌∙◌, sym, ap}
use Rattle.std.specs.Prelude.{Contains}
use Rattle.tl_hash.specs.Bytes.{Bytes}
use Rattle.tl_tile.specs.declared.resource.Resource.{Resource}
use Rattle.tl_tile.specs.Needed.{needed_resources, needed_resources_since}
use Rattle.tl_tile.proofs.NeededSince.{since_is_new}
use Rattle.tl_log.specs.Histories.{Prefix, Begins}
use Rattle.tl_archive.specs.Complete.{text_of, HasAll}
use Rattle.tl_archive.proofs.Needs.{needed_within}
use Rattle.tl_bucket.specs.Bucket.{IsCommitted}
use Rattle.tl_bucket.specs.Operators.{Setting, World}
use Rattle.tl_bucket.proofs.Commits.{by_size, begun_bytes, same_bytes}
use Rattle.tl_bucket.proofs.Sound.{IsSound}

pub is_right : (setting : Setting) (w : World) → IsSound setting w → (entries : List Bytes) (r : Resource) (bytes : Bytes) → IsCommitted w.store entries
    → Contains (needed_resources (length entries)) r → w.store.held r ≡ Some bytes → bytes ≡ text_of setting.digest r entries
is_right setting w sound entries r bytes committed needed is =
    let own = sound.held r bytes (needed_within (length entries) r needed).1 is in
    own.bytes_of ∙ same_bytes setting.digest w.store own.entries entries r own.committed committed own.needed needed

-- what a committed log needs is right if it is there at all
right_if_there : (setting : Setting) (w : World) → IsSound setting w → (entries : List Bytes) (r : Resource) → IsCommitted w.store entries
    → Contains (needed_resources (length entries)) r → (there : Option Bytes) → w.store.held r ≡ there → there ≢ None → w.store.held r ≡ Some (text_of setting.digest r entries)
right_if_there setting w sound entries r committed needed None is some = absurd (some refl)
right_if_there setting w sound entries r committed needed (Some bytes) is some =
    is ∙ ap (λ (x : Bytes). Some x) (is_right setting w sound entries r bytes committed needed is)

pub suffices : (setting : Setting) (w : World) → IsSound setting w → (p : Prefix) (entries : List Bytes) → Contains w.shown p → IsCommitted w.store entries
    → length p.entries ≤ length entries → ((r : Resource) → Contains (needed_resources_since (length p.entries) (length entries)) r → w.store.held r ≢ None)
    → HasAll setting.digest entries w.store.held
suffices setting w sound p entries shown committed le there r needed =
    elim ((since_is_new (length p.entries) (length entries) le r).enough needed) as (λ _. w.store.held r ≡ Some (text_of setting.digest r entries)) [
      | inl new ↦ right_if_there setting w sound entries r committed needed (w.store.held r) refl (there r new)
      | inr old ↦
          let whole = sound.shown p shown in
          let begins : Begins p.entries entries = by_size w.store p.entries entries whole.committed committed le in
          whole.all r old ∙ ap (λ (x : Bytes). Some x) (sym (begun_bytes setting.digest p.entries entries r begins old))
    ]
