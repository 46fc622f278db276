-- Objects that were put.
use Rattle.std.proofs.Common.{◌≡◌, ℕ, Global, String, string_bytes, refl, inl, inr, List, [], ◌∷◌, ◌++◌, Option, Some, None, ap, sym, subst, map, arith, ◌∙◌}
use Rattle.std.proofs.lemmas.List.{map-append}
use Rattle.std.specs.Prelude.{All, MatchOption, Result, Ok, Err, IfOk, OnOk, option_map}
use Rattle.std.proofs.lemmas.List.Elements.{All-tail}
use Rattle.tl_archive.specs.Shelves.{Item}
use Rattle.tl_archive.proofs.Lists.{cons_cases, none_has}
use Rattle.tl_hash.specs.Bytes.{Bytes}
use Rattle.tl_folder.specs.Places.{place_of}
use Rattle.tl_s3.specs.Objects.{Place}
use Rattle.tl_s3.specs.declared.object.Condition.{Condition}
use Rattle.tl_s3.specs.declared.object.Condition.TheVariants.{Always}
use Rattle.tl_tile.specs.declared.resource.Resource.{Resource}
use Rattle.tl_tile.specs.declared.resource.Resource.TheVariants as resource
use Rattle.tl_bucket.specs.Answered.{IsBare, WasReadWith, WasThere}
use Rattle.tl_bucket.specs.Buckets.{IsReplacing, KeepsBytes, NoteWasThere, Objects, SettlesObjects, Shown}
use Rattle.tl_bucket.specs.Claims.{Adds, Claims, CommitsEntries}
use Rattle.tl_bucket.specs.Finishing.{ShowsSize}
use Rattle.tl_bucket.specs.Inner.Puts.{IsThere, item_of}
use Rattle.tl_bucket.specs.Operators.{TellsSize}
use Rattle.tl_bucket.specs.Shelved.{WereThere, content_at}
use Rattle.tl_bucket.specs.declared.fault.BucketFault.{BucketFault}
use Rattle.tl_bucket.specs.declared.staged.Staged.{Staged}

were_there : (p : Place) (staged : List Staged) → All (IsThere p) staged → WereThere p (map item_of staged)
were_there p [] all item has = absurd (none_has item has)
were_there p (s ∷ more) all item has =
    elim (cons_cases (item_of s) (map item_of more) item has) as (λ _. WasThere p (content_at item) Always) [
      | inl same ↦ subst (λ (i : Item). WasThere p (content_at i) Always) same (all 0 s (omega arith))
      | inr later ↦ were_there p more (All-tail (IsThere p) s more all) item later
    ]

-- the outcome of a worker
pub worked : (r : Result (Unit {0}) BucketFault) (p q : Place) (slice staged : List Staged) → q ≡ p → slice ≡ staged → OnOk r (All (IsThere q) slice) → OnOk r (WereThere p (map item_of staged))
worked (Ok done) p q slice staged same is all =
    were_there p staged (subst (λ (x : Place). All (IsThere x) staged) same (subst (All (IsThere q)) is all))
worked (Err fault) p q slice staged same is all = tt

-- objects, by their parts
abbrev pub made : Place → List Staged → Option Bytes → Claims → Option Shown → Objects
made at staged note claims shown =
    record { at = at; waiting = map item_of staged; note = note; claims = claims; shown = shown }

-- one more item waits
pub waits : (before : Objects) (at : Place) (staged more : List Staged) (text : Option Bytes) (shown : Option Shown) (claims : Claims) (s : Staged) → made at staged text claims shown ≡ before → more ≡ staged ++ s ∷ []
    → made at more text claims shown ≡ record before { waiting = before.waiting ++ item_of s ∷ [] }
waits before at staged more text shown claims s same longer =
    subst (λ (o : Objects). made at more text claims shown ≡ record o { waiting = o.waiting ++ item_of s ∷ [] }) same
    (ap (λ (xs : List Item). record { at = at; waiting = xs; note = text; claims = claims; shown = shown }) (ap (map item_of) longer ∙ map-append item_of staged (s ∷ [])))

-- a bundle waits, and what it adds is claimed
pub keeps_bundle : (result : Result (Unit {0}) BucketFault) (before after : Objects) (at : Place) (staged : List Staged) (text : Option Bytes) (shown : Option Shown) (claims added : Claims) (s : Staged) (what : Resource) (index width : ℕ) (bytes : Bytes)
    → made at staged text claims shown ≡ before → what ≡ resource.Entries index width → item_of s ≡ (what, bytes) → Adds index width bytes claims added
    → OnOk result (after ≡ record (made at staged text added shown) { waiting = map item_of staged ++ item_of s ∷ [] }) → OnOk result (KeepsBytes what bytes before after)
keeps_bundle (Ok done) before after at staged text shown claims added s what index width bytes same bundle is adds waits =
    subst (λ (r : Resource). KeepsBytes r bytes before after) (sym bundle)
    (subst (λ (o : Objects). KeepsBytes (resource.Entries index width) bytes o after) same
    (added, adds, waits ∙ ap (λ (i : Item). record { at = at; waiting = map item_of staged ++ i ∷ []; note = text; claims = added; shown = shown }) (is ∙ ap (λ (r : Resource). (r, bytes)) bundle)))
keeps_bundle (Err fault) before after at staged text shown claims added s what index width bytes same bundle is adds waits = tt

-- objects of which nothing waits any more
pub settled : (before after : Objects) (at : Place) (staged : List Staged) (note : Option Bytes) (shown : Option Shown) (claims : Claims) → made at staged note claims shown ≡ before
    → CommitsEntries at claims after.claims → All (IsThere at) staged → NoteWasThere at shown note after.shown
    → after.at ≡ at → after.waiting ≡ [] → after.note ≡ None → SettlesObjects before after
settled before after at staged text shown claims same committed all noted there nothing unnoted =
    subst (λ (o : Objects). SettlesObjects o after) same (record {
      committed = committed;
      tiles = were_there at staged all;
      checkpoint = noted;
      at = there;
      waiting = nothing;
      note = unnoted;
    })

-- the checkpoint that was put
pub noted : (p : Place) (shown : Option Shown) (note text etag : Bytes) → text ≡ note
    → NoteWasThere p shown (Some text) (Some (record { note = text; etag = etag })) → NoteWasThere p shown (Some note) (Some (record { note = note; etag = etag }))
noted p shown note text etag is put =
    subst (λ (n : Bytes). NoteWasThere p shown (Some n) (Some (record { note = n; etag = etag }))) is put

-- the checkpoint that was put, if its tag was read again
pub noted_again : (p : Place) (before : Option Shown) (c : Condition) (note : Bytes) (r : Result (String Global) BucketFault) → IsReplacing before c
    → IfOk r (λ tag. (text : Bytes) × WasReadWith p (place_of [] resource.Checkpoint) note (Some text) × IsBare text (string_bytes tag))
    → IfOk r (λ tag. NoteWasThere p before (Some note) (Some (record { note = note; etag = string_bytes tag })))
noted_again p before c note (Ok tag) replacing read = (c, replacing, (read.0, inr read.1, (string_bytes tag, read.2, refl)))
noted_again p before c note (Err fault) replacing read = tt

-- the checkpoint that is there states a size
pub tells_shown : (shown : Option Shown) (note : Bytes) (size : ℕ) → Some note ≡ option_map (λ (s : Shown). s.note) shown → TellsSize note size → ShowsSize shown size
tells_shown shown note size same tells =
    told_by shown (subst (λ (o : Option Bytes). MatchOption o ⊥ (λ (n : Bytes). TellsSize n size)) same tells)
  where
    told_by : (s : Option Shown) → MatchOption (option_map (λ (t : Shown). t.note) s) ⊥ (λ (n : Bytes). TellsSize n size) → ShowsSize s size
    told_by None none = absurd none
    told_by (Some there) told = (there, refl, told)
