-- One call more.
use Rattle.std.proofs.Common.{◌≡◌, ℕ, ◌+◌, true, false, inl, ◌⊎◌, List, [], ◌∷◌, ◌++◌, length, Some, refl, sym, ap, subst, ◌∙◌, arith}
use Rattle.std.specs.Prelude.{Bool, Option, Contains, if◌then◌else◌}
use Rattle.tl_tile.specs.declared.resource.Resource.{Resource}
use Rattle.tl_archive.specs.Shelves.{Kept, Stages, Unstages, Settles, Removes, LacksPartials}
use Rattle.tl_folder.specs.declared.call_outcome.CallOutcome.TheVariants as call
use Rattle.tl_folder.specs.Events.{Event}
use Rattle.tl_folder.specs.Step.{Path}
use Rattle.tl_folder.specs.FileCalls.{Call, Fails, done}
use Rattle.tl_folder.specs.Settling.{Move, AreCovered, settling}
use Rattle.tl_folder.specs.Places.{partials_path, removed_path}
use Rattle.tl_folder.specs.Removing.{HasMoved, HasNotMoved}
use Rattle.tl_folder.specs.Folders.{Reached, Calls, is_partial_of, put, after_call, after_calls, after_each}
use Rattle.tl_folder.proofs.Partials.{partial_is, is_partial, some_gone, is_gone}
use Rattle.tl_folder.proofs.Puts.{firsts, put_between, put_there}

-- ---- after one call more

pub calls_more : (reached : Reached) (n : ℕ) (events : List Event) (event : Event) (kept : Kept)
    → after_calls reached n (events ++ event ∷ []) kept ≡ after_call reached (n + length events) event (after_calls reached n events kept)
calls_more reached n [] event kept = ap (λ (m : ℕ). after_call reached m event kept) (omega arith)
calls_more reached n (first ∷ more) event kept =
    calls_more reached (n + 1) more event (after_call reached n first kept)
    ∙ ap (λ (m : ℕ). after_call reached m event (after_calls reached (n + 1) more (after_call reached n first kept))) (omega arith)

pub each_more : (reached : Reached) (n : ℕ) (events : List Event) (event : Event) (kept : Kept)
    → after_each reached n (events ++ event ∷ []) kept ≡ after_each reached n events kept ++ after_calls reached n (events ++ event ∷ []) kept ∷ []
each_more reached n [] event kept = refl
each_more reached n (first ∷ more) event kept =
    ap (λ (x : List Kept). after_call reached n first kept ∷ x) (each_more reached (n + 1) more event (after_call reached n first kept))

-- ---- what each call makes of it

part : (b : Bool) (kept : Kept) (r : Resource) → (let now = (if b then put kept.staged kept.held r else kept.held r) in (now ≡ kept.held r) ⊎ ((bytes : List ℕ) × (now ≡ Some bytes) × Contains kept.staged (r, bytes)))
part true kept r = put_between kept.staged kept.held r
part false kept r = inl refl

pub staged_after : (reached : Reached) (events : List Event) (r : Resource) (bytes : List ℕ) (kept : Kept)
    → Stages (after_calls reached 0 events kept) (after_calls reached 0 (events ++ (call.Staged r, bytes) ∷ []) kept) r bytes
staged_after reached events r bytes kept =
    let a : Kept = after_calls reached 0 events kept in
    subst (λ (b : Kept). Stages a b r bytes) (sym (calls_more reached 0 events (call.Staged r, bytes) kept)) (record { held = refl; staged = refl })

pub failed_after : (reached : Reached) (events : List Event) (bytes : List ℕ) (kept : Kept)
    → after_calls reached 0 (events ++ (call.Failed, bytes) ∷ []) kept ≡ after_calls reached 0 events kept
failed_after reached events bytes kept = calls_more reached 0 events (call.Failed, bytes) kept

pub marked_after : (reached : Reached) (events : List Event) (bytes : List ℕ) (kept : Kept)
    → after_calls reached 0 (events ++ (call.Marked, bytes) ∷ []) kept ≡ after_calls reached 0 events kept
marked_after reached events bytes kept = calls_more reached 0 events (call.Marked, bytes) kept

pub settled_after : (reached : Reached) (events : List Event) (bytes : List ℕ) (kept : Kept)
    → Settles (after_calls reached 0 events kept) (after_calls reached 0 (events ++ (call.Settled, bytes) ∷ []) kept)
settled_after reached events bytes kept =
    let a : Kept = after_calls reached 0 events kept in
    subst (λ (b : Kept). Settles a b) (sym (calls_more reached 0 events (call.Settled, bytes) kept))
    (record { unstages = record { others = put_between a.staged a.held; staged = refl }; there = put_there a.staged a.held })

pub cut_after : (reached : Reached) (events : List Event) (bytes : List ℕ) (kept : Kept)
    → Unstages (after_calls reached 0 events kept) (after_calls reached 0 (events ++ (call.Cut, bytes) ∷ []) kept)
cut_after reached events bytes kept =
    let a : Kept = after_calls reached 0 events kept in
    subst (λ (b : Kept). Unstages a b) (sym (calls_more reached 0 events (call.Cut, bytes) kept))
    (record { others = λ r. part (reached (0 + length events) r) a r; staged = refl })

pub removed_after : (reached : Reached) (events : List Event) (full : Resource) (bytes : List ℕ) (kept : Kept)
    → Removes full (after_calls reached 0 events kept) (after_calls reached 0 (events ++ (call.Removed full, bytes) ∷ []) kept)
removed_after reached events full bytes kept =
    let a : Kept = after_calls reached 0 events kept in
    subst (λ (b : Kept). Removes full a b) (sym (calls_more reached 0 events (call.Removed full, bytes) kept))
    (record { others = some_gone full (is_partial_of full) a.held (partial_is full); staged = refl })

pub lacks_after : (reached : Reached) (events : List Event) (full : Resource) (bytes : List ℕ) (kept : Kept)
    → LacksPartials full (after_calls reached 0 (events ++ (call.Removed full, bytes) ∷ []) kept).held
lacks_after reached events full bytes kept =
    let a : Kept = after_calls reached 0 events kept in
    subst (λ (b : Kept). LacksPartials full b.held) (sym (calls_more reached 0 events (call.Removed full, bytes) kept))
    (λ r is. is_gone (is_partial_of full) a.held r (is_partial full r is))

pub part_removed_after : (reached : Reached) (events : List Event) (full : Resource) (bytes : List ℕ) (kept : Kept)
    → Removes full (after_calls reached 0 events kept) (after_calls reached 0 (events ++ (call.PartRemoved full, bytes) ∷ []) kept)
part_removed_after reached events full bytes kept =
    let a : Kept = after_calls reached 0 events kept in
    let n : ℕ = 0 + length events in
    subst (λ (b : Kept). Removes full a b) (sym (calls_more reached 0 events (call.PartRemoved full, bytes) kept))
    (record { others = some_gone full (λ r. if is_partial_of full r then reached n r else false) a.held (λ r is. partial_is full r (firsts (is_partial_of full r) (reached n r) is)); staged = refl })

-- ---- the same of a folder: what it noted before, and with the call

joined : (inside events now : List Event) (event : Event) → inside ≡ events → now ≡ inside ++ event ∷ [] → now ≡ events ++ event ∷ []
joined inside events now event same is = is ∙ ap (λ (x : List Event). x ++ event ∷ []) same

pub now_staged : (reached : Reached) (inside events now : List Event) (r : Resource) (bytes : List ℕ) (kept : Kept) → inside ≡ events → now ≡ inside ++ (call.Staged r, bytes) ∷ []
    → Stages (after_calls reached 0 events kept) (after_calls reached 0 now kept) r bytes
now_staged reached inside events now r bytes kept same is =
    subst (λ (x : List Event). Stages (after_calls reached 0 events kept) (after_calls reached 0 x kept) r bytes) (sym (joined inside events now (call.Staged r, bytes) same is))
    (staged_after reached events r bytes kept)

pub now_failed : (reached : Reached) (inside events now : List Event) (bytes : List ℕ) (kept : Kept) → inside ≡ events → now ≡ inside ++ (call.Failed, bytes) ∷ []
    → after_calls reached 0 now kept ≡ after_calls reached 0 events kept
now_failed reached inside events now bytes kept same is =
    ap (λ (x : List Event). after_calls reached 0 x kept) (joined inside events now (call.Failed, bytes) same is) ∙ failed_after reached events bytes kept

pub now_marked : (reached : Reached) (inside events now : List Event) (bytes : List ℕ) (kept : Kept) → inside ≡ events → now ≡ inside ++ (call.Marked, bytes) ∷ []
    → after_calls reached 0 now kept ≡ after_calls reached 0 events kept
now_marked reached inside events now bytes kept same is =
    ap (λ (x : List Event). after_calls reached 0 x kept) (joined inside events now (call.Marked, bytes) same is) ∙ marked_after reached events bytes kept

pub now_settled : (reached : Reached) (inside events now : List Event) (bytes : List ℕ) (kept : Kept) → inside ≡ events → now ≡ inside ++ (call.Settled, bytes) ∷ []
    → Settles (after_calls reached 0 events kept) (after_calls reached 0 now kept)
now_settled reached inside events now bytes kept same is =
    subst (λ (x : List Event). Settles (after_calls reached 0 events kept) (after_calls reached 0 x kept)) (sym (joined inside events now (call.Settled, bytes) same is))
    (settled_after reached events bytes kept)

pub now_cut : (reached : Reached) (inside events now : List Event) (bytes : List ℕ) (kept : Kept) → inside ≡ events → now ≡ inside ++ (call.Cut, bytes) ∷ []
    → Unstages (after_calls reached 0 events kept) (after_calls reached 0 now kept)
now_cut reached inside events now bytes kept same is =
    subst (λ (x : List Event). Unstages (after_calls reached 0 events kept) (after_calls reached 0 x kept)) (sym (joined inside events now (call.Cut, bytes) same is))
    (cut_after reached events bytes kept)

pub now_removed : (reached : Reached) (inside events now : List Event) (full : Resource) (bytes : List ℕ) (kept : Kept) → inside ≡ events → now ≡ inside ++ (call.Removed full, bytes) ∷ []
    → Removes full (after_calls reached 0 events kept) (after_calls reached 0 now kept)
now_removed reached inside events now full bytes kept same is =
    subst (λ (x : List Event). Removes full (after_calls reached 0 events kept) (after_calls reached 0 x kept)) (sym (joined inside events now (call.Removed full, bytes) same is))
    (removed_after reached events full bytes kept)

pub now_lacks : (reached : Reached) (inside events now : List Event) (full : Resource) (bytes : List ℕ) (kept : Kept) → inside ≡ events → now ≡ inside ++ (call.Removed full, bytes) ∷ []
    → LacksPartials full (after_calls reached 0 now kept).held
now_lacks reached inside events now full bytes kept same is =
    subst (λ (x : List Event). LacksPartials full (after_calls reached 0 x kept).held) (sym (joined inside events now (call.Removed full, bytes) same is))
    (lacks_after reached events full bytes kept)

pub now_part_removed : (reached : Reached) (inside events now : List Event) (full : Resource) (bytes : List ℕ) (kept : Kept) → inside ≡ events → now ≡ inside ++ (call.PartRemoved full, bytes) ∷ []
    → Removes full (after_calls reached 0 events kept) (after_calls reached 0 now kept)
now_part_removed reached inside events now full bytes kept same is =
    subst (λ (x : List Event). Removes full (after_calls reached 0 events kept) (after_calls reached 0 x kept)) (sym (joined inside events now (call.PartRemoved full, bytes) same is))
    (part_removed_after reached events full bytes kept)

-- nothing was removed, since the call failed before
pub now_unremoved : (reached : Reached) (inside events now : List Event) (full : Resource) (bytes : List ℕ) (kept : Kept) → inside ≡ events → now ≡ inside ++ (call.Failed, bytes) ∷ []
    → Removes full (after_calls reached 0 events kept) (after_calls reached 0 now kept)
now_unremoved reached inside events now full bytes kept same is =
    let a : Kept = after_calls reached 0 events kept in
    subst (λ (b : Kept). Removes full a b) (sym (now_failed reached inside events now bytes kept same is)) (record { others = λ r. inl refl; staged = refl })

pub each_now : (reached : Reached) (inside events now : List Event) (event : Event) (kept : Kept) → inside ≡ events → now ≡ inside ++ event ∷ []
    → after_each reached 0 now kept ≡ after_each reached 0 events kept ++ after_calls reached 0 now kept ∷ []
each_now reached inside events now event kept same is =
    subst (λ (x : List Event). after_each reached 0 x kept ≡ after_each reached 0 events kept ++ after_calls reached 0 x kept ∷ []) (sym (joined inside events now event same is))
    (each_more reached 0 events event kept)

-- a folder's model is a record of these
abbrev pub Shows : List Event → ℕ → Path → List Move → List Call → Path → Option ℕ → Calls → Type 0
Shows events failures root moves made place published shown =
    ◌≡◌ {A = Calls} (record { events = events; failures = failures; root = root; moves = moves; made = made; place = place; published = published }) shown

-- what a folder noted is what its model has
pub same_events : (events : List Event) (failures : ℕ) (root : Path) (moves : List Move) (made : List Call) (place : Path) (published : Option ℕ) (shown : Calls)
    → Shows events failures root moves made place published shown → events ≡ shown.events
same_events events failures root moves made place published shown is = ap (λ (x : Calls). x.events) is

-- by its model, the folder settled with the calls for what it had staged
pub settled_calls : (events : List Event) (failures : ℕ) (root : Path) (moves : List Move) (made : List Call) (place : Path) (published : Option ℕ) (shown : Calls) (folders : List Path) (after : List Call)
    → Shows events failures root moves made place published shown
    → AreCovered root folders moves → after ≡ made ++ done (settling moves folders)
    → (them : List Path) × AreCovered shown.root them shown.moves × (after ≡ shown.made ++ done (settling shown.moves them))
settled_calls events failures root moves made place published shown folders after is covered takes =
    subst (λ (x : Calls). (them : List Path) × AreCovered x.root them x.moves × (after ≡ x.made ++ done (settling x.moves them))) is (folders, covered, takes)

pub cut_calls : (events : List Event) (failures : ℕ) (root : Path) (moves : List Move) (made : List Call) (place : Path) (published : Option ℕ) (shown : Calls) (folders : List Path) (after : List Call)
    → Shows events failures root moves made place published shown
    → AreCovered root folders moves → (after ≡ made) ⊎ ((some : List Call) × (after ≡ made ++ some) × Fails (settling moves folders) some)
    → (them : List Path) × AreCovered shown.root them shown.moves × ((after ≡ shown.made) ⊎ ((some : List Call) × (after ≡ shown.made ++ some) × Fails (settling shown.moves them) some))
cut_calls events failures root moves made place published shown folders after is covered takes =
    subst (λ (x : Calls). (them : List Path) × AreCovered x.root them x.moves × ((after ≡ x.made) ⊎ ((some : List Call) × (after ≡ x.made ++ some) × Fails (settling x.moves them) some))) is (folders, covered, takes)

-- by its model, the folder made the calls of a removal, with the paths that were made for it
pub removed_calls : (events : List Event) (failures : ℕ) (root : Path) (moves : List Move) (made : List Call) (place : Path) (published : Option ℕ) (shown : Calls) (full : Resource) (from to : Path) (after : List Call)
    → Shows events failures root moves made place published shown
    → from ≡ partials_path root full → to ≡ removed_path root → HasMoved from to made after ⊎ HasNotMoved from to made after
    → HasMoved (partials_path shown.root full) (removed_path shown.root) shown.made after ⊎ HasNotMoved (partials_path shown.root full) (removed_path shown.root) shown.made after
removed_calls events failures root moves made place published shown full from to after is first second moved =
    subst (λ (x : Calls). HasMoved (partials_path x.root full) (removed_path x.root) x.made after ⊎ HasNotMoved (partials_path x.root full) (removed_path x.root) x.made after) is
    (subst (λ (x : Path). HasMoved (partials_path root full) x made after ⊎ HasNotMoved (partials_path root full) x made after) second
    (subst (λ (x : Path). HasMoved x to made after ⊎ HasNotMoved x to made after) first moved))
