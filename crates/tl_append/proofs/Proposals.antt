-- What the note of a checkpoint states, and what a log that is opened has of a proposal.
use Rattle.std.proofs.Common.{inl, inr, option_map, ◌⊎◌, ◌≡◌, ℕ, ◌≤◌, List, [], ◌∷◌, Option, Some, None, refl, sym, ap, subst, ◌∙◌, arith}
use Rattle.tl_hash.specs.Bytes.{Bytes}
use Rattle.tl_hash.specs.declared.head.Head.{Head}
use Rattle.tl_note.specs.Key.{Key}
use Rattle.tl_note.proofs.OneNote.{one_note}
use Rattle.tl_tile.specs.declared.resource.Resource.TheVariants as resource
use Rattle.tl_checkpoint.specs.Checkpoint as checkpoint
use Rattle.tl_checkpoint.specs.Checkpoint.{checkpoint_text}
use Rattle.tl_checkpoint.proofs.OneText.{one_checkpoint}
use Rattle.tl_archive.specs.Shelves.{Held}
use Rattle.tl_checkpoint.specs.OpenCheckpoint.{IsSignedCheckpoint}
use Rattle.tl_ledger.specs.Opening.{IsNamed, IsOfHeld, IsOfNote, IsStated, found_size}
use Rattle.tl_client.specs.Trusted.{IsTrusted}
use Rattle.tl_run.specs.Signing.{LogKey}
use Rattle.tl_run.specs.declared.keys.LogKey.{LogKey as GivenKey}
use Rattle.tl_append.specs.Cosigning.{HasEnough}
use Rattle.tl_append.specs.Inner.Proposals.{IsNewer}
use Rattle.tl_append.specs.Proposing.{HasProposal, IsNoOlder, IsProposed, IsThere}
use Rattle.tl_append.specs.Running.{AreLogKeys, HasOwnProposal}

-- a note of this checkpoint of the log states its size
pub states_size : (note : Bytes) (keys : List Key) (c : checkpoint.Head) (name : Bytes) → IsSignedCheckpoint note keys c → name ≡ c.origin → IsNamed keys name
    → (head : Head) × IsOfNote note keys head × (head.size ≡ c.size)
states_size note keys c name signed same named = (record { size = c.size; root = c.root }, (c, signed, subst (IsNamed keys) same named, refl, refl), refl)

-- enough witnesses cosigned a note
pub has_enough : (note : Bytes) (keys witnesses : List Key) (need : ℕ) (c : checkpoint.Head)
    → IsTrusted note (record { keys = keys; witnesses = witnesses; need = need }) c
    → HasEnough (record { witnesses = witnesses; need = need; policy = None }) note
has_enough note keys witnesses need c trusted = inr (keys, c, trusted)

-- no proposal is kept
pub none_kept : (MayHave : Option Bytes → Type 0) (keys : List Key) (size : ℕ) → MayHave None → HasProposal MayHave keys size
none_kept MayHave keys size had = (None, had, _)

-- an older proposal is kept
pub older_kept : (MayHave : Option Bytes → Type 0) (keys : List Key) (note : Bytes) (size found : ℕ) → MayHave (Some note)
    → ((head : Head) × IsOfNote note keys head × (head.size ≡ size)) → size ≤ found → HasProposal MayHave keys found
older_kept MayHave keys note size found had (head, of, same) less = (Some note, had, (head, of, omega (arith, same, less)))

-- the log is that of the proposal that is kept
pub own_kept : (MayHave : Option Bytes → Type 0) (keys : List Key) (note : Bytes) (found : Option Head) → MayHave (Some note)
    → IsStated note keys found → HasProposal MayHave keys (found_size found)
own_kept MayHave keys note found had (head, is, of) =
    let less : head.size ≤ found_size found = subst (λ (f : Option Head). head.size ≤ found_size f) (sym is) (omega arith) in
    (Some note, had, (head, of, less))

-- a log has all of its proposal, by the key of a log of this name
pub has_own : {Rests : Type 0} (given : GivenKey) (name named : Bytes) (signer : LogKey) (opener : Key) (MayHave : Option Bytes → Type 0) (size : ℕ)
    → name ≡ named → AreLogKeys given name signer opener → Rests ⊎ HasProposal MayHave (opener ∷ []) size → Rests ⊎ HasOwnProposal given named MayHave size
has_own given name named signer opener MayHave size same are (inl rests) = inl rests
has_own given name named signer opener MayHave size same are (inr has) =
    inr (signer, opener, subst (λ (n : Bytes). AreLogKeys given n signer opener) same are, has)

-- ---- the checkpoint that is there

-- the log is that of the checkpoint that is there
pub has_shown : (held : Held) (keys : List Key) (found : Option Head) → IsOfHeld held keys found → IsNoOlder (held resource.Checkpoint) keys (found_size found)
has_shown held keys None none = subst (λ (n : Option Bytes). IsNoOlder n keys 0) (sym none) _
has_shown held keys (Some head) (note, is, of) =
    let less : head.size ≤ head.size = omega arith in
    subst (λ (n : Option Bytes). IsNoOlder n keys head.size) (sym is) (head, of, less)

pub is_there : (held : Held) (keys : List Key) (found : Option Head) → IsOfHeld held keys found → (found ≡ None → ⊥) → IsThere held keys found
is_there held keys None none some = absurd (some refl)
is_there held keys (Some head) (note, is, of) some = (note, is, (head, refl, of))

-- a log of more entries has all entries of the checkpoint too
pub grown_shown : (note : Option Bytes) (keys : List Key) (size more : ℕ) → size ≤ more → IsNoOlder note keys size → IsNoOlder note keys more
grown_shown None keys size more less older = _
grown_shown (Some note) keys size more less (head, of, older) =
    let least : head.size ≤ more = omega (arith, older, less) in
    (head, of, least)

-- a note states one size
pub one_size : (note : Bytes) (keys : List Key) (a b : Head) → IsOfNote note keys a → IsOfNote note keys b → a.size ≡ b.size
one_size note keys a b (c, signed, named, sized, rooted) (d, signed_too, named_too, sized_too, rooted_too) =
    let text = (one_note note (checkpoint_text c) (checkpoint_text d) signed.lines signed_too.lines signed.noted signed_too.noted).0 in
    sym sized ∙ ap (λ (h : checkpoint.Head). h.size) (one_checkpoint c d signed.stated signed_too.stated text) ∙ sized_too

-- the log of a proposal with more entries has all entries of the checkpoint
pub proposal_shown : (shown : Option Bytes) (keys : List Key) (note text : Bytes) (size had : ℕ) (found : Option Head)
    → ((head : Head) × IsOfNote note keys head × (head.size ≡ size)) → text ≡ note → IsStated text keys found
    → had ≤ size → IsNoOlder shown keys had → IsNoOlder shown keys (found_size found)
proposal_shown shown keys note text size had found (one, of, same) alike (head, is, of_too) less older =
    let own : one.size ≡ head.size = one_size note keys one head of (subst (λ (n : Bytes). IsOfNote n keys head) alike of_too) in
    let least : had ≤ found_size found = subst (λ (f : Option Head). had ≤ found_size f) (sym is) (omega (arith, less, same, own)) in
    grown_shown shown keys had (found_size found) least older

-- ---- a newer proposal

newer_note : {X : Type 0} (MayHave : Option Bytes → Type 0) (keys : List Key) (size : ℕ) (bytes : X → Bytes) (kept : Option X) (note : X)
    → IsNewer MayHave keys size (option_map bytes kept) → kept ≡ Some note → IsNewer MayHave keys size (Some (bytes note))
newer_note MayHave keys size bytes kept note newer is = subst (λ (k : Option _). IsNewer MayHave keys size (option_map bytes k)) is newer

-- the log is that of a newer proposal
pub own_newer : {X : Type 0} (MayHave : Option Bytes → Type 0) (keys : List Key) (size : ℕ) (bytes : X → Bytes) (kept : Option X) (note : X) (text : Bytes) (found : Option Head)
    → IsNewer MayHave keys size (option_map bytes kept) → kept ≡ Some note → text ≡ bytes note → IsStated text keys found → IsProposed MayHave keys found
own_newer MayHave keys size bytes kept note text found newer is same stated =
    (bytes note, (newer_note MayHave keys size bytes kept note newer is).0, subst (λ (n : Bytes). IsStated n keys found) same stated)

-- the log of a newer proposal has no fewer entries than the checkpoint
pub newer_shown : {X : Type 0} (shown : Option Bytes) (MayHave : Option Bytes → Type 0) (keys : List Key) (size : ℕ) (bytes : X → Bytes) (kept : Option X) (note : X) (text : Bytes)
    (had : ℕ) (found : Option Head) → IsNewer MayHave keys size (option_map bytes kept) → kept ≡ Some note → text ≡ bytes note → IsStated text keys found
    → had ≤ size → IsNoOlder shown keys had → IsNoOlder shown keys (found_size found)
newer_shown shown MayHave keys size bytes kept note text had found newer is same stated less older =
    let (may, (head, of, more)) = newer_note MayHave keys size bytes kept note newer is in
    proposal_shown shown keys (bytes note) text head.size had found (head, of, refl) same stated (omega (arith, less, more)) older
