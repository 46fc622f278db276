-- What holds of every world that the beginning leads to.
use Rattle.std.proofs.Common.{◌≡◌, ◌≢◌, ℕ, Bool, true, false, cond, inl, inr, ◌⊎◌, List, [], ◌∷◌, ◌++◌, length, Option, Some, None, refl, sym, ap, ◌∙◌, subst, ◌==◌, if◌then◌else◌}
use Rattle.std.specs.Prelude.{Contains}
use Rattle.std.proofs.lemmas.Bool.{cases_Bool, eqb-true}
use Rattle.std.proofs.lemmas.List.Elements.{Contains-append_left, Contains-push_cases}
use Rattle.tl_hash.specs.Bytes.{Bytes}
use Rattle.tl_tile.specs.declared.resource.Resource.{Resource}
use Rattle.tl_tile.specs.declared.resource.Resource.TheVariants as resource
use Rattle.tl_tile.specs.Needed.{needed_resources}
use Rattle.tl_log.specs.Histories.{Prefix, last_of, note_if}
use Rattle.tl_log.specs.Resources.{same_resource}
use Rattle.tl_log.proofs.Needs.{same_is}
use Rattle.tl_archive.specs.Complete.{text_of}
use Rattle.tl_archive.proofs.Lists.{none_has}
use Rattle.tl_archive.proofs.Needs.{needed_within}
use Rattle.tl_bucket.specs.Bucket.{Request, put_commit, put_resource, put_checkpoint, put_new, with_resource, is_met}
use Rattle.tl_bucket.specs.Operators.{Setting, World, beginning, IsNeeded, IsWhole, MaySend, Event, sends, does, MayHappen, once_done, after, LeadsBy, Leads}
use Rattle.tl_bucket.proofs.Commits.{some_same, same_bytes}
use Rattle.tl_bucket.proofs.Grown.{Grows, grows_not, grows_on, needed_stays, whole_stays, may_send_later, commits_after}

-- the publication is of a checkpoint that was sent
abbrev pub WasSent : World → Prefix → Type 0
WasSent w q = (wanted : Option Bytes) × Contains w.sent (put_checkpoint wanted q)

-- each commit had the ones before it, each tile and bundle is one that a committed log needs, all that was sent may
-- be sent, all that was shown is there whole, and the checkpoint is that of the last publication
pub record IsSound (setting : Setting) (w : World) : Type 0 where
  pub commits : (n : ℕ) (batch : List Bytes) → w.store.commits n ≡ Some batch → MaySend setting w (put_commit n batch)
  pub held : (r : Resource) (bytes : Bytes) → r ≢ resource.Checkpoint → w.store.held r ≡ Some bytes → IsNeeded setting w.store r bytes
  pub sent : (request : Request) → Contains w.sent request → MaySend setting w request
  pub shown : (q : Prefix) → Contains w.shown q → IsWhole setting w.store q
  pub was_sent : (q : Prefix) → Contains w.shown q → WasSent w q
  pub last : w.store.held resource.Checkpoint ≡ note_if (last_of w.shown)

pub sound_at_first : (setting : Setting) → IsSound setting beginning
sound_at_first setting = record {
  commits = λ n batch is. absurd (cc);
  held = λ r bytes other is. absurd (cc);
  sent = λ request has. absurd (none_has request has);
  shown = λ q has. absurd (none_has q has);
  was_sent = λ q has. absurd (none_has q has);
  last = refl;
}

-- a world that goes on from a sound one
abbrev pub GoesOn : Setting → World → World → Type 0
GoesOn setting w later = Grows w later × IsSound setting later

-- ---- an operator sends a request

on_sent : (setting : Setting) (w : World) (request : Request) → IsSound setting w → MaySend setting w request → GoesOn setting w (after setting.tag w (sends request))
on_sent setting w request sound may = (
  grows,
  record {
    commits = λ n batch is. may_send_later setting w later grows (put_commit n batch) (sound.commits n batch is);
    held = λ r bytes other is. needed_stays setting w later r bytes grows (sound.held r bytes other is);
    sent = λ one has. may_send_later setting w later grows one (sent one has);
    shown = λ q has. whole_stays setting w later q grows (sound.shown q has);
    was_sent = λ q has. let was = sound.was_sent q has in (was.0, Contains-append_left w.sent (request ∷ []) _ was.1);
    last = sound.last;
  },
)
  where
    later : World
    later = after setting.tag w (sends request)

    grows : Grows w later
    grows = record { commits = λ n batch is. is; held = λ r bytes other is. is; shown = λ q has. has }

    sent : (one : Request) → Contains later.sent one → MaySend setting w one
    sent one has = elim (Contains-push_cases w.sent request one has) as (λ _. MaySend setting w one) [
      | inl old ↦ sound.sent one old
      | inr own ↦ subst (MaySend setting w) own may
    ]

-- ---- the store does a request

-- under the number is the new batch if nothing was there, and else what was there
new_or_old : {X : Type 0} (new x : X) (old : Option X) → put_new new old ≡ Some x → (new ≡ x) ⊎ (old ≡ Some x)
new_or_old new x None is = inl (some_same new x is)
new_or_old new x (Some old) is = inr is

new_under : (n m : ℕ) (new x : List Bytes) (old : Option (List Bytes)) → (if m == n then put_new new old else old) ≡ Some x → ((m ≡ n) × (new ≡ x)) ⊎ (old ≡ Some x)
new_under n m new x old is = elim (cases_Bool (m == n)) as (λ _. ((m ≡ n) × (new ≡ x)) ⊎ (old ≡ Some x)) [
  | inl same ↦
      let met : put_new new old ≡ Some x = sym (ap (λ (b : Bool). cond b (put_new new old) old) same) ∙ is in
      elim (new_or_old new x old met) as (λ _. ((m ≡ n) × (new ≡ x)) ⊎ (old ≡ Some x)) [
        | inl own ↦ inl (eqb-true m n same, own)
        | inr was ↦ inr was
      ]
  | inr other ↦ inr (sym (ap (λ (b : Bool). cond b (put_new new old) old) other) ∙ is)
]

on_commit : (setting : Setting) (w : World) (n : ℕ) (batch : List Bytes) → IsSound setting w → MaySend setting w (put_commit n batch) → GoesOn setting w (once_done setting.tag w (put_commit n batch))
on_commit setting w n batch sound may = (
  grows,
  record {
    commits = λ m own is. may_send_later setting w later grows (put_commit m own) (commits m own is);
    held = λ r bytes other is. needed_stays setting w later r bytes grows (sound.held r bytes other is);
    sent = λ one has. may_send_later setting w later grows one (sound.sent one has);
    shown = λ q has. whole_stays setting w later q grows (sound.shown q has);
    was_sent = sound.was_sent;
    last = sound.last;
  },
)
  where
    later : World
    later = once_done setting.tag w (put_commit n batch)

    grows : Grows w later
    grows = record {
      commits = commits_after setting.tag w (does (put_commit n batch));
      held = λ r bytes other is. is;
      shown = λ q has. has;
    }

    commits : (m : ℕ) (own : List Bytes) → later.store.commits m ≡ Some own → MaySend setting w (put_commit m own)
    commits m own is = elim (new_under n m batch own (w.store.commits m) is) as (λ _. MaySend setting w (put_commit m own)) [
      | inl new ↦ subst (λ (k : ℕ). MaySend setting w (put_commit k own)) (sym new.0) may
      | inr old ↦ sound.commits m own old
    ]

-- what is under a resource after a put of one is what was put, or what was there
put_or_old : (s r : Resource) (new : Bytes) (old : Option Bytes) → (P : Option Bytes → Type 0) → ((s ≡ r) → P (Some new)) → P old → P (if same_resource s r then Some new else old)
put_or_old s r new old P own other = elim (cases_Bool (same_resource s r)) as (λ _. P (if same_resource s r then Some new else old)) [
  | inl same ↦ subst P (sym (ap (λ (b : Bool). cond b (Some new) old) same)) (own (same_is s r same))
  | inr apart ↦ subst P (sym (ap (λ (b : Bool). cond b (Some new) old) apart)) other
]

on_resource : (setting : Setting) (w : World) (r : Resource) (bytes : Bytes) → IsSound setting w → IsNeeded setting w.store r bytes → GoesOn setting w (once_done setting.tag w (put_resource r bytes))
on_resource setting w r bytes sound may = (
  grows,
  record {
    commits = λ n batch is. may_send_later setting w later grows (put_commit n batch) (sound.commits n batch is);
    held = λ s own other is. needed_stays setting w later s own grows (held s own other is);
    sent = λ one has. may_send_later setting w later grows one (sound.sent one has);
    shown = λ q has. whole_stays setting w later q grows (sound.shown q has);
    was_sent = sound.was_sent;
    last = put_or_old resource.Checkpoint r bytes (w.store.held resource.Checkpoint) (λ o. o ≡ note_if (last_of w.shown))
        (λ same. absurd (plain (sym same))) sound.last;
  },
)
  where
    later : World
    later = once_done setting.tag w (put_resource r bytes)

    plain : r ≢ resource.Checkpoint
    plain = (needed_within (length may.entries) r may.needed).1

    -- what is needed under the resource is what was put
    agrees : (s : Resource) (own : Bytes) → s ≡ r → IsNeeded setting w.store s own → Some bytes ≡ Some own
    agrees s own same is =
        let has : Contains (needed_resources (length is.entries)) r = subst (Contains (needed_resources (length is.entries))) same is.needed in
        let at : text_of setting.digest s is.entries ≡ text_of setting.digest r is.entries = ap (λ (x : Resource). text_of setting.digest x is.entries) same in
        ap (λ (x : Bytes). Some x) (may.bytes_of ∙ same_bytes setting.digest w.store may.entries is.entries r may.committed is.committed may.needed has ∙ sym at ∙ sym is.bytes_of)

    grows : Grows w later
    grows = record {
      commits = λ n batch is. is;
      held = λ s own other is. put_or_old s r bytes (w.store.held s) (λ o. o ≡ Some own) (λ same. agrees s own same (sound.held s own other is)) is;
      shown = λ q has. has;
    }

    held : (s : Resource) (own : Bytes) → s ≢ resource.Checkpoint → later.store.held s ≡ Some own → IsNeeded setting w.store s own
    held s own other = put_or_old s r bytes (w.store.held s) (λ o. o ≡ Some own → IsNeeded setting w.store s own)
        (λ same is. subst (λ (x : Resource). IsNeeded setting w.store x own) (sym same) (subst (IsNeeded setting w.store r) (some_same bytes own is) may))
        (sound.held s own other)

-- the note of the last publication, after one was added
last_note : (history : List Prefix) (q : Prefix) → note_if (last_of (history ++ q ∷ [])) ≡ Some q.note
last_note [] q = refl
last_note (p ∷ []) q = refl
last_note (p ∷ r ∷ history) q = last_note (r ∷ history) q

abbrev pub with_shown : World → Prefix → World
with_shown w q = record w { store = with_resource resource.Checkpoint q.note w.store; shown = w.shown ++ q ∷ [] }

on_shown : (setting : Setting) (w : World) (q : Prefix) → IsSound setting w → IsWhole setting w.store q → WasSent w q → GoesOn setting w (with_shown w q)
on_shown setting w q sound may was = (
  grows,
  record {
    commits = λ n batch is. may_send_later setting w later grows (put_commit n batch) (sound.commits n batch is);
    held = λ s own other is. needed_stays setting w later s own grows (sound.held s own other (back s other ∙ is));
    sent = λ one has. may_send_later setting w later grows one (sound.sent one has);
    shown = λ p has. whole_stays setting w later p grows (shown p has);
    was_sent = was_sent;
    last = sym (last_note w.shown q);
  },
)
  where
    later : World
    later = with_shown w q

    back : (s : Resource) → s ≢ resource.Checkpoint → w.store.held s ≡ later.store.held s
    back s other = put_or_old s resource.Checkpoint q.note (w.store.held s) (λ o. w.store.held s ≡ o) (λ same. absurd (other same)) refl

    grows : Grows w later
    grows = record {
      commits = λ n batch is. is;
      held = λ s own other is. sym (back s other) ∙ is;
      shown = λ p has. Contains-append_left w.shown (q ∷ []) p has;
    }

    was_sent : (p : Prefix) → Contains later.shown p → WasSent w p
    was_sent p has = elim (Contains-push_cases w.shown q p has) as (λ _. WasSent w p) [
      | inl old ↦ sound.was_sent p old
      | inr own ↦ subst (WasSent w) own was
    ]

    shown : (p : Prefix) → Contains later.shown p → IsWhole setting w.store p
    shown p has = elim (Contains-push_cases w.shown q p has) as (λ _. IsWhole setting w.store p) [
      | inl old ↦ sound.shown p old
      | inr own ↦ subst (IsWhole setting w.store) own may
    ]

on_checkpoint : (setting : Setting) (w : World) (met : Bool) (q : Prefix) → IsSound setting w → IsWhole setting w.store q → WasSent w q → GoesOn setting w (if met then with_shown w q else w)
on_checkpoint setting w true q sound may was = on_shown setting w q sound may was
on_checkpoint setting w false q sound may was = (grows_not w, sound)

on_done : (setting : Setting) (w : World) (request : Request) → IsSound setting w → Contains w.sent request → GoesOn setting w (once_done setting.tag w request)
on_done setting w (put_commit n batch) sound has = on_commit setting w n batch sound (sound.sent (put_commit n batch) has)
on_done setting w (put_resource r bytes) sound has = on_resource setting w r bytes sound (sound.sent (put_resource r bytes) has)
on_done setting w (put_checkpoint wanted q) sound has =
    on_checkpoint setting w (is_met setting.tag wanted (w.store.held resource.Checkpoint)) q sound (sound.sent (put_checkpoint wanted q) has).0 (wanted, has)

pub on_event : (setting : Setting) (w : World) (e : Event) → IsSound setting w → MayHappen setting w e → GoesOn setting w (after setting.tag w e)
on_event setting w (sends request) sound may = on_sent setting w request sound may
on_event setting w (does request) sound has = on_done setting w request sound has

pub on_events : (setting : Setting) (es : List Event) (w end : World) → IsSound setting w → LeadsBy setting es w end → GoesOn setting w end
on_events setting [] w end sound same = subst (GoesOn setting w) same (grows_not w, sound)
on_events setting (e ∷ es) w end sound leads =
    let one = on_event setting w e sound leads.0 in
    let rest = on_events setting es (after setting.tag w e) end one.1 leads.1 in
    (grows_on w (after setting.tag w e) end one.0 rest.0, rest.1)

pub sound_led : (setting : Setting) (w : World) → Leads setting beginning w → IsSound setting w
sound_led setting w leads = (on_events setting leads.0 beginning w (sound_at_first setting) leads.1).1

pub grows_led : (setting : Setting) (w later : World) → Leads setting beginning w → Leads setting w later → Grows w later
grows_led setting w later leads more = (on_events setting more.0 w later (sound_led setting w leads) more.1).0
