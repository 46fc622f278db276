-- A log can always go on.
use Rattle.std.proofs.Common.{◌≡◌, ℕ, suc, ◌≤◌, ◌==◌, Bool, true, cond, inl, inr, List, [], ◌∷◌, ◌++◌, length, Option, Some, None, refl, sym, ap, ◌∙◌, subst, if◌then◌else◌, arith}
use Rattle.std.specs.Prelude.{Contains}
use Rattle.std.proofs.lemmas.Bool.{cases_eq, eq-eqb}
use Rattle.std.proofs.lemmas.Slice.Eq.{bytes_eq-Decides}
use Rattle.std.proofs.lemmas.List.{length-append}
use Rattle.std.proofs.lemmas.List.Elements.{Contains-push}
use Rattle.tl_hash.specs.Bytes.{Bytes}
use Rattle.tl_tile.specs.declared.resource.Resource.{Resource}
use Rattle.tl_tile.specs.declared.resource.Resource.TheVariants as resource
use Rattle.tl_tile.specs.Needed.{needed_resources}
use Rattle.tl_log.specs.Histories.{Prefix, last_of, note_if}
use Rattle.tl_log.specs.Resources.{same_resource}
use Rattle.tl_log.proofs.Needs.{same_self}
use Rattle.tl_archive.specs.Complete.{text_of}
use Rattle.tl_archive.proofs.Lists.{none_has, has_head, has_tail, cons_cases}
use Rattle.tl_archive.proofs.Needs.{needed_within}
use Rattle.tl_bucket.specs.Bucket.{Store, Committed, IsCommitted, Request, put_commit, put_resource, put_checkpoint, put_new, with_resource, is_met}
use Rattle.tl_bucket.specs.Operators.{Setting, World, TellsSize, IsWhole, MayReplace, MaySend, Event, sends, does, after, LeadsBy, Leads}
use Rattle.tl_bucket.proofs.Commits.{log_extends, is_there, total}
use Rattle.tl_bucket.proofs.Grown.{Grows, committed_stays, commits_led}
use Rattle.tl_bucket.proofs.Sound.{IsSound, on_events}
use Rattle.tl_bucket.proofs.Shown.{last_pushed, last_has}

leads_by : (setting : Setting) (es fs : List Event) (a b c : World) → LeadsBy setting es a b → LeadsBy setting fs b c → LeadsBy setting (es ++ fs) a c
leads_by setting [] fs a b c same rest = subst (λ (v : World). LeadsBy setting fs v c) (sym same) rest
leads_by setting (e ∷ es) fs a b c leads rest = (leads.0, leads_by setting es fs (after setting.tag a e) b c leads.1 rest)

leads_on : (setting : Setting) (a b c : World) → Leads setting a b → Leads setting b c → Leads setting a c
leads_on setting a b c one other = (one.0 ++ other.0, leads_by setting one.0 other.0 a b c one.1 other.1)

-- what is sent is done at once
abbrev pub at_once : Setting → World → Request → World
at_once setting w request = after setting.tag (after setting.tag w (sends request)) (does request)

leads_at_once : (setting : Setting) (w : World) (request : Request) → MaySend setting w request → Leads setting w (at_once setting w request)
leads_at_once setting w request may = (sends request ∷ does request ∷ [], (may, (Contains-push w.sent request, refl)))

-- ---- the next commit

cond_true : {X : Type 0} (test : Bool) (x y : X) → test ≡ true → (if test then x else y) ≡ x
cond_true test x y is = ap (λ (b : Bool). cond b x y) is

pub can_commit : (setting : Setting) (w : World) (n : ℕ) (entries batch : List Bytes) → Committed w.store n entries → w.store.commits (suc n) ≡ None
    → (later : World) × Leads setting w later × Committed later.store (suc n) (entries ++ batch)
can_commit setting w n entries batch is none = (later, leads, (entries, batch, before, put, refl))
  where
    request : Request
    request = put_commit (suc n) batch

    may : MaySend setting w request
    may = (omega arith, entries, subst (λ (k : ℕ). Committed w.store k entries) (omega arith) is)

    later : World
    later = at_once setting w request

    leads : Leads setting w later
    leads = leads_at_once setting w request may

    before : Committed later.store n entries
    before = committed_stays w.store later.store (commits_led setting leads.0 w later leads.1) n entries is

    put : later.store.commits (suc n) ≡ Some batch
    put = cond_true (suc n == suc n) (put_new batch (w.store.commits (suc n))) (w.store.commits (suc n)) (eq-eqb (suc n) (suc n) refl) ∙ ap (put_new batch) none

-- ---- what a log needs

-- the resources are there with their bytes, and commits and publications are as they were
pub record IsFilled (setting : Setting) (entries : List Bytes) (rs : List Resource) (w later : World) : Type 0 where
  pub leads : Leads setting w later
  pub there : (r : Resource) → Contains rs r → later.store.held r ≡ Some (text_of setting.digest r entries)
  pub commits : later.store.commits ≡ w.store.commits
  pub shown : later.shown ≡ w.shown

-- the first of the resources is put, and then the others
fill_one : (setting : Setting) (n : ℕ) (entries : List Bytes) (r : Resource) (rs : List Resource) → Contains (needed_resources (length entries)) r
    → (w : World) → IsSound setting w → Committed w.store n entries
    → ((mid : World) → IsSound setting mid → Committed mid.store n entries → (later : World) × IsFilled setting entries rs mid later)
    → (later : World) × IsFilled setting entries (r ∷ rs) w later
fill_one setting n entries r rs needed w sound is go = (
  rest.0,
  record {
    leads = leads_on setting w mid rest.0 leads rest.1.leads;
    there = there;
    commits = rest.1.commits;
    shown = rest.1.shown;
  },
)
  where
    text : Bytes
    text = text_of setting.digest r entries

    request : Request
    request = put_resource r text

    mid : World
    mid = at_once setting w request

    leads : Leads setting w mid
    leads = leads_at_once setting w request (record { entries = entries; committed = (n, is); needed = needed; bytes_of = refl })

    on : Grows w mid × IsSound setting mid
    on = on_events setting leads.0 w mid sound leads.1

    rest : (later : World) × IsFilled setting entries rs mid later
    rest = go mid on.1 (committed_stays w.store mid.store on.0.commits n entries is)

    own : mid.store.held r ≡ Some text
    own = cond_true (same_resource r r) (Some text) (w.store.held r) (same_self r)

    stays : Grows mid rest.0
    stays = (on_events setting rest.1.leads.0 mid rest.0 on.1 rest.1.leads.1).0

    there : (s : Resource) → Contains (r ∷ rs) s → rest.0.store.held s ≡ Some (text_of setting.digest s entries)
    there s has = elim (cons_cases r rs s has) as (λ _. rest.0.store.held s ≡ Some (text_of setting.digest s entries)) [
      | inl same ↦
          subst (λ (x : Resource). rest.0.store.held x ≡ Some (text_of setting.digest x entries)) same
          (stays.held r text (needed_within (length entries) r needed).1 own)
      | inr more ↦ rest.1.there s more
    ]

pub can_fill : (setting : Setting) (n : ℕ) (entries : List Bytes) (rs : List Resource) → ((r : Resource) → Contains rs r → Contains (needed_resources (length entries)) r)
    → (w : World) → IsSound setting w → Committed w.store n entries → (later : World) × IsFilled setting entries rs w later
can_fill setting n entries [] needs w sound is =
    (w, record { leads = ([], refl); there = λ r has. absurd (none_has r has); commits = refl; shown = refl })
can_fill setting n entries (r ∷ rs) needs w sound is =
    fill_one setting n entries r rs (needs r (has_head r rs)) w sound is (can_fill setting n entries rs (λ s has. needs s (has_tail r rs s has)))

-- ---- the checkpoint

-- if the commit after a committed log is missing, no committed log has more entries
few_commits : (w : World) (n : ℕ) (entries own : List Bytes) → Committed w.store n entries → w.store.commits (suc n) ≡ None → IsCommitted w.store own → length own ≤ length entries
few_commits w n entries own is none (m, was) = elim (total m n) as (λ _. length own ≤ length entries) [
  | inl le ↦ fits le
  | inr ge ↦
      elim (cases_eq m n) as (λ _. length own ≤ length entries) [
        | inl same ↦ fits (omega (arith, same))
        | inr other ↦
            let there = is_there w.store m (suc n) own was (omega arith) (omega (arith, ge, other)) in
            absurd (apart there.0 (sym none ∙ there.1))
      ]
]
  where
    fits : m ≤ n → length own ≤ length entries
    fits le =
        let begins = log_extends w.store m n own entries le was is in
        let sum = length-append own begins.0 in
        let long = ap length begins.1 in
        omega (arith, sum, long)

    apart : (batch : List Bytes) → None ≡ Some batch → ⊥
    apart batch e = cc

met_itself : (tag : Bytes → Bytes) (there : Option Bytes) → is_met tag there there ≡ true
met_itself tag None = refl
met_itself tag (Some note) = (bytes_eq-Decides (tag note) (tag note)).1 refl

may_replace : (setting : Setting) (store : Store) (history : List Prefix) (size : ℕ) → ((p : Prefix) → Contains history p → IsWhole setting store p)
    → ((p : Prefix) → Contains history p → length p.entries ≤ size) → (last : Option Prefix) → last_of history ≡ last → MayReplace history size (note_if last)
may_replace setting store history size each few None is = tt
may_replace setting store history size each few (Some p) is = let has = last_has history p is in ((p, has, refl), (length p.entries, (each p has).note, few p has))

can_replace : (setting : Setting) (w : World) (n : ℕ) (q : Prefix) → IsSound setting w → Committed w.store n q.entries → w.store.commits (suc n) ≡ None → IsWhole setting w.store q
    → (later : World) × Leads setting w later × (last_of later.shown ≡ Some q)
can_replace setting w n q sound is none whole = (at_once setting w request, leads_at_once setting w request may, ends)
  where
    wanted : Option Bytes
    wanted = note_if (last_of w.shown)

    request : Request
    request = put_checkpoint wanted q

    may : MaySend setting w request
    may = (whole, may_replace setting w.store w.shown (length q.entries) sound.shown (λ p has. few_commits w n q.entries p.entries is none (sound.shown p has).committed) (last_of w.shown) refl)

    met : is_met setting.tag wanted (w.store.held resource.Checkpoint) ≡ true
    met = ap (is_met setting.tag wanted) sound.last ∙ met_itself setting.tag wanted

    ends : last_of (at_once setting w request).shown ≡ Some q
    ends = ap (λ (b : Bool). last_of (chosen b).shown) met ∙ last_pushed w.shown q
      where
        sent : World
        sent = after setting.tag w (sends request)

        chosen : Bool → World
        chosen b = if b then record sent { store = with_resource resource.Checkpoint q.note w.store; shown = w.shown ++ q ∷ [] } else sent

pub can_show : (setting : Setting) (w : World) → IsSound setting w → (n : ℕ) (q : Prefix) → Committed w.store n q.entries → w.store.commits (suc n) ≡ None → TellsSize q.note (length q.entries)
    → (later : World) × Leads setting w later × (last_of later.shown ≡ Some q)
can_show setting w sound n q is none note = (end.0, leads_on setting w mid end.0 filled.1.leads end.1, end.2)
  where
    filled : (later : World) × IsFilled setting q.entries (needed_resources (length q.entries)) w later
    filled = can_fill setting n q.entries (needed_resources (length q.entries)) (λ r has. has) w sound is

    mid : World
    mid = filled.0

    same : w.store.commits ≡ mid.store.commits
    same = sym filled.1.commits

    on : Grows w mid × IsSound setting mid
    on = on_events setting filled.1.leads.0 w mid sound filled.1.leads.1

    own : Committed mid.store n q.entries
    own = committed_stays w.store mid.store on.0.commits n q.entries is

    end : (later : World) × Leads setting mid later × (last_of later.shown ≡ Some q)
    end = can_replace setting mid n q on.1 own (ap (λ (f : ℕ → Option (List Bytes)). f (suc n)) filled.1.commits ∙ none)
        (record { committed = (n, own); all = filled.1.there; note = note })
