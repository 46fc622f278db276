-- There is a last commit.
use Rattle.std.proofs.Common.{◌≡◌, ℕ, zero, suc, ◌-◌, ◌<◌, ◌≤◌, Bool, inl, inr, List, [], ◌∷◌, ◌++◌, Option, Some, None, refl, sym, ap, ◌∙◌, subst, if◌then◌else◌, arith}
use Rattle.std.proofs.lemmas.Bool.{cases_eq, eq-eqb, ne_eqb}
use Rattle.tl_hash.specs.Bytes.{Bytes}
use Rattle.tl_tile.specs.declared.resource.Resource.TheVariants as resource
use Rattle.tl_bucket.specs.Bucket.{Store, Committed, Request, put_commit, put_resource, put_checkpoint, put_new, with_commit, is_met}
use Rattle.tl_bucket.specs.Operators.{Setting, World, beginning, MaySend, Event, sends, does, MayHappen, once_done, after, LeadsBy, Leads}
use Rattle.tl_bucket.proofs.Commits.{is_there, total}
use Rattle.tl_bucket.proofs.Grown.{CommitsStay, committed_stays, commits_after, either_store}
use Rattle.tl_bucket.proofs.Sound.{IsSound, sound_at_first, on_event}

-- the log after the last commit, which none follows
abbrev pub HasLast : Store → Type 0
HasLast store = (n : ℕ) × (entries : List Bytes) × Committed store n entries × ((m : ℕ) → n < m → store.commits m ≡ None)

none_or_some : {X : Type 0} (x : X) (o : Option X) → o ≡ None → o ≡ Some x → ⊥
none_or_some x o none some = let e : None ≡ Some x = sym none ∙ some in cc

-- a commit that has all before it comes at most right after the last
within_next : (store : Store) (last : HasLast store) (k : ℕ) (front : List Bytes) → 0 < k → Committed store (k - 1) front → k ≤ suc last.0
within_next store (n, entries, is, none) (suc k) front some before = elim (total k n) as (λ _. suc k ≤ suc n) [
  | inl le ↦ omega (arith, le)
  | inr ge ↦
      elim (cases_eq k n) as (λ _. suc k ≤ suc n) [
        | inl same ↦ omega (arith, same)
        | inr other ↦
            let more : n < k = omega (arith, ge, other) in
            let there = is_there store k k front (subst (λ (j : ℕ). Committed store j front) (omega arith) before) (omega (arith, more)) (omega arith) in
            absurd (none_or_some there.0 (store.commits k) (none k more) there.1)
      ]
]
within_next store (n, entries, is, none) zero front some before = absurd (omega (arith, some))

-- the next commit is the last one then
next_last : (store : Store) (last : HasLast store) (batch : List Bytes) → CommitsStay store (with_commit (suc last.0) batch store) → HasLast (with_commit (suc last.0) batch store)
next_last store (n, entries, is, none) batch stay = (suc n, entries ++ batch, (entries, batch, committed_stays store later stay n entries is, put, refl), rest)
  where
    later : Store
    later = with_commit (suc n) batch store

    put : later.commits (suc n) ≡ Some batch
    put = ap (λ (b : Bool). if b then put_new batch (store.commits (suc n)) else store.commits (suc n)) (eq-eqb (suc n) (suc n) refl)
        ∙ ap (put_new batch) (none (suc n) (omega arith))

    rest : (m : ℕ) → suc n < m → later.commits m ≡ None
    rest m more = ap (λ (b : Bool). if b then put_new batch (store.commits m) else store.commits m) (ne_eqb m (suc n) (λ e. absurd (omega (arith, more, e))))
        ∙ none m (omega (arith, more))

-- a put under an earlier number leaves the last commit
same_last : (store : Store) (last : HasLast store) (k : ℕ) (batch : List Bytes) → k ≤ last.0 → CommitsStay store (with_commit k batch store) → HasLast (with_commit k batch store)
same_last store (n, entries, is, none) k batch le stay = (n, entries, committed_stays store (with_commit k batch store) stay n entries is, rest)
  where
    rest : (m : ℕ) → n < m → (with_commit k batch store).commits m ≡ None
    rest m more = ap (λ (b : Bool). if b then put_new batch (store.commits m) else store.commits m) (ne_eqb m k (λ e. absurd (omega (arith, more, le, e))))
        ∙ none m more

last_on_commit : (store : Store) (last : HasLast store) (k : ℕ) (batch front : List Bytes) → 0 < k → Committed store (k - 1) front
    → CommitsStay store (with_commit k batch store) → HasLast (with_commit k batch store)
last_on_commit store last k batch front some before stay =
    let next = within_next store last k front some before in
    elim (cases_eq (suc last.0) k) as (λ _. HasLast (with_commit k batch store)) [
      | inl same ↦
          subst (λ (j : ℕ). HasLast (with_commit j batch store)) same
          (next_last store last batch (subst (λ (j : ℕ). CommitsStay store (with_commit j batch store)) (sym same) stay))
      | inr other ↦ same_last store last k batch (omega (arith, next, other)) stay
    ]

last_once_done : (setting : Setting) (w : World) (request : Request) → MaySend setting w request → CommitsStay w.store (once_done setting.tag w request).store
    → HasLast w.store → HasLast (once_done setting.tag w request).store
last_once_done setting w (put_commit n batch) may stay last = last_on_commit w.store last n batch may.1 may.0 may.2 stay
last_once_done setting w (put_resource r bytes) may stay last = last
last_once_done setting w (put_checkpoint wanted q) may stay last =
    either_store HasLast (is_met setting.tag wanted (w.store.held resource.Checkpoint)) _ w last last

last_after : (setting : Setting) (w : World) (e : Event) → IsSound setting w → MayHappen setting w e → HasLast w.store → HasLast (after setting.tag w e).store
last_after setting w (sends request) sound may last = last
last_after setting w (does request) sound has last =
    last_once_done setting w request (sound.sent request has) (commits_after setting.tag w (does request)) last

last_all : (setting : Setting) (es : List Event) (w end : World) → IsSound setting w → LeadsBy setting es w end → HasLast w.store → HasLast end.store
last_all setting [] w end sound same last = subst (λ (v : World). HasLast v.store) same last
last_all setting (e ∷ es) w end sound leads last =
    last_all setting es (after setting.tag w e) end (on_event setting w e sound leads.0).1 leads.1 (last_after setting w e sound leads.0 last)

pub last_led : (setting : Setting) (w : World) → Leads setting beginning w → HasLast w.store
last_led setting w leads = last_all setting leads.0 beginning w (sound_at_first setting) leads.1 (0, [], refl, λ m more. refl)
