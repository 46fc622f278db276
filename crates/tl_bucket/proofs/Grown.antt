-- What stays once it is there, and what may be sent because of it.
use Rattle.std.proofs.Common.{◌≡◌, ◌≢◌, ℕ, zero, suc, Bool, true, false, List, [], ◌∷◌, Option, Some, None, sym, ap, ◌∙◌, ◌==◌, if◌then◌else◌}
use Rattle.std.specs.Prelude.{Contains, length}
use Rattle.tl_hash.specs.Bytes.{Bytes}
use Rattle.tl_tile.specs.declared.resource.Resource.{Resource}
use Rattle.tl_tile.specs.declared.resource.Resource.TheVariants as resource
use Rattle.tl_log.specs.Histories.{Prefix}
use Rattle.tl_archive.specs.Complete.{text_of}
use Rattle.tl_archive.proofs.Needs.{needed_within}
use Rattle.tl_bucket.specs.Bucket.{Store, Committed, IsCommitted, Request, put_commit, put_resource, put_checkpoint, put_new, is_met}
use Rattle.tl_bucket.specs.Operators.{Setting, World, IsNeeded, IsWhole, MayReplace, MaySend, Event, sends, does, once_done, after, LeadsBy}

-- each commit stays as it is
abbrev pub CommitsStay : Store → Store → Type 0
CommitsStay a b = (n : ℕ) (batch : List Bytes) → a.commits n ≡ Some batch → b.commits n ≡ Some batch

-- commits, tiles, bundles and what was shown stay
pub record Grows (w later : World) : Type 0 where
  pub commits : CommitsStay w.store later.store
  pub held : (r : Resource) (bytes : Bytes) → r ≢ resource.Checkpoint → w.store.held r ≡ Some bytes → later.store.held r ≡ Some bytes
  pub shown : (q : Prefix) → Contains w.shown q → Contains later.shown q

pub grows_not : (w : World) → Grows w w
grows_not w = record { commits = λ n batch is. is; held = λ r bytes other is. is; shown = λ q has. has }

pub grows_on : (a b c : World) → Grows a b → Grows b c → Grows a c
grows_on a b c one other = record {
  commits = λ n batch is. other.commits n batch (one.commits n batch is);
  held = λ r bytes plain is. other.held r bytes plain (one.held r bytes plain is);
  shown = λ q has. other.shown q (one.shown q has);
}

-- ---- what a committed log is, it stays

pub committed_stays : (a b : Store) → CommitsStay a b → (n : ℕ) (entries : List Bytes) → Committed a n entries → Committed b n entries
committed_stays a b stay zero entries is = is
committed_stays a b stay (suc n) entries (front, batch, before, at, joined) =
    (front, batch, committed_stays a b stay n front before, stay (suc n) batch at, joined)

pub is_committed_stays : (a b : Store) → CommitsStay a b → (entries : List Bytes) → IsCommitted a entries → IsCommitted b entries
is_committed_stays a b stay entries (n, is) = (n, committed_stays a b stay n entries is)

pub needed_stays : (setting : Setting) (w later : World) (r : Resource) (bytes : Bytes) → Grows w later → IsNeeded setting w.store r bytes → IsNeeded setting later.store r bytes
needed_stays setting w later r bytes grows is = record {
  entries = is.entries;
  committed = is_committed_stays w.store later.store grows.commits is.entries is.committed;
  needed = is.needed;
  bytes_of = is.bytes_of;
}

pub whole_stays : (setting : Setting) (w later : World) (q : Prefix) → Grows w later → IsWhole setting w.store q → IsWhole setting later.store q
whole_stays setting w later q grows is = record {
  committed = is_committed_stays w.store later.store grows.commits q.entries is.committed;
  all = λ r needed. grows.held r (text_of setting.digest r q.entries) (needed_within (length q.entries) r needed).1 (is.all r needed);
  note = is.note;
}

replaces_later : (shown more : List Prefix) → ((q : Prefix) → Contains shown q → Contains more q) → (size : ℕ) (wanted : Option Bytes) → MayReplace shown size wanted → MayReplace more size wanted
replaces_later shown more stay size None may = may
replaces_later shown more stay size (Some note) may = ((may.0.0, stay may.0.0 may.0.1, may.0.2), may.1)

pub may_send_later : (setting : Setting) (w later : World) → Grows w later → (request : Request) → MaySend setting w request → MaySend setting later request
may_send_later setting w later grows (put_commit n batch) may = (may.0, may.1, committed_stays w.store later.store grows.commits _ may.1 may.2)
may_send_later setting w later grows (put_resource r bytes) may = needed_stays setting w later r bytes grows may
may_send_later setting w later grows (put_checkpoint wanted q) may =
    (whole_stays setting w later q grows may.0, replaces_later w.shown later.shown grows.shown (length q.entries) wanted may.1)

-- ---- what is under a commit stays, whatever happens

kept_new : {X : Type 0} (new x : X) (old : Option X) → old ≡ Some x → put_new new old ≡ Some x
kept_new new x None is = absurd (cc)
kept_new new x (Some old) is = is

put_stays : (test : Bool) (new x : List Bytes) (old : Option (List Bytes)) → old ≡ Some x → (if test then put_new new old else old) ≡ Some x
put_stays true new x old is = kept_new new x old is
put_stays false new x old is = is

pub either_store : (P : Store → Type 0) (test : Bool) (a b : World) → P a.store → P b.store → P (if test then a else b).store
either_store P true a b is other = is
either_store P false a b is other = other

commits_once_done : (tag : Bytes → Bytes) (w : World) (request : Request) → CommitsStay w.store (once_done tag w request).store
commits_once_done tag w (put_commit n batch) = λ m own is. put_stays (m == n) batch own (w.store.commits m) is
commits_once_done tag w (put_resource r bytes) = λ m own is. is
commits_once_done tag w (put_checkpoint wanted q) =
    either_store (CommitsStay w.store) (is_met tag wanted (w.store.held resource.Checkpoint)) _ w (λ m own is. is) (λ m own is. is)

pub commits_after : (tag : Bytes → Bytes) (w : World) (e : Event) → CommitsStay w.store (after tag w e).store
commits_after tag w (sends request) = λ m own is. is
commits_after tag w (does request) = commits_once_done tag w request

pub commits_led : (setting : Setting) (es : List Event) (w end : World) → LeadsBy setting es w end → CommitsStay w.store end.store
commits_led setting [] w end same = λ n batch is. ap (λ (v : World). v.store.commits n) (sym same) ∙ is
commits_led setting (e ∷ es) w end leads = λ n batch is.
    commits_led setting es (after setting.tag w e) end leads.1 n batch (commits_after setting.tag w e n batch is)
