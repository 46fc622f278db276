-- A race: two operators commit first, one of them loses, and what the other committed is shown.
use Rattle.std.proofs.Common.{◌≡◌, List, [], ◌∷◌, length, Some, None, refl, arith}
use Rattle.std.specs.Prelude.{Contains}
use Rattle.tl_hash.specs.Bytes.{Bytes}
use Rattle.tl_log.specs.Histories.{last_of}
use Rattle.tl_bucket.specs.Bucket.{Committed, put_commit}
use Rattle.tl_bucket.specs.Operators.{Setting, World, TellsSize, beginning, Event, sends, does, Leads}
use Rattle.tl_bucket.proofs.Sound.{sound_led}
use Rattle.tl_bucket.proofs.Going.{can_show}

-- both send, the second request is done first, then the first, and then the second once more
race : List Bytes → List Bytes → List Event
race a b = sends (put_commit 1 a) ∷ sends (put_commit 1 b) ∷ does (put_commit 1 b) ∷ does (put_commit 1 a) ∷ does (put_commit 1 b) ∷ []

-- the world after it
record IsRaced (setting : Setting) (a b : List Bytes) (w : World) : Type 0 where
  leads : Leads setting beginning w
  lost : Contains w.sent (put_commit 1 a)
  won : Committed w.store 1 b
  last : w.store.commits 2 ≡ None

raced : (setting : Setting) (a b : List Bytes) → (w : World) × IsRaced setting a b w
unfolding race
raced setting a b = (
  _,
  record {
    leads = (race a b, ((omega arith, [], refl), ((omega arith, [], refl), ((1, omega arith, refl), ((0, omega arith, refl), ((1, omega arith, refl), refl))))));
    lost = (0, omega arith, refl);
    won = ([], b, refl, refl, refl);
    last = refl;
  },
)

-- and what the other committed is shown
shown_after : (setting : Setting) (a b : List Bytes) (note : Bytes) → TellsSize note (length b)
    → (w : World) × Leads setting (raced setting a b).0 w × (last_of w.shown ≡ Some (record { entries = b; note = note }))
shown_after setting a b note is =
    let r = raced setting a b in
    can_show setting r.0 (sound_led setting r.0 r.1.leads) 1 (record { entries = b; note = note }) r.1.won r.1.last is
