-- The commits of an operator: which entries it is to commit next.
use Rattle.std.specs.Prelude.{◌≡◌, ◌⊎◌, ℕ, ◌+◌, ◌-◌, ◌*◌, max, [], ◌++◌, Option, Some, None}
use Rattle.tl_hash.specs.Bytes.{Bytes}
use Rattle.tl_s3.specs.Objects.{Place}
use Rattle.tl_s3.specs.declared.object.Condition.TheVariants.{Absent}
use Rattle.tl_bucket.specs.Answered.{WasThere}
use Rattle.tl_bucket.specs.Commits.{IsBehind, commit_front}
use Rattle.tl_bucket.specs.Shelved.{commit_at}

-- the number of the next commit, and how many entries come before it; the bytes of the entries that it is to append,
-- each with its length before it, and the log's size with them; the token of the operator's commits, and that of the
-- next one if another operator made it
pub record Claims : Type 0 where
  pub number : ℕ
  pub start : ℕ
  pub entries : Bytes
  pub end : ℕ
  pub token : Bytes
  pub other : Option Bytes

-- nothing is to be appended yet: the next commit has this number, and comes after `start` entries
abbrev pub no_claims : ℕ → ℕ → Bytes → Option Bytes → Claims
no_claims number start token other =
    record { number = number; start = start; entries = []; end = start; token = token; other = other }

-- the same if the next commit is there, from another operator
abbrev pub no_claims_of_other : ℕ → ℕ → Bytes → Bytes → Claims
no_claims_of_other number start token other = no_claims number start token (Some other)

-- the token of the next commit: the other operator's if it made it, else the own
abbrev pub token_of : Option Bytes → Bytes → Bytes
token_of None own = own
token_of (Some other) own = other

-- the entries of a bundle with this index and width that come after all committed ones are added
abbrev pub Adds : ℕ → ℕ → Bytes → Claims → Claims → Type 0
Adds index width bundle before after = (own : Bytes) × IsBehind bundle (before.start - index * 256) own
    × (after ≡ record before { entries = before.entries ++ own; end = max before.end (index * 256 + width) })

-- the next commit was there with these entries and its token: nothing was under its number before
abbrev pub WasCommitted : Place → Claims → Type 0
WasCommitted p c = WasThere p (commit_at c.number (commit_front c.start (token_of c.other c.token) ++ c.entries)) Absent

-- the entries are committed, if there are any, and the next commit comes after them
abbrev pub CommitsEntries : Place → Claims → Claims → Type 0
CommitsEntries p before after =
    ((before.entries ≡ []) × (after ≡ before))
    ⊎ (WasCommitted p before × (after ≡ no_claims (before.number + 1) before.end before.token None))
