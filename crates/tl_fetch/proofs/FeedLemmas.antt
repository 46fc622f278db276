-- Bringing a log's checkpoint before witnesses: how a run ends, and what was printed before.
use Rattle.std.proofs.Common.{◌≡◌, ◌⊎◌, ◌++◌, ℕ, inl, inr, subst, sym, string_bytes, List, Option, Some, None, Result, Ok, Err}
use Rattle.tl_hash.specs.Bytes.{Bytes}
use Rattle.tl_device.specs.Device.{Passage, IsUnwritten}
use Rattle.tl_fetch.specs.declared.fault.Address.TheVariants as address
use Rattle.tl_fetch.specs.declared.fault.FetchFault.{FetchFault}
use Rattle.tl_fetch.specs.declared.fault.FetchFault.TheVariants as fetch
use Rattle.tl_run.specs.declared.fault.RunFault.TheVariants as run
use Rattle.tl_tile.specs.declared.resource.Resource.{Resource}
use Rattle.tl_tile.specs.declared.resource.Resource.TheVariants.{Checkpoint}
use Rattle.tl_source.specs.declared.lack.Lack.{Lack}
use Rattle.tl_source.specs.Sources.{Origin}
use Rattle.tl_fetch.specs.declared.options.FetchOptions.{FetchOptions}
use Rattle.tl_fetch.specs.Command.{IsOriginOf, IsStateFault, may_have, state_fails}
use Rattle.tl_fetch.specs.FeedCommand.{IsAddressFault, IsFirstNoUrl, RunsFeedUnder, feed_answers}
use Rattle.tl_fetch.specs.Inner.FeedRuns.{FeedsOver}
use Rattle.tl_fetch.specs.Inner.Naming.{Renames}
use Rattle.tl_fetch.specs.Faults.{IsNoAccusation}
use Rattle.tl_fetch.specs.Feeding.{BreaksOffFeeding, HasFed, IsFedNote, IsUnfed, RefusesFed, RefusesFeed}
use Rattle.tl_fetch.specs.Fetching.{Grounds, grounds_of, unseen_of}
use Rattle.tl_fetch.specs.Opening.{RefusesNote}
use Rattle.tl_fetch.specs.Printed.{PrintedWhole}
use Rattle.tl_fetch.specs.Inner.Judging.{JudgesTwo}
use Rattle.tl_fetch.specs.Trusting.{AreTwo, IsGrown, Policy, Two, alone}
use Rattle.tl_fetch.proofs.JudgingLemmas.{judged}
use Rattle.tl_fetch.proofs.Passages.{GoesOn, joined, silent_both, silent_some, silent_whole}
use Rattle.tl_fetch.proofs.RunLemmas.{told_by}

-- a note with lines behind it that isn't trusted
pub unfed : (policy : Policy) (note read lines : Bytes) (fault : FetchFault) → read ≡ note ++ lines → RefusesNote policy read fault → IsUnfed policy note fault
unfed policy note read lines fault is refused = inl (lines, subst (λ (text : Bytes). RefusesNote policy text fault) is refused)

-- a log that is refused by its two checkpoints
pub refused_feed : (grounds : Grounds) (policy : Policy) (two : Two) (fault : FetchFault) (o : Passage) → AreTwo grounds.has (grounds.answers Checkpoint) (alone policy) two
    → JudgesTwo grounds.answers grounds.lacks two fault o → grounds.still → RefusesFeed grounds policy fault o
refused_feed grounds policy two fault o are refused left = inr (two, are, inl (judged grounds (alone policy) two fault o are.known are.trusted refused, left))

-- what is printed of a log that goes on, after nothing was
pub fed_two : (has_kept : Bytes → Type 0) (policy : Policy) (two : Two) (o p : Passage) → IsGrown two.old two.new → GoesOn o p → IsUnwritten o → has_kept two.note
    → PrintedWhole (IsFedNote policy two.note two.new) p → HasFed has_kept policy two (joined o p)
fed_two has_kept policy two o p grown on none kept printed =
    record { grown = grown; kept = kept; printed = silent_whole (IsFedNote policy two.note two.new) o p on none printed }

-- what was begun of it, after nothing was printed
unfed_after : (grounds : Grounds) (policy : Policy) (two : Two) (fault : FetchFault) (o p : Passage) → GoesOn o p → IsUnwritten o
    → RefusesFed grounds policy two fault p → RefusesFed grounds policy two fault (joined o p)
unfed_after grounds policy two fault o p on none f = record { grown = f.grown; why = why_after f.why; fair = f.fair } where
  broken_after : BreaksOffFeeding policy two fault p → BreaksOffFeeding policy two fault (joined o p)
  broken_after (inl (unfed, still)) = inl (unfed, silent_both o p on none still)
  broken_after (inr (write, part)) = inr (write, silent_some (IsFedNote policy two.note two.new) o p on none part)

  why_after : (grounds.fails fault × IsUnwritten p) ⊎ (grounds.keeps two.note × BreaksOffFeeding policy two fault p)
      → (grounds.fails fault × IsUnwritten (joined o p)) ⊎ (grounds.keeps two.note × BreaksOffFeeding policy two fault (joined o p))
  why_after (inl (fails, still)) = inl (fails, silent_both o p on none still)
  why_after (inr (kept, broken)) = inr (kept, broken_after broken)

pub unfed_two : (grounds : Grounds) (policy : Policy) (two : Two) (fault : FetchFault) (o p : Passage) → AreTwo grounds.has (grounds.answers Checkpoint) (alone policy) two
    → GoesOn o p → IsUnwritten o → RefusesFed grounds policy two fault p → RefusesFeed grounds policy fault (joined o p)
unfed_two grounds policy two fault o p are on none refused = inr (two, are, inr (unfed_after grounds policy two fault o p on none refused))

-- the same, if nobody sees what the state keeps
unseen_feed : (answers : Resource → Bytes → Type 0) (lacks : Resource → Type 0) (has : Option Bytes → Type 0) (fails : FetchFault → Type 0) (still : Type 0) (keeps : Bytes → Type 0) (policy : Policy) (fault : FetchFault) (o : Passage)
    → RefusesFeed (grounds_of answers lacks has fails still keeps) policy fault o → RefusesFeed (unseen_of answers lacks has fails) policy fault o
unseen_feed answers lacks has fails still keeps policy fault o (inl (missing, fair, left, none)) = inl (missing, fair, tt, none)
unseen_feed answers lacks has fails still keeps policy fault o (inr (two, are, inl (refused, left))) = inr (two, are, inl (refused, tt))
unseen_feed answers lacks has fails still keeps policy fault o (inr (two, are, inr f)) =
    inr (two, are, inr (record { grown = f.grown; why = why_unseen f.why; fair = f.fair })) where
      why_unseen : (fails fault × IsUnwritten o) ⊎ (keeps two.note × BreaksOffFeeding policy two fault o) → (fails fault × IsUnwritten o) ⊎ (Unit {0} × BreaksOffFeeding policy two fault o)
      why_unseen (inl first) = inl first
      why_unseen (inr (kept, broken)) = inr (tt, broken)

-- the grounds of a run without a file of a state, and with one
pub feed_no_state : {A : Type 0} (state : Option A) (answers : Resource → Bytes → Type 0) (lacks : Resource → Type 0) (still : Type 0) (keeps : Bytes → Type 0) (policy : Policy) (fault : FetchFault) (o : Passage) → state ≡ None
    → RefusesFeed (grounds_of answers lacks (λ note. note ≡ None) (λ f. ⊥) still keeps) policy fault o → RefusesFeed (unseen_of answers lacks (may_have state) (state_fails state)) policy fault o
feed_no_state state answers lacks still keeps policy fault o none refused =
    subst (λ s. RefusesFeed (unseen_of answers lacks (may_have s) (state_fails s)) policy fault o) (sym none)
    (unseen_feed answers lacks (λ note. note ≡ None) (λ f. ⊥) still keeps policy fault o refused)

pub feed_some_state : {A : Type 0} (state : Option A) (path : A) (answers : Resource → Bytes → Type 0) (lacks : Resource → Type 0) (still : Type 0) (keeps : Bytes → Type 0) (policy : Policy) (fault : FetchFault) (o : Passage) → state ≡ Some path
    → RefusesFeed (grounds_of answers lacks (λ note. Unit {0}) IsStateFault still keeps) policy fault o → RefusesFeed (unseen_of answers lacks (may_have state) (state_fails state)) policy fault o
feed_some_state state path answers lacks still keeps policy fault o some refused =
    subst (λ s. RefusesFeed (unseen_of answers lacks (may_have s) (state_fails s)) policy fault o) (sym some)
    (unseen_feed answers lacks (λ note. Unit {0}) IsStateFault still keeps policy fault o refused)

-- a file fails before there is trust, and nothing was printed
pub feed_no_file : {A : Type 0} (state : Option A) (path : A) (answers : Resource → Bytes → Type 0) (lacks : Resource → Type 0) (policy : Policy) (fault : FetchFault) (o : Passage) → state ≡ Some path
    → IsStateFault fault → IsNoAccusation fault → IsUnwritten o → RefusesFeed (unseen_of answers lacks (may_have state) (state_fails state)) policy fault o
feed_no_file state path answers lacks policy fault o some fails fair none =
    inl (inl (inl (subst (λ s. state_fails s fault) (sym some) fails)), fair, tt, none)

-- the end of a run over a folder or a host, whose fault names what was lacked
pub feed_renamed : (policy : Policy) (addresses : List Bytes) (options : FetchOptions) (origin : Origin) (lack : Option Lack) (o : Passage) (outcome told : Result (Unit {0}) FetchFault) → IsOriginOf (string_bytes options.from) origin
    → Renames outcome lack told → FeedsOver (feed_answers origin) (λ r. Unit {0}) policy options o outcome
    → RunsFeedUnder policy addresses options o told
feed_renamed policy addresses options origin lack o (Ok done) (Ok again) at same runs = (origin, at, runs)
feed_renamed policy addresses options origin lack o (Ok done) (Err other) at same runs = absurd same
feed_renamed policy addresses options origin lack o (Err fault) (Ok done) at same runs = absurd same
feed_renamed policy addresses options origin lack o (Err fault) (Err other) at same runs = inr (origin, at, (fault, told_by fault other lack same, runs))

-- an address that is none, or memory that ran out before one was read: nothing was printed
pub no_address : (policy : Policy) (addresses : List Bytes) (options : FetchOptions) (fault : FetchFault) (o : Passage) → IsUnwritten o → IsAddressFault (string_bytes options.from) addresses fault
    → RunsFeedUnder policy addresses options o (Err fault)
no_address policy addresses options fault o none why = inl (why, none)

-- a text among those of the witnesses' addresses that is none, or memory that ran out
pub bad_texts : (from : Bytes) (texts : List Bytes) (fault : FetchFault)
    → (fault ≡ fetch.Run run.OutOfMemory) ⊎ ((place : ℕ) × (fault ≡ fetch.BadAddress (address.To place)) × IsFirstNoUrl texts place) → IsAddressFault from texts fault
bad_texts from texts fault (inl memory) = inr (inr memory)
bad_texts from texts fault (inr bad) = inr (inl bad)
