-- The command `feed` (C2SP signed-note, "Verifier keys"; tlog-witness).
use Rattle.std.specs.Prelude.{◌≡◌, ◌⊎◌, ◌<◌, ℕ, List, [], Result, Ok, Err, length, map, slice_index_or, string_bytes, vec_items}
use Rattle.tl_hash.specs.Bytes.{Bytes}
use Rattle.tl_device.specs.Device.{Passage, IsUnwritten}
use Rattle.tl_tile.specs.declared.resource.Resource.{Resource}
use Rattle.tl_tile.specs.declared.resource.Resource.TheVariants.{Checkpoint}
use Rattle.tl_source.specs.Fulls.{may_answer_front}
use Rattle.tl_source.specs.Sources.{Origin, any_answers}
use Rattle.tl_source.specs.Url.{IsNoUrl}
use Rattle.tl_run.specs.declared.fault.RunFault.TheVariants.{OutOfMemory}
use Rattle.tl_fetch.specs.declared.fault.Address.TheVariants.{From, To}
use Rattle.tl_fetch.specs.declared.fault.FetchFault.{FetchFault}
use Rattle.tl_fetch.specs.declared.fault.FetchFault.TheVariants.{BadAddress, Run}
use Rattle.tl_fetch.specs.declared.options.FetchOptions.{FetchOptions}
use Rattle.tl_fetch.specs.declared.feed.command.FeedOptions.{FeedOptions}
use Rattle.tl_fetch.specs.Command.{HasScheme, IsKeyFault, IsOriginOf, IsPolicyOf, IsToldAs, grounds_over, may_have}
use Rattle.tl_fetch.specs.Feeding.{HasFed, RefusesFeed}
use Rattle.tl_fetch.specs.Fetching.{Grounds}
use Rattle.tl_fetch.specs.Trusting.{AreTwo, Policy, Two, alone}

-- the text with this index is the first of these that is no address
pub record IsFirstNoUrl (texts : List Bytes) (place : ℕ) : Type 0 where
  pub within : place < length texts
  pub none : IsNoUrl (slice_index_or texts place [])
  pub earlier : (before : ℕ) → before < place → ¬ (IsNoUrl (slice_index_or texts before []))

-- the texts of the witnesses' addresses
abbrev pub address_texts : FeedOptions → List Bytes
address_texts options = map string_bytes (vec_items options.to)

-- the text that the log is read from has a scheme and is no address, or a witness's text is none; or memory ran out
abbrev pub IsAddressFault : Bytes → List Bytes → FetchFault → Type 0
IsAddressFault from addresses fault =
    ((fault ≡ BadAddress From) × HasScheme from × IsNoUrl from)
    ⊎ (((place : ℕ) × (fault ≡ BadAddress (To place)) × IsFirstNoUrl addresses place)
    ⊎ (fault ≡ Run OutOfMemory))

-- what may be answered over the folder or the host, whose full tiles and bundles stand for partial ones that are gone
abbrev pub feed_answers : Origin → Resource → Bytes → Type 0
feed_answers origin = may_answer_front (any_answers origin) (λ r. Unit {0})

-- the grounds over these
abbrev pub feed_grounds : Origin → FetchOptions → Grounds
feed_grounds origin options = grounds_over (feed_answers origin) (λ r. Unit {0}) options

-- a run under a policy, before witnesses at these addresses: two checkpoints are trusted, the state's and the
-- source's, and the source's was fed; or an address is none, and nothing is printed; or it fails as `RefusesFeed` says
abbrev pub RunsFeedUnder : Policy → List Bytes → FetchOptions → Passage → Result (Unit {0}) FetchFault → Type 0
RunsFeedUnder policy addresses options o (Ok done) =
    (origin : Origin) × IsOriginOf (string_bytes options.from) origin
    × ((two : Two) × AreTwo (may_have options.state) (feed_answers origin Checkpoint) (alone policy) two × HasFed (λ note. Unit {0}) policy two o)
RunsFeedUnder policy addresses options o (Err told) =
    (IsAddressFault (string_bytes options.from) addresses told × IsUnwritten o)
    ⊎ ((origin : Origin) × IsOriginOf (string_bytes options.from) origin
    × ((fault : FetchFault) × IsToldAs fault told × RefusesFeed (feed_grounds origin options) policy fault o))

-- a run under the policy that the options describe
abbrev pub FeedsAsTold : FeedOptions → Passage → Result (Unit {0}) FetchFault → Type 0
FeedsAsTold options o result = (policy : Policy) × IsPolicyOf options.log policy × RunsFeedUnder policy (address_texts options) options.log o result

-- a run of `feed`: if a text is no key, or one that came before, nothing is printed
abbrev pub RunsFeed : FeedOptions → Passage → Result (Unit {0}) FetchFault → Type 0
RunsFeed options o (Ok done) = FeedsAsTold options o (Ok done)
RunsFeed options o (Err fault) = FeedsAsTold options o (Err fault) ⊎ (IsKeyFault options.log fault × IsUnwritten o)
