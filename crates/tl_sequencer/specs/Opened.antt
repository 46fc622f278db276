-- A log that was just opened.
use Rattle.std.specs.Prelude.{◌≡◌, ℕ, List, [], length, map, None}
use Rattle.std.specs.List.{All, range_with_len}
use Rattle.tl_sequencer.specs.Log.{Log, Sender, IsSenderOf}

-- a log with these entries and nothing else, and with `count` new lanes; and a new submitter for each lane, in the
-- order of the lanes, whose ring has room for `capacity` entries
pub record IsOpened {A : Type 0} (entries : List (List ℕ)) (count capacity limit : ℕ) (log : Log A) (submitters : List (Sender A)) : Type 0 where
  pub base : log.base ≡ entries
  pub taken : log.taken ≡ []
  pub who : log.who ≡ []
  pub limited : log.limit ≡ limit
  pub counted : length log.lanes ≡ count
  pub fresh : All (λ l. (l.given ≡ []) × (l.sent ≡ None)) log.lanes
  pub as_many : length submitters ≡ count
  pub order : map (λ s. s.lane) submitters ≡ range_with_len 0 count
  pub own : All (λ s. IsSenderOf s log) submitters
  pub unsent : All (λ s. (s.sent ≡ []) × (s.limit ≡ limit) × (s.room ≡ capacity)) submitters
