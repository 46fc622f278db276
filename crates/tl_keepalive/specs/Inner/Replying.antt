-- Putting an answer that has this text.
use Rattle.std.specs.Prelude.{◌≡◌, ℕ, Bool, true, false, codes}
use Rattle.tl_hash.specs.Bytes.{Bytes}
use Rattle.tl_keepalive.specs.Exchanges.{Exchanges, answered}
use Rattle.tl_keepalive.specs.KeepAlive.{Stays, without}

-- it is put without its line `Connection: close`, and the next request begins behind the one that it answers; or it is
-- put as it is, since the connection may not stay open, or can't
abbrev pub Replies : Bool → ℕ → Bytes → Exchanges → Exchanges → Bool → Type 0
Replies may_stay status text a b true =
    (may_stay ≡ true) × ((end : ℕ) × Stays a.came status end × (b ≡ answered a end (without (codes "Connection: close\r\n") text)))
Replies may_stay status text a b false =
    (may_stay ≡ true → (end : ℕ) → ¬ (Stays a.came status end)) × (b ≡ answered a 0 text)
