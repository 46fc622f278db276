-- An input of which more may come, and what an answer to it leads to.
use Rattle.std.specs.Prelude.{◌≡◌, ◌⊎◌, [], ◌∷◌, Bool, true, false, Result, Ok, Err}
use Rattle.tl_hash.specs.Bytes.{Bytes}
use Rattle.tl_server.specs.declared.adding.Outcome.{Outcome}
use Rattle.tl_server.specs.declared.adding.Outcome.TheVariants as outcome
use Rattle.tl_server.specs.declared.fault.ServeFault.{ServeFault}
use Rattle.tl_server.specs.declared.fault.ServeFault.TheVariants as fault
use Rattle.tl_keepalive.specs.Exchanges.{Exchanges, answered}
use Rattle.tl_keepalive.specs.Inner.Replying.{Replies}
use Rattle.tl_keepalive.specs.declared.turn.Turn.{Turn}
use Rattle.tl_keepalive.specs.declared.turn.Turn.TheVariants as turn

-- behind what came there is more than a reader gives: a byte that no read gives stands for it
abbrev pub beyond : Bytes
beyond = 0 ∷ []

-- what a call that had this outcome, and wrote this text, leads to
abbrev pub Concludes : Bool → Bytes → Exchanges → Exchanges → Result Outcome ServeFault → Turn → Type 0
Concludes may_stay text a b (Ok (outcome.Answered status)) t =
    (stays : Bool) × (t ≡ turn.Answered stays) × Replies may_stay status text a b stays
Concludes may_stay text a b (Ok outcome.Misplaced) t = (t ≡ turn.Misplaced) × (b ≡ answered a 0 text)
Concludes may_stay text a b (Ok outcome.Later) t = (t ≡ turn.Later) × (b ≡ a)
Concludes may_stay text a b (Ok outcome.Nothing) t = (t ≡ turn.Nothing) × (b ≡ a)
Concludes may_stay text a b (Err fault.Read) t =
    (((a.ended ≡ true) × (t ≡ turn.Failed)) ⊎ ((a.ended ≡ false) × (t ≡ turn.More))) × (b ≡ a)
Concludes may_stay text a b (Err fault.Write) t = (t ≡ turn.Failed) × (b ≡ a)
