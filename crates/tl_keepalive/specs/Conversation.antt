-- All that is sent over a connection: the answers to the requests that come, one after another (RFC 9112, section 9.3.2).
use Rattle.std.specs.Prelude.{◌≡◌, ℕ, Bool, true, false, [], ◌++◌, Option, Some, drop, take}
use Rattle.tl_hash.specs.Bytes.{Bytes}
use Rattle.tl_server.specs.Adding.{Course, Reply}
use Rattle.tl_server.specs.Answer.{Answer}
use Rattle.tl_keepalive.specs.Exchanges.{Exchanges, Turns, closed, fed, sent}
use Rattle.tl_keepalive.specs.KeepAlive.{Stays, kept_text}
use Rattle.tl_keepalive.specs.declared.turn.Turn.{Turn}
use Rattle.tl_keepalive.specs.declared.turn.Turn.TheVariants.{Answered, Misplaced, Nothing, Failed}

-- the input begins with requests that were answered with `out`, each by what the bytes from its beginning on lead to, and
-- after each of which the connection stays open; `left` is what follows them. Ever says what an input may lead to
pub data Conversation (Ever : Bytes → Option Course → Type 0) (input : Bytes) : Bytes → Bytes → Type 0 where
  begun : Conversation Ever input [] input
  answered : {out left : Bytes} → Conversation Ever input out left → (answer : Answer) (end : ℕ)
      → Ever left (Some (Reply answer)) → Stays left answer.status end
      → Conversation Ever input (out ++ kept_text answer) (drop end left)

-- whether the connection goes on after this turn, or may
abbrev pub goes_on : Turn → Bool
goes_on (Answered stays) = stays
goes_on Misplaced = false
goes_on Nothing = false
goes_on Failed = false
goes_on _ = true

-- calls on the exchanges of a connection, in any order, of which none closed it: all that came, all that was sent, and
-- the exchanges then
pub data Calls (Ever : Bytes → Option Course → Type 0) : Bytes → Bytes → Exchanges → Type 0 where
  new : Calls Ever [] [] (record { came = []; ended = false; unsent = [] })
  feed : {all out : Bytes} {e : Exchanges} → Calls Ever all out e → (bytes : Bytes) → e.ended ≡ false → Calls Ever (all ++ bytes) out (fed e bytes)
  close : {all out : Bytes} {e : Exchanges} → Calls Ever all out e → Calls Ever all out (closed e)
  send : {all out : Bytes} {e : Exchanges} → Calls Ever all out e → (count : ℕ) → Calls Ever all (out ++ take count e.unsent) (sent e count)
  answer : {all out : Bytes} {e : Exchanges} → Calls Ever all out e → (after : Exchanges) (turn : Turn) (may_stay : Bool)
      → Turns (Unit {0}) Ever may_stay e after turn → goes_on turn ≡ true → Calls Ever all out after

-- whatever follows, what was sent and is to be sent are the answers of a conversation, up to what isn't answered yet
abbrev pub IsConversation : (Bytes → Option Course → Type 0) → Bytes → Bytes → Exchanges → Type 0
IsConversation Ever all out e =
    (more : Bytes) → (e.ended ≡ true → more ≡ []) → Conversation Ever (all ++ more) (out ++ e.unsent) (e.came ++ more)
