-- All that is sent over a connection is a conversation.
use Rattle.std.proofs.Common.{◌≡◌, ℕ, ◌+◌, ◌≤◌, Bool, true, false, true≢false, [], ◌++◌, Option, length, length-append, take, drop, refl, sym, ap, subst, ◌∙◌, append_assoc, append-nil, arith}
use Rattle.std.proofs.lemmas.List.{drop-append-le, take-append-drop}
use Rattle.httparse.specs.Grammar.{print_request}
use Rattle.tl_hash.specs.Bytes.{Bytes}
use Rattle.tl_server.specs.Adding.{Course}
use Rattle.tl_keepalive.specs.Conversation.{Calls, Conversation, IsConversation, begun, answered, new, feed, close, send, answer, goes_on}
use Rattle.tl_keepalive.specs.Exchanges.{Exchanges, Goes, Turns, fed, sent}
use Rattle.tl_keepalive.specs.KeepAlive.{Stays, kept_text}
use Rattle.tl_keepalive.specs.declared.turn.Turn.{Turn}
use Rattle.tl_keepalive.specs.declared.turn.Turn.TheVariants as turn

-- a connection stays open whatever follows
stays_more : (bytes more : Bytes) (status end : ℕ) → Stays bytes status end → Stays (bytes ++ more) status end
stays_more bytes more status end is = record {
  head = is.head;
  rest = is.rest ++ more;
  body = is.body;
  begins = record {
    reads = (is.begins.reads.0, ap (λ (l : Bytes). l ++ more) is.begins.reads.1 ∙ append_assoc (print_request is.head) is.rest more);
    short = is.begins.short;
    few = is.begins.few;
  };
  asked = is.asked;
  answered = is.answered;
  sized = is.sized;
  whole = let all = length-append is.rest more in let part = is.whole in omega (arith, all, part);
  end_is = is.end_is;
}

-- a request ends within the bytes
stays_within : (bytes : Bytes) (status end : ℕ) → Stays bytes status end → end ≤ length bytes
stays_within bytes status end is =
    let all : length bytes ≡ length (print_request is.head) + length is.rest =
    ap (λ (l : Bytes). length l) is.begins.reads.1 ∙ length-append (print_request is.head) is.rest in
    let part = is.whole in
    let at = is.end_is in
    omega (arith, all, part, at)

module _ (Ever : Bytes → Option Course → Type 0) where
  same_after : (all out : Bytes) (e after : Exchanges) → after ≡ e → IsConversation Ever all out e → IsConversation Ever all out after
  same_after all out e after same is = subst (IsConversation Ever all out) (sym same) is

  -- an answer, after which the connection stays open
  went_on : (all out : Bytes) (e after : Exchanges) (may_stay : Bool) → e.unsent ≡ [] → Goes Ever may_stay e after → IsConversation Ever all out e
      → IsConversation Ever all out after
  went_on all out e after may_stay none goes is =
      subst (IsConversation Ever all out) (sym goes.is) (λ more ended.
      let left = e.came ++ more in
      let was : Conversation Ever (all ++ more) out left =
      subst (λ (o : Bytes). Conversation Ever (all ++ more) o left) (ap (λ (u : Bytes). out ++ u) none ∙ append-nil out) (is more ended) in
      let leads = goes.led left (record { more = more; joined = refl; none = ended }) in
      subst (Conversation Ever (all ++ more) (out ++ kept_text goes.answer))
      (drop-append-le goes.end e.came more (stays_within e.came goes.answer.status goes.end goes.stays))
      (answered was goes.answer goes.end leads (stays_more e.came more goes.answer.status goes.end goes.stays)))

  turned : (all out : Bytes) (e after : Exchanges) (t : Turn) (may_stay : Bool) → Turns (Unit {0}) Ever may_stay e after t → goes_on t ≡ true
      → IsConversation Ever all out e → IsConversation Ever all out after
  turned all out e after (turn.Answered true) may_stay (none, goes) on is = went_on all out e after may_stay none goes is
  turned all out e after (turn.Answered false) may_stay turns on is = absurd (true≢false (sym on))
  turned all out e after turn.Misplaced may_stay turns on is = absurd (true≢false (sym on))
  turned all out e after turn.Later may_stay turns on is = same_after all out e after turns.1 is
  turned all out e after turn.More may_stay turns on is = same_after all out e after turns.2 is
  turned all out e after turn.Nothing may_stay turns on is = absurd (true≢false (sym on))
  turned all out e after turn.Unsent may_stay turns on is = same_after all out e after turns.1 is
  turned all out e after turn.Failed may_stay turns on is = absurd (true≢false (sym on))

  fed_more : (all out : Bytes) (e : Exchanges) (bytes : Bytes) → e.ended ≡ false → IsConversation Ever all out e → IsConversation Ever (all ++ bytes) out (fed e bytes)
  fed_more all out e bytes open_yet is more ended =
      subst (λ (l : Bytes). Conversation Ever l (out ++ e.unsent) ((e.came ++ bytes) ++ more)) (sym (append_assoc all bytes more))
      (subst (λ (l : Bytes). Conversation Ever (all ++ (bytes ++ more)) (out ++ e.unsent) l) (sym (append_assoc e.came bytes more))
      (is (bytes ++ more) (λ same. absurd (true≢false (sym same ∙ open_yet)))))

  sent_more : (all out : Bytes) (e : Exchanges) (count : ℕ) → IsConversation Ever all out e → IsConversation Ever all (out ++ take count e.unsent) (sent e count)
  sent_more all out e count is more ended =
      let same : (out ++ take count e.unsent) ++ drop count e.unsent ≡ out ++ e.unsent =
      append_assoc out (take count e.unsent) (drop count e.unsent) ∙ ap (λ (l : Bytes). out ++ l) (take-append-drop count e.unsent) in
      subst (λ (l : Bytes). Conversation Ever (all ++ more) l (e.came ++ more)) (sym same) (is more ended)

  pub conversation : (all out : Bytes) (e : Exchanges) → Calls Ever all out e → IsConversation Ever all out e
  conversation _ _ _ new = λ more ended. begun
  conversation _ _ _ (feed {all} {out} {e} calls bytes open_yet) = fed_more all out e bytes open_yet (conversation all out e calls)
  conversation _ _ _ (close {all} {out} {e} calls) = λ more ended. conversation all out e calls more (λ same. ended refl)
  conversation _ _ _ (send {all} {out} {e} calls count) = sent_more all out e count (conversation all out e calls)
  conversation _ _ _ (answer {all} {out} {e} calls after t may_stay turns on) = turned all out e after t may_stay turns on (conversation all out e calls)
