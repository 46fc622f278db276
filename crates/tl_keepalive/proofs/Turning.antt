-- What an attempt to answer says of all that came.
use Rattle.std.proofs.Common.{inl, inr, ◌≡◌, ◌≢◌, ℕ, ◌+◌, Bool, true, false, codes, [], ◌++◌, Option, Some, None, Result, Ok, Err, length, length-append, sym, ap, subst, ◌∙◌, append_assoc, append-nil, arith}
use Rattle.std.proofs.lemmas.List.{append_cancel_right}
use Rattle.std.specs.Io.KnownBytes.{Appends, Consumes, IsAtEnd}
use Rattle.tl_device.specs.Device.{Counted, Passage, WroteWhole, passage}
use Rattle.tl_device.specs.Reading.{Gave, MayBe}
use Rattle.tl_hash.specs.Bytes.{Bytes}
use Rattle.tl_server.specs.Adding.{Course, Misplace, Postpone, Reply}
use Rattle.tl_server.specs.Answer.{Answer, answer_text, bare}
use Rattle.tl_server.specs.Serve.{Came}
use Rattle.tl_server.specs.ServeOpen.{ServesOpen, Takes}
use Rattle.tl_server.specs.declared.adding.Outcome.{Outcome}
use Rattle.tl_server.specs.declared.adding.Outcome.TheVariants as outcome
use Rattle.tl_server.specs.declared.fault.ServeFault.{ServeFault}
use Rattle.tl_server.specs.declared.fault.ServeFault.TheVariants as fault
use Rattle.tl_keepalive.specs.Exchanges.{Exchanges, Turns, LeadsTo, answered}
use Rattle.tl_keepalive.specs.KeepAlive.{without}
use Rattle.tl_keepalive.specs.Inner.Coming.{Concludes, beyond}
use Rattle.tl_keepalive.specs.Inner.Replying.{Replies}
use Rattle.tl_keepalive.specs.declared.turn.Turn.{Turn}
use Rattle.tl_keepalive.specs.declared.turn.Turn.TheVariants as turn

-- what was read is a beginning of what came, and all of it, with nothing to follow, if the end was met
pub record Reads (e : Exchanges) (i : Passage) : Type 0 where
  pub so : (bytes : Bytes) (ended : Bool) → Gave i bytes ended → (input : Bytes) → MayBe e.came e.ended input → MayBe bytes ended input

not_end : (left : Bytes) → left ++ beyond ≢ []
not_end left same =
    let none : length left + 1 ≡ 0 = sym (length-append left beyond) ∙ ap (λ (l : Bytes). length l) same in
    absurd (omega (arith, none))

module _ {D : Type 0} (known : D → Option Bytes) (x y : Counted D) where
  -- nothing more comes
  pub reads_last : (e : Exchanges) (left : Bytes) → e.ended ≡ true → known x.device ≡ Some e.came → known y.device ≡ Some left → Reads e (passage known x y)
  reads_last e left ended was is = record {
    so = λ bytes met gave input may.
        let all : input ≡ e.came = may.joined ∙ (ap (λ (l : Bytes). e.came ++ l) (may.none ended) ∙ append-nil e.came) in
        let parts : e.came ≡ bytes ++ left =
        subst (λ (o : Option Bytes). Consumes (Some e.came) o bytes) is (subst (λ (o : Option Bytes). Consumes o (known y.device) bytes) was gave.consumed) in
        record { more = left; joined = all ∙ parts; none = λ same. subst IsAtEnd is (gave.at_end same) };
  }

  -- more may come
  pub reads_next : (e : Exchanges) (left : Bytes) → known x.device ≡ Some (e.came ++ beyond) → known y.device ≡ Some (left ++ beyond) → Reads e (passage known x y)
  reads_next e left was is = record {
    so = λ bytes met gave input may.
        let parts : e.came ++ beyond ≡ bytes ++ (left ++ beyond) =
        subst (λ (o : Option Bytes). Consumes (Some (e.came ++ beyond)) o bytes) is (subst (λ (o : Option Bytes). Consumes o (known y.device) bytes) was gave.consumed) in
        let same : e.came ≡ bytes ++ left = append_cancel_right e.came (bytes ++ left) beyond (parts ∙ sym (append_assoc bytes left beyond)) in
        record {
          more = left ++ may.more;
          joined = may.joined ∙ (ap (λ (l : Bytes). l ++ may.more) same ∙ append_assoc bytes left may.more);
          none = λ was_met. absurd (not_end left (subst IsAtEnd is (gave.at_end was_met)));
        };
  }

  -- the text is what an empty writer took
  pub wrote_all : (text : Bytes) → known x.device ≡ Some [] → known y.device ≡ Some text → (t : Bytes) → WroteWhole (passage known x y) t → text ≡ t
  wrote_all text was is t whole =
      subst (λ (o : Option Bytes). Appends (Some []) o t) is (subst (λ (o : Option Bytes). Appends o (known y.device) t) was whole.appended)

status_of : Outcome → ℕ
status_of (outcome.Answered status) = status
status_of _ = 0

module _ (Idle : Type 0) (Courses : Bytes → Option Course → Type 0) (may_stay : Bool) (a b : Exchanges) (i o : Passage) (text : Bytes) (reads : Reads a i) (sent : a.unsent ≡ [])
    (wrote : (t : Bytes) → WroteWhole o t → text ≡ t) where
  leads : (c : Option Course) → Came Courses i c → LeadsTo Courses a c
  leads c came input may = came.so input (reads.so came.bytes came.ended came.gave input may)

  replied : (answer : Answer) → Came Courses i (Some (Reply answer)) → text ≡ answer_text answer
      → (stays : Bool) → Replies may_stay answer.status text a b stays → Turns Idle Courses may_stay a b (turn.Answered stays)
  replied answer came is true (allowed, goes) = (
    sent,
    record {
      answer = answer;
      end = goes.0;
      led = leads (Some (Reply answer)) came;
      allowed = allowed;
      stays = goes.1;
      is = goes.2 ∙ ap (λ (l : Bytes). answered a goes.0 (without (codes "Connection: close\r\n") l)) is;
    },
  )
  replied answer came is false (closes, new) =
      (sent, record { answer = answer; led = leads (Some (Reply answer)) came; closes = closes; is = new ∙ ap (answered a 0) is })

  took_answer : (status : ℕ) (c : Course) → Came Courses i (Some c) → Takes c o (Ok (outcome.Answered status))
      → (stays : Bool) → Replies may_stay status text a b stays → Turns Idle Courses may_stay a b (turn.Answered stays)
  unfolding status_of
  took_answer status (Reply answer) came (same, whole) stays new =
      replied answer came (wrote (answer_text answer) whole) stays
      (subst (λ (n : ℕ). Replies may_stay n text a b stays) (ap status_of same) new)
  took_answer status Misplace came (same, whole) stays new = absurd (cc)
  took_answer status Postpone came (same, none) stays new = absurd (cc)

  took_misplaced : (c : Course) → Came Courses i (Some c) → Takes c o (Ok outcome.Misplaced) → b ≡ answered a 0 text
      → Turns Idle Courses may_stay a b turn.Misplaced
  took_misplaced (Reply answer) came (same, whole) new = absurd (cc)
  took_misplaced Misplace came (same, whole) new =
      (sent, leads (Some Misplace) came, new ∙ ap (answered a 0) (wrote (answer_text (bare 500)) whole))
  took_misplaced Postpone came (same, none) new = absurd (cc)

  took_later : (c : Course) → Came Courses i (Some c) → Takes c o (Ok outcome.Later) → b ≡ a → Turns Idle Courses may_stay a b turn.Later
  took_later (Reply answer) came (same, whole) new = absurd (cc)
  took_later Misplace came (same, whole) new = absurd (cc)
  took_later Postpone came (same, none) new = (leads (Some Postpone) came, new)

  pub concluded : (result : Result Outcome ServeFault) → ServesOpen Idle Courses i o result → (t : Turn) → Concludes may_stay text a b result t
      → Turns Idle Courses may_stay a b t
  concluded (Ok (outcome.Answered status)) serves t (stays, is, new) =
      subst (Turns Idle Courses may_stay a b) (sym is) (took_answer status serves.course serves.came serves.takes stays new)
  concluded (Ok outcome.Misplaced) serves t (is, new) =
      subst (Turns Idle Courses may_stay a b) (sym is) (took_misplaced serves.course serves.came serves.takes new)
  concluded (Ok outcome.Later) serves t (is, new) = subst (Turns Idle Courses may_stay a b) (sym is) (took_later serves.course serves.came serves.takes new)
  concluded (Ok outcome.Nothing) serves t (is, new) = subst (Turns Idle Courses may_stay a b) (sym is) (leads None serves.0, new)
  concluded (Err fault.Read) serves t (inl (ended, is), new) = subst (Turns Idle Courses may_stay a b) (sym is) (inl ended, new)
  concluded (Err fault.Read) serves t (inr (goes, is), new) = subst (Turns Idle Courses may_stay a b) (sym is) (goes, serves.2, new)
  concluded (Err fault.Write) serves t (is, new) =
      subst (Turns Idle Courses may_stay a b) (sym is) (inr (serves.course, leads (Some serves.course) serves.came), new)
