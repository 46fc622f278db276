-- From the steps of a request to a witness to the whole.
use Rattle.std.proofs.Common.{◌≡◌, ℕ, ◌-◌, List, ◌++◌, Option, Some, None, Result, Ok, Err, Bool, false, length, take, drop, map, ap, subst, sym, ◌∙◌, refl, inl, inr, codes}
use Rattle.httparse.specs.Spans.{header_bytes, name_and_value, span_bytes}
use Rattle.httparse.specs.declared.spans.HeaderSpan.{HeaderSpan}
use Rattle.httparse.specs.declared.spans.RequestSpans.{RequestSpans}
use Rattle.tl_device.specs.Device.{Passage}
use Rattle.tl_device.specs.Reading.{Gave, MayBe}
use Rattle.tl_hash.specs.Bytes.{Digest}
use Rattle.tl_witness.specs.Saver.{Saved}
use Rattle.tl_witness.specs.Shared.{AnswersShared}
use Rattle.tl_witness.specs.Witnessed.{Witnessed}
use Rattle.tl_server.specs.Answer.{Answer, bare}
use Rattle.tl_server.specs.Exchange.{Begun, Exchange}
use Rattle.tl_server.specs.Serve.{Sends, Sent, Serves}
use Rattle.tl_server.specs.Witness.{Replies, WitnessAnswers, WitnessDecides, reply_answer}
use Rattle.tl_server.specs.Inner.Deciding.{IsHeaded, Rest}
use Rattle.tl_server.specs.Inner.Posts.{AsksPost, PostAnswers, PostedRows, ReceivedBody, RefusesPost}
use Rattle.tl_server.specs.declared.fault.ServeFault.{ServeFault}
use Rattle.tl_server.specs.declared.fault.ServeFault.TheVariants.{Read, Write}
use Rattle.tl_server.specs.declared.posted.Posted.{Posted}
use Rattle.tl_device.proofs.SendingLemmas.{over}
use Rattle.tl_server.proofs.PostLemmas.{PostTable, head_posted, received_rows, refused_rows}
use Rattle.tl_server.proofs.ServeLemmas.{came_after, decided_serves, head_in, sent_serves, something, whole_begins}

-- a head was read, and then an answer sent to what follows it
sent_after : (Idle : Type 0) (Decides : Begun → Answer → Type 0) (Answers : List ℕ → Answer → Type 0) (a b c : Option (List ℕ)) (f g h : Bool) (o : Passage)
    (buf : List ℕ) (headers : List HeaderSpan) (len : ℕ) (spans : RequestSpans) (result : Result (Option ℕ) ServeFault)
    (is : IsHeaded (over a b f g) buf headers len spans)
    → ((rest : List ℕ) (answer : Answer) → Answers rest answer
    → Decides (record { head = head_in (over a b f g) buf headers len spans is; rest = drop spans.len (take len buf) ++ rest }) answer)
    → Sent (Rest Answers) (over b c g h) o result
    → Sent (Exchange Idle Decides) (over a c f h) o result
sent_after Idle Decides Answers a b c f g h o buf headers len spans result is decides sent = record {
  answer = sent.answer;
  came = came_after (Rest Answers) (Exchange Idle Decides) a b c f g h buf headers len spans (Some sent.answer) is (λ input more joined answers.
      let whole = whole_begins (over a b f g) buf headers len spans is more input joined in (
        whole.0,
        inr (record { head = head_in (over a b f g) buf headers len spans is; rest = drop spans.len (take len buf) ++ more }, whole.1, decides more sent.answer answers),
      )) sent.came;
  sends = sent.sends;
}

-- a head was read, and then one request served with what follows it
pub serves_after : (Idle : Type 0) (Decides : Begun → Answer → Type 0) (Answers : List ℕ → Answer → Type 0) (a b c : Option (List ℕ)) (f g h : Bool) (o : Passage)
    (buf : List ℕ) (headers : List HeaderSpan) (len : ℕ) (spans : RequestSpans) (result : Result (Option ℕ) ServeFault)
    (is : IsHeaded (over a b f g) buf headers len spans)
    → ((rest : List ℕ) (answer : Answer) → Answers rest answer
    → Decides (record { head = head_in (over a b f g) buf headers len spans is; rest = drop spans.len (take len buf) ++ rest }) answer)
    → Serves Idle (Rest Answers) (over b c g h) o result
    → Serves Idle (Exchange Idle Decides) (over a c f h) o result
serves_after Idle Decides Answers a b c f g h o buf headers len spans (Ok None) is decides serves = absurd (something Answers (over b c g h) serves.0)
serves_after Idle Decides Answers a b c f g h o buf headers len spans (Ok (Some status)) is decides serves =
    sent_after Idle Decides Answers a b c f g h o buf headers len spans (Ok (Some status)) is decides serves
serves_after Idle Decides Answers a b c f g h o buf headers len spans (Err Read) is decides serves = serves
serves_after Idle Decides Answers a b c f g h o buf headers len spans (Err Write) is decides serves =
    sent_after Idle Decides Answers a b c f g h o buf headers len spans (Err Write) is decides serves

-- an answer was sent to what was read behind a head
pub rest_serves : (Idle : Type 0) (Answers : List ℕ → Answer → Type 0) (i o : Passage) (bytes : List ℕ) (ended : Bool) (answer : Answer) (result : Result (Option ℕ) ServeFault)
    → Gave i bytes ended → ((rest : List ℕ) → MayBe bytes ended rest → Answers rest answer) → Sends answer o result → Serves Idle (Rest Answers) i o result
rest_serves Idle Answers i o bytes ended answer result gave so sends = sent_serves Idle (Rest Answers) i o result (record {
  answer = answer;
  came = record { bytes = bytes; ended = ended; gave = gave; so = so };
  sends = sends;
})

-- the answer to a request without a body
pub refused_answer : (Idle : Type 0) (Takes : List ℕ → Type 0) (posted : Posted) (rest : List ℕ) (a : Answer) → RefusesPost posted rest a → Idle
    → PostedRows (λ r. Idle × (a ≡ r)) Takes posted rest
refused_answer Idle Takes posted rest a is idle = refused_rows (λ r. Idle × (a ≡ r)) Takes posted rest a is (idle, refl)

-- the reply to a body
pub replied : (H : Digest) (book : List Witnessed) (time : ℕ) (saved saved_after : Saved) (body : List ℕ) (status : ℕ) (text sent : List ℕ) → sent ≡ text
    → AnswersShared H book body time (record { status = status; body = text; saved = saved; saved_after = saved_after })
    → Replies H book time saved saved_after body (reply_answer status sent)
replied H book time saved saved_after body status text sent same is = (status, text, ap (λ (l : List ℕ). reply_answer status l) same, is)

-- what is answered to a body that was read
pub received_answer : (Idle : Type 0) (R : List ℕ → Answer → Type 0) (i : Passage) (posted : Posted) (part body read rest : List ℕ) (a : Answer) (is : ReceivedBody i posted part body)
    → read ≡ body → MayBe is.read.bytes false rest → R read a → PostAnswers Idle R posted part rest a
received_answer Idle R i posted part body read rest a is same may replies =
    received_rows (λ r. Idle × (a ≡ r)) (λ b. R b a) i posted part body rest is may (subst (λ (b : List ℕ). R b a) same replies)

-- the rows from the method on are those of the witness's table
witness_rows : (Idle : Type 0) (R : List ℕ → Answer → Type 0) (method target : List ℕ) (fields : List (List ℕ × List ℕ)) (rest : List ℕ) (a : Answer)
    → target ≡ codes "/add-checkpoint" → PostTable (λ r. Idle × (a ≡ r)) (λ body. R body a) 1048576 method fields rest → WitnessAnswers Idle R method target fields rest a
witness_rows Idle R method target fields rest a same (inl other) = inr (same, inl other)
witness_rows Idle R method target fields rest a same (inr (posts, inl unsized)) = inr (same, inr (posts, inl unsized))
witness_rows Idle R method target fields rest a same (inr (posts, inr (n, sized, inl large))) = inr (same, inr (posts, inr (n, sized, inl large)))
witness_rows Idle R method target fields rest a same (inr (posts, inr (n, sized, inr (fits, inl none)))) =
    inr (same, inr (posts, inr (n, sized, inr (fits, inl (none.0, none.1.0, none.1.1)))))
witness_rows Idle R method target fields rest a same (inr (posts, inr (n, sized, inr (fits, inr rows)))) = inr (same, inr (posts, inr (n, sized, inr (fits, inr rows))))

-- a body was sent to another target
pub other_target : (Idle : Type 0) (R : List ℕ → Answer → Type 0) (i o : Passage) (buf : List ℕ) (headers : List HeaderSpan) (len : ℕ) (spans : RequestSpans)
    (target : List ℕ) (result : Result (Option ℕ) ServeFault)
    → IsHeaded i buf headers len spans → target ≡ span_bytes (take len buf) spans.path → ¬ (target ≡ codes "/add-checkpoint") → Idle → Sends (bare 404) o result
    → Serves Idle (Exchange Idle (WitnessDecides Idle R)) i o result
other_target Idle R i o buf headers len spans target result is same other idle sends =
    decided_serves Idle (WitnessDecides Idle R) i o buf headers len spans is (bare 404) result (λ rest. inl ((λ e. other (same ∙ (is.of.1.path ∙ e))), (idle, refl))) sends

-- a body that was sent decides as the table does
pub witness_posted : (Idle : Type 0) (R : List ℕ → Answer → Type 0) (i : Passage) (buf : List ℕ) (headers : List HeaderSpan) (len : ℕ) (spans : RequestSpans)
    (is : IsHeaded i buf headers len spans) (target : List ℕ) (posted : Posted) (rest : List ℕ) (answer : Answer)
    → target ≡ span_bytes (take len buf) spans.path → target ≡ codes "/add-checkpoint"
    → AsksPost 1048576 (span_bytes (take len buf) spans.method) (map (header_bytes (take len buf)) (take spans.headers headers)) posted
    → PostAnswers Idle R posted (take (length (take len buf) - spans.len) (drop spans.len (take len buf))) rest answer
    → WitnessDecides Idle R (record { head = head_in i buf headers len spans is; rest = drop spans.len (take len buf) ++ rest }) answer
witness_posted Idle R i buf headers len spans is target posted rest answer same_target add asks answers =
    let head = head_in i buf headers len spans is in
    witness_rows Idle R head.method head.target (map name_and_value head.fields) (drop spans.len (take len buf) ++ rest) answer
    (sym (same_target ∙ is.of.1.path) ∙ add)
    (head_posted (λ r. Idle × (answer ≡ r)) (λ body. R body answer) 1048576 i buf headers len spans is posted rest asks answers)
