-- From the steps of a request to a log that takes entries to the whole.
use Rattle.std.proofs.Common.{◌≡◌, ℕ, ◌-◌, List, [], ◌++◌, Option, Some, None, Result, Ok, Err, Bool, false, length, take, drop, map, ap, subst, sym, ◌∙◌, refl, inl, inr, codes, decimal}
use Rattle.std.proofs.KnownBytes.{Keeps-refl}
use Rattle.httparse.specs.Spans.{header_bytes, name_and_value, span_bytes}
use Rattle.httparse.specs.declared.spans.HeaderSpan.{HeaderSpan}
use Rattle.httparse.specs.declared.spans.RequestSpans.{RequestSpans}
use Rattle.tl_device.specs.Device.{IsUnwritten, Passage}
use Rattle.tl_device.specs.Reading.{Gave, MayBe}
use Rattle.tl_tile.specs.Bundle.{most_entry}
use Rattle.tl_tile.specs.declared.resource.Resource.{Resource}
use Rattle.tl_server.specs.Adding.{Course, Reply, Misplace, Postpone, OpenDecides, StatusAnswers, index_answer}
use Rattle.tl_server.specs.Answer.{Answer, bare, plain_text}
use Rattle.tl_server.specs.Exchange.{Begun}
use Rattle.tl_server.specs.Log.{ResourceAnswers}
use Rattle.tl_server.specs.Serve.{Sends}
use Rattle.tl_server.specs.ServeOpen.{OpenExchange, ServesOpen, Takes, Took}
use Rattle.tl_server.specs.Inner.Deciding.{Answered, IsHeaded, ReadNoHead, Rest}
use Rattle.tl_server.specs.Inner.Opening.{outcome_of, SomeStatus}
use Rattle.tl_server.specs.Inner.Posts.{AsksPost, PostCourses, PostedRows, ReceivedBody, RefusesPost}
use Rattle.tl_server.specs.declared.adding.Outcome.{Outcome}
use Rattle.tl_server.specs.declared.adding.Outcome.TheVariants as outcome
use Rattle.tl_server.specs.declared.adding.EntryStatus.{EntryStatus}
use Rattle.tl_server.specs.declared.fault.ServeFault.{ServeFault}
use Rattle.tl_server.specs.declared.fault.ServeFault.TheVariants.{Read, Write}
use Rattle.tl_server.specs.declared.posted.Posted.{Posted}
use Rattle.tl_device.proofs.SendingLemmas.{over}
use Rattle.tl_server.proofs.PostLemmas.{PostTable, head_posted, received_rows, refused_rows}
use Rattle.tl_server.proofs.ServeLemmas.{came_after, came_decided, head_in, something, whole_begins}

-- ---- taking a course

-- an answer that was sent is a course that was taken
pub sent_takes : (a : Answer) (o : Passage) (sent : Result (Option ℕ) ServeFault) (result : Result Outcome ServeFault) → Sends a o sent → result ≡ outcome_of sent → Takes (Reply a) o result
sent_takes a o sent result sends same = subst (λ (r : Result Outcome ServeFault). Takes (Reply a) o r) (sym same) (taken sent sends)
  where
    taken : (r : Result (Option ℕ) ServeFault) → Sends a o r → Takes (Reply a) o (outcome_of r)
    taken (Ok None) s = absurd s
    taken (Ok (Some status)) s = (ap (λ (n : ℕ). outcome.Answered n) s.0, s.1)
    taken (Err Read) s = absurd s
    taken (Err Write) s = s

-- an answer with an index that was sent is a course that was taken
pub index_takes : (index : ℕ) (text : List ℕ) (o : Passage) (sent : Result (Option ℕ) ServeFault) (result : Result Outcome ServeFault) → text ≡ decimal index
    → Sends (record { status = 200; allow = []; kind = plain_text; body = text }) o sent → result ≡ outcome_of sent → Takes (Reply (index_answer index)) o result
index_takes index text o sent result same sends is =
    sent_takes (index_answer index) o sent result (subst (λ (l : List ℕ). Sends (record { status = 200; allow = []; kind = plain_text; body = l }) o sent) same sends) is

-- the answer to an entry that isn't at the reported index was written
pub misplaced_whole : (o : Passage) (status : Option ℕ) → Sends (bare 500) o (Ok status) → Takes Misplace o (Ok outcome.Misplaced)
misplaced_whole o None sends = absurd sends
misplaced_whole o (Some status) sends = (refl, sends.1)

-- a part of the answer to an entry that isn't at the reported index was written
pub misplaced_part : (o : Passage) (fault : ServeFault) → Sends (bare 500) o (Err fault) → Takes Misplace o (Err fault)
misplaced_part o Read sends = absurd sends
misplaced_part o Write sends = sends

-- no course has the outcome of no byte
never_nothing : (c : Course) (o : Passage) → Takes c o (Ok outcome.Nothing) → ⊥
never_nothing (Reply a) o takes = let same = takes.0 in absurd cc
never_nothing Misplace o takes = let same = takes.0 in absurd cc
never_nothing Postpone o takes = let same = takes.0 in absurd cc

-- no course has the outcome of a failed read
never_read : (c : Course) (o : Passage) → Takes c o (Err Read) → ⊥
never_read (Reply a) o takes = takes
never_read Misplace o takes = takes
never_read Postpone o takes = let same = takes.0 in absurd cc

-- a course that was taken is what was served
pub took_serves : (Idle : Type 0) (Courses : List ℕ → Option Course → Type 0) (i o : Passage) (result : Result Outcome ServeFault) → Took Courses i o result → ServesOpen Idle Courses i o result
took_serves Idle Courses i o (Ok outcome.Nothing) took = absurd (never_nothing took.course o took.takes)
took_serves Idle Courses i o (Ok (outcome.Answered status)) took = took
took_serves Idle Courses i o (Ok outcome.Later) took = took
took_serves Idle Courses i o (Ok outcome.Misplaced) took = took
took_serves Idle Courses i o (Err Read) took = absurd (never_read took.course o took.takes)
took_serves Idle Courses i o (Err Write) took = took

-- nothing was written
pub unwritten : (a : Option (List ℕ)) (f : Bool) → IsUnwritten (over a a f f)
unwritten a f = (Keeps-refl a, refl)

-- ---- a head

-- an input without a head
pub headless_open : (Idle : Type 0) (Decides : Begun → Course → Type 0) (i o : Passage) (status : ℕ) (result : Result Outcome ServeFault)
    → Idle → ReadNoHead i status → Takes (Reply (bare status)) o result → ServesOpen Idle (OpenExchange Idle Decides) i o result
headless_open Idle Decides i o status result idle is takes =
    took_serves Idle (OpenExchange Idle Decides) i o result (record {
      course = Reply (bare status);
      came = record {
        bytes = is.bytes;
        ended = is.ended;
        gave = is.gave;
        so = λ input may.
            let so = is.so input may in
            (so.some, inl ((λ b begins. so.none b.head b.rest begins), (idle, (status, so.status_is, refl))));
      };
      takes = takes;
    })

-- an input with a head: the head and what follows it decide
pub decided_open : (Idle : Type 0) (Decides : Begun → Course → Type 0) (i o : Passage) (buf : List ℕ) (headers : List HeaderSpan) (len : ℕ) (spans : RequestSpans)
    (is : IsHeaded i buf headers len spans) (course : Course) (result : Result Outcome ServeFault)
    → ((rest : List ℕ) → Decides (record { head = head_in i buf headers len spans is; rest = drop spans.len (take len buf) ++ rest }) course)
    → Takes course o result → ServesOpen Idle (OpenExchange Idle Decides) i o result
decided_open Idle Decides i o buf headers len spans is course result decides takes =
    took_serves Idle (OpenExchange Idle Decides) i o result (record {
      course = course;
      came = came_decided (OpenExchange Idle Decides) i buf headers len spans (Some course) is (λ input more joined.
          let whole = whole_begins i buf headers len spans is more input joined in (
            whole.0,
            inr (record { head = head_in i buf headers len spans is; rest = drop spans.len (take len buf) ++ more }, whole.1, decides more),
          ));
      takes = takes;
    })

-- a head was read, and then a course taken for what follows it
took_after : (Idle : Type 0) (Decides : Begun → Course → Type 0) (Courses : List ℕ → Course → Type 0) (a b c : Option (List ℕ)) (f g h : Bool) (o : Passage)
    (buf : List ℕ) (headers : List HeaderSpan) (len : ℕ) (spans : RequestSpans) (result : Result Outcome ServeFault)
    (is : IsHeaded (over a b f g) buf headers len spans)
    → ((rest : List ℕ) (course : Course) → Courses rest course
    → Decides (record { head = head_in (over a b f g) buf headers len spans is; rest = drop spans.len (take len buf) ++ rest }) course)
    → Took (Rest Courses) (over b c g h) o result
    → Took (OpenExchange Idle Decides) (over a c f h) o result
took_after Idle Decides Courses a b c f g h o buf headers len spans result is decides took = record {
  course = took.course;
  came = came_after (Rest Courses) (OpenExchange Idle Decides) a b c f g h buf headers len spans (Some took.course) is (λ input more joined becomes.
      let whole = whole_begins (over a b f g) buf headers len spans is more input joined in (
        whole.0,
        inr (record { head = head_in (over a b f g) buf headers len spans is; rest = drop spans.len (take len buf) ++ more }, whole.1, decides more took.course becomes),
      )) took.came;
  takes = took.takes;
}

-- a head was read, and then one request served with what follows it
pub open_after : (Idle : Type 0) (Decides : Begun → Course → Type 0) (Courses : List ℕ → Course → Type 0) (a b c : Option (List ℕ)) (f g h : Bool) (o : Passage)
    (buf : List ℕ) (headers : List HeaderSpan) (len : ℕ) (spans : RequestSpans) (result : Result Outcome ServeFault)
    (is : IsHeaded (over a b f g) buf headers len spans)
    → ((rest : List ℕ) (course : Course) → Courses rest course
    → Decides (record { head = head_in (over a b f g) buf headers len spans is; rest = drop spans.len (take len buf) ++ rest }) course)
    → ServesOpen Idle (Rest Courses) (over b c g h) o result
    → ServesOpen Idle (OpenExchange Idle Decides) (over a c f h) o result
open_after Idle Decides Courses a b c f g h o buf headers len spans (Ok outcome.Nothing) is decides serves = absurd (something Courses (over b c g h) serves.0)
open_after Idle Decides Courses a b c f g h o buf headers len spans (Ok (outcome.Answered status)) is decides serves =
    took_after Idle Decides Courses a b c f g h o buf headers len spans (Ok (outcome.Answered status)) is decides serves
open_after Idle Decides Courses a b c f g h o buf headers len spans (Ok outcome.Later) is decides serves =
    took_after Idle Decides Courses a b c f g h o buf headers len spans (Ok outcome.Later) is decides serves
open_after Idle Decides Courses a b c f g h o buf headers len spans (Ok outcome.Misplaced) is decides serves =
    took_after Idle Decides Courses a b c f g h o buf headers len spans (Ok outcome.Misplaced) is decides serves
open_after Idle Decides Courses a b c f g h o buf headers len spans (Err Read) is decides serves = serves
open_after Idle Decides Courses a b c f g h o buf headers len spans (Err Write) is decides serves =
    took_after Idle Decides Courses a b c f g h o buf headers len spans (Err Write) is decides serves

-- a course was taken for what was read behind a head
pub rest_open : (Idle : Type 0) (Courses : List ℕ → Course → Type 0) (i o : Passage) (bytes : List ℕ) (ended : Bool) (course : Course) (result : Result Outcome ServeFault)
    → Gave i bytes ended → ((rest : List ℕ) → MayBe bytes ended rest → Courses rest course) → Takes course o result → ServesOpen Idle (Rest Courses) i o result
rest_open Idle Courses i o bytes ended course result gave so takes = took_serves Idle (Rest Courses) i o result (record {
  course = course;
  came = record { bytes = bytes; ended = ended; gave = gave; so = so };
  takes = takes;
})

-- ---- the table

-- another target is answered as by a log that takes no entries
pub other_page : (Looks : (Resource → Answer → Type 0) → ℕ → ℕ → ℕ → Answer → Type 0) (Submits : List ℕ → EntryStatus → Type 0) (Idle Unasked Unseen : Type 0) (Gives : Resource → Answer → Type 0)
    (i o : Passage) (buf : List ℕ) (headers : List HeaderSpan) (len : ℕ) (spans : RequestSpans)
    (method target : List ℕ) (sent : Result (Option ℕ) ServeFault) (result : Result Outcome ServeFault)
    → IsHeaded i buf headers len spans → method ≡ span_bytes (take len buf) spans.method → target ≡ span_bytes (take len buf) spans.path
    → ¬ (target ≡ codes "/add") → Unasked → Answered (ResourceAnswers Unseen Gives method target) o sent → result ≡ outcome_of sent
    → ServesOpen Idle (OpenExchange Idle (OpenDecides Unasked Submits Unseen Gives (Looks Gives))) i o result
other_page Looks Submits Idle Unasked Unseen Gives i o buf headers len spans method target sent result is same_method same_target other unasked answered same =
    let head = head_in i buf headers len spans is in
    let at = is.of.1 in
    let decided : ResourceAnswers Unseen Gives head.method head.target answered.answer =
    subst (λ (m : List ℕ). ResourceAnswers Unseen Gives m head.target answered.answer) (same_method ∙ at.method)
    (subst (λ (t : List ℕ). ResourceAnswers Unseen Gives method t answered.answer) (same_target ∙ at.path) answered.decided) in
    decided_open Idle (OpenDecides Unasked Submits Unseen Gives (Looks Gives)) i o buf headers len spans is (Reply answered.answer) result
    (λ rest. inl ((λ e. other (same_target ∙ (at.path ∙ e))), (unasked, (answered.answer, decided, refl))))
    (sent_takes answered.answer o sent result answered.sends same)

-- the answer to a request without a body
pub refused_course : (Unasked Unseen : Type 0) (Takes : List ℕ → Type 0) (posted : Posted) (rest : List ℕ) (a : Answer) → RefusesPost posted rest a → Unasked → Unseen
    → PostedRows (λ r. Unasked × Unseen × (Reply a ≡ Reply r)) Takes posted rest
refused_course Unasked Unseen Takes posted rest a is unasked unseen =
    refused_rows (λ r. Unasked × Unseen × (Reply a ≡ Reply r)) Takes posted rest a is (unasked, unseen, refl)

-- what an entry that was read leads to
pub received_course : (Unasked Unseen : Type 0) (Submits : List ℕ → EntryStatus → Type 0) (Becomes : EntryStatus → List ℕ → Course → Type 0) (i : Passage) (posted : Posted) (part body entry rest : List ℕ) (entry_status : EntryStatus) (c : Course)
    (is : ReceivedBody i posted part body)
    → entry ≡ body → MayBe is.read.bytes false rest → Submits entry entry_status → Becomes entry_status entry c → PostCourses Unasked Unseen (SomeStatus Submits Becomes) posted part rest c
received_course Unasked Unseen Submits Becomes i posted part body entry rest entry_status c is same may tells becomes =
    received_rows (λ r. Unasked × Unseen × (c ≡ Reply r)) (λ b. SomeStatus Submits Becomes b c) i posted part body rest is may
    (entry_status, subst (λ (b : List ℕ). Submits b entry_status) same tells, subst (λ (b : List ℕ). Becomes entry_status b c) same becomes)

-- the rows from the method on are those of the table
open_rows : (Unasked : Type 0) (Submits : List ℕ → EntryStatus → Type 0) (Unseen : Type 0) (Gives : Resource → Answer → Type 0) (Looks : ℕ → ℕ → ℕ → Answer → Type 0) (b : Begun) (c : Course)
    → b.head.target ≡ codes "/add"
    → PostTable (λ r. Unasked × Unseen × (c ≡ Reply r)) (λ entry. (entry_status : EntryStatus) × Submits entry entry_status × StatusAnswers Unseen Gives Looks entry entry_status c) most_entry b.head.method (map name_and_value b.head.fields) b.rest
    → OpenDecides Unasked Submits Unseen Gives Looks b c
open_rows Unasked Submits Unseen Gives Looks b c same rows = inr (same, rows)

-- a body that was sent decides as the table does
pub open_posted : (Looks : (Resource → Answer → Type 0) → ℕ → ℕ → ℕ → Answer → Type 0) (Submits : List ℕ → EntryStatus → Type 0) (Unasked Unseen : Type 0) (Gives : Resource → Answer → Type 0)
    (i : Passage) (buf : List ℕ) (headers : List HeaderSpan) (len : ℕ) (spans : RequestSpans)
    (is : IsHeaded i buf headers len spans) (target : List ℕ) (posted : Posted) (rest : List ℕ) (course : Course)
    → target ≡ span_bytes (take len buf) spans.path → target ≡ codes "/add"
    → AsksPost 65535 (span_bytes (take len buf) spans.method) (map (header_bytes (take len buf)) (take spans.headers headers)) posted
    → PostCourses Unasked Unseen (SomeStatus Submits (λ entry_status entry c. StatusAnswers Unseen Gives (Looks Gives) entry entry_status c)) posted (take (length (take len buf) - spans.len) (drop spans.len (take len buf))) rest course
    → OpenDecides Unasked Submits Unseen Gives (Looks Gives) (record { head = head_in i buf headers len spans is; rest = drop spans.len (take len buf) ++ rest }) course
open_posted Looks Submits Unasked Unseen Gives i buf headers len spans is target posted rest course same_target add asks becomes =
    let head = head_in i buf headers len spans is in
    open_rows Unasked Submits Unseen Gives (Looks Gives) (record { head = head; rest = drop spans.len (take len buf) ++ rest }) course (sym (same_target ∙ is.of.1.path) ∙ add)
    (head_posted (λ r. Unasked × Unseen × (course ≡ Reply r)) (λ entry. (entry_status : EntryStatus) × Submits entry entry_status × StatusAnswers Unseen Gives (Looks Gives) entry entry_status course) most_entry i buf headers len spans is posted rest asks becomes)
