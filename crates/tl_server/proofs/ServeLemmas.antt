-- From the steps of a request to the whole.
use Rattle.std.proofs.Common.{◌≡◌, ◌≢◌, ℕ, List, [], ◌++◌, Option, Some, None, Result, Ok, Err, Bool, false, length, length-take, take, drop, append_assoc, append-nil, ap, subst, sym, ◌∙◌, refl, inl, inr, arith}
use Rattle.std.proofs.KnownBytes.{Consumes-trans}
use Rattle.std.proofs.lemmas.List.{length-map}
use Rattle.std.specs.Prelude.{min}
use Rattle.httparse.specs.declared.spans.HeaderSpan.{HeaderSpan}
use Rattle.httparse.specs.declared.spans.RequestSpans.{RequestSpans}
use Rattle.httparse.specs.Grammar.{RequestHead, ReadsRequest}
use Rattle.httparse.specs.Spans.{span_bytes, header_bytes, name_and_value}
use Rattle.httparse.proofs.GrammarLemmas.{ReadsRequest-append}
use Rattle.tl_device.specs.Device.{Passage}
use Rattle.tl_server.specs.Answer.{Answer, bare}
use Rattle.tl_server.specs.Head.{HasHead}
use Rattle.tl_server.specs.Exchange.{Begun, Exchange}
use Rattle.tl_server.specs.Serve.{Came, Sends, Sent, Serves}
use Rattle.tl_server.specs.Inner.Deciding.{Answered, ReadNoHead, IsHeaded, Rest}
use Rattle.tl_server.specs.declared.fault.ServeFault.{ServeFault}
use Rattle.tl_server.specs.declared.fault.ServeFault.TheVariants.{Read, Write}
use Rattle.tl_device.proofs.SendingLemmas.{over}
use Rattle.tl_server.proofs.HeadLaws.{no_request}

-- an answer that was sent is what was served
pub sent_serves : (Idle : Type 0) (A : List ℕ → Option Answer → Type 0) (i o : Passage) (result : Result (Option ℕ) ServeFault) → Sent A i o result → Serves Idle A i o result
sent_serves Idle A i o (Ok None) sent = absurd sent.sends
sent_serves Idle A i o (Ok (Some status)) sent = sent
sent_serves Idle A i o (Err Read) sent = absurd sent.sends
sent_serves Idle A i o (Err Write) sent = sent

-- an input without a head
pub headless_serves : (Idle : Type 0) (Decides : Begun → Answer → Type 0) (i o : Passage) (status : ℕ) (result : Result (Option ℕ) ServeFault)
    → Idle → ReadNoHead i status → Sends (bare status) o result → Serves Idle (Exchange Idle Decides) i o result
headless_serves Idle Decides i o status result idle is sends =
    sent_serves Idle (Exchange Idle Decides) i o result (record {
      answer = bare status;
      came = record {
        bytes = is.bytes;
        ended = is.ended;
        gave = is.gave;
        so = λ input may.
            let so = is.so input may in
            (so.some, inl ((λ b begins. so.none b.head b.rest begins), (idle, (status, so.status_is, refl))));
      };
      sends = sends;
    })

-- the head that was read
abbrev pub head_in : (i : Passage) (buf : List ℕ) (headers : List HeaderSpan) (len : ℕ) (spans : RequestSpans) → IsHeaded i buf headers len spans → RequestHead
head_in i buf headers len spans is = is.of.0

-- whatever follows what was read, the whole begins with that head
pub whole_begins : (i : Passage) (buf : List ℕ) (headers : List HeaderSpan) (len : ℕ) (spans : RequestSpans) (is : IsHeaded i buf headers len spans) (more input : List ℕ)
    → input ≡ take len buf ++ more → (input ≢ []) × HasHead input (head_in i buf headers len spans is) (drop spans.len (take len buf) ++ more)
whole_begins i buf headers len spans is more input same =
    let head = head_in i buf headers len spans is in
    let at = is.of.1 in
    let reads = ReadsRequest-append (take len buf) head (drop spans.len (take len buf)) more at.reads in
    let whole : ReadsRequest input head (drop spans.len (take len buf) ++ more) =
    subst (λ (l : List ℕ). ReadsRequest l head (drop spans.len (take len buf) ++ more)) (sym same) reads in
    let long : length (take len buf) ≡ min len (length buf) = length-take len buf in
    let fits = is.fits in
    let within = is.within.section.len_fits in
    let print = at.len in
    let fields : length (take spans.headers headers) ≡ length head.fields =
    sym (length-map (take spans.headers headers) (header_bytes (take len buf))) ∙ (ap (λ (l : List (List ℕ × List ℕ)). length l) at.fields ∙ length-map head.fields name_and_value) in
    let taken : length (take spans.headers headers) ≡ min spans.headers (length headers) = length-take spans.headers headers in
    let room = is.room in (
      (λ none. no_request head (drop spans.len (take len buf) ++ more) (subst (λ (l : List ℕ). ReadsRequest l head (drop spans.len (take len buf) ++ more)) none whole)),
      record {
        reads = whole;
        short = omega (arith, long, fits, within, print);
        few = omega (arith, fields, taken, room);
      },
    )

-- what holds of every input that begins with the bytes read came of it
pub came_decided : {X : Type 0} (So : List ℕ → X → Type 0) (i : Passage) (buf : List ℕ) (headers : List HeaderSpan) (len : ℕ) (spans : RequestSpans) (x : X)
    → IsHeaded i buf headers len spans → ((input more : List ℕ) → input ≡ take len buf ++ more → So input x) → Came So i x
came_decided So i buf headers len spans x is so = record {
  bytes = take len buf;
  ended = false;
  gave = is.gave;
  so = λ input may. so input may.more may.joined;
}

-- what holds of every input that begins with a head and the bytes read behind it came of it
pub came_after : {X : Type 0} (Rests So : List ℕ → X → Type 0) (a b c : Option (List ℕ)) (f g h : Bool) (buf : List ℕ) (headers : List HeaderSpan) (len : ℕ) (spans : RequestSpans) (x : X)
    → IsHeaded (over a b f g) buf headers len spans
    → ((input more : List ℕ) → input ≡ take len buf ++ more → Rests more x → So input x)
    → Came Rests (over b c g h) x → Came So (over a c f h) x
came_after Rests So a b c f g h buf headers len spans x is so came = record {
  bytes = take len buf ++ came.bytes;
  ended = came.ended;
  gave = record {
    consumed = Consumes-trans a b c (take len buf) came.bytes is.gave.consumed came.gave.consumed;
    at_end = came.gave.at_end;
    steady = came.gave.steady ∙ is.gave.steady;
  };
  so = λ input may.
      let joined : input ≡ take len buf ++ (came.bytes ++ may.more) = may.joined ∙ append_assoc (take len buf) came.bytes may.more in
      so input (came.bytes ++ may.more) joined (came.so (came.bytes ++ may.more) (record { more = may.more; joined = refl; none = may.none }));
}

-- there is always an answer to what follows a head
pub something : {X : Type 0} (Rests : List ℕ → X → Type 0) (i : Passage) → Came (Rest Rests) i None → ⊥
something Rests i came = came.so came.bytes (record { more = []; joined = sym (append-nil came.bytes); none = λ e. refl })

-- an input with a head: the head and what follows it decide
pub decided_serves : (Idle : Type 0) (Decides : Begun → Answer → Type 0) (i o : Passage) (buf : List ℕ) (headers : List HeaderSpan) (len : ℕ) (spans : RequestSpans)
    (is : IsHeaded i buf headers len spans) (answer : Answer) (result : Result (Option ℕ) ServeFault)
    → ((rest : List ℕ) → Decides (record { head = head_in i buf headers len spans is; rest = drop spans.len (take len buf) ++ rest }) answer)
    → Sends answer o result → Serves Idle (Exchange Idle Decides) i o result
decided_serves Idle Decides i o buf headers len spans is answer result decides sends =
    sent_serves Idle (Exchange Idle Decides) i o result (record {
      answer = answer;
      came = came_decided (Exchange Idle Decides) i buf headers len spans (Some answer) is (λ input more joined.
          let whole = whole_begins i buf headers len spans is more input joined in (
            whole.0,
            inr (record { head = head_in i buf headers len spans is; rest = drop spans.len (take len buf) ++ more }, whole.1, decides more),
          ));
      sends = sends;
    })

-- an input with a head: its method and its target decide
pub headed_serves : (Idle : Type 0) (Answers : List ℕ → List ℕ → Answer → Type 0) (i o : Passage) (buf : List ℕ) (headers : List HeaderSpan) (len : ℕ) (spans : RequestSpans)
    (method target : List ℕ) (result : Result (Option ℕ) ServeFault)
    → method ≡ span_bytes (take len buf) spans.method → target ≡ span_bytes (take len buf) spans.path
    → IsHeaded i buf headers len spans → Answered (Answers method target) o result
    → Serves Idle (Exchange Idle (λ b a. Answers b.head.method b.head.target a)) i o result
headed_serves Idle Answers i o buf headers len spans method target result same_method same_target is answered =
    let head = head_in i buf headers len spans is in
    let at = is.of.1 in
    let decided : Answers head.method head.target answered.answer =
    subst (λ (m : List ℕ). Answers m head.target answered.answer) (same_method ∙ at.method)
    (subst (λ (t : List ℕ). Answers method t answered.answer) (same_target ∙ at.path) answered.decided) in
    decided_serves Idle (λ b a. Answers b.head.method b.head.target a) i o buf headers len spans is answered.answer result (λ rest. decided) answered.sends
