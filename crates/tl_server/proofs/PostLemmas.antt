-- The body of a request, and what follows from it.
use Rattle.std.proofs.Common.{◌≡◌, ◌⊎◌, ℕ, ◌+◌, ◌-◌, ◌<◌, ◌≤◌, List, [], ◌++◌, Bool, true, false, Option, length, length-append, take, drop, map, append_assoc, append-nil, ap, subst, sym, ◌∙◌, refl, inl, inr, arith, codes}
use Rattle.std.proofs.lemmas.List.{take_rest}
use Rattle.httparse.specs.Spans.{header_bytes, name_and_value, span_bytes}
use Rattle.httparse.specs.declared.spans.HeaderSpan.{HeaderSpan}
use Rattle.httparse.specs.declared.spans.RequestSpans.{RequestSpans}
use Rattle.tl_device.specs.Device.{Passage}
use Rattle.tl_device.specs.Reading.{Gave, MayBe}
use Rattle.tl_witness.specs.Cases.{Unless, UnlessSome}
use Rattle.tl_server.specs.Answer.{Answer, bare, not_allowed}
use Rattle.tl_server.specs.Head.{HasBody, IsSized}
use Rattle.tl_server.specs.Inner.Bodies.{ReadCut}
use Rattle.tl_server.specs.Inner.Deciding.{IsHeaded}
use Rattle.tl_server.specs.Inner.Posts.{AsksPost, PostedRows, ReceivedBody, RefusedPost, RefusesPost}
use Rattle.tl_server.specs.Inner.Sending.{refusal}
use Rattle.tl_server.specs.declared.posted.Posted.{Posted}
use Rattle.tl_server.specs.declared.posted.Posted.TheVariants.{OtherMethod, Unsized, TooLarge, Sized}
use Rattle.tl_device.proofs.SendingLemmas.{over}
use Rattle.tl_device.proofs.ReadLemmas.{gave_none}
use Rattle.tl_server.proofs.ServeLemmas.{head_in}

-- the input ended too early for any body of this length
no_body : (part bytes rest : List ℕ) (n : ℕ) → length (part ++ bytes) < n → MayBe bytes true rest → (body : List ℕ) → ¬ (HasBody (part ++ rest) n body)
no_body part bytes rest n short may body has =
    let same : rest ≡ bytes = may.joined ∙ (ap (λ (l : List ℕ). bytes ++ l) (may.none refl) ∙ append-nil bytes) in
    let whole : length (part ++ bytes) ≡ length body + length has.after =
    ap (λ (l : List ℕ). length (part ++ l)) (sym same) ∙ (ap (λ (l : List ℕ). length l) has.joined ∙ length-append body has.after) in
    let size = has.length_is in
    absurd (omega (arith, whole, size, short))

-- bytes that begin with a body begin with it whatever follows
body_stays : (part bytes rest body : List ℕ) (n : ℕ) → HasBody (part ++ bytes) n body → MayBe bytes false rest → HasBody (part ++ rest) n body
body_stays part bytes rest body n has may = record {
  after = has.after ++ may.more;
  joined = ap (λ (l : List ℕ). part ++ l) may.joined
      ∙ (sym (append_assoc part bytes may.more)
      ∙ (ap (λ (l : List ℕ). l ++ may.more) has.joined ∙ append_assoc body has.after may.more));
  length_is = has.length_is;
}

-- what the head says of the body is equal to this
refuses_as : (posted other : Posted) (rest : List ℕ) (a : Answer) → posted ≡ other → RefusesPost other rest a → RefusesPost posted rest a
refuses_as posted other rest a same is = subst (λ (x : Posted). RefusesPost x rest a) (sym same) is

-- the head alone says why there is no body
pub refused_by_head : (a : Option (List ℕ)) (f : Bool) (posted other : Posted) (part : List ℕ) (status : ℕ) → posted ≡ other
    → ((rest : List ℕ) → RefusesPost other rest (refusal status)) → RefusedPost (over a a f f) posted part status
refused_by_head a f posted other part status same so = record {
  bytes = [];
  ended = false;
  gave = gave_none a f;
  so = λ rest may. refuses_as posted other (part ++ rest) (refusal status) same (so (part ++ rest));
}

-- the input ended too early
pub refused_by_end : (i : Passage) (posted : Posted) (part : List ℕ) (n : ℕ) → posted ≡ Sized n → ReadCut i part n → RefusedPost i posted part 400
refused_by_end i posted part n same cut = record {
  bytes = cut.bytes;
  ended = true;
  gave = cut.gave;
  so = λ rest may. refuses_as posted (Sized n) (part ++ rest) (bare 400) same (inr (no_body part cut.bytes rest n cut.short may, refl));
}

-- an allocation failed
pub refused_by_memory : (i : Passage) (posted : Posted) (part : List ℕ) (n : ℕ) → posted ≡ Sized n → Gave i [] false × (0 < n) → RefusedPost i posted part 500
refused_by_memory i posted part n same none = record {
  bytes = [];
  ended = false;
  gave = none.0;
  so = λ rest may. refuses_as posted (Sized n) (part ++ rest) (bare 500) same (inl (none.1, refl));
}

-- the answer to a request without a body
pub refused_rows : (Says : Answer → Type 0) (Takes : List ℕ → Type 0) (posted : Posted) (rest : List ℕ) (a : Answer) → RefusesPost posted rest a → Says a
    → PostedRows Says Takes posted rest
refused_rows Says Takes OtherMethod rest a is says = subst Says is says
refused_rows Says Takes Unsized rest a is says = subst Says is says
refused_rows Says Takes TooLarge rest a is says = subst Says is says
refused_rows Says Takes (Sized n) rest a (inl is) says = inl (is.0, subst Says is.1 says)
refused_rows Says Takes (Sized n) rest a (inr is) says = inr (inl (is.0, subst Says is.1 says))

-- the body that was read is taken
pub received_rows : (Says : Answer → Type 0) (Takes : List ℕ → Type 0) (i : Passage) (posted : Posted) (part body rest : List ℕ) (is : ReceivedBody i posted part body)
    → MayBe is.read.bytes false rest → Takes body → PostedRows Says Takes posted (part ++ rest)
received_rows Says Takes i posted part body rest is may takes =
    subst (λ (x : Posted). PostedRows Says Takes x (part ++ rest)) (sym is.sized)
    (inr (inr (body, body_stays part is.read.bytes rest body is.size is.read.has may, takes)))

-- the rows of a table, from the method on
abbrev pub PostTable : (Answer → Type 0) → (List ℕ → Type 0) → ℕ → List ℕ → List (List ℕ × List ℕ) → List ℕ → Type 0
PostTable Says Takes most method fields rest =
    Unless (method ≡ codes "POST") (Says (not_allowed (codes "POST")))
    (UnlessSome (IsSized fields) (Says (bare 400)) (λ n.
    Unless (n ≤ most) (Says (bare 413))
    (((0 < n) × Says (bare 500)) ⊎ UnlessSome (HasBody rest n) (Says (bare 400)) Takes)))

-- what a head says of the body decides as those rows do
pub posted_table : (Says : Answer → Type 0) (Takes : List ℕ → Type 0) (most : ℕ) (method : List ℕ) (fields : List (List ℕ × List ℕ)) (posted : Posted) (rest : List ℕ)
    → AsksPost most method fields posted → PostedRows Says Takes posted rest → PostTable Says Takes most method fields rest
posted_table Says Takes most method fields OtherMethod rest asks is = inl (asks, is)
posted_table Says Takes most method fields Unsized rest asks is = inr (asks.0, inl (asks.1, is))
posted_table Says Takes most method fields TooLarge rest asks is = inr (asks.0, inr (asks.1.0, asks.1.1, inl (asks.1.2, is)))
posted_table Says Takes most method fields (Sized n) rest asks is = inr (asks.0, inr (n, asks.1, inr (asks.2, is)))

-- the head that was read, and the bytes read behind it, decide as those rows do
pub head_posted : (Says : Answer → Type 0) (Takes : List ℕ → Type 0) (most : ℕ) (i : Passage) (buf : List ℕ) (headers : List HeaderSpan) (len : ℕ) (spans : RequestSpans)
    (is : IsHeaded i buf headers len spans) (posted : Posted) (rest : List ℕ)
    → AsksPost most (span_bytes (take len buf) spans.method) (map (header_bytes (take len buf)) (take spans.headers headers)) posted
    → PostedRows Says Takes posted (take (length (take len buf) - spans.len) (drop spans.len (take len buf)) ++ rest)
    → PostTable Says Takes most (head_in i buf headers len spans is).method (map name_and_value (head_in i buf headers len spans is).fields) (drop spans.len (take len buf) ++ rest)
head_posted Says Takes most i buf headers len spans is posted rest asks rows =
    let head = head_in i buf headers len spans is in
    let at = is.of.1 in
    let asks_head : AsksPost most head.method (map name_and_value head.fields) posted =
    subst (λ (m : List ℕ). AsksPost most m (map name_and_value head.fields) posted) at.method
    (subst (λ (l : List (List ℕ × List ℕ)). AsksPost most (span_bytes (take len buf) spans.method) l posted) at.fields asks) in
    posted_table Says Takes most head.method (map name_and_value head.fields) posted (drop spans.len (take len buf) ++ rest) asks_head
    (subst (λ (l : List ℕ). PostedRows Says Takes posted (l ++ rest)) (take_rest (take len buf) spans.len) rows)
