-- The steps of a request with a body.
use Rattle.std.specs.Prelude.{◌≡◌, ◌⊎◌, ℕ, ◌<◌, ◌≤◌, List, ◌++◌, Bool, codes, vec_items}
use Rattle.tl_device.specs.Device.{Passage, HasFailed}
use Rattle.tl_device.specs.Reading.{Gave, MayBe}
use Rattle.tl_hash.specs.Bytes.{Bytes}
use Rattle.tl_witness.specs.Cases.{UnlessSome}
use Rattle.tl_server.specs.Adding.{Course, Reply}
use Rattle.tl_server.specs.Answer.{Answer, bare, not_allowed}
use Rattle.tl_server.specs.Head.{IsSized, HasBody}
use Rattle.tl_server.specs.Inner.Bodies.{ReadBody}
use Rattle.tl_server.specs.Inner.Sending.{refusal}
use Rattle.tl_server.specs.declared.posted.Posted.{Posted}
use Rattle.tl_server.specs.declared.posted.Posted.TheVariants.{OtherMethod, Unsized, TooLarge, Sized}
use Rattle.tl_server.specs.declared.receive.Received.{Received}
use Rattle.tl_server.specs.declared.receive.Received.TheVariants as received

-- what a head says of a body of at most `most` bytes
abbrev pub AsksPost : ℕ → Bytes → List (Bytes × Bytes) → Posted → Type 0
AsksPost most method fields OtherMethod = ¬ (method ≡ codes "POST")
AsksPost most method fields Unsized = (method ≡ codes "POST") × ((n : ℕ) → ¬ (IsSized fields n))
AsksPost most method fields TooLarge = (method ≡ codes "POST") × ((n : ℕ) × IsSized fields n × ¬ (n ≤ most))
AsksPost most method fields (Sized n) = (method ≡ codes "POST") × IsSized fields n × (n ≤ most)

-- why what follows the head has no body, and the answer that says so
abbrev pub RefusesPost : Posted → Bytes → Answer → Type 0
RefusesPost OtherMethod rest a = a ≡ not_allowed (codes "POST")
RefusesPost Unsized rest a = a ≡ bare 400
RefusesPost TooLarge rest a = a ≡ bare 413
RefusesPost (Sized n) rest a =
    ((0 < n) × (a ≡ bare 500)) ⊎ (((body : Bytes) → ¬ (HasBody rest n body)) × (a ≡ bare 400))

-- the cases of a request with a body: Says is given the answer if there is no body, Takes the body if there is one
abbrev pub PostedRows : (Answer → Type 0) → (Bytes → Type 0) → Posted → Bytes → Type 0
PostedRows Says Takes OtherMethod rest = Says (not_allowed (codes "POST"))
PostedRows Says Takes Unsized rest = Says (bare 400)
PostedRows Says Takes TooLarge rest = Says (bare 413)
PostedRows Says Takes (Sized n) rest =
    ((0 < n) × Says (bare 500)) ⊎ UnlessSome (HasBody rest n) (Says (bare 400)) Takes

-- the answer of a witness; `part` is what came with the head of what follows it
abbrev pub PostAnswers : Type 0 → (Bytes → Answer → Type 0) → Posted → Bytes → Bytes → Answer → Type 0
PostAnswers Idle ReplyIs posted part rest a =
    PostedRows (λ r. Idle × (a ≡ r)) (λ body. ReplyIs body a) posted (part ++ rest)

-- what a request leads to at a log that takes entries
abbrev pub PostCourses : Type 0 → Type 0 → (Bytes → Course → Type 0) → Posted → Bytes → Bytes → Course → Type 0
PostCourses Unasked Unseen Becomes posted part rest c =
    PostedRows (λ r. Unasked × Unseen × (c ≡ Reply r)) (λ entry. Becomes entry c) posted (part ++ rest)

-- this status says why there is no body, whatever follows the bytes read
pub record RefusedPost (i : Passage) (posted : Posted) (part : Bytes) (status : ℕ) : Type 0 where
  pub bytes : Bytes
  pub ended : Bool
  pub gave : Gave i bytes ended
  pub so : (rest : Bytes) → MayBe bytes ended rest → RefusesPost posted (part ++ rest) (refusal status)

-- the body was read
pub record ReceivedBody (i : Passage) (posted : Posted) (part body : Bytes) : Type 0 where
  pub size : ℕ
  pub sized : posted ≡ Sized size
  pub read : ReadBody i part size body

-- receiving a body
abbrev pub Receives : {A : Type 0} → Passage → Posted → Bytes → Received A → Type 0
Receives i posted part received.Failed = HasFailed i
Receives i posted part (received.Refused status) = RefusedPost i posted part status
Receives i posted part (received.Whole body) = ReceivedBody i posted part (vec_items body)
