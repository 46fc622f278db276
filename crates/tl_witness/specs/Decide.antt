-- What a witness answers to a request for one origin, and what it then keeps (C2SP tlog-witness, "add-checkpoint").
use Rattle.std.specs.Prelude.{◌≡◌, ℕ, ◌<◌, ◌≤◌, ◌⊎◌, List, []}
use Rattle.tl_hash.specs.Bytes.{Bytes, Digest}
use Rattle.tl_text.specs.Text.{line, number_text}
use Rattle.tl_note.specs.Note.{Signature}
use Rattle.tl_note.specs.Open.{Opened}
use Rattle.tl_checkpoint.specs.Cosignature.{Cosigns, MayFailToCosign}
use Rattle.tl_proof.specs.Acceptance.{AcceptsConsistency, Step}
use Rattle.tl_witness.specs.Cases.{Unless}
use Rattle.tl_witness.specs.Chain.{TreeHead, first_head, last_head}
use Rattle.tl_witness.specs.Saver.{Saved, Keeps, Fails}
use Rattle.tl_witness.specs.Witnessed.{Witnessed, with_step}

-- what is asked: the old size, the step to the new tree head, the text of the note and its signature lines, and the
-- time
pub record Asked : Type 0 where
  pub old : ℕ
  pub step : Step
  pub text : Bytes
  pub lines : List Signature
  pub time : ℕ

-- the outcome: the reply, and the saver and the origin before and after
pub record Outcome : Type 0 where
  pub status : ℕ
  pub body : Bytes
  pub saved : Saved
  pub saved_after : Saved
  pub one : Witnessed
  pub one_after : Witnessed

-- nothing was saved and nothing changed
abbrev pub Stays : Outcome → Type 0
Stays out = (out.saved_after ≡ out.saved) × (out.one_after ≡ out.one)

-- the reply is this status with no body, and nothing changed
abbrev pub Refuses : Outcome → ℕ → Type 0
Refuses out status = (out.status ≡ status) × (out.body ≡ []) × Stays out

-- the reply is 409 with the last cosigned size as its body, and nothing changed
abbrev pub Conflicts : Outcome → ℕ → Type 0
Conflicts out size = (out.status ≡ 409) × (out.body ≡ line (number_text size)) × Stays out

-- a save failed: the reply is 500, and the origin is unchanged
abbrev pub SaveFails : Outcome → Type 0
SaveFails out = (out.status ≡ 500) × (out.body ≡ []) × Fails out.saved out.saved_after × (out.one_after ≡ out.one)

-- for an equal size nothing changed; for a larger one the step was saved and then kept
abbrev pub KeepsStep : Outcome → ℕ → Step → Type 0
KeepsStep out size step =
    ((step.size ≡ size) × Stays out)
    ⊎ ((size < step.size) × Keeps out.saved out.saved_after out.one.origin step × (out.one_after ≡ with_step out.one step))

-- the reply is 200 with a cosignature line over the note's text
abbrev pub Attests : Outcome → Asked → Type 0
Attests out asked = (out.status ≡ 200) × Cosigns asked.text asked.time out.one.cosigner out.body

-- the outcomes once the proof is accepted from this last size: 500 if the cosigner may refuse this message or return
-- no bytes for it; 500 if the save failed; or 200
abbrev pub Settles : Outcome → ℕ → Asked → Type 0
Settles out size asked =
    (MayFailToCosign asked.text asked.time out.one.cosigner × Refuses out 500)
    ⊎ ((size < asked.step.size) × SaveFails out)
    ⊎ (Attests out asked × KeepsStep out size asked.step)

-- the cases once the note is open, in order; the first that applies decides
abbrev pub DecidesFrom : Digest → TreeHead → Asked → Outcome → Type 0
DecidesFrom H last asked out =
    Unless (asked.old ≤ asked.step.size) (Refuses out 400)
    (Unless (asked.old ≡ last.size) (Conflicts out last.size)
    (Unless (asked.step.size ≡ last.size → asked.step.root ≡ last.root) (Conflicts out last.size)
    (Unless (AcceptsConsistency H asked.step.proof asked.step.size asked.step.root last.size last.root) (Refuses out 422)
    (Settles out last.size asked))))

-- 403 if the note doesn't open with the origin's verifiers; else the cases from the chain's last tree head on
abbrev pub Decides : Digest → Asked → Outcome → Type 0
Decides H asked out =
    Unless (Opened out.one.verifiers asked.text asked.lines) (Refuses out 403) (DecidesFrom H (last_head (first_head H) out.one.chain) asked out)
