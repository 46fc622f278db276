-- A checkpoint that is published only once enough witnesses have cosigned it: who must cosign, what is proposed to
-- them, and the publication with their lines (C2SP tlog-cosignature, tlog-witness).
use Rattle.std.specs.Prelude.{◌≡◌, ℕ, ◌+◌, ◌≤◌, ◌<◌, List, [], ◌∷◌, ◌++◌, length, Result, Ok, Err, Some, None, slice_get}
use Rattle.std.specs.List.{AllZip}
use Rattle.tl_note.specs.Note.{Signature, Note}
use Rattle.tl_note.specs.SignNote.{AreSigned, MayFail}
use Rattle.tl_note.specs.View.{AreLines}
use Rattle.tl_checkpoint.specs.declared.quorum.Cosigned.{Cosigned}
use Rattle.tl_checkpoint.specs.Quorum.{AreApart, AreFirst}
use Rattle.tl_sequencer.specs.Log.{entries_of}
use Rattle.tl_publisher.specs.declared.fault.PublishFault.{PublishFault}
use Rattle.tl_publisher.specs.declared.fault.PublishFault.TheVariants as publish
use Rattle.tl_publisher.specs.declared.fault.RequireFault.{RequireFault}
use Rattle.tl_publisher.specs.declared.fault.RequireFault.TheVariants as require
use Rattle.tl_publisher.specs.declared.fault.AttachFault.{AttachFault}
use Rattle.tl_publisher.specs.declared.fault.AttachFault.TheVariants as attach
use Rattle.tl_log.specs.Histories.{Prefix}
use Rattle.tl_publisher.specs.Pasts.{Past}
use Rattle.tl_log.specs.Checkpoints.{text_of_log}
use Rattle.tl_publisher.specs.Signed.{IsSignedNote, Quorum, no_quorum}
use Rattle.tl_publisher.specs.Operating.{Operated}
use Rattle.tl_publisher.specs.Publishing.{EndsWith, IsFree, IsSame}

-- ---- who must cosign

-- nothing is published, and no witness must cosign yet
abbrev pub IsEarly : {A : Type 0} → Operated A → Type 0
IsEarly o = (o.past.log ≡ []) × IsFree o

-- at least one and at most all of the witnesses must cosign, and a note has room for the lines of signers and
-- witnesses
pub record MayNeed {A : Type 0} (o : Operated A) (q : Quorum) : Type 0 where
  pub some : 1 ≤ q.need
  pub within : q.need ≤ length q.witnesses
  pub room : length o.signers + length q.witnesses ≤ 100

-- why the witnesses aren't required: the first reason that applies
abbrev pub RequireRefuses : {A : Type 0} → Operated A → Quorum → RequireFault → Type 0
RequireRefuses o q require.Late = IsEarly o → ⊥
RequireRefuses o q require.Need = IsEarly o × (MayNeed o q → ⊥)
RequireRefuses o q require.Twice = IsEarly o × MayNeed o q × (AreApart q.witnesses → ⊥)
RequireRefuses o q require.OutOfMemory = ⊥

-- from now on `q.need` of these witnesses must cosign; nothing else changes
pub record IsRequired {A : Type 0} (a b : Operated A) (q : Quorum) : Type 0 where
  pub early : IsEarly a
  pub may : MayNeed a q
  pub apart : AreApart q.witnesses
  pub quorum : b.quorum ≡ q
  pub origin : b.origin ≡ a.origin
  pub signers : b.signers ≡ a.signers
  pub same : IsSame a b

-- ---- what is proposed

-- The whole log, which is longer than the last publication, is proposed under a signed note of its checkpoint, in
-- place of an earlier proposal. Nothing is published.
pub record IsProposed {A : Type 0} (a b : Operated A) (size : ℕ) (note : List ℕ) : Type 0 where
  pub needed : IsFree a → ⊥
  pub fresh : EndsWith a.past.log (entries_of a.log) → ⊥
  pub counted : size ≡ length (entries_of a.log)
  pub signed : IsSignedNote a.signers no_quorum (text_of_log a.origin (entries_of a.log)) note
  pub proposal : b.proposal ≡ Some (record { entries = entries_of a.log; note = note })
  pub log : b.log ≡ a.log
  pub past : b.past ≡ a.past

-- `Quorum` if no witness must cosign; else `NothingNew` if the last publication has the whole log; else a signer
-- failed, or memory ran out
abbrev pub ProposeRefuses : {A : Type 0} → Operated A → PublishFault → Type 0
ProposeRefuses a publish.Quorum = IsFree a
ProposeRefuses a publish.NothingNew = (IsFree a → ⊥) × EndsWith a.past.log (entries_of a.log)
ProposeRefuses a (publish.Sign place) =
    (IsFree a → ⊥) × (EndsWith a.past.log (entries_of a.log) → ⊥) × MayFail (text_of_log a.origin (entries_of a.log)) a.signers place
ProposeRefuses a publish.OutOfMemory = (IsFree a → ⊥) × (EndsWith a.past.log (entries_of a.log) → ⊥)

-- ---- what is attached

-- the note of the proposal with the lines of enough witnesses: one line by each signer, then, in the order in which
-- they are attached, the first cosignature by each witness
pub record IsCosigned {A : Type 0} (a : Operated A) (q : Prefix) (lines : List Signature) (note : List ℕ) : Type 0 where
  pub own : List Signature
  pub found : List Cosigned
  pub kept : List Signature
  pub proposed : Note q.note (text_of_log a.origin q.entries) own
  pub signed : AreSigned (text_of_log a.origin q.entries) a.signers own
  pub first : AreFirst (text_of_log a.origin q.entries) a.quorum.witnesses lines found
  pub enough : a.quorum.need ≤ length found
  pub each : AllZip (λ c line. slice_get lines c.line ≡ Some line) found kept
  pub noted : Note note (text_of_log a.origin q.entries) (own ++ kept)

-- the proposal is published in one step, under this note
pub record IsAttached {A : Type 0} (a b : Operated A) (q : Prefix) (lines : List Signature) (p : Past) : Type 0 where
  pub note : List ℕ
  pub cosigned : IsCosigned a q lines note
  pub history : b.past.log ≡ a.past.log ++ record { entries = q.entries; note = note } ∷ []
  pub book : b.past.book ≡ a.past.book
  pub log : b.log ≡ a.log
  pub proposal : b.proposal ≡ None
  pub told : p ≡ b.past

-- only k witnesses have cosigned the proposal, and more must
abbrev pub AreTooFew : {A : Type 0} → Operated A → Prefix → List Signature → ℕ → Type 0
AreTooFew a q lines k =
    (found : List Cosigned) × AreFirst (text_of_log a.origin q.entries) a.quorum.witnesses lines found × (k ≡ length found) × (k < a.quorum.need)

-- What attaching lines answers: the first reason that applies. After an error the proposal stays.
abbrev pub Attaches : {A : Type 0} → List ℕ → Operated A → Operated A → Result Past AttachFault → Type 0
Attaches text a b (Ok p) =
    (q : Prefix) × (lines : List Signature) × (a.proposal ≡ Some q) × AreLines text lines × IsAttached a b q lines p
Attaches text a b (Err attach.NoProposal) = (a.proposal ≡ None) × IsSame a b
Attaches text a b (Err attach.Malformed) =
    (q : Prefix) × (a.proposal ≡ Some q) × ((lines : List Signature) → AreLines text lines → ⊥) × IsSame a b
Attaches text a b (Err (attach.TooFew k)) =
    (q : Prefix) × (lines : List Signature) × (a.proposal ≡ Some q) × AreLines text lines × AreTooFew a q lines k × IsSame a b
Attaches text a b (Err attach.OutOfMemory) =
    (q : Prefix) × (lines : List Signature) × (a.proposal ≡ Some q) × AreLines text lines × IsSame a b
