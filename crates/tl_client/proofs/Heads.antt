-- Faults of notes and checkpoints, and what a note with cosignatures is.
use Rattle.std.proofs.Common.{◌≡◌, ℕ, List, length, Err, subst}
use Rattle.tl_note.specs.Note.{Signature, Note}
use Rattle.tl_note.specs.Open.{Opened}
use Rattle.tl_note.specs.OpenNote.{OpensNote}
use Rattle.tl_note.specs.declared.fault.NoteFault.{NoteFault}
use Rattle.tl_note.specs.declared.fault.NoteFault.TheVariants as note
use Rattle.tl_checkpoint.specs.Checkpoint.{Head, IsHead, checkpoint_text}
use Rattle.tl_checkpoint.specs.ParseCheckpoint.{ParsesCheckpoint}
use Rattle.tl_checkpoint.specs.declared.checkpoint.CheckpointFault.{CheckpointFault}
use Rattle.tl_checkpoint.specs.declared.checkpoint.CheckpointFault.TheVariants as checkpoint
use Rattle.tl_client.specs.Trusted.{AreCosigners, Trust, IsCosigned, OpensHead, after_checkpoint, after_note}

pub note_fault : (A : Type 0) (bytes : List ℕ) (trust : Trust) (fault : NoteFault) → OpensNote {A = A} bytes trust.keys (Err fault)
    → OpensHead {A = A} bytes trust (Err (after_note fault))
note_fault A bytes trust note.Malformed opens = (opens, λ e. cc)
note_fault A bytes trust (note.BadName place) opens = absurd opens
note_fault A bytes trust (note.Ambiguous place) opens = (opens, λ e. cc)
note_fault A bytes trust (note.InvalidSignature place) opens = (opens, λ e. cc)
note_fault A bytes trust note.Unverified opens = (opens, λ e. cc)
note_fault A bytes trust (note.Sign place) opens = absurd opens
note_fault A bytes trust note.OutOfMemory opens = opens

pub text_fault : (A : Type 0) (bytes : List ℕ) (trust : Trust) (text : List ℕ) (lines : List Signature) (fault : CheckpointFault) → Note bytes text lines → Opened trust.keys text lines → ParsesCheckpoint {A = A} text (Err fault) → OpensHead {A = A} bytes trust (Err (after_checkpoint fault))
text_fault A bytes trust text lines checkpoint.Lines noted opens parsed =
    (record { text = text; lines = lines; noted = noted; opens = opens; parsed = parsed }, λ e. cc)
text_fault A bytes trust text lines checkpoint.Origin noted opens parsed =
    (record { text = text; lines = lines; noted = noted; opens = opens; parsed = parsed }, λ e. cc)
text_fault A bytes trust text lines checkpoint.Size noted opens parsed =
    (record { text = text; lines = lines; noted = noted; opens = opens; parsed = parsed }, λ e. cc)
text_fault A bytes trust text lines checkpoint.Root noted opens parsed =
    (record { text = text; lines = lines; noted = noted; opens = opens; parsed = parsed }, λ e. cc)
text_fault A bytes trust text lines checkpoint.OutOfMemory noted opens parsed = (text, lines, noted)

pub cosigned_is : (bytes : List ℕ) (trust : Trust) (text : List ℕ) (lines : List Signature) (c : Head) (names : List (List ℕ)) (count : ℕ)
    → Note bytes text lines → Opened trust.keys text lines → IsHead c → text ≡ checkpoint_text c → AreCosigners text trust.witnesses lines names → length names ≡ count
    → IsCosigned bytes trust c count
cosigned_is bytes trust text lines c names count noted opens stated is cosigners counted =
    record {
      signed = record {
        lines = lines;
        stated = stated;
        noted = subst (λ (t : List ℕ). Note bytes t lines) is noted;
        opens = subst (λ (t : List ℕ). Opened trust.keys t lines) is opens;
      };
      names = names;
      cosigners = subst (λ (t : List ℕ). AreCosigners t trust.witnesses lines names) is cosigners;
      counted = counted;
    }
