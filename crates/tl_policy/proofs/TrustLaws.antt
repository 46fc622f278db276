-- Which log of a policy signed a note, and what follows where a step refuses.
use Rattle.std.proofs.Common.{◌≡◌, ℕ, ◌<◌, true, List, length, get_or, map, refl, sym, ap, subst, ◌∙◌, Option, None, Some, Ok, Err}
use Rattle.std.specs.Prelude.{position, slice_get}
use Rattle.std.specs.Option.{option_map}
use Rattle.std.proofs.lemmas.List.Quantifiers.{position-Some}
use Rattle.std.proofs.lemmas.Option.{slice_get-map, slice_get-get_or}
use Rattle.tl_key.specs.NoteKey.{verifier_key}
use Rattle.tl_note.specs.Note.{Note, Signature}
use Rattle.tl_checkpoint.specs.Checkpoint.{checkpoint_text, head_of}
use Rattle.tl_checkpoint.specs.declared.checkpoint.Checkpoint.{Checkpoint}
use Rattle.tl_policy.specs.declared.policy.PolicyLog.{PolicyLog}
use Rattle.tl_policy.specs.declared.trust_fault.TrustFault.{TrustFault}
use Rattle.tl_policy.specs.declared.trust_fault.TrustFault.TheVariants.{NoNote, Unsigned, InvalidSignature, NoCheckpoint, OtherOrigin, NotSatisfied, OutOfMemory}
use Rattle.tl_policy.specs.Terms.{LogTerm, Terms, log_term}
use Rattle.tl_policy.specs.Satisfied.{is_satisfied}
use Rattle.tl_policy.specs.Cosigned.{AreTimes, cosigners}
use Rattle.tl_policy.specs.Trust.{IsCheckpointOf, IsOfLog, IsSignedBy, IsTrusted, OpensUnder, has_line, is_signed, signer_of}
use Rattle.tl_policy.specs.Inner.Trusting.{ChecksQuorum, ReadsSigned}
use Rattle.tl_policy.proofs.ListLaws.{position-map}

-- ---- the log that signed

module _ (p : Terms) (bytes text : List ℕ) (lines seen : List Signature) (items logs : List PolicyLog) (shown : p.logs ≡ map log_term items) (noted : Note bytes text lines) (same : seen ≡ lines) (listed : logs ≡ items) where
  signer_is : (r : Option ℕ) → r ≡ position (λ l. has_line seen (log_term l)) logs → signer_of p seen ≡ r
  signer_is r found =
      ap (λ (ls : List LogTerm). position (has_line seen) ls) shown ∙ position-map log_term (has_line seen) items
      ∙ ap (λ (ls : List PolicyLog). position (λ l. has_line seen (log_term l)) ls) (sym listed) ∙ sym found

  noted_seen : Note bytes text seen
  noted_seen = subst (λ (ls : List Signature). Note bytes text ls) (sym same) noted

  pub log_named : (place : ℕ) (d : PolicyLog) → Some place ≡ position (λ l. has_line seen (log_term l)) logs → IsOfLog p bytes text seen place (log_term (get_or logs place d))
  log_named place d found =
      let less : place < length logs = (position-Some (λ l. has_line seen (log_term l)) logs place d (sym found)).0 in
      record {
        noted = noted_seen;
        first = signer_is (Some place) found;
        at = ap (λ (ls : List LogTerm). slice_get ls place) shown ∙ ap (λ (ls : List PolicyLog). slice_get (map log_term ls) place) (sym listed)
            ∙ slice_get-map log_term logs place ∙ ap (λ (o : Option PolicyLog). option_map log_term o) (slice_get-get_or logs place d less);
      }

  pub unsigned : None ≡ position (λ l. has_line seen (log_term l)) logs → (t : List ℕ) × (ls : List Signature) × Note bytes t ls × (signer_of p ls ≡ None)
  unsigned found = (text, seen, noted_seen, signer_is None found)

-- ---- what it signed

module _ (p : Terms) (bytes text : List ℕ) (lines : List Signature) (place : ℕ) (log : LogTerm) (named : IsOfLog p bytes text lines place log) where
  signed_as : is_signed text lines (verifier_key log.key) ≡ true → (t : List ℕ) → text ≡ t → IsSignedBy p bytes t lines place log
  signed_as signed t is = subst (λ (u : List ℕ). IsSignedBy p bytes u lines place log) is (record { named = named; signed = signed })

  pub checkpoint_refused : (A : Type 0) (fault : TrustFault) → ReadsSigned {A = A} text lines log.key (Err fault) → OpensUnder {A = A} p bytes (Err fault)
  checkpoint_refused A NoNote r = absurd r
  checkpoint_refused A Unsigned r = absurd r
  checkpoint_refused A InvalidSignature r = (text, lines, place, log, named, r)
  checkpoint_refused A (NoCheckpoint fault) r = (text, lines, place, log, signed_as r.0 text refl, r.1, r.2)
  checkpoint_refused A OtherOrigin r = (r.1.0, lines, place, log, signed_as r.0 (checkpoint_text r.1.0) r.1.2, r.1.1, r.1.3)
  checkpoint_refused A (NotSatisfied short) r = absurd r
  checkpoint_refused A OutOfMemory r = (text, lines, named.noted)

  module _ (A : Type 0) (checkpoint : Checkpoint A) (read : ReadsSigned {A = A} text lines log.key (Ok checkpoint)) (items times : List (Option ℕ)) (are : AreTimes text lines p.witnesses items) (same : times ≡ items) where
    is_checkpoint : IsCheckpointOf p bytes (head_of checkpoint) lines place log
    is_checkpoint = record { signed = signed_as read.0 (checkpoint_text (head_of checkpoint)) read.2; stated = read.1; origin = read.3 }

    cosigned_as : (ts : List (Option ℕ)) → items ≡ ts → AreTimes (checkpoint_text (head_of checkpoint)) lines p.witnesses ts
    cosigned_as ts so = subst (λ (us : List (Option ℕ)). AreTimes (checkpoint_text (head_of checkpoint)) lines p.witnesses us) so (subst (λ (t : List ℕ). AreTimes t lines p.witnesses items) read.2 are)

    pub quorum_refused : (fault : TrustFault) → ChecksQuorum p times (Err fault) → OpensUnder {A = A} p bytes (Err fault)
    quorum_refused NoNote r = absurd r
    quorum_refused Unsigned r = absurd r
    quorum_refused InvalidSignature r = absurd r
    quorum_refused (NoCheckpoint fault) r = absurd r
    quorum_refused OtherOrigin r = absurd r
    quorum_refused (NotSatisfied short) r = record {
      c = head_of checkpoint;
      lines = lines;
      place = place;
      log = log;
      times = times;
      checkpoint = is_checkpoint;
      cosigned = cosigned_as times (sym same);
      short = r;
    }
    quorum_refused OutOfMemory r = (text, lines, named.noted)

    pub trusted : is_satisfied (cosigners times) p ≡ true → IsTrusted p bytes (head_of checkpoint) place items
    trusted enough = record {
      lines = lines;
      log = log;
      checkpoint = is_checkpoint;
      cosigned = cosigned_as items refl;
      satisfied = subst (λ (ts : List (Option ℕ)). is_satisfied (cosigners ts) p ≡ true) same enough;
    }
