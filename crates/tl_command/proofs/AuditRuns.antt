-- Runs of `audit`, once the answer was printed.
use Rattle.std.proofs.Common.{◌≡◌, ℕ, List, true, false, inl, inr, sym, subst, ◌∙◌}
use Rattle.std.specs.Prelude.{Ok, vec_items}
use Rattle.std.proofs.lemmas.Bool.{true≢false}
use Rattle.tl_hash.specs.Bytes.{Digest}
use Rattle.tl_device.specs.Device.{Passage, ReadWhole, WroteWhole}
use Rattle.tl_command.specs.AuditCommand.{AuditComes, AuditRefuses}
use Rattle.tl_command.specs.Inner.Answers.{AnswersAuditText}
use Rattle.tl_run.specs.Run.{Prints, PrintsRefusal, Wrote, most_input}
use Rattle.tl_command.specs.declared.commands.audit.Answer.{Answer}

-- the answer is yes
pub audit_extends : (A : Type 0) (H : Digest) (i o : Passage) (input text : List ℕ) (answer : Answer A) → ReadWhole i most_input input → AnswersAuditText {A = A} H input (Ok answer)
    → answer.yes ≡ true → text ≡ vec_items answer.text → WroteWhole o text → Wrote (AuditComes H) Prints i o
audit_extends A H i o input text answer whole given is same written =
    elim given.fact as (λ _. Wrote (AuditComes H) Prints i o) [
      | inl accepted ↦ record {
        text = text;
        came = record { input = input; whole = whole; so = (record { audit = given.audit; lawful = given.lawful; spelled = given.spelled; fact = (accepted.1, accepted.2) }, same ∙ accepted.3) };
        written = written;
      }
      | inr refused ↦ absurd (true≢false (sym is ∙ refused.0))
    ]

-- the answer is no
pub audit_refuses : (A : Type 0) (H : Digest) (i o : Passage) (input text : List ℕ) (answer : Answer A) → ReadWhole i most_input input → AnswersAuditText {A = A} H input (Ok answer)
    → answer.yes ≡ false → text ≡ vec_items answer.text → WroteWhole o text → Wrote (AuditComes H) PrintsRefusal i o
audit_refuses A H i o input text answer whole given is same written =
    elim given.fact as (λ _. Wrote (AuditComes H) PrintsRefusal i o) [
      | inl accepted ↦ absurd (true≢false (sym accepted.0 ∙ is))
      | inr refused ↦ record {
        text = text;
        came = record {
          input = input;
          whole = whole;
          so = record { audit = given.audit; lawful = given.lawful; spelled = given.spelled; fact = subst (λ (t : List ℕ). AuditRefuses H given.audit t) (sym same) refused.1 };
        };
        written = written;
      }
    ]
