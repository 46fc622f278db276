-- Who must cosign, and what is proposed to them.
use Rattle.std.proofs.Common.{◌≡◌, ℕ, List, [], ◌∷◌, length, take, Some, None, refl, sym, ap, subst, ◌∙◌, append-nil, arith}
use Rattle.std.specs.Prelude.{Result, Ok, Err, IfErr}
use Rattle.std.specs.Result.{IsErrAnd}
use Rattle.std.proofs.lemmas.List.{take_all}
use Rattle.std.proofs.lemmas.List.Elements.{All-nil}
use Rattle.sha2.specs.Sha256.{sha256}
use Rattle.tl_hash.specs.Tree.{tree_hash}
use Rattle.tl_text.specs.Text.{IsOneLine}
use Rattle.tl_note.specs.SignNote.{MayFail}
use Rattle.tl_checkpoint.specs.Checkpoint.{checkpoint_text}
use Rattle.tl_note.specs.Key.{SigningKey}
use Rattle.tl_checkpoint.specs.Quorum.{AreApart}
use Rattle.tl_sequencer.specs.Log.{Log, entries_of}
use Rattle.tl_log.specs.Histories.{Prefix, AreOf, BeginWith, Begins, IsGrowing, last_of}
use Rattle.tl_publisher.specs.Pasts.{Past}
use Rattle.tl_publisher.specs.Boards.{Board, face_head, head_if}
use Rattle.tl_log.specs.Checkpoints.{text_of_log}
use Rattle.tl_publisher.specs.Signed.{AreSigners, IsSignedNote, AreSignedBy, Quorum, no_quorum}
use Rattle.tl_publisher.specs.Operating.{Operated, IsOperating, IsOfSame, IsProposal}
use Rattle.tl_publisher.specs.Publishing.{EndsWith, IsFree, IsSame, Publishes}
use Rattle.tl_publisher.specs.Proposing.{IsRequired, IsProposed, ProposeRefuses}
use Rattle.tl_publisher.specs.Stages.{IsNextOf, IsShown}
use Rattle.tl_publisher.specs.Grown.{Grown, IsGrown}
use Rattle.tl_publisher.specs.Running.{Running}
use Rattle.tl_publisher.specs.Inner.Noting.{NotesHead, text_of_head}
use Rattle.tl_publisher.specs.declared.fault.PublishFault.{PublishFault}
use Rattle.tl_publisher.specs.declared.fault.PublishFault.TheVariants as publish
use Rattle.tl_publisher.proofs.Notes.{next_of}
use Rattle.tl_publisher.proofs.Operations.{operating_with}
use Rattle.tl_publisher.proofs.Shows.{head_is}

-- ---- whether something was published

pub last_none : (history : List Prefix) → head_if sha256 (last_of history) ≡ None → history ≡ []
last_none [] is = refl
last_none (p ∷ []) is = absurd (cc)
last_none (p ∷ r ∷ history) is = absurd (nothing (p ∷ r ∷ history) p (r ∷ history) refl is)
  where
    nothing : (history : List Prefix) (p : Prefix) (rest : List Prefix) → history ≡ p ∷ rest → head_if sha256 (last_of history) ≡ None → ⊥
    nothing [] p rest same is = absurd (cc)
    nothing (q ∷ []) p rest same is = absurd (cc)
    nothing (q ∷ r ∷ history) p rest same is = nothing (r ∷ history) r history refl is

pub none_published : (board : Board) → IsShown sha256 board → None ≡ face_head board.face → board.past.log ≡ []
none_published board shown is = last_none board.past.log (sym (is ∙ head_is board shown))

pub some_published : (board : Board) (x : ℕ × List ℕ) → IsShown sha256 board → Some x ≡ face_head board.face → board.past.log ≡ [] → ⊥
some_published board x shown is none = (let no_more : Some x ≡ None = is ∙ head_is board shown ∙ ap (λ (h : List Prefix). head_if sha256 (last_of h)) none in cc)

module _ {A : Type 0} where
  -- witnesses are required of an operator that has published nothing
  pub operating_requires : (a b : Operated A) (q : Quorum) → IsRequired a b q → IsOperating a → IsOperating b
  operating_requires a b q is before =
      let history : b.past.log ≡ [] = ap (λ (p : Past). p.log) is.same.past ∙ is.early.0 in
      let none : b.proposal ≡ None = is.same.proposal ∙ before.free is.early.1 in
      record {
        origin = subst IsOneLine (sym is.origin) before.origin;
        signers = subst AreSigners (sym is.signers) before.signers;
        apart = subst (λ (k : Quorum). AreApart k.witnesses) (sym is.quorum) is.apart;
        few = omega (arith, ap (λ (k : List SigningKey). length k) is.signers, ap (λ (k : Quorum). length k.witnesses) is.quorum, is.may.room);
        free = λ _. none;
        proposed = λ p at. absurd (let no_more : None ≡ Some p = sym none ∙ at in cc);
        beginnings = subst (AreOf (entries_of b.log)) (sym history) (All-nil (λ (x : Prefix). Begins x.entries (entries_of b.log)));
        based = subst (BeginWith b.log.base) (sym history) (All-nil (λ (x : Prefix). Begins b.log.base x.entries));
        growing = subst IsGrowing (sym history) tt;
        signed = subst (AreSignedBy b.origin b.signers b.quorum) (sym history) (All-nil (λ (x : Prefix). IsSignedNote b.signers b.quorum (text_of_log b.origin x.entries) x.note));
      }

  -- what is proposed is a proposal
  proposal_is : (a b : Operated A) (size : ℕ) (note : List ℕ) → IsOfSame a b → IsProposed a b size note → IsOperating a → (p : Prefix) → b.proposal ≡ Some p → IsProposal b p
  proposal_is a b size note same is before p at =
      let q : Prefix = record { entries = entries_of a.log; note = note } in
      let here : q ≡ p = one q p (sym is.proposal ∙ at) in
      let based : Begins b.log.base q.entries = subst (λ (l : Log A). Begins l.base q.entries) (sym is.log) (a.log.taken, refl) in
      let next : IsNextOf (last_of b.past.log) q = subst (λ (h : Past). IsNextOf (last_of h.log) q) (sym is.past) (next_of a.past.log (entries_of a.log) note before.beginnings is.fresh) in
      let signed : IsSignedNote b.signers no_quorum (text_of_log b.origin q.entries) note =
      subst (λ (o : List ℕ). IsSignedNote b.signers no_quorum (text_of_log o q.entries) note) (sym same.origin) (subst (λ (k : List SigningKey). IsSignedNote k no_quorum (text_of_log a.origin q.entries) note) (sym same.signers) is.signed) in
      subst (IsProposal b) here (record { beginning = ([], append-nil q.entries ∙ ap entries_of (sym is.log)); based = based; next = next; signed = signed })
    where
      one : (x y : Prefix) → Some x ≡ Some y → x ≡ y
      one x y e = cc

  pub operating_proposes : (a b : Operated A) (size : ℕ) (note : List ℕ) → IsOfSame a b → IsProposed a b size note → IsOperating a → IsOperating b
  operating_proposes a b size note same is before =
      operating_with a b [] same is.past (ap (λ (l : Log A). l.base) is.log) (ap entries_of is.log ∙ sym (append-nil (entries_of a.log))) before
      (λ none. absurd (is.needed (sym (ap (λ (q : Quorum). q.need) same.quorum) ∙ none)))
      (proposal_is a b size note same is before)

-- the text of a growth's checkpoint is that of the log
grown_text : {A : Type 0} (a : Operated A) (log : Log A) (start : ℕ) (g : Grown) (size : ℕ) (root : List ℕ) → a.log ≡ log → IsGrown sha256 start (entries_of log) g → size ≡ g.edge.size → root ≡ tree_hash sha256 (entries_of log)
    → text_of_head a.origin size root ≡ text_of_log a.origin (entries_of a.log)
grown_text a log start g size root same is size_is root_is =
    let count : size ≡ length (entries_of a.log) = size_is ∙ sym is.edge.0 ∙ ap (λ (l : Log _). length (entries_of l)) (sym same) in
    let hash : root ≡ tree_hash sha256 (entries_of a.log) = root_is ∙ ap (λ (l : Log _). tree_hash sha256 (entries_of l)) (sym same) in
    λ i. checkpoint_text (record { origin = a.origin; size = count i; root = hash i; extensions = [] })

-- signing refuses
pub sign_refuses : {A : Type 0} (a : Operated A) (log : Log A) (start : ℕ) (g : Grown) (size : ℕ) (root : List ℕ) (fault : PublishFault) → a.log ≡ log → (IsFree a → ⊥) → (EndsWith a.past.log (entries_of a.log) → ⊥)
    → IsGrown sha256 start (entries_of log) g → size ≡ g.edge.size → root ≡ tree_hash sha256 (entries_of log) → NotesHead a.origin a.signers size root (Err fault) → ProposeRefuses a fault
sign_refuses a log start g size root publish.NothingNew same needed fresh is size_is root_is told = absurd told
sign_refuses a log start g size root (publish.Sign place) same needed fresh is size_is root_is told =
    (needed, fresh, subst (λ (t : List ℕ). MayFail t a.signers place) (grown_text a log start g size root same is size_is root_is) told)
sign_refuses a log start g size root publish.Quorum same needed fresh is size_is root_is told = absurd told
sign_refuses a log start g size root publish.OutOfMemory same needed fresh is size_is root_is told = (needed, fresh)

-- signing stops a publication
pub sign_stops : {A : Type 0} (a b : Operated A) (size : ℕ) (root : List ℕ) (fault : PublishFault) → IsFree a → (EndsWith a.past.log (entries_of a.log) → ⊥)
    → (size ≡ length (entries_of a.log)) × (root ≡ tree_hash sha256 (entries_of a.log)) → IsSame a b → NotesHead a.origin a.signers size root (Err fault) → Publishes a b (Err fault)
sign_stops a b size root publish.NothingNew free fresh head same told = absurd told
sign_stops a b size root (publish.Sign place) free fresh head same told =
    let text : text_of_head a.origin size root ≡ text_of_log a.origin (entries_of a.log) =
    let count = head.0 in let hash = head.1 in λ i. checkpoint_text (record { origin = a.origin; size = count i; root = hash i; extensions = [] }) in
    (free, fresh, subst (λ (t : List ℕ). MayFail t a.signers place) text told, same)
sign_stops a b size root publish.Quorum free fresh head same told = absurd told
sign_stops a b size root publish.OutOfMemory free fresh head same told = (free, fresh, same)

-- what is answered when a caller returns the fault
pub passes : {T F : Type 0} (P : Result T F → Type 0) (given : F) (r : Result T F) → IsErrAnd r (λ fault. fault ≡ given) → P (Err given) → P r
passes P given (Ok x) same is = absurd same
passes P given (Err fault) same is = subst (λ (f : _). P (Err f)) (sym same) is

-- what doesn't depend on the fault holds for each
pub same_err : {T F : Type 0} (r : Result T F) (P : Type 0) → P → IfErr r (λ _. P)
same_err (Ok x) P is = tt
same_err (Err fault) P is = is

-- what is kept of a growth of the whole log is what is proposed
pub proposed_of : {A : Type 0} (a b : Operated A) (old new : Running A) (g : Grown) (head_size size : ℕ) (root note copy : List ℕ)
    → a.log ≡ old.log → a.past ≡ old.past → b.log ≡ new.log → b.past ≡ new.past → b.proposal ≡ Some (record { entries = take new.grown (entries_of new.log); note = note })
    → (new.log ≡ old.log) × (new.past ≡ old.past) → new.grown ≡ length (entries_of old.log) → (IsFree a → ⊥) → (EndsWith a.past.log (entries_of a.log) → ⊥)
    → IsGrown sha256 old.grown (entries_of old.log) g → head_size ≡ g.edge.size → root ≡ tree_hash sha256 (entries_of old.log) → size ≡ g.edge.size
    → IsSignedNote a.signers no_quorum (text_of_head a.origin head_size root) note → copy ≡ note → IsProposed a b size copy
proposed_of a b old new g head_size size root note copy a_log a_past b_log b_past proposal same grown needed fresh is size_is root_is own_size signed copied =
    let entries : take new.grown (entries_of new.log) ≡ entries_of a.log =
    ap (λ (l : Log _). take new.grown (entries_of l)) same.0 ∙ take_all new.grown (entries_of old.log) (omega (arith, grown)) ∙ ap entries_of (sym a_log) in
    record {
      needed = needed;
      fresh = fresh;
      counted = own_size ∙ sym is.edge.0 ∙ ap (λ (l : Log _). length (entries_of l)) (sym a_log);
      signed = subst (IsSignedNote a.signers no_quorum (text_of_log a.origin (entries_of a.log))) (sym copied)
          (subst (λ (t : List ℕ). IsSignedNote a.signers no_quorum t note) (grown_text a old.log old.grown g head_size root a_log is size_is root_is) signed);
      proposal = proposal ∙ (let back = sym copied in λ i. Some (record { entries = entries i; note = back i }));
      log = b_log ∙ same.0 ∙ sym a_log;
      past = b_past ∙ same.1 ∙ sym a_past;
    }
