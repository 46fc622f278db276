-- What is put beside the checkpoint leaves a shelf safe.
use Rattle.std.proofs.Common.{◌≡◌, ◌≤◌, inl, inr, List, [], ◌∷◌, ◌++◌, length, Some, refl, sym, ap, subst, ◌∙◌, arith, append_assoc}
use Rattle.std.specs.Prelude.{Contains, Result, Ok, Err, OnErr}
use Rattle.std.proofs.lemmas.List.{length-append}
use Rattle.std.proofs.lemmas.List.Elements.{All-push, Contains-append_left, Contains-append_right, Contains-append_cases}
use Rattle.sha2.specs.Sha256.{sha256}
use Rattle.tl_hash.specs.Bytes.{Bytes}
use Rattle.tl_tile.specs.declared.resource.Resource.{Resource}
use Rattle.tl_tile.specs.declared.resource.Resource.TheVariants as resource
use Rattle.tl_tile.specs.RightEdge.{EdgeContents}
use Rattle.tl_tile.proofs.NeededSince.{since_is_new}
use Rattle.tl_log.specs.Histories.{Prefix, Begins}
use Rattle.tl_archive.specs.Shelves.{Item, Held, Kept, Between, MayLeave, Unstages, Settles}
use Rattle.tl_archive.specs.Complete.{text_of, HasAll, IsComplete, IsFor, IsSafe, KeptSafe}
use Rattle.tl_archive.proofs.Needs.{needed_within}
use Rattle.tl_archive.proofs.Lists.{none_has, has_head, one_has, all_is}
use Rattle.tl_archive.proofs.Ways.{between_self, between_wide, between_on}
use Rattle.tl_archive.proofs.Stays.{later_bytes}
use Rattle.tl_ledger.specs.Keeping.{published}
use Rattle.tl_ledger.specs.Inner.Putting.{IsBeside, IsPart, Adds, IsAddedBy, IsStagedFor, StandsAt, KeepsAt}
use Rattle.tl_ledger.proofs.Adding.{added_covers}
use Rattle.tl_ledger.proofs.Keeping.{begins_on, begins_self}

module _ (history : List Prefix) (log new : List Bytes) (note : Bytes) (a : Kept) (edge : EdgeContents) (bundle : Bytes) (was : KeepsAt sha256 history log a edge bundle) where
  abbrev Q : Prefix
  Q = published log note

  abbrev After : List Prefix
  After = history ++ Q ∷ []

  abbrev W : List Bytes
  W = log ++ new

  goes : Begins log W
  goes = (new, refl)

  among : Contains After Q
  among = Contains-append_right history (Q ∷ []) Q (has_head Q [])

  wider : (p : Prefix) → Contains history p → Contains After p
  wider p has = Contains-append_left history (Q ∷ []) p has

  -- each publication is of a beginning of the log
  of_log : (p : Prefix) → Contains After p → Begins p.entries log
  of_log p has =
      elim (Contains-append_cases history (Q ∷ []) p has) as (λ _. Begins p.entries log) [
        | inl old ↦ was.begins p old
        | inr new ↦ subst (λ (x : Prefix). Begins x.entries log) (one_has Q p new) (begins_self log)
      ]

  abbrev AreBeside : List Item → Type 0
  AreBeside items = (item : Item) → Contains items item → IsBeside sha256 W note item

  -- what a beginning of the log needs stays
  stays : (items : List Item) (left : Held) → AreBeside items → Between a.held items left → (front : List Bytes) → Begins front W → HasAll sha256 front a.held → HasAll sha256 front left
  stays items left are between front begins all r needed =
      elim (between r) as (λ _. left r ≡ Some (text_of sha256 r front)) [
        | inl same ↦ same ∙ all r needed
        | inr own ↦
            elim (are (r, own.0) own.2) as (λ _. left r ≡ Some (text_of sha256 r front)) [
              | inl sealed ↦ absurd ((needed_within (length front) r needed).1 (ap (λ (x : Item). x.0) sealed))
              | inr right ↦ own.1 ∙ ap (λ (b : Bytes). Some b) (right.text ∙ later_bytes front W begins r needed)
            ]
      ]

  complete : (items : List Item) (left : Held) → AreBeside items → Between a.held items left → IsComplete sha256 After left
  complete items left are between =
      elim (between resource.Checkpoint) as (λ _. IsComplete sha256 After left) [
        | inl same ↦
            elim (was.safe a.held (between_self a.held a.staged)) as (λ _. IsComplete sha256 After left) [
              | inl none ↦ inl (same ∙ none)
              | inr one ↦ inr (one.0, wider one.0 one.1, record { note = same ∙ one.2.note; all = stays items left are between one.0.entries (begins_on one.0.entries log W (was.begins one.0 one.1) goes) one.2.all })
            ]
        | inr own ↦
            elim (are (resource.Checkpoint, own.0) own.2) as (λ _. IsComplete sha256 After left) [
              | inl sealed ↦ inr (Q, among, record { note = own.1 ∙ ap (λ (x : Item). Some x.1) sealed; all = stays items left are between log goes was.whole })
              | inr right ↦ absurd (right.other refl)
            ]
      ]

  -- while it is staged
  part_beside : (k : Kept) → IsPart (IsBeside sha256 W note) a k → AreBeside k.staged
  part_beside k part item has =
      elim (part.each item has) as (λ _. IsBeside sha256 W note item) [
        | inl old ↦ absurd (none_has item (subst (λ (x : List Item). Contains x item) was.rests old))
        | inr new ↦ new
      ]

  part_leaves : (k : Kept) (left : Held) → IsPart (IsBeside sha256 W note) a k → Between k.held k.staged left → Between a.held k.staged left
  part_leaves k left part may = subst (λ (h : Held). Between h k.staged left) part.held may

  part_safe : (k : Kept) → IsPart (IsBeside sha256 W note) a k → IsSafe sha256 After k
  part_safe k part left may = complete k.staged left (part_beside k part) (part_leaves k left part may)

  module _ (mid b : Kept) (saw meanwhile sees : List Kept) (adds : Adds (IsBeside sha256 W note) a mid saw meanwhile) (settled : Unstages mid b) (end : sees ≡ meanwhile ++ b ∷ []) where
    b_between : Between a.held mid.staged b.held
    b_between = part_leaves mid b.held adds.part settled.others

    -- once the shelf settled, or failed to
    b_leaves : (left : Held) → MayLeave b left → Between a.held mid.staged left
    b_leaves left may =
        between_on a.held b.held left mid.staged b_between
        (between_wide b.held b.staged mid.staged left (λ item has. absurd (none_has item (subst (λ (x : List Item). Contains x item) settled.staged has))) may)

    b_safe : IsSafe sha256 After b
    b_safe left may = complete mid.staged left (part_beside mid adds.part) (b_leaves left may)

    log_stays : HasAll sha256 log b.held
    log_stays = stays mid.staged b.held (part_beside mid adds.part) b_between log goes was.whole

    pub beside_stayed : KeepsAt sha256 After log b edge bundle
    beside_stayed = record {
      stands = was.stands;
      begins = of_log;
      rests = settled.staged;
      safe = b_safe;
      whole = log_stays;
    }

    pub beside_safe : KeptSafe sha256 After saw sees
    beside_safe = record {
      steps = adds.steps ++ b ∷ [];
      trace = end ∙ ap (λ (x : List Kept). x ++ b ∷ []) adds.trace ∙ append_assoc saw adds.steps (b ∷ []);
      each = All-push (IsSafe sha256 After) adds.steps b (all_is (IsPart (IsBeside sha256 W note) a) (IsSafe sha256 After) adds.steps part_safe adds.parts) b_safe;
    }

    -- all of it is there
    module _ (there : Settles mid b) where
      -- the checkpoint, and all that it needs
      pub beside_there : Contains mid.staged (resource.Checkpoint, note) → IsFor sha256 Q b.held
      beside_there has =
          let own = there.there resource.Checkpoint note has in
          let is : own.0 ≡ note =
          elim (part_beside mid adds.part (resource.Checkpoint, own.0) own.2) as (λ _. own.0 ≡ note) [
            | inl sealed ↦ ap (λ (x : Item). x.1) sealed
            | inr right ↦ absurd (right.other refl)
          ] in
          record { note = own.1 ∙ ap (λ (x : Bytes). Some x) is; all = log_stays }

      module _ (all : (r : Resource) → IsAddedBy (length log) (length W) r → IsStagedFor mid r) where
        order : length log ≤ length W
        order = omega (arith, length-append log new)

        has_all : HasAll sha256 W b.held
        has_all r needed =
            elim ((since_is_new (length log) (length W) order r).enough needed) as (λ _. b.held r ≡ Some (text_of sha256 r W)) [
              | inl added ↦
                  let staged = all r (added_covers (length log) (length W) order r added) in
                  let own = there.there r staged.0 staged.1 in
                  elim (part_beside mid adds.part (r, own.0) own.2) as (λ _. b.held r ≡ Some (text_of sha256 r W)) [
                    | inl sealed ↦ absurd ((needed_within (length W) r needed).1 (ap (λ (x : Item). x.0) sealed))
                    | inr right ↦ own.1 ∙ ap (λ (x : Bytes). Some x) right.text
                  ]
              | inr old ↦ log_stays r old ∙ ap (λ (x : Bytes). Some x) (sym (later_bytes log W goes r old))
            ]

        pub beside_whole : (edge' : EdgeContents) (bundle' : Bytes) → StandsAt sha256 W edge' bundle' → KeepsAt sha256 After W b edge' bundle'
        beside_whole edge' bundle' stands = record {
          stands = stands;
          begins = λ p has. begins_on p.entries log W (of_log p has) goes;
          rests = settled.staged;
          safe = b_safe;
          whole = has_all;
        }

-- what holds holds at an error
pub on_err_any : {T E P : Type 0} (r : Result T E) → P → OnErr r P
on_err_any (Ok value) holds = tt
on_err_any (Err fault) holds = holds
