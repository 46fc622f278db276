-- Texts that are no checkpoint.
use Rattle.std.proofs.Common.{◌≡◌, ◌≢◌, ℕ, List, [], ◌∷◌, ◌++◌, refl, sym, ap, ◌∙◌, append_assoc, length, arith, All}
use Rattle.std.specs.Prelude.{Err}
use Rattle.std.specs.List.{flat_map}
use Rattle.std.proofs.lemmas.List.Elements.{All-cons}
use Rattle.std.proofs.lemmas.List.Concat.{flat_map-cons}
use Rattle.tl_text.specs.Text.{line, number_text, base64_text, HasNoControl, IsOneLine}
use Rattle.tl_text.proofs.Lines.{lines_once}
use Rattle.tl_text.proofs.PlainText.{number_plain, base64_plain}
use Rattle.tl_checkpoint.specs.Checkpoint.{Head, IsHead, checkpoint_text}
use Rattle.tl_checkpoint.specs.ParseCheckpoint.{IsInLines, ParsesCheckpoint}
use Rattle.tl_checkpoint.specs.declared.checkpoint.CheckpointFault.{CheckpointFault}
use Rattle.tl_checkpoint.specs.declared.checkpoint.CheckpointFault.TheVariants.{Lines, Origin, Size, Root, OutOfMemory}

-- the lines of a checkpoint
abbrev lines_of : Head → List (List ℕ)
lines_of h = h.origin ∷ number_text h.size ∷ base64_text h.root ∷ h.extensions

joined : (h : Head) → checkpoint_text h ≡ flat_map line (lines_of h)
joined h =
    append_assoc (line h.origin ++ line (number_text h.size)) (line (base64_text h.root)) (flat_map line h.extensions)
    ∙ append_assoc (line h.origin) (line (number_text h.size)) (line (base64_text h.root) ++ flat_map line h.extensions)
    ∙ ap (λ (t : List ℕ). line h.origin ++ (line (number_text h.size) ++ t)) (sym (flat_map-cons line (base64_text h.root) h.extensions))
    ∙ ap (λ (t : List ℕ). line h.origin ++ t) (sym (flat_map-cons line (number_text h.size) (base64_text h.root ∷ h.extensions)))
    ∙ sym (flat_map-cons line h.origin (number_text h.size ∷ base64_text h.root ∷ h.extensions))

plain_ones : (texts : List (List ℕ)) → All IsOneLine texts → All HasNoControl texts
plain_ones texts each = λ k d lt. (each k d lt).plain

in_lines : (text : List ℕ) (h : Head) → IsHead h → text ≡ checkpoint_text h → IsInLines text (lines_of h)
in_lines text h is e = record {
  joined = e ∙ joined h;
  plain =
      All-cons HasNoControl h.origin (number_text h.size ∷ base64_text h.root ∷ h.extensions) is.origin.plain
      (All-cons HasNoControl (number_text h.size) (base64_text h.root ∷ h.extensions) (number_plain h.size (omega (arith, is.size)))
      (All-cons HasNoControl (base64_text h.root) h.extensions (base64_plain h.root is.root.bytes) (plain_ones h.extensions is.extensions)));
  enough = omega arith;
  extensions = is.extensions;
}

same_lines : (text : List ℕ) (xs ys : List (List ℕ)) → IsInLines text xs → IsInLines text ys → xs ≡ ys
same_lines text xs ys a b = lines_once xs ys a.plain b.plain (sym a.joined ∙ b.joined)

-- a text that isn't read is no checkpoint's
pub no_text : (A : Type 0) (text : List ℕ) (h : Head) (fault : CheckpointFault) → IsHead h → text ≡ checkpoint_text h
    → ParsesCheckpoint {A = A} text (Err fault) → fault ≢ OutOfMemory → ⊥
no_text A text h Lines is e given other = given (lines_of h) (in_lines text h is e)
no_text A text h Origin is e given other =
    let same = same_lines text (lines_of h) _ (in_lines text h is e) given.2.lines in
    let none : h.origin ≡ [] = cc in
    absurd (omega (arith, is.origin.some, ap length none))
no_text A text h Size is e given other =
    let same = same_lines text (lines_of h) _ (in_lines text h is e) given.3.lines in
    let size : given.1 ≡ number_text h.size = cc in
    given.5 h.size is.size size
no_text A text h Root is e given other =
    let same = same_lines text (lines_of h) _ (in_lines text h is e) given.3.lines in
    let root : given.2 ≡ base64_text h.root = cc in
    given.6 h.root is.root root
no_text A text h OutOfMemory is e given other = other refl
