-- A checkpoint, by the parts of its text.
use Rattle.std.proofs.Common.{◌≡◌, ◌≢◌, ◌==◌, ℕ, ◌^◌, ◌<◌, List, [], ◌∷◌, length, Bool, false, true, sym, ap, subst, ◌∙◌, arith, Ok, Err, Result}
use Rattle.std.specs.Prelude.{IsErrAnd}
use Rattle.std.proofs.lemmas.Bool.Decides.{nat_tests}
use Rattle.std.proofs.lemmas.List.{nil_from_length}
use Rattle.std.proofs.lemmas.List.Elements.{All-head}
use Rattle.tl_hash.specs.Bytes.{IsHash}
use Rattle.tl_text.specs.Text.{number_text, base64_text, HasNoControl, IsSize}
use Rattle.tl_text.proofs.Lines.{lines_once}
use Rattle.tl_checkpoint.specs.declared.checkpoint.Checkpoint.{Checkpoint}
use Rattle.tl_checkpoint.specs.declared.checkpoint.CheckpointFault.{CheckpointFault}
use Rattle.tl_checkpoint.specs.declared.checkpoint.CheckpointFault.TheVariants.{OutOfMemory}
use Rattle.tl_checkpoint.specs.declared.parsing.Parts.{Parts}
use Rattle.tl_checkpoint.specs.Checkpoint.{Head, IsHead, checkpoint_text}
use Rattle.tl_checkpoint.specs.ParseCheckpoint.{HasLines, IsCheckpointText, IsInLines, ParsesCheckpoint}
use Rattle.tl_checkpoint.specs.Inner.CutLines.{AreExtensions, CutsLines}
use Rattle.tl_checkpoint.proofs.ExtensionLemmas.{text_of_lines}
use Rattle.tl_checkpoint.proofs.OneText.{plain_lines}

abbrev made : List ℕ → ℕ → List ℕ → List (List ℕ) → Head
made origin size root extensions = record { origin = origin; size = size; root = root; extensions = extensions }

-- the head of a text in lines
pub head_of_lines : (text origin size_text root_text root : List ℕ) (extensions : List (List ℕ)) (size : ℕ) → IsInLines text (origin ∷ size_text ∷ root_text ∷ extensions) → 0 < length origin → IsSize size → size_text ≡ number_text size → IsHash root → root_text ≡ base64_text root
    → IsHead (made origin size root extensions) × (text ≡ checkpoint_text (made origin size root extensions))
head_of_lines text origin size_text root_text root extensions size lines some small s hash r = (
  record {
    origin = record { some = some; plain = All-head HasNoControl origin (size_text ∷ root_text ∷ extensions) lines.plain };
    size = small;
    root = hash;
    extensions = lines.extensions;
  },
  text_of_lines text origin size_text root_text extensions size root lines s r,
)

-- the text is in these lines, if its extensions are
pub in_these : (text : List ℕ) (parts : Parts) (lines : List (List ℕ)) → CutsLines text parts → AreExtensions parts.extensions.now lines → IsInLines text (parts.origin.now ∷ parts.size.now ∷ parts.root.now ∷ lines)
in_these text parts lines cuts are =
    let all = cuts.extensions in
    subst (λ (ls : List (List ℕ)). IsInLines text (parts.origin.now ∷ parts.size.now ∷ parts.root.now ∷ ls)) (lines_once all.0 lines (plain_lines all.0 all.1.each) (plain_lines lines are.each) (sym all.1.joined ∙ are.joined)) cuts.lines

-- memory runs out, once the text is known to be a checkpoint's
pub parses_refused : {A : Type 0} → (text : List ℕ) (parts : Parts) (size : ℕ) (root : List ℕ) (r : Result (Checkpoint A) CheckpointFault) → IsErrAnd r (λ e. e ≡ OutOfMemory) → CutsLines text parts → 0 < length parts.origin.now → (size < 2 ^ 63) × (parts.size.now ≡ number_text size)
    → IsHash root × (parts.root.now ≡ base64_text root) → ParsesCheckpoint text r
parses_refused text parts size root (Ok c) same cuts some s r = absurd same
parses_refused {A = A} text parts size root (Err fault) same cuts some s r =
    let head = head_of_lines text parts.origin.now parts.size.now parts.root.now root cuts.extensions.0 size cuts.lines some s.0 s.1 r.0 r.1 in
    let is : IsCheckpointText text = (made parts.origin.now size root cuts.extensions.0, head.0, head.1) in
    subst (λ (f : CheckpointFault). ParsesCheckpoint {A = A} text (Err f)) (sym same) is

-- the text's first lines are those that were cut
pub has_lines : (text : List ℕ) (parts : Parts) → CutsLines text parts
    → HasLines text parts.origin.now parts.size.now parts.root.now
has_lines text parts cuts = record { extensions = cuts.extensions.0; lines = cuts.lines }

-- an origin that is empty
pub has_no_origin : (text : List ℕ) (parts : Parts) (empty : Bool) → empty ≡ (length parts.origin.now == 0) → empty ≡ true
    → CutsLines text parts → HasLines text [] parts.size.now parts.root.now
has_no_origin text parts empty is told cuts =
    let none : length parts.origin.now ≡ 0 = grind (arith, nat_tests) in
    subst (λ (o : List ℕ). HasLines text o parts.size.now parts.root.now) (nil_from_length parts.origin.now none) (has_lines text parts cuts)

-- an origin that isn't
pub some_text : (text : List ℕ) (empty : Bool) → empty ≡ (length text == 0) → empty ≡ false → 0 < length text
some_text text empty is told = grind (arith, nat_tests)

pub not_empty : (text : List ℕ) → 0 < length text → text ≢ []
not_empty text some = λ is. omega (arith, some, ap length is)
