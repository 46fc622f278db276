-- Runs of `inclusion` and `consistency`: the output for an input of these lines.
use Rattle.std.proofs.Common.{◌≡◌, ℕ, ◌<◌, ◌≤◌, List, length, sym, ap, subst, ◌∙◌}
use Rattle.tl_device.specs.Device.{Passage}
use Rattle.tl_command.specs.Lines.{first_too_long}
use Rattle.tl_command.specs.ProofText.{inclusion_text, consistency_text}
use Rattle.tl_command.specs.ProofCommands.{InclusionComes, inclusion_of, ConsistencyComes, consistency_of}
use Rattle.tl_run.specs.Run.{Prints, Fails, CameOf, most_input}
use Rattle.tl_command.specs.Entries.{ReadEntries}
use Rattle.tl_run.specs.declared.fault.RunFault.TheVariants.{BadIndex, BadOld}

-- the text of the proof of the line at this index
pub inclusion_came : (index : ℕ) (i : Passage) (entries : List (List ℕ)) (text bytes : List ℕ) → ReadEntries i most_input entries → index < length entries
    → bytes ≡ inclusion_text (inclusion_of index entries) → text ≡ bytes → CameOf (InclusionComes index) i (Prints text)
inclusion_came index i entries text bytes read within is same = record {
  input = read.input;
  whole = read.whole;
  so = (
    sym (ap first_too_long read.lines) ∙ read.short,
    subst (λ (es : List (List ℕ)). index < length es) read.lines within,
    same ∙ is ∙ ap (λ (es : List (List ℕ)). inclusion_text (inclusion_of index es)) read.lines,
  );
}

-- no line is at the index
pub no_index : (index : ℕ) (i : Passage) (entries : List (List ℕ)) → ReadEntries i most_input entries → length entries ≤ index → CameOf (InclusionComes index) i (Fails BadIndex)
no_index index i entries read past = record {
  input = read.input;
  whole = read.whole;
  so = (sym (ap first_too_long read.lines) ∙ read.short, subst (λ (es : List (List ℕ)). length es ≤ index) read.lines past);
}

-- the text of the proof for the first `old` lines
pub consistency_came : (old : ℕ) (i : Passage) (entries : List (List ℕ)) (text bytes : List ℕ) → ReadEntries i most_input entries → old ≤ length entries
    → bytes ≡ consistency_text (consistency_of old entries) → text ≡ bytes → CameOf (ConsistencyComes old) i (Prints text)
consistency_came old i entries text bytes read within is same = record {
  input = read.input;
  whole = read.whole;
  so = (
    sym (ap first_too_long read.lines) ∙ read.short,
    subst (λ (es : List (List ℕ)). old ≤ length es) read.lines within,
    same ∙ is ∙ ap (λ (es : List (List ℕ)). consistency_text (consistency_of old es)) read.lines,
  );
}

-- the old size is above their number
pub no_old : (old : ℕ) (i : Passage) (entries : List (List ℕ)) → ReadEntries i most_input entries → length entries < old → CameOf (ConsistencyComes old) i (Fails BadOld)
no_old old i entries read past = record {
  input = read.input;
  whole = read.whole;
  so = (sym (ap first_too_long read.lines) ∙ read.short, subst (λ (es : List (List ℕ)). length es < old) read.lines past);
}
