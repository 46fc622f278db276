-- Laws of a block of bytes that is taken line by line.
use Rattle.std.proofs.Common.{◌≡◌, ◌<◌, ◌^◌, ◌-◌, ◌+◌, ℕ, List, [], ◌∷◌, ◌++◌, length, take, drop, refl, sym, ap, subst, ◌∙◌, arith, append_assoc, append-nil, Some}
use Rattle.std.specs.Prelude.{position}
use Rattle.std.proofs.lemmas.List.{length-append}
use Rattle.tl_hash.specs.Bytes.{Digest}
use Rattle.tl_logs.specs.State.{Counts}
use Rattle.tl_logs.specs.StateFaults.{RefusesBytes}
use Rattle.tl_logs.specs.LogsFile.{IsInOneLine}
use Rattle.tl_logs.specs.Inner.Stream.{HasRead, SoFar, TookSome}
use Rattle.tl_logs.specs.declared.state_fault.StateFault.{StateFault}
use Rattle.tl_logs.proofs.Newlines.{cut_there, is_newline}

-- ---- no newline is in the bytes

pub took_all : (H : Digest) (counts : Counts) (new : SoFar) (input bytes rest : List ℕ) → rest ≡ [] → HasRead H counts new (input ++ bytes) → TookSome H counts new input bytes rest
took_all H counts new input bytes rest none read = record {
  taken = bytes;
  cut = sym (append-nil bytes) ∙ ap (λ (t : List ℕ). bytes ++ t) (sym none);
  read = read;
}

pub refused_all : (H : Digest) (counts : Counts) (input bytes : List ℕ) (fault : StateFault) → RefusesBytes H counts (input ++ bytes ++ []) fault → RefusesBytes H counts (input ++ bytes) fault
refused_all H counts input bytes fault refused = subst (λ (t : List ℕ). RefusesBytes H counts t fault) (append-nil (input ++ bytes)) refused

pub some_more : (bytes after : List ℕ) → 0 < length bytes → 0 < length (bytes ++ after)
some_more bytes after some = omega (arith, some, length-append bytes after)

-- ---- the first one is there

-- what is left behind it
abbrev pub behind : List ℕ → ℕ → List ℕ
behind bytes end = take (length bytes - (end + 1)) (drop (end + 1) bytes)

module _ (bytes : List ℕ) (end : ℕ) (found : position is_newline bytes ≡ Some end) where
  cut : bytes ≡ take end bytes ++ 10 ∷ behind bytes end
  cut = (cut_there bytes (take end bytes) end found refl).1

  pub front_plain : IsInOneLine (take end bytes)
  front_plain = (cut_there bytes (take end bytes) end found refl).0

  pub some_behind : 0 < length (take end bytes ++ 10 ∷ behind bytes end)
  some_behind = omega (arith, length-append (take end bytes) (10 ∷ behind bytes end))

  pub small_front : (input : List ℕ) → length (input ++ bytes) < 2 ^ 63 → length (input ++ take end bytes ++ behind bytes end) < 2 ^ 63
  small_front input small =
      omega (
        arith,
        small,
        length-append input bytes,
        ap length cut,
        length-append (take end bytes) (10 ∷ behind bytes end),
        length-append (input ++ take end bytes) (behind bytes end),
        length-append input (take end bytes),
      )

  whole : (input : List ℕ) → input ++ take end bytes ++ 10 ∷ behind bytes end ≡ input ++ bytes
  whole input = append_assoc input (take end bytes) (10 ∷ behind bytes end) ∙ ap (λ (t : List ℕ). input ++ t) (sym cut)

  pub refused_front : (H : Digest) (counts : Counts) (input : List ℕ) (fault : StateFault) → RefusesBytes H counts (input ++ take end bytes ++ 10 ∷ behind bytes end) fault
      → RefusesBytes H counts (input ++ bytes) fault
  refused_front H counts input fault refused = subst (λ (t : List ℕ). RefusesBytes H counts t fault) (whole input) refused

  pub refused_end : (H : Digest) (counts : Counts) (input : List ℕ) (fault : StateFault) → RefusesBytes H counts (input ++ take end bytes ++ 10 ∷ [] ++ behind bytes end) fault
      → RefusesBytes H counts (input ++ bytes) fault
  refused_end H counts input fault refused =
      subst (λ (t : List ℕ). RefusesBytes H counts t fault) (append_assoc (input ++ take end bytes) (10 ∷ []) (behind bytes end) ∙ whole input) refused

  pub took_line : (H : Digest) (counts : Counts) (new : SoFar) (input : List ℕ) → HasRead H counts new (input ++ take end bytes ++ 10 ∷ []) → TookSome H counts new input bytes (behind bytes end)
  took_line H counts new input read = record {
    taken = take end bytes ++ 10 ∷ [];
    cut = cut ∙ sym (append_assoc (take end bytes) (10 ∷ []) (behind bytes end));
    read = subst (HasRead H counts new) (append_assoc input (take end bytes) (10 ∷ [])) read;
  }

-- ---- parts of a block

-- what was taken of a block
pub record TookPart (H : Digest) (counts : Counts) (now : SoFar) (input block left : List ℕ) : Type 0 where
  pub taken : List ℕ
  pub cut : block ≡ taken ++ left
  pub read : HasRead H counts now (input ++ taken)

pub took_none : (H : Digest) (counts : Counts) (now : SoFar) (input block : List ℕ) → HasRead H counts now input → TookPart H counts now input block block
took_none H counts now input block read = record { taken = []; cut = refl; read = subst (HasRead H counts now) (sym (append-nil input)) read }

part_whole : (input taken left block : List ℕ) → block ≡ taken ++ left → input ++ taken ++ left ≡ input ++ block
part_whole input taken left block cut = append_assoc input taken left ∙ ap (λ (t : List ℕ). input ++ t) (sym cut)

pub part_small : (input taken left block : List ℕ) → block ≡ taken ++ left → length (input ++ block) < 2 ^ 63 → length (input ++ taken ++ left) < 2 ^ 63
part_small input taken left block cut small = subst (λ (t : List ℕ). length t < 2 ^ 63) (sym (part_whole input taken left block cut)) small

pub took_more : (H : Digest) (counts : Counts) (now : SoFar) (input block left rest : List ℕ) (taken : List ℕ) → block ≡ taken ++ left → TookSome H counts now (input ++ taken) left rest
    → TookPart H counts now input block rest
took_more H counts now input block left rest taken cut more = record {
  taken = taken ++ more.taken;
  cut = cut ∙ ap (λ (t : List ℕ). taken ++ t) more.cut ∙ sym (append_assoc taken more.taken rest);
  read = subst (HasRead H counts now) (append_assoc input taken more.taken) more.read;
}

pub part_refused : (H : Digest) (counts : Counts) (input block left taken : List ℕ) (fault : StateFault) → block ≡ taken ++ left → RefusesBytes H counts (input ++ taken ++ left) fault
    → RefusesBytes H counts (input ++ block ++ []) fault
part_refused H counts input block left taken fault cut refused =
    subst (λ (t : List ℕ). RefusesBytes H counts t fault) (part_whole input taken left block cut ∙ sym (append-nil (input ++ block))) refused

pub took_block : (H : Digest) (counts : Counts) (now : SoFar) (input block left : List ℕ) → length left ≡ 0 → TookPart H counts now input block left → HasRead H counts now (input ++ block)
took_block H counts now input block [] none part = subst (HasRead H counts now) (ap (λ (t : List ℕ). input ++ t) (sym (part.cut ∙ append-nil part.taken))) part.read
took_block H counts now input block (b ∷ left) none part = absurd (omega arith)
