-- How many of the first bytes that a reader gives are whole lines.
use Rattle.std.proofs.Common.{◌≡◌, ◌≢◌, ◌≤◌, ◌<◌, ◌+◌, ◌-◌, ◌^◌, ℕ, Bool, List, [], ◌++◌, length, take, refl, sym, ap, subst, ◌∙◌, inl, inr, ◌⊎◌, arith, append-nil, get_or}
use Rattle.std.specs.Prelude.{Option}
use Rattle.std.proofs.lemmas.Bool.{cases_lt}
use Rattle.std.specs.Io.KnownBytes.{Consumes, IsAtEnd}
use Rattle.std.proofs.KnownBytes.{Consumes-nil, Consumes-trans}
use Rattle.std.proofs.lemmas.List.{length-append, length-take-le}
use Rattle.std.proofs.Math.ListN.{get_or-append}
use lib.Seq.{get_or-append-add, get_or-append_right}
use Rattle.tl_device.specs.Device.{Passage}
use Rattle.tl_folder.specs.Lines.{IsWholeFront, ReadFront}

-- a device before and after
abbrev pub over : Option (List ℕ) → Option (List ℕ) → Bool → Bool → Passage
over a b f g = record { old = a; new = b; had_failed = f; has_failed = g }

-- this many bytes came, of which this many are whole lines
pub record Measured (p : Passage) (count whole : ℕ) : Type 0 where
  pub input : List ℕ
  pub consumed : Consumes p.old p.new input
  pub size : length input ≡ count
  pub front : IsWholeFront input whole

pub measured_none : (a : Option (List ℕ)) (f : Bool) → Measured (over a a f f) 0 0
measured_none a f = record {
  input = [];
  consumed = Consumes-nil a;
  size = refl;
  front = record { within = omega arith; ended = inl refl; last = λ at from less. absurd (omega (arith, less)) };
}

module _ (input chunk : List ℕ) (whole front : ℕ) (old : IsWholeFront input whole) (more : IsWholeFront chunk front) where
  -- a line ends in the bytes that came
  pub front_found : 0 < front → IsWholeFront (input ++ chunk) (length input + front)
  front_found some = record {
    within = omega (arith, more.within, length-append input chunk);
    ended = elim more.ended [
      | inl none ↦ absurd (omega (arith, some, none))
      | inr (at, is, byte) ↦ inr (length input + at, omega (arith, is), get_or-append-add input chunk at 0 ∙ byte)
    ];
    last = λ at from less byte.
        more.last (at - length input) (omega (arith, from)) (omega (arith, from, less, length-append input chunk))
        (sym (get_or-append_right input chunk at 0 (omega (arith, from))) ∙ byte);
  }

  -- none does
  pub front_none : front ≡ 0 → IsWholeFront (input ++ chunk) whole
  front_none none = record {
    within = omega (arith, old.within, length-append input chunk);
    ended = elim old.ended [
      | inl zero ↦ inl zero
      | inr (at, is, byte) ↦ inr (at, is, get_or-append input chunk 0 at (omega (arith, is, old.within)) ∙ byte)
    ];
    last = λ at from less byte.
        elim (cases_lt at (length input)) [
          | inl before ↦ old.last at from before (sym (get_or-append input chunk 0 at before) ∙ byte)
          | inr behind ↦ more.last (at - length input) (omega (arith, none)) (omega (arith, behind, less, length-append input chunk))
              (sym (get_or-append_right input chunk at 0 behind) ∙ byte)
        ];
  }

module _ (a b c : Option (List ℕ)) (f g h : Bool) (count whole : ℕ) (come : Measured (over a b f g) count whole) (n : ℕ) (block : List ℕ) (within : n ≤ length block)
    (gave : Consumes b c (take n block)) (front : ℕ) (more : IsWholeFront (take n block) front) where
  all : Consumes a c (come.input ++ take n block)
  all = Consumes-trans a b c come.input (take n block) come.consumed gave

  longer : length (come.input ++ take n block) ≡ count + n
  longer = omega (arith, come.size, length-append come.input (take n block), length-take-le n block within)

  pub measured_found : 0 < front → Measured (over a c f h) (count + n) (count + front)
  measured_found some = record {
    input = come.input ++ take n block;
    consumed = all;
    size = longer;
    front = subst (λ (m : ℕ). IsWholeFront (come.input ++ take n block) (m + front)) come.size (front_found come.input (take n block) whole front come.front more some);
  }

  pub measured_more : front ≡ 0 → Measured (over a c f h) (count + n) whole
  measured_more none = record {
    input = come.input ++ take n block;
    consumed = all;
    size = longer;
    front = front_none come.input (take n block) whole front come.front more none;
  }

-- the reader came to its end
pub measured_end : (a b c : Option (List ℕ)) (f g h : Bool) (count whole : ℕ) → Measured (over a b f g) count whole → (n : ℕ) (block : List ℕ) → Consumes b c (take n block) → n ≡ 0 → IsAtEnd c
    → ReadFront (over a c f h) whole
measured_end a b c f g h count whole come n block gave none ended = record {
  input = come.input;
  consumed = subst (Consumes a c) (append-nil come.input) (Consumes-trans a b c come.input [] come.consumed (subst (λ (m : ℕ). Consumes b c (take m block)) none gave));
  ended = ended;
  front = come.front;
}
