-- Laws of a state that a reader gives.
use Rattle.std.proofs.Common.{◌≡◌, ◌≢◌, ◌≤◌, ◌<◌, ◌+◌, ◌^◌, ℕ, Bool, List, [], ◌++◌, Option, length, take, refl, sym, ap, subst, ◌∙◌, inr, arith, append-nil}
use Rattle.std.specs.Prelude.{IfErr, IfOk, Result, Ok, Err}
use Rattle.std.specs.Io.KnownBytes.{Consumes, IsAtEnd}
use Rattle.std.proofs.KnownBytes.{Consumes-nil, Consumes-trans}
use Rattle.std.proofs.lemmas.List.{length-append, length-take-le}
use Rattle.tl_hash.specs.Bytes.{Digest}
use Rattle.tl_device.specs.Device.{Passage}
use Rattle.tl_witness.specs.ChainLine.{chain_text}
use Rattle.tl_logs.specs.State.{Counts, KnowsHeads, OriginHead}
use Rattle.tl_logs.specs.StateFaults.{GaveRefused, RefusesBytes, RefusesReading, most_bytes}
use Rattle.tl_logs.specs.Inner.Stream.{HasRead, SoFar}
use Rattle.tl_logs.specs.declared.state_fault.StateFault.{StateFault}
use Rattle.tl_logs.specs.declared.state_fault.StateFault.TheVariants.{Read, Malformed, Broken, TooLarge, OutOfMemory}
use Rattle.tl_logs.proofs.StreamLaws.{end_malformed, read_nothing, so_far}

-- a device before and after
abbrev pub over : Option (List ℕ) → Option (List ℕ) → Bool → Bool → Passage
over a b f g = record { old = a; new = b; had_failed = f; has_failed = g }

-- what the reader gave so far, this many bytes, was read
pub record HasCome (H : Digest) (counts : Counts) (p : Passage) (count : ℕ) (s : SoFar) : Type 0 where
  pub input : List ℕ
  pub consumed : Consumes p.old p.new input
  pub steady : p.has_failed ≡ p.had_failed
  pub size : length input ≡ count
  pub read : HasRead H counts s input

pub come_none : (H : Digest) (counts : Counts) (a : Option (List ℕ)) (f : Bool) → HasCome H counts (over a a f f) 0 (so_far [] 0 [])
come_none H counts a f = record { input = []; consumed = Consumes-nil a; steady = refl; size = refl; read = read_nothing H counts }

module _ (H : Digest) (counts : Counts) (a b c : Option (List ℕ)) (f g h : Bool) (count : ℕ) (s : SoFar) (come : HasCome H counts (over a b f g) count s) (n : ℕ) (block : List ℕ)
    (within : n ≤ length block) (gave : Consumes b c (take n block)) (same : h ≡ g) where
  -- it is short
  pub come_small : length block ≡ 65536 → count < most_bytes → length (come.input ++ take n block) < 2 ^ 63
  come_small size few = omega (arith, come.size, few, size, within, length-append come.input (take n block), length-take-le n block within)

  pub come_more : (new : SoFar) → HasRead H counts new (come.input ++ take n block) → HasCome H counts (over a c f h) (count + n) new
  come_more new read = record {
    input = come.input ++ take n block;
    consumed = Consumes-trans a b c come.input (take n block) come.consumed gave;
    steady = same ∙ come.steady;
    size = omega (arith, come.size, length-append come.input (take n block), length-take-le n block within);
    read = read;
  }

  gave_refused : (fault : StateFault) → RefusesBytes H counts (come.input ++ take n block ++ []) fault → GaveRefused H counts (over a c f h) fault
  gave_refused fault refused = record {
    bytes = come.input ++ take n block;
    consumed = Consumes-trans a b c come.input (take n block) come.consumed gave;
    steady = same ∙ come.steady;
    refused = subst (λ (t : List ℕ). RefusesBytes H counts t fault) (append-nil (come.input ++ take n block)) refused;
  }

  pub come_refused : (fault : StateFault) → RefusesBytes H counts (come.input ++ take n block ++ []) fault → RefusesReading H counts (over a c f h) fault
  come_refused Read refused = absurd refused
  come_refused (Malformed place) refused = gave_refused (Malformed place) refused
  come_refused (Broken place) refused = gave_refused (Broken place) refused
  come_refused TooLarge refused = gave_refused TooLarge refused
  come_refused OutOfMemory refused = gave_refused OutOfMemory refused

  nothing_more : n ≡ 0 → Consumes a c come.input
  nothing_more none =
      subst (Consumes a c) (append-nil come.input) (Consumes-trans a b c come.input [] come.consumed (subst (λ (m : ℕ). Consumes b c (take m block)) none gave))

  pub come_end : (heads : List OriginHead) → n ≡ 0 → IsAtEnd c → s.begun ≡ [] → heads ≡ s.heads → KnowsHeads H counts (over a c f h) heads
  come_end heads none at_end ended has =
      let all : come.input ≡ chain_text come.read.lines = come.read.joined ∙ ap (λ (t : List ℕ). chain_text come.read.lines ++ t) ended ∙ append-nil (chain_text come.read.lines) in
      record {
        lines = come.read.lines;
        gave = record { consumed = subst (Consumes a c) all (nothing_more none); ended = at_end; steady = same ∙ come.steady };
        lawful = come.read.lawful;
        same = has ∙ come.read.same;
        written = rw has come.read.written;
      }

  pub come_torn : (fault : StateFault) → n ≡ 0 → s.begun ≢ [] → fault ≡ Malformed s.line → RefusesReading H counts (over a c f h) fault
  come_torn fault none some is = subst (RefusesReading H counts (over a c f h)) (sym is)
      (record { bytes = come.input; consumed = nothing_more none; steady = same ∙ come.steady; refused = end_malformed H counts s come.input come.read some })

  -- what comes of the end
  pub ends_well : {X : Type 0} (r : Result X StateFault) (shown : X → List OriginHead) → n ≡ 0 → IsAtEnd c → IfOk r (λ x. (s.begun ≡ []) × (shown x ≡ s.heads))
      → IfOk r (λ x. KnowsHeads H counts (over a c f h) (shown x))
  ends_well (Ok x) shown none at_end is = come_end (shown x) none at_end is.0 is.1
  ends_well (Err fault) shown none at_end is = tt

  pub ends_ill : {X : Type 0} (r : Result X StateFault) → n ≡ 0 → IfErr r (λ fault. (s.begun ≢ []) × (fault ≡ Malformed s.line))
      → IfErr r (RefusesReading H counts (over a c f h))
  ends_ill (Ok x) none is = tt
  ends_ill (Err fault) none is = come_torn fault none is.0 is.1

-- there are too many bytes
pub come_too_many : (H : Digest) (counts : Counts) (p : Passage) (count : ℕ) (s : SoFar) → HasCome H counts p count s → most_bytes ≤ count → RefusesReading H counts p TooLarge
come_too_many H counts p count s come many = record {
  bytes = come.input;
  consumed = come.consumed;
  steady = come.steady;
  refused = inr (omega (arith, many, come.size));
}
