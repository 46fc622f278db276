-- Reads of one piece after another into a buffer.
use Rattle.std.proofs.Common.{◌≡◌, ℕ, ◌<◌, ◌≤◌, List, [], ◌++◌, Option, Bool, length, take, ap, subst, sym, ◌∙◌, append-nil, append_assoc, arith}
use Rattle.std.proofs.lemmas.List.{take_all, length-take-le}
use Rattle.std.proofs.KnownBytes.{Consumes-trans}
use Rattle.std.specs.Io.KnownBytes.{Consumes}
use Rattle.tl_device.specs.Device.{Passage}
use Rattle.tl_server.specs.Inner.Bodies.{GrownBody}
use Rattle.tl_device.proofs.SendingLemmas.{over}
use Rattle.tl_device.proofs.ReadLemmas.{gave_none, never}

-- nothing was read of a body but its beginning
pub grown_none : (a : Option (List ℕ)) (f : Bool) (begun body : List ℕ) → body ≡ begun → GrownBody (over a a f f) begun body
grown_none a f begun body same = record { bytes = []; gave = gave_none a f; joined = append-nil begun ∙ sym same }

-- more of a body was read
pub grown_more : (a b c : Option (List ℕ)) (f g h : Bool) (begun body more now : List ℕ)
    → GrownBody (over a b f g) begun body → Consumes b c more → h ≡ g → now ≡ body ++ more → GrownBody (over a c f h) begun now
grown_more a b c f g h begun body more now first then same joined = record {
  bytes = first.bytes ++ more;
  gave = record { consumed = Consumes-trans a b c first.bytes more first.gave.consumed then; at_end = λ e. never e; steady = same ∙ first.gave.steady };
  joined = sym (append_assoc begun first.bytes more) ∙ (ap (λ (l : List ℕ). l ++ more) first.joined ∙ sym joined);
}

-- what was read doesn't fill a buffer of n bytes
pub grown_short : (len n : ℕ) (begun bytes buf : List ℕ) → begun ++ bytes ≡ take len buf → len < length buf → length buf ≡ n
    → length (begun ++ bytes) < n
grown_short len n begun bytes buf joined short same =
    let whole : length (begun ++ bytes) ≡ length (take len buf) = ap (λ (l : List ℕ). length l) joined in
    let taken = length-take-le len buf (omega (arith, short)) in
    omega (arith, whole, taken, short, same)

-- what was read fills a buffer
pub grown_whole : (p : Passage) (begun buf : List ℕ) (len : ℕ) → length buf ≤ len → GrownBody p begun (take len buf) → GrownBody p begun buf
grown_whole p begun buf len full grown = subst (λ (l : List ℕ). GrownBody p begun l) (take_all len buf full) grown
