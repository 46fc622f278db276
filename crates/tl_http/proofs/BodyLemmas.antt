-- What was read of a body decides.
use Rattle.std.proofs.Common.{◌≡◌, ◌<◌, ◌≤◌, ℕ, List, [], ◌∷◌, ◌++◌, Option, Err, Bool, false, append-nil, append_assoc, ap, arith, drop, inl, inr, length, length-append, length-take, ◌⊎◌, min, refl, sym, take, ◌∙◌}
use Rattle.std.proofs.KnownBytes.{Consumes-trans}
use Rattle.std.proofs.lemmas.Bool.{cases_lt}
use Rattle.std.proofs.lemmas.List.{drop_all, length-take-le, nil_from_length, take-append-drop, take-append-le, take_all}
use Rattle.std.specs.Io.KnownBytes.{Consumes, IsAtEnd}
use Rattle.tl_device.specs.Reading.{Gave}
use Rattle.tl_http.specs.Get.{Receives}
use Rattle.tl_http.specs.Response.{BodyDecides}
use Rattle.tl_http.specs.Inner.Bodies.{EndedBody, GrownBody, FullBody, SomeBody}
use Rattle.tl_http.specs.declared.fault.HttpFault.TheVariants.{TooLarge}
use Rattle.tl_http.specs.declared.framing.Framing.TheVariants.{UntilEnd}
use Rattle.tl_device.proofs.ReadLemmas.{gave_end, gave_none}
use Rattle.tl_device.proofs.SendingLemmas.{over}

-- bytes were read, and then more
pub gave_then : (a b c : Option (List ℕ)) (f g h : Bool) (bytes more : List ℕ) (ended : Bool)
    → Gave (over a b f g) bytes false → Gave (over b c g h) more ended → Gave (over a c f h) (bytes ++ more) ended
gave_then a b c f g h bytes more ended first then = record {
  consumed = Consumes-trans a b c bytes more first.consumed then.consumed;
  at_end = then.at_end;
  steady = then.steady ∙ first.steady;
}

-- more of a body came, which could not be kept
pub some_more : (a b c : Option (List ℕ)) (f g h : Bool) (begun start body block : List ℕ) (most n : ℕ)
    → GrownBody (over a b f g) start body → n ≤ length block → Consumes b c (take n block) → h ≡ g → 0 < n → 0 < most → SomeBody (over a c f h) begun most
some_more a b c f g h begun start body block most n grown bound then same some wanted =
    let more = take n block in
    let long = length-take-le n block bound in
    record {
      bytes = grown.bytes ++ more;
      gave = record { consumed = Consumes-trans a b c grown.bytes more grown.gave.consumed then; at_end = λ e. absurd cc; steady = same ∙ grown.gave.steady };
      some = omega (arith, length-append begun (grown.bytes ++ more), length-append grown.bytes more, long, some);
      wanted = wanted;
    }

-- what came, and whatever follows it
joined_on : (begun bytes more rest : List ℕ) → rest ≡ bytes ++ more → begun ++ rest ≡ (begun ++ bytes) ++ more
joined_on begun bytes more rest same = ap (λ (l : List ℕ). begun ++ l) same ∙ sym (append_assoc begun bytes more)

-- what came and whatever follows it, with a full body in front
full_on : (begun bytes more rest body : List ℕ) (n : ℕ) → rest ≡ bytes ++ more → begun ++ bytes ≡ body ++ drop n begun → begun ++ rest ≡ body ++ (drop n begun ++ more)
full_on begun bytes more rest body n same joined =
    joined_on begun bytes more rest same ∙ (ap (λ (l : List ℕ). l ++ more) joined ∙ append_assoc body (drop n begun) more)

-- the input has more bytes than the limit
pub rest_past : (a b c : Option (List ℕ)) (f g h : Bool) (begun body : List ℕ) (limit : ℕ)
    → FullBody (over a b f g) begun limit body → (x : ℕ) × Gave (over b c g h) (x ∷ []) false → Receives (λ rest r. BodyDecides limit UntilEnd (begun ++ rest) r) (over a c f h) (Err TooLarge)
rest_past a b c f g h begun body limit came then = inr (record {
  bytes = came.bytes ++ then.0 ∷ [];
  ended = false;
  gave = gave_then a b c f g h came.bytes (then.0 ∷ []) false came.gave then.1;
  so = λ rest may.
      let same = full_on begun came.bytes (then.0 ∷ may.more) rest body limit (may.joined ∙ append_assoc came.bytes (then.0 ∷ []) may.more) came.joined in
      let long = ap (λ (l : List ℕ). length l) same in
      let whole = came.whole in
      inr (inl ((λ fits. absurd (omega (arith, long, length-append body (drop limit begun ++ then.0 ∷ may.more), length-append (drop limit begun) (then.0 ∷ may.more), whole, fits))), refl));
})

-- more bytes than the limit came with the head
pub begun_past : (begun rest : List ℕ) (limit : ℕ) → limit < length begun → BodyDecides limit UntilEnd (begun ++ rest) (Err TooLarge)
begun_past begun rest limit past = inr (inl ((λ fits. absurd (omega (arith, length-append begun rest, past, fits))), refl))

-- what came with the head was kept
pub begun_kept : (a : Option (List ℕ)) (f : Bool) (begun empty body : List ℕ) (most n : ℕ)
    → empty ≡ [] → n ≡ min (length begun) most → body ≡ empty ++ take n begun
    → GrownBody (over a a f f) (take (min (length begun) most) begun) body
begun_kept a f begun empty body most n none least kept =
    let same : body ≡ take (min (length begun) most) begun =
    kept ∙ (ap (λ (l : List ℕ). l ++ take n begun) none ∙ ap (λ (m : ℕ). take m begun) least) in
    record { bytes = []; gave = gave_none a f; joined = append-nil (take (min (length begun) most) begun) ∙ sym same }

-- what came with the head could not be kept
pub begun_unkept : (a : Option (List ℕ)) (f : Bool) (begun : List ℕ) (most n : ℕ)
    → n ≡ min (length begun) most → 0 < length (take n begun) → SomeBody (over a a f f) begun most
begun_unkept a f begun most n least some =
    let long = length-take n begun in
    record {
      bytes = [];
      gave = gave_none a f;
      some = omega (arith, length-append begun [], long, some);
      wanted = omega (arith, least, long, some);
    }

-- more of a body came, and was kept
pub more_kept : (a b c : Option (List ℕ)) (f g h : Bool) (start body block rest kept : List ℕ) (n : ℕ)
    → GrownBody (over a b f g) start body → n ≤ length block → Consumes b c (take n block) → h ≡ g → kept ≡ body ++ take n (block ++ rest)
    → GrownBody (over a c f h) start kept
more_kept a b c f g h start body block rest kept n grown bound then same put =
    let more = take n block in
    let read : kept ≡ body ++ more = put ∙ ap (λ (l : List ℕ). body ++ l) (take-append-le n block rest bound) in
    record {
      bytes = grown.bytes ++ more;
      gave = gave_then a b c f g h grown.bytes more false grown.gave (record { consumed = then; at_end = λ e. absurd cc; steady = same });
      joined = sym (append_assoc start grown.bytes more) ∙ (ap (λ (l : List ℕ). l ++ more) grown.joined ∙ sym read);
    }

-- the input ended before the body was full
pub ended_short : (a b c : Option (List ℕ)) (f g h : Bool) (begun body block : List ℕ) (most n : ℕ)
    → GrownBody (over a b f g) (take (min (length begun) most) begun) body → n ≡ 0 → Consumes b c (take n block) → IsAtEnd c → h ≡ g
    → length body < most → EndedBody (over a c f h) begun most body
ended_short a b c f g h begun body block most n grown none then at_end same short =
    let start = take (min (length begun) most) begun in
    let long = ap (λ (l : List ℕ). length l) grown.joined in
    let all = take_all (min (length begun) most) begun (omega (arith, long, length-append start grown.bytes, length-take (min (length begun) most) begun, short)) in
    record {
      bytes = grown.bytes;
      gave = gave_end a b c f g h grown.bytes block n grown.gave none then at_end same;
      joined = ap (λ (l : List ℕ). l ++ grown.bytes) (sym all) ∙ grown.joined;
      short = short;
    }

-- no more than a body that is full came, and all that came with the head behind it
full_joined : (begun bytes body : List ℕ) (most : ℕ) → (most < length begun) ⊎ (length begun ≤ most)
    → take (min (length begun) most) begun ++ bytes ≡ body → length body ≡ most → begun ++ bytes ≡ body ++ drop most begun
full_joined begun bytes body most (inl past) joined whole =
    let start = take (min (length begun) most) begun in
    let long = ap (λ (l : List ℕ). length l) joined in
    let nothing = nil_from_length bytes (omega (arith, long, length-append start bytes, length-take (min (length begun) most) begun, whole, past)) in
    let least : min (length begun) most ≡ most = omega (arith, past) in
    let front : take most begun ≡ body =
    ap (λ (n : ℕ). take n begun) (sym least) ∙ (sym (append-nil start) ∙ (ap (λ (l : List ℕ). start ++ l) (sym nothing) ∙ joined)) in
    ap (λ (l : List ℕ). begun ++ l) nothing ∙ (append-nil begun
    ∙ (sym (take-append-drop most begun) ∙ ap (λ (l : List ℕ). l ++ drop most begun) front))
full_joined begun bytes body most (inr within) joined whole =
    let all = take_all (min (length begun) most) begun (omega (arith, within)) in
    ap (λ (l : List ℕ). l ++ bytes) (sym all) ∙ (joined
    ∙ (sym (append-nil body) ∙ ap (λ (l : List ℕ). body ++ l) (sym (drop_all most begun within))))

-- the body is full
pub grown_full : (a b : Option (List ℕ)) (f g : Bool) (begun body : List ℕ) (most : ℕ)
    → GrownBody (over a b f g) (take (min (length begun) most) begun) body → length body ≡ most → FullBody (over a b f g) begun most body
grown_full a b f g begun body most grown whole = record {
  bytes = grown.bytes;
  gave = grown.gave;
  joined = full_joined begun grown.bytes body most (cases_lt most (length begun)) grown.joined whole;
  whole = whole;
}
