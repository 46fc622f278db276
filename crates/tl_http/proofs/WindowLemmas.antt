-- The bytes of a block between two places.
use Rattle.std.proofs.Common.{◌≡◌, ◌+◌, ◌-◌, ◌<◌, ◌≤◌, [], ◌++◌, ℕ, List, Option, Bool, false, true, ap, arith, drop, length, length-drop, length-take, refl, take, ◌∙◌}
use Rattle.std.proofs.lemmas.List.{length-take-le, take_at}
use Rattle.std.proofs.lemmas.Slice.{between_is, take-put_mid_below}
use lib.Seq.{paste}
use Rattle.std.specs.Io.KnownBytes.{Consumes, IsAtEnd}
use borrow.Rule.Slice.PartMut.{put_mid}
use Rattle.tl_device.specs.Reading.{Gave}
use Rattle.tl_device.proofs.ReadLemmas.{gave_end, gave_none, never, take_read}
use Rattle.tl_device.proofs.SendingLemmas.{over}

-- the bytes between two places were moved to the front
moved : (block : List ℕ) (start end len : ℕ) → start ≤ end → end ≤ length block → len ≡ end - start
    → take len (paste block 0 (drop start block) (start + len - start)) ≡ drop start (take end block)
moved block start end len ordered within is =
    let same : start + len - start ≡ len = omega arith in
    let front : length (take (start + len - start) (drop start block)) ≡ len =
    length-take-le (start + len - start) (drop start block) (omega (arith, length-drop start block)) ∙ same in
    take_at (take (start + len - start) (drop start block)) (drop (0 + (start + len - start)) block) len front
    ∙ (ap (λ (n : ℕ). take n (drop start block)) (same ∙ is) ∙ between_is block start end)

-- and more was read behind them
pub filled : (block moved_block ys value : List ℕ) (start end k n : ℕ) → start ≤ end → end ≤ length block → length moved_block ≡ length block
    → moved_block ≡ paste block 0 (drop start block) (start + (end - start) - start) → drop start (take end block) ≡ value → n ≤ length ys
    → take (end - start + n) (put_mid (end - start) k moved_block ys) ≡ value ++ take n ys
filled block moved_block ys value start end k n ordered within same is kept fits =
    let front : take (end - start) moved_block ≡ value =
    ap (λ (l : List ℕ). take (end - start) l) is ∙ (moved block start end (end - start) ordered within refl ∙ kept) in
    take_read (end - start) k n moved_block ys (omega (arith, same, within)) fits ∙ ap (λ (l : List ℕ). l ++ take n ys) front

-- or nothing was
pub unfilled : (block moved_block ys value : List ℕ) (start end k : ℕ) → start ≤ end → end ≤ length block → length moved_block ≡ length block
    → moved_block ≡ paste block 0 (drop start block) (start + (end - start) - start) → drop start (take end block) ≡ value
    → take (end - start) (put_mid (end - start) k moved_block ys) ≡ value
unfilled block moved_block ys value start end k ordered within same is kept =
    take-put_mid_below (end - start) k moved_block ys (end - start) (omega arith) (omega (arith, same, within))
    ∙ (ap (λ (l : List ℕ). take (end - start) l) is ∙ (moved block start end (end - start) ordered within refl ∙ kept))

-- there was room behind them
pub has_room : (block moved_block ys value : List ℕ) (start end most : ℕ) → start ≤ end → end ≤ length block → length moved_block ≡ length block → length block ≡ most
    → drop start (take end block) ≡ value → length value < most → length ys ≡ length (take (most - (end - start)) (drop (end - start) moved_block)) → 0 < length ys
has_room block moved_block ys value start end most ordered within same all kept short part =
    let long = ap (λ (l : List ℕ). length l) kept in
    omega (
      arith,
      same,
      all,
      long,
      short,
      part,
      length-drop start (take end block),
      length-take-le end block within,
      length-take (most - (end - start)) (drop (end - start) moved_block),
      length-drop (end - start) moved_block,
    )

-- the end was read
pub read_end : (b c : Option (List ℕ)) (g h : Bool) (ys : List ℕ) (n : ℕ) → n ≡ 0 → Consumes b c (take n ys) → IsAtEnd c → h ≡ g → Gave (over b c g h) [] true
read_end b c g h ys n none then at_end same = gave_end b b c g g h [] ys n (gave_none b g) none then at_end same

-- more was read
pub read_more : (b c : Option (List ℕ)) (g h : Bool) (ys : List ℕ) (n : ℕ) → Consumes b c (take n ys) → h ≡ g → Gave (over b c g h) (take n ys) false
read_more b c g h ys n then same = record { consumed = then; at_end = λ e. never e; steady = same }
