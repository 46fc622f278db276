use Rattle.std.proofs.Common.{◌≡◌, ℕ, List, [], ◌++◌, length, take, drop, refl, arith, length-append, length-drop}
use Rattle.std.proofs.lemmas.List.{append-nil, drop_all, take_at}
use Rattle.tl_lanes.proofs.Padding.{blank}
use Rattle.tl_lanes.proofs.messages.joined.Goals as goal
use borrow.Rule.Slice.PartMut.{put_mid, post_of}

two_halves : (l zs r : List ℕ) → length l ≡ 32 → length zs ≡ 32 → put_mid 32 32 (l ++ zs) r ≡ l ++ r
two_halves l zs r len rest =
    let front : take 32 (l ++ zs) ≡ l = take_at l zs 32 (omega arith) in
    let back : post_of 32 32 (l ++ zs) ≡ [] = drop_all 32 (drop 32 (l ++ zs)) (omega (arith, length-drop 32 (l ++ zs), length-append l zs)) in
    rw (front, back, append-nil) refl

pub returns : goal.returns
returns c =
    rw (c.copy_from_slice.ensures.after, c.copy_from_slice-2.ensures.after)
    (two_halves c.args.left.now (blank 32) c.args.right.now (omega arith) refl)
