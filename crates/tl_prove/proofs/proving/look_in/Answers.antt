use Rattle.std.proofs.Common.{[], map, refl, subst, vec_items}
use Rattle.tl_client.proofs.LeafReads.{none_passed}
use Rattle.tl_prove.specs.Inner.Proving.{HasNone}
use Rattle.tl_prove.proofs.Others.{others_in}
use Rattle.tl_prove.proofs.proving.look_in.Goals as goal

pub returns-in-Err : goal.returns-in-Err
returns-in-Err g c =
    let fetched = c.read_entries.new.fetched in
    (c.args.bundle, (fetched, ([], none_passed _ _ [] refl, record { added = fetched; joined = refl; served = c.read_entries.ensures.served }), c.in-Err.ensures.refused))

pub returns : goal.returns
returns g c =
    others_in c.args.head.now c.args.entry.now c.args.bundle _ (map vec_items c.in-Ok.entries.items) c.in-Ok.ensures.within c.in-Ok.ensures.verified c.in-Ok.ensures.entries
    (subst (λ es. HasNone (map vec_items es) c.args.entry.now) c.as_slice.ensures.value c.in-None.ensures)
