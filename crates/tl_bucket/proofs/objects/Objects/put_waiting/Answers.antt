use Rattle.std.proofs.Common.{Some, ap, map, option_map, string_bytes, vec_items, subst, List, refl, arith}
use Rattle.std.proofs.lemmas.Grind.{common_steps}
use Rattle.std.specs.Prelude.{All}
use Rattle.tl_bucket.specs.Buckets.{NoteWasThere}
use Rattle.tl_bucket.specs.Inner.Puts.{IsThere, item_of, shown_of}
use Rattle.tl_bucket.specs.declared.staged.Staged.{Staged}
use Rattle.tl_bucket.proofs.Settled.{noted, settled}
use Rattle.tl_bucket.proofs.objects.Objects.put_waiting.Goals as goal

pub returns-in_default-take : goal.returns-in_default-take
returns-in_default-take g c =
    let shown = option_map shown_of c.self.inside.shown in
    settled c.args.self.now _ c.self.inside.client c.self.inside.staged.items (option_map vec_items c.self.inside.note) shown c.self.inside.claims c.self.view_is
    c.in_ok-claim.ensures.claimed
    (subst (λ (xs : List Staged). All (IsThere c.self.inside.client) xs) c.as_slice.ensures.value c.in_ok-put.ensures)
    (subst (λ n. NoteWasThere c.self.inside.client shown (option_map vec_items n) shown) c.in_default-take.ensures.value refl)
    refl (ap (map item_of) c.clear.ensures.items) (ap (option_map vec_items) c.take.ensures.after)

pub returns : goal.returns
returns g c =
    let shown = option_map shown_of c.self.inside.shown in
    let after = Some (record { note = c.in-Some-take.note.items; etag = string_bytes c.in_ok-etag.etag }) in
    settled c.args.self.now _ c.self.inside.client c.self.inside.staged.items (option_map vec_items c.self.inside.note) shown c.self.inside.claims c.self.view_is
    c.in_ok-claim.ensures.claimed
    (subst (λ (xs : List Staged). All (IsThere c.self.inside.client) xs) c.as_slice.ensures.value c.in_ok-put.ensures)
    (subst (λ n. NoteWasThere c.self.inside.client shown (option_map vec_items n) after) c.in-Some-take.ensures.value
    (noted c.self.inside.client shown c.in-Some-take.note.items c.as_slice-2.result.now (string_bytes c.in_ok-etag.etag) c.as_slice-2.ensures.value c.in_ok-etag.ensures))
    refl (ap (map item_of) c.clear-2.ensures.items) (ap (option_map vec_items) c.take.ensures.after)

pub put_note-requires : goal.put_note-requires
put_note-requires g c = grind (arith, common_steps)
