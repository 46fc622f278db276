use Rattle.std.proofs.Common.{◌≡◌, ◌/◌, inr, length, refl, sym, subst, ap, ◌∙◌, map, vec_items}
use Rattle.sha2.specs.Sha256.{sha256}
use Rattle.tl_tile.specs.Fetched.{tiles_of}
use Rattle.tl_tile.specs.Needed.{bundle_width}
use Rattle.tl_client.specs.Checked.{AreCheckedEntries}
use Rattle.tl_fetch.proofs.EntryLemmas.{place_in}
use Rattle.tl_fetch.proofs.ListingLemmas.{after_nothing, next_further, next_within, rest_of}
use Rattle.tl_fetch.proofs.listing.lines_from.Goals as goal

pub returns-clause-lines : goal.returns-clause-lines
returns-clause-lines g c =
    let head = c.args.head.now in
    let items = c.deref.result.now in
    let checked = subst (λ xs. AreCheckedEntries sha256 (tiles_of c.read_bundle.new.kept) head.size head.root (c.args.from / 256) (map vec_items xs)) (sym c.deref.ensures.value) c.in-Ok.ensures.entries in (
      _,
      rest_of vec_items sha256 head c.args.from items _ refl
          (record { within = c.in-Ok.ensures.within; fetched = _; verified = c.in-Ok.ensures.verified; checked = checked })
          (place_in vec_items head.size c.args.from items c.requires.below checked.whole.count),
      after_nothing _ _ _ c.in_ok-push_lines.ensures c.new-text.ensures.items,
    )

pub read_bundle-requires : goal.read_bundle-requires
read_bundle-requires g c = c.keep_path.ensures.passed sha256 c.args.head.now.size c.args.head.now.root c.requires.passed

pub returns-clause-further : goal.returns-clause-further
returns-clause-further g c =
    let items = c.deref.result.now in
    let many : length (map vec_items items) ≡ bundle_width c.args.head.now.size (c.args.from / 256) = ap (λ xs. length (map vec_items xs)) c.deref.ensures.value ∙ c.in-Ok.ensures.entries.whole.count in
    next_further vec_items c.args.head.now.size c.args.from items c.requires.below many

pub returns-clause-within : goal.returns-clause-within
returns-clause-within g c =
    let items = c.deref.result.now in
    let many : length (map vec_items items) ≡ bundle_width c.args.head.now.size (c.args.from / 256) = ap (λ xs. length (map vec_items xs)) c.deref.ensures.value ∙ c.in-Ok.ensures.entries.whole.count in
    next_within vec_items c.args.head.now.size c.args.from items c.requires.below many

pub returns-clause-passed : goal.returns-clause-passed
returns-clause-passed g c = c.in-Ok.ensures.passed

pub returns-in-Err-clause-refused : goal.returns-in-Err-clause-refused
returns-in-Err-clause-refused g c = inr (c.in-Err.fault, c.in-Err.ensures.refused, c.client_refusal.ensures.value)
