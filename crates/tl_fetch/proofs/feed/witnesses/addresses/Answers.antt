use Rattle.std.proofs.Common.{arith, inr, map, refl, string_bytes}
use Rattle.std.proofs.lemmas.List.{length-map}
use Rattle.tl_fetch.proofs.AddressLemmas.{first_none, read_all, read_more, read_none}
use Rattle.tl_fetch.proofs.feed.witnesses.addresses.Goals as goal

pub loop-place-init : goal.loop-place-init
loop-place-init c = read_none (map string_bytes c.args.texts.now) c.new-urls.result.items c.new-urls.ensures.items

pub loop-place-preserved : goal.loop-place-preserved
loop-place-preserved c =
    read_more (map string_bytes c.args.texts.now) c.loop-place.place c.in-Some.url c.loop-place.urls.items _
    (omega (arith, c.loop-place-test.true, length-map c.args.texts.now string_bytes))
    c.in-Some.ensures c.in_ok-push.ensures.items c.loop-place.invariant

pub returns-in_default-clause-refused : goal.returns-in_default-clause-refused
returns-in_default-clause-refused c = inr (
  c.loop-place.place,
  refl,
  first_none (map string_bytes c.args.texts.now) c.loop-place.place c.loop-place.urls.items
      (omega (arith, c.loop-place-test.true, length-map c.args.texts.now string_bytes)) c.in_default.ensures c.loop-place.invariant,
)

pub returns-clause-read : goal.returns-clause-read
returns-clause-read c =
    read_all (map string_bytes c.args.texts.now) c.loop-place.place c.loop-place.urls.items
    (omega (arith, c.loop-place-test.false, length-map c.args.texts.now string_bytes)) c.loop-place.invariant
