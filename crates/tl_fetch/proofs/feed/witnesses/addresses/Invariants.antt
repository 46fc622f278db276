use Rattle.std.proofs.Common.{map, string_bytes}
use Rattle.tl_fetch.proofs.AddressLemmas.{AreReadUpTo}
use Rattle.tl_fetch.proofs.feed.witnesses.addresses.Given as goal

-- the texts so far are those of the addresses
abbrev pub invariant-loop-place : goal.invariant-loop-place
invariant-loop-place l = AreReadUpTo (map string_bytes l.texts) l.place l.urls.items
