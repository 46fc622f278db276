use Rattle.tl_fetch.proofs.ListedLemmas.{listed_once}
use Rattle.tl_fetch.proofs.law.listing_is_one_list.Goals as goal

pub returns : goal.returns
returns c = listed_once
