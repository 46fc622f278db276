use Rattle.tl_witness.proofs.OneReading.{saved_links_are_one}
use Rattle.tl_witness.proofs.law.saved_links_have_one_reading.Goals as goal

pub returns : goal.returns
returns c = record {
  lines = saved_links_are_one.lines;
  place = saved_links_are_one.place;
  apart = saved_links_are_one.apart;
}
