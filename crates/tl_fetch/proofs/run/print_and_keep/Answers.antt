use Rattle.std.proofs.Common.{inl, inr, refl}
use Rattle.tl_fetch.specs.declared.options.FetchRequest.TheVariants as wanted
use Rattle.tl_device.specs.Device.{passage}
use Rattle.tl_fetch.proofs.RunLemmas.{fair_wanted}
use Rattle.tl_fetch.proofs.run.print_and_keep.Goals as goal

pub returns-in-Err-clause-refused : goal.returns-in-Err-clause-refused
returns-in-Err-clause-refused g c = record {
  why = inl ((refl, refl), (c.in-Err.ensures.refused, c.in-Err.ensures.part));
  fair = fair_wanted (g.S.ResourceSource.may_answer c.args.source.now) (g.S.ResourceSource.may_lack c.args.source.now) c.args.from c.args.step.now.new.now wanted.All c.in-Err.fault
      (passage g.W.Write.contents c.args.writer.now c.print_entries.new.writer)
      c.in-Err.ensures.refused;
}

pub returns-in-Err-keep-clause-refused : goal.returns-in-Err-keep-clause-refused
returns-in-Err-keep-clause-refused g c = record {
  why = inr (c.in_default.ensures.printed, inl (c.in-Err-keep.ensures.refused, refl));
  fair = c.in-Err-keep.ensures.fair;
}
