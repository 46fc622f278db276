use Rattle.tl_client.proofs.LeafReads.{none_passed, served_all}
use Rattle.tl_client.proofs.entries.read_entries.Goals as goal

pub read_entries_after-requires : goal.read_entries_after-requires
read_entries_after-requires g c = none_passed c.args.size c.args.root c.new.result c.new.ensures

pub returns-in-Ok-clause-served : goal.returns-in-Ok-clause-served
returns-in-Ok-clause-served g c =
    served_all (g.S.ResourceSource.may_answer c.args.source.now) c.args.size c.new.result c.read_entries_after.new.fetched c.new.ensures c.read_entries_after.ensures.served

pub returns-in-Err-clause-served : goal.returns-in-Err-clause-served
returns-in-Err-clause-served g c =
    served_all (g.S.ResourceSource.may_answer c.args.source.now) c.args.size c.new.result c.read_entries_after.new.fetched c.new.ensures c.read_entries_after.ensures.served
