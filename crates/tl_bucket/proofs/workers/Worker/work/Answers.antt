use Rattle.tl_bucket.proofs.Settled.{worked}
use Rattle.tl_bucket.proofs.workers.Worker.work.Goals as goal

pub returns-clause-done : goal.returns-clause-done
returns-clause-done g c = worked c.put_each-outcome.result c.self.inside.reach c.client-client.result c.as_slice.result.now c.self.inside.items.items c.client-client.ensures c.as_slice.ensures.value c.put_each-outcome.ensures
