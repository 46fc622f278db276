use Rattle.tl_serve.proofs.AtOnce.{witness_answers}
use Rattle.tl_serve.proofs.witness_server.WitnessResourcesResources.answer.Goals as goal

pub returns : goal.returns
returns g c =
    witness_answers g.W.Witness.digest (g.W.Shown.shown c.args.self.now.witness.now) c.seconds-time.result _ _ _ _ c.serve_witness-outcome.result c.outcome_of.result
    c.outcome_of.ensures c.serve_witness-outcome.ensures
