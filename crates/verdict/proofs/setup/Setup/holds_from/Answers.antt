-- `verdict::setup::Setup::holds_from` meets its contract: a test of the modality's set at the stage of its term.
use Rattle.verdict.proofs.EvaluationLaws.{from-set}
use Rattle.verdict.proofs.setup.Setup.holds_from.Goals as goal

pub returns : goal.returns
returns c =
    from-set c.args.self.now c.requires c.requires.stand c.entry-r.ensures c.modal_set.ensures c.stage_of.ensures c.has.ensures
