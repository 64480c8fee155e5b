-- `monitor::run_step` meets its contract. Assumes nothing.
use Rattle.monitor.proofs.Turns.{step_run}
use Rattle.monitor.proofs.run_step.Goals as goal

pub returns : goal.returns
returns c =
    step_run _ _ _ _ _ _ _ _ _ _ _ _ c.requires.0 c.step_record.ensures c.decode-s.ensures
    c.cause-cause.ensures c.act-answer.ensures c.put_answer.ensures
