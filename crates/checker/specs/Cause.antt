-- How far a reading of steps came, as the code hands it back: whether it stopped, and why; and the place that it left.
use Rattle.std.specs.Prelude.{ℕ, Result, Ok, Err}
use Rattle.rules.specs.Reading.{Progress}
use Rattle.rules.specs.declared.Unread.{Unread}
use Rattle.rules.specs.declared.Stop.{Stop}
use Rattle.checker.specs.declared.steps.Cause.{Cause}

-- No step for the formula in hand begins at the place.
abbrev pub unread : Unread → Cause
unread Unread.Missing = Cause.Missing
unread Unread.Wrong = Cause.Wrong

-- Why it stopped, at a place.
abbrev pub stop_at : Cause → ℕ → Stop
stop_at Cause.Missing at = Stop.Missing
stop_at Cause.Wrong at = Stop.Wrong at
stop_at Cause.Fails at = Stop.Fails at

abbrev pub told : Result (Unit {0}) Cause → ℕ → Progress
told (Ok done) at = Ok at
told (Err cause) at = Err (stop_at cause at)
