-- `line::text::digits` meets its contract: by the logarithm, if there is one.
-- Assumes nothing.
use Rattle.line.proofs.LineLaws.{logarithm-digits}
use Rattle.line.proofs.text.digits.Goals as goal

pub returns : goal.returns
returns c =
    let log = c.checked_ilog10.ensures in
    logarithm-digits c.args.n _ c.checked_ilog10.result c.unwrap_or.ensures log.none log.power_le log.next_power_gt log.bound
