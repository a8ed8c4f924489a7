-- `line::text::Text::decimal` meets its contract: the digits of the tenth and then the last one. The measure is the number.
-- Assumes nothing.
use Rattle.line.proofs.text.Text.+decimal.Given as goal

abbrev pub decreases-decimal : goal.decreases-decimal
decreases-decimal l = l.n
