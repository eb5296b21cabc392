-- The measure is the number.
use Rattle.text_out.proofs.Text.+decimal.Given as goal

abbrev pub decreases-decimal : goal.decreases-decimal
decreases-decimal l = l.n
