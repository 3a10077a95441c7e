-- Each call passes the higher digits alone, a smaller number.
use Rattle.text.proofs.decimal.+digits.Given as goal

abbrev pub decreases-digits : goal.decreases-digits
decreases-digits l = l.n
