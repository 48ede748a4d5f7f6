-- The measure is the number of levels left.
use Rattle.search.proofs.walk.+visit.Given as goal

abbrev pub decreases-visit : goal.decreases-visit
decreases-visit l = l.left
