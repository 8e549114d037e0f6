-- The answer is found by the search, and the law is a lemma.
use Rattle.chart.proofs.Taking.{reached}
use Rattle.chart.proofs.way.is_taken.Goals as goal

pub returns-then-is_on_a_least_way-clause-so : goal.returns-then-is_on_a_least_way-clause-so
returns-then-is_on_a_least_way-clause-so c = reached

pub returns-else-is_on_a_least_way-clause-so : goal.returns-else-is_on_a_least_way-clause-so
returns-else-is_on_a_least_way-clause-so c = reached
