-- The answer is found by the search, and the law is a lemma.
use Rattle.chart.proofs.Leading.{on_some_way_lem}
use Rattle.chart.proofs.way.is_on_a_least_way.Goals as goal

pub returns-in_default-clause-so : goal.returns-in_default-clause-so
returns-in_default-clause-so c = on_some_way_lem

pub returns-in_default-2-clause-so : goal.returns-in_default-2-clause-so
returns-in_default-2-clause-so c = on_some_way_lem

pub returns-then-cost-gt0-clause-so : goal.returns-then-cost-gt0-clause-so
returns-then-cost-gt0-clause-so c = on_some_way_lem

pub returns-else-cost-gt0-clause-so : goal.returns-else-cost-gt0-clause-so
returns-else-cost-gt0-clause-so c = on_some_way_lem
