-- The start, one turn, and both ways out: after the last turn, and when none is near.
use Rattle.std.proofs.Common.{set, replicate, ◌∙◌, arith, get_or-set_other, get_or-set_same}
use lib.ListN.{get_or-replicate}
use Rattle.ways.proofs.Keeps.{walk_begin, walk_on, walk_end, walk_fits, none_shut, all_shut_lem}
use Rattle.ways.proofs.walk.Goals as goal

pub near-init : goal.near-init
near-init c =
    walk_begin c.args.n c.args.me c.args.costs.now c.clear.new.dist c.clear.new.next (set (replicate 64 4294967295) c.args.me 0) c.begin.new.edge c.begin.new.next (omega arith) (omega arith)
    (record { dists = c.clear.ensures.dists; nexts = c.clear.ensures.nexts; edges = λ k l ne. get_or-set_other (replicate 64 4294967295) c.args.me k 0 0 ne ∙ get_or-replicate 64 k 4294967295 0 l; own = get_or-set_same (replicate 64 4294967295) c.args.me 0 0 (omega arith); long = omega arith; long_edge = c.type_inv.edge; begun = c.begin.ensures.begun; rest = c.begin.ensures.rest })

pub near-preserved : goal.near-preserved
near-preserved c =
    walk_on c.args.n c.args.me c.args.costs.now c.in-Some.v _ _ c.near.dist c.near.edge c.near.next _ _ c.relax.new.edge c.relax.new.next c.near._turn
    (omega arith) (omega arith) (omega arith) c.near.invariant
    c.in-Some.ensures.0 (c.in-Some.ensures.1, c.in-Some.ensures.2) c.in-Some.ensures.3
    (omega arith) (omega arith) c.settle-best.ensures.edges c.settle-best.ensures.dists c.type_inv.edge c.relax.ensures.after c.relax.ensures.rest

pub returns-after-near : goal.returns-after-near
returns-after-near c =
    walk_end c.args.n c.args.me c.args.costs.now c.near.dist c.near.edge c.near.next c.near._turn (omega arith) (omega arith) c.near.invariant
    (all_shut_lem c.args.n c.args.me c.args.costs.now c.near.dist c.near.edge c.near.next c.near._turn c.near.invariant (omega arith))

pub returns-in_default : goal.returns-in_default
returns-in_default c =
    walk_end c.args.n c.args.me c.args.costs.now c.near.dist c.near.edge c.near.next c.near._turn (omega arith) (omega arith) c.near.invariant
    (none_shut c.args.n c.args.costs.now c.near.edge
    (walk_fits c.args.n c.args.me c.args.costs.now c.near.dist c.near.edge c.near.next c.near._turn c.near.invariant (omega arith))
    c.in_default.ensures)
