use Rattle.std.proofs.Common.{◌≡◌, ℕ, below_more, refl, sym, ap, ◌∙◌}
use Rattle.hello.specs.State.{links_of}
use Rattle.linkmodel.specs.Links.{Links}
use Rattle.linkmodel.specs.Station.{Station as Whole}
use Rattle.ground.specs.Wires.{plug_at}
use Rattle.net.specs.Plays.{is_idle, whole_at}
use Rattle.net.proofs.Wholes.{whole_it}
use Rattle.net.proofs.laying.idle_end.Goals as goal
use Rattle.net.proofs.laying.idle_end.Goals.{After-links-links}

same_cost : (c : After-links-links) (w : ℕ) → (whole_at c.args.boxes.now c.args.a).links.cost w ≡ (links_of c.links-links.result).cost w
same_cost c w = ap (λ (l : Links). l.cost w) (sym (c.links-links.ensures ∙ ap (λ (s : Whole). s.links) (whole_it c.args.boxes.now c.args.a c.from.result c.index-boxes-from.result c.from.ensures c.requires c.index-boxes-from.is)))

pub returns-then-is_idle : goal.returns-then-is_idle
returns-then-is_idle c =
    (refl, c.loop-wire-test.true, ap (is_idle (plug_at c.args.ground.now c.args.a c.loop-wire.wire)) (same_cost (goal.at.returns-then-is_idle c).After-links-links c.loop-wire.wire) ∙ (sym c.is_idle.ensures ∙ c.if-is_idle.true), c.loop-wire.invariant)

pub loop-wire-preserved : goal.loop-wire-preserved
loop-wire-preserved c =
    below_more _ _ c.loop-wire.invariant (ap (is_idle (plug_at c.args.ground.now c.args.a c.loop-wire.wire)) (same_cost (goal.at.loop-wire-preserved c).After-links-links c.loop-wire.wire) ∙ (sym c.is_idle.ensures ∙ c.if-is_idle.false))
