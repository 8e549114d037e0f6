-- Wires of a net that are laid and taken away: the run goes on.
use Rattle.std.proofs.Common.{◌≡◌, ℕ, ◌+◌, ◌<◌, true, List, ◌∷◌, length, Some, None, Option, sym, refl, ap, ◌∙◌, subst, eqb-true}
use Rattle.model.proofs.Tests.{true_not_false}
use Rattle.model.specs.Words.{at2}
use Rattle.linkmodel.specs.Links.{wires}
use Rattle.netmodel.specs.Net.{Lays, Move, Plug, Takes}
use Rattle.netbytes.proofs.Played.{plays_as}
use Rattle.netbytes.proofs.Wired.{plays_lay, plays_take, plays_take_none}
use Rattle.node.specs.declared.state.Node.{Node}
use Rattle.ground.specs.Wires.{Laid, Parted, drawn_of, laid_of, parted, plug_at}
use Rattle.ground.specs.declared.ends.End.{End}
use Rattle.ground.specs.declared.state.Ground.{Ground}
use Rattle.net.specs.Plays.{LaysBetween, Plays, idle_at, is_idle, whole_at}

-- an idle wire is joined to nothing, and has no cost
idle_so : (o : Option Plug) (c : ℕ) → is_idle o c ≡ true → (o ≡ None) × (c ≡ 0)
idle_so None c h = (refl, eqb-true c 0 h)
idle_so (Some p) c h = true_not_false _ refl (sym h)

-- a wire is laid between two idle ends
lays_at : (a w e v : ℕ) (boxes : List Node) (g h : Ground) → Laid a w e v g h → a < length boxes → e < length boxes → (a ≡ e → ⊥) → w < wires → v < wires → idle_at boxes g a w ≡ true → idle_at boxes g e v ≡ true →
    (first : ℕ → ℕ) (ms : List Move) → Plays first ms boxes g → Plays first (Lays a w e v ∷ ms) boxes h
lays_at a w e v boxes g h k la le ne lw lv ia ie first ms p =
    let one = idle_so (plug_at g a w) ((whole_at boxes a).links.cost w) ia in
    let other = idle_so (plug_at g e v) ((whole_at boxes e).links.cost v) ie in
    plays_as (length boxes) first (Lays a w e v ∷ ms) (whole_at boxes) (whole_at boxes) (at2 a w (Some (record { at = e; on = v; laid = laid_of g })) (at2 e v (Some (record { at = a; on = w; laid = laid_of g })) (plug_at g))) (plug_at h)
    (laid_of g + 1) (laid_of h) (drawn_of g) (drawn_of h)
    (plays_lay (length boxes) first ms (whole_at boxes) (plug_at g) (laid_of g) (drawn_of g) a w e v p la le ne lw lv one.0 other.0 one.1 other.1) (λ b _. refl) k.joined k.counts.laid k.counts.drawn

-- so one is, between the lowest of two boxes
pub lays_so : (a e : ℕ) (boxes : List Node) (g h : Ground) (ends : End × End) → LaysBetween a e boxes g h ends → a < length boxes → e < length boxes →
    (first : ℕ → ℕ) (ms : List Move) → Plays first ms boxes g → Plays first (Lays ends.0.at ends.0.wire ends.1.at ends.1.wire ∷ ms) boxes h
lays_so a e boxes g h ends k la le =
    lays_at ends.0.at ends.0.wire ends.1.at ends.1.wire boxes g h k.laid (subst (λ (z : ℕ). z < length boxes) (sym k.one.0) la) (subst (λ (z : ℕ). z < length boxes) (sym k.other.0) le)
    (λ q. k.apart (sym k.one.0 ∙ (q ∙ k.other.0))) k.one.1 k.other.1 (subst (λ (z : ℕ). idle_at boxes g z ends.0.wire ≡ true) (sym k.one.0) k.one.2) (subst (λ (z : ℕ). idle_at boxes g z ends.1.wire ≡ true) (sym k.other.0) k.other.2)

-- and one is taken away, or none is there
pub takes_so : (a w : ℕ) (g h : Ground) → Parted a w g h → (first : ℕ → ℕ) (ms : List Move) (boxes : List Node) → Plays first ms boxes g → Plays first (Takes a w ∷ ms) boxes h
takes_so a w g h k first ms boxes p = go (plug_at g a w) refl
  where
    -- the other end, if there is one
    go : (o : Option Plug) → plug_at g a w ≡ o → Plays first (Takes a w ∷ ms) boxes h
    go None e =
        plays_as (length boxes) first (Takes a w ∷ ms) (whole_at boxes) (whole_at boxes) (plug_at g) (plug_at h) (laid_of g) (laid_of h) (drawn_of g) (drawn_of h)
        (plays_take_none (length boxes) first ms (whole_at boxes) (plug_at g) (laid_of g) (drawn_of g) a w p e) (λ b _. refl)
        (λ b u. k.joined b u ∙ ap (λ (z : Option Plug). parted None a w z (plug_at g) b u) e) k.counts.laid k.counts.drawn
    go (Some q) e =
        plays_as (length boxes) first (Takes a w ∷ ms) (whole_at boxes) (whole_at boxes) (at2 a w None (at2 q.at q.on None (plug_at g))) (plug_at h) (laid_of g) (laid_of h) (drawn_of g) (drawn_of h)
        (plays_take (length boxes) first ms (whole_at boxes) (plug_at g) (laid_of g) (drawn_of g) a w q p e) (λ b _. refl)
        (λ b u. k.joined b u ∙ ap (λ (z : Option Plug). parted None a w z (plug_at g) b u) e) k.counts.laid k.counts.drawn
