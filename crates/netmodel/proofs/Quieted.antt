-- A box along whose open roads all is shown sends only hellos at its tick.
use Rattle.std.proofs.Common.{◌≡◌, ℕ, zero, suc, Bool, true, false, cond, ◌&&◌, ltb, List, [], ◌∷◌, ◌++◌, Some, None, Option, refl, ap}
use Rattle.model.proofs.Tests.{of_cond}
use Rattle.linkmodel.proofs.Bools.{and_both}
use Rattle.linkmodel.specs.Links.{Links, wires, passes, hello_for, sends_hello}
use Rattle.linkmodel.specs.Station.{Frame, Greets, Out, ticks, hellos_on, tick_out}
use Rattle.linkmodel.specs.Telling.{is_hello}
use Rattle.linkmodel.proofs.Fitting.{Every}
use Rattle.linkmodel.proofs.Outgoing.{every_append}
use Rattle.linkmodel.proofs.Quieting.{quiet_tick_lem}
use Rattle.netmodel.specs.Net.{Plug, Sent, Net, sent_over, sent_by, becomes, is_fresh, net}
use Rattle.netmodel.specs.Quiet.{all_hellos, QuietNet}
use Rattle.netmodel.proofs.Placing.{placed_in_run}

hellos_only : (s : Links) (k : ℕ) → Every (λ (o : Out). is_hello o.frame ≡ true) (hellos_on s k)
unfolding hellos_on
hellos_only s zero = tt
hellos_only s (suc k) =
    every_append (λ (o : Out). is_hello o.frame ≡ true) (hellos_on s k) (cond (sends_hello k s) (record { on = k; frame = Greets (hello_for k s) } ∷ []) []) (hellos_only s k)
    (of_cond (Every (λ (o : Out). is_hello o.frame ≡ true)) (sends_hello k s) (record { on = k; frame = Greets (hello_for k s) } ∷ []) [] (λ _. (refl, tt)) (λ _. tt))

sent_more : (fs gs : List Sent) → all_hellos fs ≡ true → all_hellos gs ≡ true → all_hellos (fs ++ gs) ≡ true
unfolding all_hellos
sent_more [] gs p q = q
sent_more (f ∷ fs) gs p q = go (is_hello f.frame) p (λ z. sent_more fs gs z q)
  where
    go : (b : Bool) → (b && all_hellos fs) ≡ true → (all_hellos fs ≡ true → all_hellos (fs ++ gs) ≡ true) → (b && all_hellos (fs ++ gs)) ≡ true
    go true z ih = ih z
    go false z ih = z

-- hellos stay hellos when they are sent, and on a wire that is joined to nothing there is none
over_hellos : (a w : ℕ) (f : Frame) (q : Option Plug) → is_hello f ≡ true → all_hellos (sent_over a w f q) ≡ true
unfolding all_hellos
over_hellos a w f None h = refl
over_hellos a w f (Some p) h = and_both (is_hello f) true h refl

sent_hellos : (a : ℕ) (j : ℕ → Option Plug) (os : List Out) → Every (λ (o : Out). is_hello o.frame ≡ true) os → all_hellos (sent_by a j os) ≡ true
unfolding sent_by all_hellos
sent_hellos a j [] h = refl
sent_hellos a j (o ∷ os) h = sent_more (sent_by a j os) (sent_over a o.on o.frame (j o.on)) (sent_hellos a j os h.1) (over_hellos a o.on o.frame (j o.on) h.0)

-- only hellos go out at a tick of such a box
pub quiet_net : QuietNet
unfolding net all_hellos
quiet_net n first ms a t q m =
    of_cond (λ (y : Net). (news : List Sent) × (y.sent ≡ news ++ x.sent) × (all_hellos news ≡ true)) (ltb a n && is_fresh t x.tags) (becomes a (ticks t (x.at a)) (tick_out (ticks t (x.at a))) (t ∷ []) x) x
    (λ _. (
      sent_by a (x.joined a) (hellos_on (passes (x.at a).links) wires),
      ap (λ (l : List Out). sent_by a (x.joined a) l ++ x.sent) (quiet_tick_lem (x.at a) t (placed_in_run n first ms a).joined.sound q m),
      sent_hellos a (x.joined a) (hellos_on (passes (x.at a).links) wires) (hellos_only (passes (x.at a).links) wires),
    ))
    (λ _. ([], refl, refl))
  where
    x : Net
    x = net n first ms
