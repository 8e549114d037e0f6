-- Settings that were written are read again, and a list of costs of which one is replaced is a row of which one is.
use Rattle.std.proofs.Common.{◌≡◌, ℕ, zero, suc, ◌^◌, ◌<◌, ◌≤◌, Bool, true, false, cond, eqb, ltb, List, [], length, Some, None, Ok, Option, Result, get_or, sym, refl, ap, ◌∙◌, subst, arith, ltb-true, ltb-false, lt-ltb, ne_eqb, eq-eqb}
use mathlib.Core.Path.{fun_ext}
use Rattle.std.proofs.lemmas.List.{take_all}
use lib.ListN.{get_or-eq_default}
use Rattle.frames.proofs.Lines.{front_put}
use Rattle.frames.proofs.Whole.{length_wires, settings_again_lem}
use Rattle.frames.specs.Ranges.{SettingsInRange}
use Rattle.frames.specs.Reading.{settings_in, value_in}
use Rattle.frames.specs.Writing.{bytes_of_settings}
use Rattle.messages.specs.Values.{at}
use Rattle.messages.specs.declared.values.Settings.{Settings}
use Rattle.model.specs.Flood.{row}
use Rattle.linkmodel.proofs.Bools.{and_both}
use Rattle.linkmodel.specs.Station.{Station as Whole, has_costs}
use Rattle.netmodel.specs.Net.{small_costs}
use Rattle.octets.specs.Writes.{Wrote}
use Rattle.octets.specs.declared.Fault.{Fault}
use Rattle.hello.specs.declared.answers.Refusal.TheVariants.{OutOfRange as NoSuch}
use Rattle.station.specs.State.{by_wires, rewire_refusal}
use Rattle.station.specs.declared.answers.Refusal.{Refusal as Reason}
use Rattle.node.specs.Giving.{if_refused, refused_gives}
use Rattle.node.specs.Handled.{TurnedBy}
use Rattle.node.specs.State.{whole_of}
use Rattle.node.specs.Turns.{settings_give, settings_leave}
use Rattle.node.specs.declared.state.Node.{Node}
use Rattle.net.specs.Plays.{costing}

-- they are in just as many bytes
pub written_so : (s : Settings) (r : Option ℕ) (before after : List ℕ) → length s.costs ≡ 8 → length before ≡ 19 → length after ≡ 19 → Wrote (bytes_of_settings s) before r after → after ≡ bytes_of_settings s
written_so s None before after l b a w = absurd (omega (arith, w.0, length_wires s.costs))
written_so s (Some k) before after l b a w = sym (take_all k after (omega (arith, w.0, length_wires s.costs))) ∙ front_put k (bytes_of_settings s) before after w.0 w.1

-- eight costs, of which one is new
pub one_cost : (xs ys : List ℕ) (v c : ℕ) → length xs ≡ 8 → length ys ≡ 8 → v < 8 → ((w : ℕ) → w < 8 → get_or ys w 0 ≡ row v c (at xs) w) → (w : ℕ) → at ys w ≡ row v c (at xs) w
one_cost xs ys v c lx ly lv h w = go (ltb w 8) refl
  where
    go : (b : Bool) → ltb w 8 ≡ b → at ys w ≡ row v c (at xs) w
    go true e = h w (ltb-true w 8 e)
    go false e =
        let far : 8 ≤ w = ltb-false w 8 e in
        get_or-eq_default ys 0 (omega arith) ∙ sym (ap (λ (b : Bool). cond b c (at xs w)) (ne_eqb w v (omega arith)) ∙ get_or-eq_default xs 0 (omega arith))

-- settings of the box itself, of which one cost is new, make that wire cost so and give nothing out
pub costs_turned : (bytes : List ℕ) (x : Settings) (w c : ℕ) (before after : Node) (given : List ℕ) → bytes ≡ bytes_of_settings x → SettingsInRange x → x.boxes ≡ (whole_of before).links.n → x.me ≡ (whole_of before).links.me → ((v : ℕ) → at x.costs v ≡ row w c (whole_of before).links.cost v) →
    TurnedBy (settings_leave (value_in (settings_in bytes)) (whole_of before)) (settings_give (value_in (settings_in bytes)) (whole_of before)) before after given → TurnedBy (costing w c (whole_of before)) [] before after given
costs_turned bytes x w c before after given is r p q h t =
    let e : value_in (settings_in bytes) ≡ Ok x = ap (λ (z : List ℕ). value_in (settings_in z)) is ∙ settings_again_lem x r in
    let s : Whole = whole_of before in
    let free : rewire_refusal x s ≡ None = ap (λ (z : Bool). by_wires (cond z None (Some NoSuch))) (and_both (eqb x.boxes s.links.n) (eqb x.me s.links.me) (eq-eqb x.boxes s.links.n p) (eq-eqb x.me s.links.me q)) in
    record {
      is =
          t.is ∙ ap (λ (z : Result Settings Fault). settings_leave z s) e
          ∙ ap (λ (z : Option Reason). if_refused z (λ r. s) (has_costs (at x.costs) s)) free
          ∙ ap (λ (f : ℕ → ℕ). has_costs f s) (fun_ext h);
      gives = t.gives ∙ ap (λ (z : Result Settings Fault). settings_give z s) e ∙ ap (λ (z : Option Reason). if_refused z (refused_gives s) []) free;
      errors = t.errors;
    }

-- costs of two bytes
small_below : (f : ℕ → ℕ) (k : ℕ) → ((v : ℕ) → v < k → f v < 2 ^ 16) → small_costs f k ≡ true
unfolding small_costs
small_below f zero h = refl
small_below f (suc k) h = and_both (small_costs f k) (ltb (f k) (2 ^ 16)) (small_below f k (λ v l. h v (omega arith))) (lt-ltb (f k) (2 ^ 16) (h k (omega arith)))

pub costs_small : (x : Settings) (f : ℕ → ℕ) → SettingsInRange x → ((v : ℕ) → at x.costs v ≡ f v) → small_costs f 8 ≡ true
costs_small x f i h = small_below f 8 (λ v l. subst (λ (z : ℕ). z < 2 ^ 16) (h v) (i.costs v l))
