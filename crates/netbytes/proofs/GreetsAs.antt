-- A hello that is read does what it does in the model: a refused one changes nothing.
use Rattle.std.proofs.Common.{◌≡◌, ℕ, Bool, true, false, cond, ◌&&◌, eqb, ltb, List, [], Some, None, Option, sym, refl, ap, ◌∙◌, ap₂, arith, lt-ltb}
use mathlib.Core.Path.{fun_ext}
use Rattle.std.proofs.lemmas.Bool.{eq-eqb}
use Rattle.hello.specs.State.{hears_refusal, reason_of}
use Rattle.hello.specs.declared.answers.Refusal.{Refusal as WireRefusal}
use Rattle.hello.specs.declared.answers.Refusal.TheVariants.{OutOfRange}
use Rattle.linkmodel.specs.Calls.{Joined}
use Rattle.linkmodel.specs.Links.{Hello, Links, greeted, hears_hello, hello_refusal, road_cost, wires}
use Rattle.linkmodel.specs.Relinked.{relinked}
use Rattle.linkmodel.specs.Station.{Greets, Station as Whole, heard_hello, relink_as}
use Rattle.node.specs.Hearing.{handled, unless_refused}
use Rattle.packets.specs.declared.error_quota.Quota.{Quota}
use Rattle.station.specs.State.{by_wires, of_wires, refusal_number}
use Rattle.netbytes.proofs.Refusing.{refused_so}
use Rattle.netbytes.specs.Arriving.{HandledAs, ShownOpen, wire_bytes}

-- a test that counts twice and fails
twice_fails : (b : Bool) → (b && (b && false)) ≡ false
twice_fails true = refl
twice_fails false = refl

-- the same links leave a box as it is
pub same_links : (s : Whole) → Joined s → ShownOpen s → relink_as s.links s ≡ s
same_links s j o =
    ap₂ (λ (c : ℕ → ℕ) (h : ℕ → ℕ → Bool). record { links = s.links; box = record { n = s.box.n; me = s.box.me; cost = c; word = s.box.word; shown = h } })
    (fun_ext (λ e. sym (j.roads e))) (fun_ext (λ e. fun_ext (λ i. go e i (s.box.shown e i) refl)))
  where
    go : (e i : ℕ) (b : Bool) → s.box.shown e i ≡ b → (relinked s.links s.links s.box).shown e i ≡ s.box.shown e i
    go e i true q =
        let r : ltb 0 (road_cost e s.links) ≡ true = lt-ltb 0 (road_cost e s.links) (omega (arith, o e i q, j.roads e)) in
        let l : eqb (s.links.last e) (s.links.last e) ≡ true = eq-eqb _ _ refl in
        rw (l, r, q) refl
    go e i false q =
        let l : eqb (s.links.last e) (s.links.last e) ≡ true = eq-eqb _ _ refl in
        rw (l, q) (twice_fails (ltb 0 (road_cost e s.links)))

-- a refused hello leaves the links as they are
hello_kept : (w : ℕ) (h : Hello) (s : Links) (e : WireRefusal) → hears_refusal w h s ≡ Some e → hears_hello w h s ≡ s
hello_kept w h s e q = go (ltb w wires) (ltb 0 (s.cost w)) q
  where
    by : (c : Bool) (r : Option WireRefusal) → cond c None r ≡ Some e → cond c (greeted w h s) s ≡ s
    by true r q = absurd cc
    by false r q = refl

    go : (a b : Bool) → cond a (cond b (reason_of (hello_refusal w h s)) None) (Some OutOfRange) ≡ Some e → cond (a && (b && eqb (hello_refusal w h s) 0)) (greeted w h s) s ≡ s
    go false b q = refl
    go true false q = refl
    go true true q = by (eqb (hello_refusal w h s) 0) _ q

-- a hello on wire w
pub greets_as : (h : Hello) (w : ℕ) (ts : List ℕ) (s : Whole) (q : Quota) → Joined s → ShownOpen s →
    HandledAs w (Greets h) ts s q (unless_refused (by_wires (hears_refusal w h s.links)) (handled (heard_hello w h s) [] q (wire_bytes (Greets h))) s q (wire_bytes (Greets h)))
greets_as h w ts s q j o = go (hears_refusal w h s.links) refl
  where
    f : List ℕ
    f = wire_bytes (Greets h)

    go : (r : Option WireRefusal) → hears_refusal w h s.links ≡ r → HandledAs w (Greets h) ts s q (unless_refused (by_wires r) (handled (heard_hello w h s) [] q f) s q f)
    go None e = record { whole = refl; gives = record { notes = []; is = refl }; errors = refl; left = refl; goes = refl }
    go (Some r) e = refused_so w (refusal_number (of_wires r)) (Greets h) ts s q (sym (ap (λ (l : Links). relink_as l s) (hello_kept w h s.links r e) ∙ same_links s j o)) refl
