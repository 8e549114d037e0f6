-- What a hello, new costs, a fall and a tick do to a whole box is what their events do.
use Rattle.std.proofs.Common.{◌≡◌, ℕ, zero, suc, Bool, false, cond, not, ◌&&◌, eqb, ltb, List, [], ◌∷◌, ◌++◌, sym, refl, ap, ◌∙◌, subst, append_assoc}
use Rattle.model.specs.Words.{World, Ev, Road, Says, Falls, is_in, at2, world}
use Rattle.model.specs.Box.{Box, Stands, says_now, forgets, must_say}
use Rattle.model.proofs.Tests.{of_cond, both_cond}
use Rattle.model.proofs.Sizes.{world_n}
use Rattle.model.proofs.Rows.{with_real, like_of, stands_of, like_says, like_falls}
use Rattle.model.proofs.BoxCode.{one_more}
use Rattle.linkmodel.specs.Links.{Links, road_cost, passes, fell, is_anew, road_events, relinks}
use Rattle.linkmodel.specs.Hellos.{Input, Passes, Hears, Rewires, Fell, meets}
use Rattle.linkmodel.specs.Relinked.{relinked}
use Rattle.linkmodel.specs.Station.{Station, can_say, relink_as, says_if_owed}
use Rattle.linkmodel.specs.Calls.{Joined, Does, HelloSo, CostsSo, FallsSo, TicksSo, expired, saying}
use Rattle.linkmodel.proofs.Sounds.{sound_meets, meets_same}
use Rattle.linkmodel.proofs.Relinks.{relink_input}

-- wires that met an input, and the roads that they then hold open
join : (i : Input) (s : Station) → Joined s → Joined (relink_as (meets i s.links) s)
join i s j = record {
  sound = sound_meets i s.links j.sound;
  count = (meets_same i s.links).0 ∙ j.count;
  number = (meets_same i s.links).1 ∙ j.number;
  roads = λ e. refl;
}

-- the events of an input, for a whole box
input_so : (i : Input) (s : Station) (es : List Ev) → Does s es (relinks s.links (meets i s.links) s.box.n) (relink_as (meets i s.links) s)
input_so i s es j st = (join i s j, relink_input s.links i s.box es j.sound j.count j.number j.roads st)

pub hello_so_lem : HelloSo
hello_so_lem s es w h = input_so (Hears w h) s es

pub costs_so_lem : CostsSo
costs_so_lem s es c = input_so (Rewires c) s es

-- a box that forgets has fallen
forgets_stands : (b : Box) (es : List Ev) → Stands b es → Stands (forgets b) (Falls b.me ∷ es)
forgets_stands b es st =
    (stands_of b.n b.me (forgets b) (Falls b.me ∷ es) st.is_one
    (one_more b.n b.me es (Falls b.me) (forgets b) (like_falls b.n b.me st.is_one (world b.n es) (world_n b.n es) b (like_of b.n b.me b es (refl, refl, st))))).2

pub falls_so_lem : FallsSo
falls_so_lem s es d j st =
    let r = input_so (Fell d) s es j st in (
      record { sound = r.0.sound; count = r.0.count; number = r.0.number; roads = r.0.roads },
      forgets_stands (relinked s.links (fell d s.links) s.box) (relinks s.links (fell d s.links) s.box.n ++ es) r.1,
    )

-- a box that says a word with a new tag
says_stands : (b : Box) (es : List Ev) (t : ℕ) → is_in t (world b.n es).drawn ≡ false → Stands b es → Stands (says_now t b) (Says b.me t ∷ es)
says_stands b es t f st =
    (stands_of b.n b.me (says_now t b) (Says b.me t ∷ es) st.is_one
    (one_more b.n b.me es (Says b.me t) (says_now t b) (like_says b.n b.me st.is_one (world b.n es) (world_n b.n es) b t f (like_of b.n b.me b es (refl, refl, st))))).2

-- roads draw no tags
road_drawn : (n a e c : ℕ) (es : List Ev) → (world n (Road a e c ∷ es)).drawn ≡ (world n es).drawn
unfolding world
road_drawn n a e c es = of_cond (λ (u : World). u.drawn ≡ (world n es).drawn) (ltb a (world n es).n && (ltb e (world n es).n && not (eqb a e))) (with_real (at2 a e c (world n es).real) (world n es)) (world n es) (λ _. refl) (λ _. refl)

events_drawn : (before after : Links) (n e : ℕ) (es : List Ev) → (world n (road_events before after e ++ es)).drawn ≡ (world n es).drawn
events_drawn before after n e es =
    of_cond (λ (l : List Ev). (world n (l ++ es)).drawn ≡ (world n es).drawn) (is_anew before after e && (ltb 0 (road_cost e before) && ltb 0 (road_cost e after)))
    (Road after.me e (road_cost e after) ∷ Road after.me e 0 ∷ []) (cond (eqb (road_cost e before) (road_cost e after)) [] (Road after.me e (road_cost e after) ∷ []))
    (λ _. road_drawn n after.me e (road_cost e after) (Road after.me e 0 ∷ es) ∙ road_drawn n after.me e 0 es)
    (λ _. of_cond (λ (l : List Ev). (world n (l ++ es)).drawn ≡ (world n es).drawn) (eqb (road_cost e before) (road_cost e after)) [] (Road after.me e (road_cost e after) ∷ [])
    (λ _. refl) (λ _. road_drawn n after.me e (road_cost e after) es))

relinks_drawn : (before after : Links) (n k : ℕ) (es : List Ev) → (world n (relinks before after k ++ es)).drawn ≡ (world n es).drawn
unfolding relinks
relinks_drawn before after n zero es = refl
relinks_drawn before after n (suc k) es =
    ap (λ (l : List Ev). (world n l).drawn) (append_assoc (road_events before after k) (relinks before after k) es)
    ∙ (events_drawn before after n k (relinks before after k ++ es) ∙ relinks_drawn before after n k es)

pub ticks_so_lem : TicksSo
ticks_so_lem s es t f j st =
    let b : Box = expired s in
    let r = input_so Passes s es j st in
    let fs : List Ev = relinks s.links (passes s.links) s.box.n in
    let new : is_in t (world s.box.n (fs ++ es)).drawn ≡ false = ap (is_in t) (relinks_drawn s.links (passes s.links) s.box.n s.box.n es) ∙ f in
    let c : Bool = must_say b && can_say (b.word b.me).number in (
      of_cond (λ (x : Box). Joined (record { links = passes s.links; box = x })) c (says_now t b) b
          (λ _. record { sound = r.0.sound; count = r.0.count; number = r.0.number; roads = r.0.roads }) (λ _. r.0),
      subst (Stands (says_if_owed t b)) (sym (append_assoc (saying t b) fs es))
          (both_cond (λ (l : List Ev) (x : Box). Stands x (l ++ (fs ++ es))) c c (Says b.me t ∷ []) [] (says_now t b) b refl
          (λ _. says_stands b (fs ++ es) t new r.1) (λ _. r.1)),
    )
