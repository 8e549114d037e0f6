-- All roads of a whole box change as its wires do, and wires and roads stay joined.
use Rattle.std.proofs.Common.{◌≡◌, ℕ, ◌^◌, ◌<◌, ◌≤◌, Bool, true, false, cond, not, ◌&&◌, eqb, ltb, sym, refl, ap, ◌∙◌, subst, add-one, arith, ltb-false, ltb-true, eqb-true}
use mathlib.Core.Bool.{and-false}
use Rattle.model.specs.Box.{Box, begun, forgets, must_say, says_now}
use Rattle.model.proofs.Tests.{of_cond}
use Rattle.telling.specs.Telling.{ticked_if}
use Rattle.router.specs.State.{has_room, road_to, relink_to, still_shown}
use Rattle.router.proofs.AllRoads.{road_past, shut_shows}
use Rattle.router.proofs.SameBox.{same_box}
use Rattle.linkmodel.specs.Links.{Links, fell, fresh, lowest_to, road_cost}
use Rattle.linkmodel.specs.Relinked.{Sound, relinked}
use Rattle.linkmodel.specs.Station.{Station, can_say, falls, relink_as, says_if_owed, station, with_box}
use Rattle.linkmodel.specs.Calls.{Joined}
use Rattle.linkmodel.specs.Hellos.{Input, meets}
use Rattle.linkmodel.proofs.Sounds.{meets_same, sound_fell, sound_fresh, sound_meets}
use Rattle.linkmodel.proofs.Relinks.{road_self, road_beyond}

not_not : (b : Bool) → not (not b) ≡ b
not_not true = refl
not_not false = refl

-- roads by the wires lead only to other boxes
road_is_lem : (c : ℕ → ℕ) (after : Links) (b : Box) → Sound after → after.n ≡ b.n → after.me ≡ b.me → b.n ≤ 64 → ((e : ℕ) → e < 64 → c e ≡ road_cost e after) → (e : ℕ) → road_to c b e ≡ road_cost e after
road_is_lem c after b k n me few h e = go (ltb e b.n) refl (eqb e b.me) refl
  where
    go : (x : Bool) → ltb e b.n ≡ x → (y : Bool) → eqb e b.me ≡ y → cond (ltb e b.n && not (eqb e b.me)) (c e) 0 ≡ road_cost e after
    go true p true q =
        ap (λ (z : Bool). cond (ltb e b.n && not z) (c e) 0) q ∙ ap (λ (z : Bool). cond (z && false) (c e) 0) p
        ∙ sym (ap (λ (z : ℕ). road_cost z after) (eqb-true e b.me q ∙ sym me) ∙ road_self after k)
    go true p false q =
        let l : e < b.n = ltb-true e b.n p in
        ap (λ (z : Bool). cond (ltb e b.n && not z) (c e) 0) q ∙ ap (λ (z : Bool). cond (z && true) (c e) 0) p ∙ h e (omega arith)
    go false p y q = let l : b.n ≤ e = ltb-false e b.n p in road_past c b e l ∙ sym (road_beyond after e k (rw n l))

-- nothing is shown where the road is closed now
dark : (x y z : Bool) (k : ℕ) → k ≡ 0 → (x && (y && (ltb 0 k && z))) ≡ false
dark x y z k h = ap (λ (c : ℕ). x && (y && (ltb 0 c && z))) h ∙ ap (λ b. x && b) (and-false y) ∙ and-false x

module _ (s : Station) (after : Links) (c : ℕ → ℕ) (anew : ℕ → Bool) (j : Joined s) (k : Sound after) (n : after.n ≡ s.links.n) (me : after.me ≡ s.links.me) (few : s.box.n ≤ 64)
    (roads : (e : ℕ) → e < 64 → c e ≡ road_cost e after) (news : (e : ℕ) → e < 64 → anew e ≡ not (eqb (s.links.last e) (after.last e))) where
  costs : (e : ℕ) → road_to c s.box e ≡ road_cost e after
  costs = road_is_lem c after s.box k (n ∙ j.count) (me ∙ j.number) few roads

  shows : (e i : ℕ) → still_shown (road_to c s.box) anew s.box e i ≡ (relinked s.links after s.box).shown e i
  shows e i = go (ltb e 64) refl
    where
      go : (x : Bool) → ltb e 64 ≡ x → still_shown (road_to c s.box) anew s.box e i ≡ (relinked s.links after s.box).shown e i
      go true q =
          ap (λ (b : Bool). not b && (ltb 0 (s.box.cost e) && (ltb 0 (road_to c s.box e) && s.box.shown e i))) (news e (ltb-true e 64 q))
          ∙ ap (λ (b : Bool). b && (ltb 0 (s.box.cost e) && (ltb 0 (road_to c s.box e) && s.box.shown e i))) (not_not (eqb (s.links.last e) (after.last e)))
          ∙ ap (λ (x : ℕ). eqb (s.links.last e) (after.last e) && (ltb 0 x && (ltb 0 (road_to c s.box e) && s.box.shown e i))) (j.roads e)
          ∙ ap (λ (x : ℕ). eqb (s.links.last e) (after.last e) && (ltb 0 (road_cost e s.links) && (ltb 0 x && s.box.shown e i))) (costs e)
      go false q =
          let past : 64 ≤ e = ltb-false e 64 q in
          let none : road_to c s.box e ≡ 0 = road_past c s.box e (omega arith) in
          shut_shows (road_to c s.box) anew s.box e i none
          ∙ sym (dark (eqb (s.links.last e) (after.last e)) (ltb 0 (road_cost e s.links)) (s.box.shown e i) (road_cost e after) (sym (costs e) ∙ none))

  pub relink_is : relink_to c anew s.box ≡ relinked s.links after s.box
  relink_is = same_box refl refl costs (λ i. refl) shows

pub joined_relinked : (s : Station) (after : Links) → Joined s → Sound after → after.n ≡ s.links.n → after.me ≡ s.links.me → Joined (relink_as after s)
joined_relinked s after j k n me = record { sound = k; count = n ∙ j.count; number = me ∙ j.number; roads = λ e. refl }

-- no road at first, and none after a fall
fresh_road : (n me d e : ℕ) → road_cost e (fresh n me d) ≡ 0
unfolding lowest_to
fresh_road n me d e = refl

fell_road : (d : ℕ) (s : Links) (e : ℕ) → road_cost e (fell d s) ≡ 0
unfolding lowest_to
fell_road d s e = refl

pub joined_new : (n me d : ℕ) → Joined (station n me d)
joined_new n me d = record { sound = sound_fresh n me d; count = refl; number = refl; roads = λ e. sym (fresh_road n me d e) }

pub joined_fell : (d : ℕ) (s : Station) → Joined s → Joined (falls d s)
joined_fell d s j = record { sound = sound_fell d s.links; count = j.count; number = j.number; roads = λ e. refl }

-- a box that fell is as new
pub fell_box : (d : ℕ) (s : Station) → forgets (relinked s.links (fell d s.links) s.box) ≡ begun s.box.n s.box.me
fell_box d s = same_box refl refl (fell_road d s.links) (λ i. refl) (λ e i. refl)

-- two whole boxes are the same if their wires and words are
pub same_station : {s t : Station} → s.links ≡ t.links → s.box ≡ t.box → s ≡ t
same_station a b = λ k. record { links = a k; box = b k }

-- what comes to the wires leaves them sound, and those of the same box
pub still_sound : (i : Input) (s after : Links) → Sound s → after ≡ meets i s → Sound after × ((after.n ≡ s.n) × (after.me ≡ s.me))
still_sound i s after k e = (subst Sound (sym e) (sound_meets i s k), (ap (λ (x : Links). x.n) e ∙ (meets_same i s).0, ap (λ (x : Links). x.me) e ∙ (meets_same i s).1))

-- room for the next count, as the calls of a box have it
room_lem : (b : Box) → has_room b ≡ can_say (b.word b.me).number
room_lem b = ap (λ (k : ℕ). ltb k (2 ^ 63)) (add-one (b.word b.me).number)

pub owed_lem : (t : ℕ) (b : Box) → ticked_if t b ≡ says_if_owed t b
owed_lem t b = ap (λ (r : Bool). cond (must_say b && r) (says_now t b) b) (room_lem b)

-- what a box says changes no road
pub joined_said : (t : ℕ) (s : Station) → Joined s → Joined (with_box (says_if_owed t s.box) s)
joined_said t s j =
    of_cond (λ (b : Box). Joined (with_box b s)) (must_say s.box && can_say (s.box.word s.box.me).number) (says_now t s.box) s.box
    (λ _. record { sound = j.sound; count = j.count; number = j.number; roads = j.roads }) (λ _. j)
