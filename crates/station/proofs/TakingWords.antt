-- A packet of words, one after the other.
use Rattle.std.proofs.Common.{◌≡◌, ℕ, zero, suc, ◌+◌, ◌-◌, ◌^◌, ◌<◌, ◌≤◌, Bool, true, false, cond, not, ◌||◌, eqb, ltb, leb, ◌≢◌, List, [], ◌∷◌, length, get_or, map, take, drop, set, Some, None, Option, sym, refl, ap, ◌∙◌, subst, arith, length-set, get_or-set_other, get_or-set_same, below_more, ltb-false, ltb-true}
use Rattle.messages.specs.Values.{ids_of}
use Rattle.messages.specs.declared.values.Word.{Word}
use Rattle.messages.specs.declared.values.WordId.{WordId}
use Rattle.model.specs.Box.{Box, has, is_new_to, own_word, takes}
use Rattle.model.proofs.Tests.{of_cond}
use Rattle.router.specs.State.{id_refusal}
use Rattle.router.specs.declared.answers.Outcome.{Outcome}
use Rattle.router.specs.declared.answers.Refusal.TheVariants.{OutOfRange, NoRoad, CountSpent}
use Rattle.linkmodel.specs.Station.{Item, Station, is_stuck, marks_item, takes_all, takes_item, told_word, with_box}
use Rattle.linkmodel.specs.Calls.{Joined}
use Rattle.station.specs.Packets.{AllGood, any_in, first_in, is_out, is_spent, no_id}
use Rattle.station.specs.Ticking.{item_of, words_in}
use Rattle.station.specs.Hearing.{outcome_if, outcomes_in}
use Rattle.station.proofs.Scans.{NonePass, next_item, none_later, none_left, none_told}
use Rattle.station.proofs.Seeing.{SameRoads}

abbrev pub any_word : Word
any_word = record { id = no_id; costs = [] }

-- no road changes
pub taken_roads : (e : ℕ) (x : Item) (t : ℕ) (b : Box) → SameRoads b (takes_item e x t b)
taken_roads e x t b =
    of_cond (SameRoads b) (is_stuck (told_word e b.me x) b) b (takes (told_word e b.me x) t b) (λ _. same)
    (λ _. of_cond (SameRoads b) (is_new_to (told_word e b.me x) b) (has x.about (cond (eqb b.me x.about) (own_word x.entry.number t b) x.entry) b) b
    (λ _. record { boxes = refl; self = refl; roads = λ i. refl }) (λ _. same))
  where
    same : SameRoads b b
    same = record { boxes = refl; self = refl; roads = λ i. refl }

pub marked_roads : (fits : Bool) (e : ℕ) (x : Item) (a b : Box) → SameRoads a b → SameRoads a (marks_item fits e x b)
marked_roads true e x a b h = record { boxes = h.boxes; self = h.self; roads = h.roads }
marked_roads false e x a b h = h

pub roads_on : (a b c : Box) → SameRoads a b → SameRoads b c → SameRoads a c
roads_on a b c p q = record { boxes = q.boxes ∙ p.boxes; self = q.self ∙ p.self; roads = λ e. q.roads e ∙ p.roads e }

pub all_roads : (fits : Bool) (e : ℕ) (xs : List Item) (ts : List ℕ) (b : Box) → SameRoads b (takes_all fits e xs ts b)
unfolding takes_all
all_roads fits e [] ts b = record { boxes = refl; self = refl; roads = λ i. refl }
all_roads fits e (x ∷ xs) [] b = record { boxes = refl; self = refl; roads = λ i. refl }
all_roads fits e (x ∷ xs) (t ∷ ts) b =
    let u = marks_item fits e x (takes_item e x t b) in
    roads_on b u (takes_all fits e xs ts u) (marked_roads fits e x b (takes_item e x t b) (taken_roads e x t b)) (all_roads fits e xs ts u)

-- and wires and roads stay joined
pub joined_roads : (s : Station) (b : Box) → Joined s → SameRoads s.box b → Joined (with_box b s)
joined_roads s b j r = record { sound = j.sound; count = j.count ∙ sym r.boxes; number = j.number ∙ sym r.self; roads = λ e. r.roads e ∙ j.roads e }

-- so that numbers are refused as before
pub id_same : (from : ℕ) (x : WordId) (a b : Box) → SameRoads a b → id_refusal from x b ≡ id_refusal from x a
id_same from x a b r =
    ap (λ (n : ℕ). cond (not (ltb from n) || (not (ltb x.about n) || eqb x.count 0)) (Some OutOfRange) (cond (not (ltb 0 (b.cost from))) (Some NoRoad) (cond (leb (2 ^ 63) x.count) (Some CountSpent) None))) r.boxes
    ∙ ap (λ (c : ℕ). cond (not (ltb from a.n) || (not (ltb x.about a.n) || eqb x.count 0)) (Some OutOfRange) (cond (not (ltb 0 c)) (Some NoRoad) (cond (leb (2 ^ 63) x.count) (Some CountSpent) None))) (r.roads from)

-- the box after one word
abbrev pub after_one : Bool → ℕ → Word → ℕ → Box → Box
after_one fits e x t b = marks_item fits e (item_of x) (takes_item e (item_of x) t b)

-- what is left to take, from word k on, and what becomes of it
abbrev pub takes_from : Bool → ℕ → ℕ → List Word → List ℕ → Box → Box
takes_from fits e k ws ts b = takes_all fits e (map item_of (drop k ws)) (drop k ts) b

abbrev pub outcomes : Bool → ℕ → List Word → List ℕ → Box → List (Option Outcome)
outcomes fits e ws ts b = outcomes_in fits e (length ws) ws ts b

take_step : (fits : Bool) (e k : ℕ) (ws : List Word) (ts : List ℕ) (b : Box) → k < length ws → k < length ts →
    takes_from fits e k ws ts b ≡ takes_from fits e (k + 1) ws ts (after_one fits e (get_or ws k any_word) (get_or ts k 0) b)
unfolding takes_all
take_step fits e k ws ts b h l =
    ap (λ (ys : List Word). takes_all fits e (map item_of ys) (drop k ts) b) (next_item any_word ws k h)
    ∙ ap (λ (us : List ℕ). takes_all fits e (item_of (get_or ws k any_word) ∷ map item_of (drop (k + 1) ws)) us b) (next_item 0 ts k l)

take_end : (fits : Bool) (e k : ℕ) (ws : List Word) (ts : List ℕ) (b : Box) → length ws ≤ k → takes_from fits e k ws ts b ≡ b
unfolding takes_all
take_end fits e k ws ts b h = ap (λ (ys : List Word). takes_all fits e (map item_of ys) (drop k ts) b) (none_left ws k h)

outcome_step : (fits : Bool) (e k : ℕ) (ws : List Word) (ts : List ℕ) (b : Box) → k < length ws → k < length ts →
    outcomes fits e (drop k ws) (drop k ts) b ≡ outcome_if e (get_or ws k any_word) b ∷ outcomes fits e (drop (k + 1) ws) (drop (k + 1) ts) (after_one fits e (get_or ws k any_word) (get_or ts k 0) b)
unfolding outcomes_in
outcome_step fits e k ws ts b h l =
    ap (λ (ys : List Word). outcomes fits e ys (drop k ts) b) (next_item any_word ws k h)
    ∙ ap (λ (us : List ℕ). outcomes fits e (get_or ws k any_word ∷ drop (k + 1) ws) us b) (next_item 0 ts k l)

outcome_end : (fits : Bool) (e k : ℕ) (ws : List Word) (ts : List ℕ) (b : Box) → length ws ≤ k → outcomes fits e (drop k ws) (drop k ts) b ≡ []
unfolding outcomes_in
outcome_end fits e k ws ts b h = ap (λ (ys : List Word). outcomes fits e ys (drop k ts) b) (none_left ws k h)

-- the first n words are those of their slice, which need no tags but the first n
pub takes_told : (fits : Bool) (e n : ℕ) (xs : List Word) (ts : List ℕ) (b : Box) → takes_all fits e (words_in n xs) (take n ts) b ≡ takes_all fits e (map item_of (take n xs)) ts b
unfolding first_in takes_all
takes_told fits e zero xs ts b = refl
takes_told fits e (suc n) [] ts b = refl
takes_told fits e (suc n) (x ∷ xs) [] b = refl
takes_told fits e (suc n) (x ∷ xs) (t ∷ ts) b = takes_told fits e n xs ts (after_one fits e x t b)

pub outcomes_told : (fits : Bool) (e n : ℕ) (xs : List Word) (ts : List ℕ) (b : Box) → outcomes_in fits e n xs ts b ≡ outcomes fits e (take n xs) ts b
unfolding outcomes_in
outcomes_told fits e zero xs ts b = refl
outcomes_told fits e (suc n) [] ts b = refl
outcomes_told fits e (suc n) (x ∷ xs) [] b = refl
outcomes_told fits e (suc n) (x ∷ xs) (t ∷ ts) b = ap (λ (os : List (Option Outcome)). outcome_if e x b ∷ os) (outcomes_told fits e n xs ts (after_one fits e x t b))

-- the numbers of these words are in range, and can be said
abbrev pub GoodWords : ℕ → List Word → Type 0
GoodWords n ws = NonePass (λ x. is_out n x.id) ws × NonePass (λ x. is_spent x.id) ws

pub good_told : (n k : ℕ) (xs : List Word) → AllGood n k (ids_of xs) → GoodWords n (take k xs)
good_told n k xs g = (told (is_out n) g.0, told is_spent g.1)
  where
    told : (f : WordId → Bool) → any_in f k (ids_of xs) ≡ false → NonePass (λ (x : Word). f x.id) (take k xs)
    told f e = none_told f k xs e

-- those below k are heard, which led from a to b: what is left leads on to the same
pub record HeardTo (fits : Bool) (e : ℕ) (ws : List Word) (ts : List ℕ) (a : Box) (k : ℕ) (b : Box) (os : List (Option Outcome)) : Type 0 where
  pub leads : takes_all fits e (map item_of ws) ts a ≡ takes_from fits e k ws ts b
  pub same : SameRoads a b
  pub good : GoodWords a.n (drop k ws)
  pub room : length os ≡ 4
  pub done : (j : ℕ) → j < k → get_or os j None ≡ get_or (outcomes fits e ws ts a) j None
  pub none : (j : ℕ) → k ≤ j → get_or os j None ≡ None
  pub later : (j : ℕ) → get_or (outcomes fits e ws ts a) (k + j) None ≡ get_or (outcomes fits e (drop k ws) (drop k ts) b) j None

module _ (fits : Bool) (e : ℕ) (ws : List Word) (ts : List ℕ) (a : Box) where
  pub heard_none : (os : List (Option Outcome)) → length os ≡ 4 → ((j : ℕ) → get_or os j None ≡ None) → GoodWords a.n ws → HeardTo fits e ws ts a 0 a os
  heard_none os l h g = record {
    leads = refl;
    same = record { boxes = refl; self = refl; roads = λ i. refl };
    good = g;
    room = l;
    done = λ j q. absurd (omega arith);
    none = λ j q. h j;
    later = λ j. let y : 0 + j ≡ j = omega arith in ap (λ (i : ℕ). get_or (outcomes fits e ws ts a) i None) y;
  }

  pub heard_more : (k : ℕ) (b c : Box) (os : List (Option Outcome)) (o : Option Outcome) → k < 4 → k < length ws → k < length ts → HeardTo fits e ws ts a k b os →
      c ≡ after_one fits e (get_or ws k any_word) (get_or ts k 0) b → o ≡ outcome_if e (get_or ws k any_word) b → HeardTo fits e ws ts a (k + 1) c (set os k o)
  heard_more k b c os o few lt m h p q =
      let x = get_or ws k any_word in
      let u = after_one fits e x (get_or ts k 0) b in
      let all = outcomes fits e ws ts a in
      let step = outcome_step fits e k ws ts b lt m in
      record {
        leads = h.leads ∙ take_step fits e k ws ts b lt m ∙ ap (λ (v : Box). takes_from fits e (k + 1) ws ts v) (sym p);
        same = subst (SameRoads a) (sym p) (roads_on a b u h.same (marked_roads fits e (item_of x) b (takes_item e (item_of x) (get_or ts k 0) b) (taken_roads e (item_of x) (get_or ts k 0) b)));
        good = (none_later (λ y. is_out a.n y.id) any_word ws k lt h.good.0, none_later (λ y. is_spent y.id) any_word ws k lt h.good.1);
        room = length-set os k o ∙ h.room;
        done = below_more _ _
            (λ j i. let ne : j ≢ k = omega arith in get_or-set_other os k j o None ne ∙ h.done j i)
            (let here : k < length os = omega (arith, h.room) in
            let at : k + 0 ≡ k = omega arith in
            get_or-set_same os k o None here ∙ q ∙ sym (ap (λ (ys : List (Option Outcome)). get_or ys 0 None) step) ∙ sym (h.later 0) ∙ ap (λ (i : ℕ). get_or all i None) at);
        none = λ j i. let ne : j ≢ k = omega arith in get_or-set_other os k j o None ne ∙ h.none j (omega arith);
        later = λ j.
            let at : (k + 1) + j ≡ k + suc j = omega arith in
            ap (λ (i : ℕ). get_or all i None) at ∙ h.later (suc j) ∙ ap (λ (ys : List (Option Outcome)). get_or ys (suc j) None) step
            ∙ ap (λ (v : Box). get_or (outcomes fits e (drop (k + 1) ws) (drop (k + 1) ts) v) j None) (sym p);
      }

  pub heard_end : (k : ℕ) (b : Box) (os : List (Option Outcome)) → length ws ≤ k → HeardTo fits e ws ts a k b os → b ≡ takes_all fits e (map item_of ws) ts a
  heard_end k b os l h = sym (h.leads ∙ take_end fits e k ws ts b l)

  pub outcomes_end : (k : ℕ) (b : Box) (os : List (Option Outcome)) → length ws ≤ k → HeardTo fits e ws ts a k b os → (j : ℕ) → get_or os j None ≡ get_or (outcomes fits e ws ts a) j None
  outcomes_end k b os l h j = go (ltb j k) refl
    where
      go : (t : Bool) → ltb j k ≡ t → get_or os j None ≡ get_or (outcomes fits e ws ts a) j None
      go true q = h.done j (ltb-true j k q)
      go false q =
          let past : k ≤ j = ltb-false j k q in
          let at : j ≡ k + (j - k) = omega arith in
          h.none j past ∙ sym (ap (λ (i : ℕ). get_or (outcomes fits e ws ts a) i None) at ∙ h.later (j - k) ∙ ap (λ (ys : List (Option Outcome)). get_or ys (j - k) None) (outcome_end fits e k ws ts b l))
