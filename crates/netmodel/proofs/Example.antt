-- A window can be had: two boxes whose road opens, and a window after which they are at rest. All of it is computed.
use Rattle.std.proofs.Common.{◌≡◌, ℕ, zero, suc, ◌+◌, ◌<◌, ◌≤◌, true, false, cond, T, eqb, ◌⊎◌, List, [], ◌∷◌, ◌++◌, sym, refl, ap₂, ◌∙◌, inl, inr, arith}
use Rattle.model.specs.Words.{is_in}
use Rattle.model.specs.Code.{pick}
use Rattle.model.specs.Promise.{Even, all_below}
use Rattle.model.specs.Box.{tells}
use Rattle.model.specs.Settling.{at_rest}
use Rattle.model.specs.Spread.{joined}
use Rattle.linkmodel.specs.Links.{lowest_to}
use Rattle.linkmodel.specs.Hellos.{first_drawn}
use Rattle.linkmodel.specs.Station.{Bundle, Sight, Seens, Frame, Tells, Shows, lowest_wire, takes_all, seens_for, news_for, sees_all, hellos_on, items_of, tells_on}
use Rattle.linkmodel.specs.Telling.{AllShown}
use Rattle.linkmodel.specs.Calls.{none_stuck}
use Rattle.linkmodel.specs.Calls.{all_fresh}
use Rattle.netmodel.specs.Net.{Move, Ticks, Arrives, Rewires, Lays, net, Start, sent_by, sent_nth, all_small, small_costs, all_counted}
use Rattle.netmodel.specs.Standing.{AllStays, world_in}
use Rattle.netmodel.specs.Windows.{Reaches, RoundTrip, TicksIn, Round, Rounds, CanWindow}
use Rattle.netmodel.proofs.Unmoved.{all_still, all_still_so}

-- box 0 draws 1, and box 1 draws 2
abbrev draws : ℕ → ℕ
draws a = suc a

-- a wire at 0, at cost 1, and no other
abbrev one_wire : ℕ → ℕ
one_wire w = cond (eqb w 0) 1 0

-- box a ticks k times, with the tags from t on
unfoldable again : ℕ → ℕ → ℕ → List Move → List Move
again a t zero ms = ms
again a t (suc k) ms = Ticks a (t + k) ∷ again a t k ms

-- all that a run computes with, for the proofs below
unfoldable all_steps : ℕ
unfolding net sent_by sent_nth all_small small_costs lowest_to lowest_wire takes_all seens_for news_for sees_all hellos_on items_of tells_on all_fresh is_in pick all_below joined all_counted none_stuck first_drawn again all_still
all_steps = 0

-- a wire between them
abbrev wired : List Move
wired = Lays 0 0 1 0 ∷ Rewires 1 one_wire ∷ Rewires 0 one_wire ∷ []

-- box 0 greets at its tick 10, and that comes
abbrev greeted : List Move
greeted = Arrives 0 [] ∷ again 0 1 10 wired

-- box 1 greets back at its tick 10, and that comes after its tick 14: box 0 holds the road open
abbrev answered : List Move
answered = Arrives 0 [] ∷ again 1 11 14 greeted

-- box 0 says its word at its tick 11, and at its tick 20 it greets and then tells; the hello comes: box 1 holds the road open too
abbrev opened : List Move
opened = Arrives 1 [] ∷ again 0 25 10 answered

-- box 0's word comes to box 1,
abbrev taken : List Move
taken = Arrives 0 (35 ∷ []) ∷ []

-- and the seen of it to box 0; box 1 says its word at its tick 15 and tells it, that comes to box 0, and the seen of it to box 1
abbrev afterwards : List Move
afterwards = Arrives 0 [] ∷ Arrives 0 (37 ∷ []) ∷ Ticks 1 36 ∷ []

abbrev told : List Move
told = afterwards ++ (Arrives 0 [] ∷ taken)

-- the last round: all is shown, and box 0 ticks
abbrev quiet : List Move
quiet = Ticks 0 38 ∷ []

abbrev both : List (List Move)
both = quiet ∷ told ∷ []

starts : Start 2 draws
starts = record { few = refl; drawn = (λ a l. omega arith, λ a e la le h. omega arith); small = λ a l. omega arith }

counted : T (all_counted 2 draws (joined both ++ opened) [])
unfolding all_steps
counted = tt

restless : at_rest (world_in 2 (net 2 draws opened)) ≡ false
unfolding all_steps
restless = refl

rests : at_rest (world_in 2 (net 2 draws (joined both ++ opened))) ≡ true
unfolding all_steps
rests = refl

stays : AllStays 2 draws (joined both) opened
unfolding all_steps
stays = all_still_so 2 draws (joined both) opened tt

-- what holds of both boxes
of_two : (P : ℕ → Type 0) → P 0 → P 1 → (a : ℕ) → a < 2 → P a
of_two P p q zero l = p
of_two P p q (suc zero) l = q
of_two P p q (suc (suc a)) l = absurd (let z : ⊥ = omega arith in z)

-- there is nothing below 0
none : {A : Type 0} → 0 < 0 → A
none h = absurd (let z : ⊥ = omega arith in z)

shares : 0 < ((net 2 draws opened).at 0).box.cost 1
unfolding all_steps
shares = let z : 0 < 1 = omega arith in z

shares_back : 0 < ((net 2 draws opened).at 1).box.cost 0
unfolding all_steps
shares_back = let z : 0 < 1 = omega arith in z

-- an open road is so at the other end
abbrev Back : ℕ → ℕ → Type 0
Back a e = 0 < ((net 2 draws opened).at a).box.cost e → 0 < ((net 2 draws opened).at e).box.cost a

even : Even (world_in 2 (net 2 draws opened))
even a e la le = of_two (λ (b : ℕ). (c : ℕ) → c < 2 → Back b c) (of_two (Back 0) (λ h. h) (λ _. shares_back)) (of_two (Back 1) (λ _. shares) (λ h. h)) a la e le

numbers : (((net 2 draws opened).at 0).links.last 1 ≡ 2) × (((net 2 draws opened).at 1).links.drawn ≡ 2) × (((net 2 draws opened).at 1).links.last 0 ≡ 1) × (((net 2 draws opened).at 0).links.drawn ≡ 1)
unfolding all_steps
numbers = (refl, refl, refl, refl)

abbrev Knows : ℕ → ℕ → Type 0
Knows a e = 0 < ((net 2 draws opened).at a).box.cost e → ((net 2 draws opened).at a).links.last e ≡ ((net 2 draws opened).at e).links.drawn

known : (a e : ℕ) → a < 2 → e < 2 → Knows a e
unfolding all_steps
known a e la le = of_two (λ (b : ℕ). (c : ℕ) → c < 2 → Knows b c) (of_two (Knows 0) none (λ _. numbers.0 ∙ sym numbers.1)) (of_two (Knows 1) (λ _. numbers.2 ∙ sym numbers.3) none) a la e le

ticks : (a : ℕ) → a < 2 → TicksIn 2 draws a (joined both) opened
unfolding all_steps
ticks = of_two (λ (a : ℕ). TicksIn 2 draws a (joined both) opened)
    (record { later = []; before = told; tag = 38; split = refl; fresh = refl })
    (record { later = quiet ++ (Arrives 0 [] ∷ Arrives 0 (37 ∷ []) ∷ []); before = Arrives 0 [] ∷ taken; tag = 36; split = refl; fresh = refl })

-- box 0's word: its road to box 1 costs 1
abbrev word : Bundle
word = record { drawn = 1; items = record { about = 0; entry = record { number = 1; tag = 25; road = λ e. cond (eqb 1 e) 1 0 } } ∷ [] }

to_tell : word.items ≡ items_of (tells 1 ((net 2 draws opened).at 0).box) ((net 2 draws opened).at 0).box
unfolding all_steps
to_tell = refl

comes : Reaches (net 2 draws opened) 0 (35 ∷ []) 0 1 (Tells word)
unfolding all_steps
comes = record {
  sent = record { by = 0; on = 0; over = record { at = 1; on = 0; laid = 0 }; frame = Tells word };
  is = refl;
  by = refl;
  to = refl;
  says = refl;
  there = refl;
  known = refl;
  small = refl;
  fresh = refl;
}

-- the seen that box 1 answers
abbrev seen : Seens
seen = record { drawn = 2; items = record { about = 0; number = 1; tag = 25 } ∷ [] }

abbrev answer : Frame
answer = Shows (record { drawn = ((net 2 draws (taken ++ opened)).at 1).links.drawn; items = seens_for word.items ((net 2 draws (taken ++ opened)).at 1).box })

answer_parts : (2 ≡ ((net 2 draws (taken ++ opened)).at 1).links.drawn) × (seen.items ≡ seens_for word.items ((net 2 draws (taken ++ opened)).at 1).box)
unfolding all_steps
answer_parts = (refl, refl)

answer_so : Shows seen ≡ answer
answer_so = ap₂ (λ (d : ℕ) (l : List Sight). Shows (record { drawn = d; items = l })) answer_parts.0 answer_parts.1

returns : Reaches (net 2 draws (taken ++ opened)) 0 [] 1 0 answer
unfolding all_steps
returns = record {
  sent = record { by = 1; on = 0; over = record { at = 0; on = 0; laid = 0 }; frame = Shows seen };
  is = refl;
  by = refl;
  to = refl;
  says = answer_so;
  there = refl;
  known = refl;
  small = refl;
  fresh = refl;
}

there_and_back : RoundTrip 2 draws 0 1 told opened
there_and_back = record {
  later = afterwards ++ (Arrives 0 [] ∷ []);
  between = [];
  before = [];
  which = 0;
  tags = 35 ∷ [];
  told = word;
  answer = 0;
  split = refl;
  tells_it = to_tell;
  reaches = comes;
  enough = let z : 1 ≤ 1 = omega arith in z;
  returns = inr (record { later = afterwards; before = []; which = 0; tags = []; split = refl; reaches = returns });
}

-- what a round asks along one road in one direction
abbrev OneWay : List Move → List Move → ℕ → ℕ → Type 0
OneWay rs ms a e = 0 < ((net 2 draws ms).at a).box.cost e → 0 < ((net 2 draws ms).at e).box.cost a → AllShown e ((net 2 draws ms).at a).box ⊎ RoundTrip 2 draws a e rs ms

-- when the first round begins box 1 has no word
nothing_yet : AllShown 0 ((net 2 draws opened).at 1).box
unfolding all_steps
nothing_yet = of_two (λ (i : ℕ). 0 < (((net 2 draws opened).at 1).box.word i).number → ((net 2 draws opened).at 1).box.shown 0 i ≡ true) none none

first_round : Round 2 draws told opened
unfolding all_steps
first_round a e la le = of_two (λ (b : ℕ). (c : ℕ) → c < 2 → OneWay told opened b c)
    (of_two (OneWay told opened 0) (λ h _. none h) (λ _ _. inr there_and_back))
    (of_two (OneWay told opened 1) (λ _ _. inl nothing_yet) (λ h _. none h)) a la e le

-- when the last begins all is shown
abbrev heard : List Move
heard = told ++ opened

shown_by_1 : AllShown 1 ((net 2 draws heard).at 0).box
unfolding all_steps
shown_by_1 = of_two (λ (i : ℕ). 0 < (((net 2 draws heard).at 0).box.word i).number → ((net 2 draws heard).at 0).box.shown 1 i ≡ true) (λ _. refl) (λ _. refl)

shown_by_0 : AllShown 0 ((net 2 draws heard).at 1).box
unfolding all_steps
shown_by_0 = of_two (λ (i : ℕ). 0 < (((net 2 draws heard).at 1).box.word i).number → ((net 2 draws heard).at 1).box.shown 0 i ≡ true) (λ _. refl) (λ _. refl)

last_round : Round 2 draws quiet heard
unfolding all_steps
last_round a e la le = of_two (λ (b : ℕ). (c : ℕ) → c < 2 → OneWay quiet heard b c)
    (of_two (OneWay quiet heard 0) (λ h _. none h) (λ _ _. inl shown_by_1))
    (of_two (OneWay quiet heard 1) (λ _ _. inl shown_by_0) (λ h _. none h)) a la e le

rounds : Rounds 2 draws both opened
unfolding Rounds joined
rounds = (last_round, (first_round, tt))

-- the net, its run and the window
pub can_window : CanWindow
can_window = record {
  first = draws;
  run = opened;
  window = both;
  starts = starts;
  counted = counted;
  even = even;
  is = record { long = refl; stays = stays; known = known; ticks = ticks; rounds = rounds };
  shares = shares;
  restless = restless;
  rests = rests;
}
