-- In every run each box has the number of its place, and its roads are those of its wires.
use Rattle.std.proofs.Common.{◌≡◌, ℕ, Bool, cond, ◌&&◌, eqb, List, [], ◌∷◌, sym, refl, ◌∙◌}
use Rattle.model.specs.Words.{Entry, Word}
use Rattle.model.specs.Box.{Box, has, own_word, says_now, is_new_to, takes, sees, must_say}
use Rattle.model.proofs.Tests.{of_cond}
use Rattle.linkmodel.specs.Links.{lowest_to, passes}
use Rattle.linkmodel.specs.Hellos.{Input, Passes, Hears, Rewires, Fell, meets}
use Rattle.linkmodel.specs.Relinked.{relinked}
use Rattle.linkmodel.specs.Station.{Station, Item, Sight, station, relink_as, with_box, told_word, can_say, is_stuck, takes_item, marks_item, takes_all, sees_all, says_if_owed, ticks}
use Rattle.linkmodel.specs.Calls.{Joined}
use Rattle.linkmodel.proofs.Sounds.{sound_fresh, sound_meets, meets_same}
use Rattle.netmodel.specs.Net.{Move, net}
use Rattle.netmodel.proofs.Moving.{EachThing, in_every_run}

-- a box with the numbers and roads of another
abbrev pub SamePlace : Box → Box → Type 0
SamePlace b c = (c.n ≡ b.n) × (c.me ≡ b.me) × ((e : ℕ) → c.cost e ≡ b.cost e)

same_self : (b : Box) → SamePlace b b
same_self b = (refl, refl, λ e. refl)

same_on : (b c d : Box) → SamePlace b c → SamePlace c d → SamePlace b d
same_on b c d p q = (q.0 ∙ p.0, q.1 ∙ p.1, λ e. q.2 e ∙ p.2 e)

item_same : (e : ℕ) (x : Item) (t : ℕ) (b : Box) → SamePlace b (takes_item e x t b)
item_same e x t b =
    let w : Word = told_word e b.me x in
    let new : Entry = cond (eqb b.me x.about) (own_word x.entry.number t b) x.entry in
    of_cond (SamePlace b) (is_stuck w b) b (takes w t b) (λ _. same_self b)
    (λ _. of_cond (SamePlace b) (is_new_to w b) (has x.about new b) b (λ _. same_self b) (λ _. same_self b))

mark_same : (fits : Bool) (e : ℕ) (x : Item) (b : Box) → SamePlace b (marks_item fits e x b)
mark_same fits e x b = of_cond (SamePlace b) fits (sees e x.about x.entry.number x.entry.tag b) b (λ _. same_self b) (λ _. same_self b)

-- so is it after a packet of words
pub words_place : (fits : Bool) (e : ℕ) (xs : List Item) (ts : List ℕ) (b : Box) → SamePlace b (takes_all fits e xs ts b)
unfolding takes_all
words_place fits e [] ts b = same_self b
words_place fits e (x ∷ xs) [] b = same_self b
words_place fits e (x ∷ xs) (t ∷ ts) b =
    let c = takes_item e x t b in
    let m = marks_item fits e x c in
    same_on b m (takes_all fits e xs ts m) (same_on b c m (item_same e x t b) (mark_same fits e x c)) (words_place fits e xs ts m)

-- after one of seens
pub seens_place : (e : ℕ) (xs : List Sight) (b : Box) → SamePlace b (sees_all e xs b)
unfolding sees_all
seens_place e [] b = same_self b
seens_place e (x ∷ xs) b = seens_place e xs (sees e x.about x.number x.tag b)

-- and after what is said at a tick
pub owed_place : (t : ℕ) (b : Box) → SamePlace b (says_if_owed t b)
owed_place t b = of_cond (SamePlace b) (must_say b && can_say (b.word b.me).number) (says_now t b) b (λ _. same_self b) (λ _. same_self b)

-- a box of n whose number is a, with its roads
pub record PlacedAt (n a : ℕ) (s : Station) : Type 0 where
  pub count : s.box.n ≡ n
  pub number : s.box.me ≡ a
  pub joined : Joined s

-- it becomes another box in the same place, or its wires meet an input
placed_box : (n a : ℕ) (s : Station) (c : Box) → SamePlace s.box c → PlacedAt n a s → PlacedAt n a (with_box c s)
placed_box n a s c p k = record {
  count = p.0 ∙ k.count;
  number = p.1 ∙ k.number;
  joined = record { sound = k.joined.sound; count = k.joined.count ∙ sym p.0; number = k.joined.number ∙ sym p.1; roads = λ e. p.2 e ∙ k.joined.roads e };
}

placed_input : (i : Input) (n a : ℕ) (s : Station) → PlacedAt n a s → PlacedAt n a (relink_as (meets i s.links) s)
placed_input i n a s k = record {
  count = k.count;
  number = k.number;
  joined = record { sound = sound_meets i s.links k.joined.sound; count = (meets_same i s.links).0 ∙ k.joined.count; number = (meets_same i s.links).1 ∙ k.joined.number; roads = λ e. refl };
}

stays_placed : (n a : ℕ) → EachThing (λ (s r : Station). PlacedAt n a s → PlacedAt n a r)
stays_placed n a = record {
  nothing = λ s k. k;
  ticked = λ t s k. placed_box n a (relink_as (passes s.links) s) (ticks t s).box (owed_place t (relinked s.links (passes s.links) s.box)) (placed_input Passes n a s k);
  greeted = λ w h s k. placed_input (Hears w h) n a s k;
  told = λ e p ts s k. placed_box n a s (takes_all (eqb p.drawn (s.links.last e)) e p.items ts s.box) (words_place (eqb p.drawn (s.links.last e)) e p.items ts s.box) k;
  seen = λ e p s k. placed_box n a s (cond (eqb p.drawn (s.links.last e)) (sees_all e p.items s.box) s.box)
      (of_cond (SamePlace s.box) (eqb p.drawn (s.links.last e)) (sees_all e p.items s.box) s.box (λ _. seens_place e p.items s.box) (λ _. same_self s.box)) k;
  rewired = λ c s k. placed_input (Rewires c) n a s k;
  fell = λ d s k. let j = placed_input (Fell d) n a s k in
      record { count = j.count; number = j.number; joined = record { sound = j.joined.sound; count = j.joined.count; number = j.joined.number; roads = j.joined.roads } };
}

begun_placed : (n a d : ℕ) → PlacedAt n a (station n a d)
unfolding lowest_to
begun_placed n a d = record { count = refl; number = refl; joined = record { sound = sound_fresh n a d; count = refl; number = refl; roads = λ e. refl } }

-- and so it is in every run
pub placed_in_run : (n : ℕ) (first : ℕ → ℕ) (ms : List Move) (a : ℕ) → PlacedAt n a ((net n first ms).at a)
placed_in_run n first = in_every_run (PlacedAt n) n first (λ a. begun_placed n a (first a)) (stays_placed n)
