-- In every run of a net only boxes to which a road is open have shown anything.
use Rattle.std.proofs.Common.{◌≡◌, ℕ, ◌<◌, Bool, true, false, cond, not, ◌&&◌, ◌||◌, eqb, List, [], ◌∷◌, refl, ltb-true, eqb-true}
use Rattle.model.specs.Words.{Entry, Word}
use Rattle.model.specs.Box.{Box, has, is_open, is_new_to, must_say, own_word, says_now, sees, takes}
use Rattle.model.proofs.Tests.{of_cond}
use Rattle.linkmodel.proofs.Bools.{and_left, and_right, true_not_false}
use Rattle.linkmodel.proofs.RelinkSteps.{relinked_shown}
use Rattle.linkmodel.specs.Links.{hears_hello, passes, rewired}
use Rattle.linkmodel.specs.Relinked.{relinked}
use Rattle.linkmodel.specs.Station.{Item, Sight, Station as Whole, can_say, is_stuck, marks_item, says_if_owed, sees_all, takes_all, takes_item, told_word}
use Rattle.netmodel.specs.Net.{Move, net}
use Rattle.netmodel.proofs.Moving.{EachThing, in_every_run}
use Rattle.netbytes.specs.Arriving.{ShownOpen}

-- of one box
abbrev OpenOnly : Box → Type 0
OpenOnly b = (e i : ℕ) → b.shown e i ≡ true → 0 < b.cost e

has_only : (i : ℕ) (x : Entry) (b : Box) → OpenOnly b → OpenOnly (has i x b)
has_only i x b o e j h = o e j (and_right (not (eqb j i)) (b.shown e j) h)

sees_only : (e i c t : ℕ) (b : Box) → OpenOnly b → OpenOnly (sees e i c t b)
sees_only e i c t b o f j h = go (b.shown f j) refl h
  where
    go : (d : Bool) → b.shown f j ≡ d → (d || (eqb f e && (eqb j i && (is_open e b && (eqb c (b.word i).number && eqb t (b.word i).tag))))) ≡ true → 0 < b.cost f
    go true q k = o f j q
    go false q k =
        let s : f ≡ e = eqb-true f e (and_left (eqb f e) _ k) in
        rw s (ltb-true 0 (b.cost e) (and_left (is_open e b) _ (and_right (eqb j i) _ (and_right (eqb f e) _ k))))

item_only : (e : ℕ) (x : Item) (t : ℕ) (b : Box) → OpenOnly b → OpenOnly (takes_item e x t b)
item_only e x t b o =
    let w : Word = told_word e b.me x in
    let new : Entry = cond (eqb b.me x.about) (own_word x.entry.number t b) x.entry in
    of_cond OpenOnly (is_stuck w b) b (takes w t b) (λ _. o) (λ _. of_cond OpenOnly (is_new_to w b) (has x.about new b) b (λ _. has_only x.about new b o) (λ _. o))

mark_only : (fits : Bool) (e : ℕ) (x : Item) (b : Box) → OpenOnly b → OpenOnly (marks_item fits e x b)
mark_only fits e x b o = of_cond OpenOnly fits (sees e x.about x.entry.number x.entry.tag b) b (λ _. sees_only e x.about x.entry.number x.entry.tag b o) (λ _. o)

words_only : (fits : Bool) (e : ℕ) (xs : List Item) (ts : List ℕ) (b : Box) → OpenOnly b → OpenOnly (takes_all fits e xs ts b)
unfolding takes_all
words_only fits e [] ts b o = o
words_only fits e (x ∷ xs) [] b o = o
words_only fits e (x ∷ xs) (t ∷ ts) b o = words_only fits e xs ts (marks_item fits e x (takes_item e x t b)) (mark_only fits e x (takes_item e x t b) (item_only e x t b o))

seens_only : (e : ℕ) (xs : List Sight) (b : Box) → OpenOnly b → OpenOnly (sees_all e xs b)
unfolding sees_all
seens_only e [] b o = o
seens_only e (x ∷ xs) b o = seens_only e xs (sees e x.about x.number x.tag b) (sees_only e x.about x.number x.tag b o)

owed_only : (t : ℕ) (b : Box) → OpenOnly b → OpenOnly (says_if_owed t b)
owed_only t b o = of_cond OpenOnly (must_say b && can_say (b.word b.me).number) (says_now t b) b (λ _. has_only b.me (own_word (b.word b.me).number t b) b o) (λ _. o)

-- each thing that a box does keeps it so
stays_open : EachThing (λ (s r : Whole). ShownOpen s → ShownOpen r)
stays_open = record {
  nothing = λ s o. o;
  ticked = λ t s o. owed_only t (relinked s.links (passes s.links) s.box) (relinked_shown s.links (passes s.links) s.box);
  greeted = λ w h s o. relinked_shown s.links (hears_hello w h s.links) s.box;
  told = λ e p ts s o. words_only (eqb p.drawn (s.links.last e)) e p.items ts s.box o;
  seen = λ e p s o. of_cond OpenOnly (eqb p.drawn (s.links.last e)) (sees_all e p.items s.box) s.box (λ _. seens_only e p.items s.box o) (λ _. o);
  rewired = λ c s o. relinked_shown s.links (rewired c s.links) s.box;
  fell = λ d s o e i h. true_not_false false h refl;
}

-- and so it is with each box of a net
pub shown_open : (n : ℕ) (first : ℕ → ℕ) (ms : List Move) (a : ℕ) → ShownOpen ((net n first ms).at a)
shown_open n first ms a = in_every_run (λ (b : ℕ) (s : Whole). ShownOpen s) n first (λ b e i h. true_not_false false h refl) (λ b. stays_open) ms a
