-- How what was told comes to be shown and how long it stays so, when a box is quiet, and that nothing is left untold. Each promise is a type; a proof of the type is the theorem. Assumes nothing.
use Rattle.std.specs.Prelude.{◌≡◌, ℕ, zero, suc, ◌*◌, ◌<◌, ◌≤◌, Bool, true, false, cond, not, ◌&&◌, List, [], ◌∷◌, ◌++◌, length, ◌≢◌, nat_lt}
use Rattle.model.specs.Words.{newer, is_in}
use Rattle.model.specs.Code.{same_word}
use Rattle.model.specs.Box.{Box, must_say, tells}
use Rattle.linkmodel.specs.Links.{wires, road_cost, passes}
use Rattle.linkmodel.specs.Relinked.{Sound}
use Rattle.linkmodel.specs.Station.{Station, Item, Sight, Frame, Greets, Tells, Shows, seens_for, items_of, heard_words, heard_seens, ticks, hellos_on, tick_out}
use Rattle.linkmodel.specs.Calls.{expired}

-- a box after a packet of words or seens of e that carries the number last heard of e
abbrev pub after_words : Station → ℕ → List Item → List ℕ → Station
after_words s e xs ts = heard_words e (record { drawn = s.links.last e; items = xs }) ts s

abbrev pub after_seens : Station → ℕ → List Sight → Station
after_seens s e xs = heard_seens e (record { drawn = s.links.last e; items = xs }) s

-- A seen over an open road, anywhere in its packet, of the word that the box has shows it.
abbrev pub SeenShows : Type 0
SeenShows =
    (s : Station) (e : ℕ) (xs : List Sight) (x : Sight) (ys : List Sight) → 0 < s.box.cost e → x.number ≡ (s.box.word x.about).number → x.tag ≡ (s.box.word x.about).tag →
    (after_seens s e (xs ++ (x ∷ ys))).box.shown e x.about ≡ true

-- A word over an open road, anywhere in its packet, shows that who told it has it, if it is what the box has after the packet; a word of the box itself that is newer than its own isn't taken, but said above.
abbrev pub WordShows : Type 0
WordShows =
    (s : Station) (e : ℕ) (xs : List Item) (x : Item) (ys : List Item) (us : List ℕ) (t : ℕ) (vs : List ℕ) → 0 < s.box.cost e → length us ≡ length xs →
    (x.about ≡ s.box.me → newer x.entry (s.box.word x.about) ≡ false) →
    same_word x.entry ((after_words s e (xs ++ (x ∷ ys)) (us ++ (t ∷ vs))).box.word x.about) ≡ true →
    (after_words s e (xs ++ (x ∷ ys)) (us ++ (t ∷ vs))).box.shown e x.about ≡ true

-- One word of another box that isn't older than what the box has: it has just that then, and has it as shown by who told it.
abbrev pub TakenShows : Type 0
TakenShows =
    (s : Station) (e : ℕ) (x : Item) (t : ℕ) → 0 < s.box.cost e → (x.about ≢ s.box.me) → newer (s.box.word x.about) x.entry ≡ false →
    (same_word x.entry ((after_words s e (x ∷ []) (t ∷ [])).box.word x.about) ≡ true) × ((after_words s e (x ∷ []) (t ∷ [])).box.shown e x.about ≡ true)

-- what is shown before is shown after, if the road was open and is open, the number last heard is the same, and so is the word (a fall closes the roads)
abbrev pub KeepsShown : Station → Station → Type 0
KeepsShown s r =
    (e i : ℕ) → s.box.shown e i ≡ true → 0 < road_cost e s.links → 0 < road_cost e r.links → r.links.last e ≡ s.links.last e →
    same_word (s.box.word i) (r.box.word i) ≡ true → r.box.shown e i ≡ true

-- e has shown all that the box has
abbrev pub AllShown : ℕ → Box → Type 0
AllShown e b = (i : ℕ) → i < b.n → 0 < (b.word i).number → b.shown e i ≡ true

-- along each open road all is shown
abbrev pub Settled : Station → Type 0
Settled s = (e : ℕ) → e < s.links.n → 0 < road_cost e s.links → AllShown e s.box

-- Who has shown all is told nothing; where all is shown, only hellos go out at a tick: by what the box is after the tick, and by what it was before, if it need say nothing.
abbrev pub NothingToTell : Type 0
NothingToTell = (e : ℕ) (b : Box) → AllShown e b → tells e b ≡ []

abbrev pub OnlyHellos : Type 0
OnlyHellos = (s : Station) → Settled s → tick_out s ≡ hellos_on s.links wires

abbrev pub QuietTick : Type 0
QuietTick = (s : Station) (t : ℕ) → Sound s.links → Settled s → must_say (expired s) ≡ false → tick_out (ticks t s) ≡ hellos_on (passes s.links) wires

-- this is a hello
abbrev pub is_hello : Frame → Bool
is_hello (Greets h) = true
is_hello (Tells p) = false
is_hello (Shows p) = false

-- how many below k pass the test
unfoldable pub how_many : (ℕ → Bool) → ℕ → ℕ
how_many f zero = 0
how_many f (suc k) = cond (f k) (suc (how_many f k)) (how_many f k)

-- the box has a word of i that e hasn't shown
abbrev pub is_untold : ℕ → Box → ℕ → Bool
is_untold e b i = nat_lt 0 (b.word i).number && not (b.shown e i)

-- one round from b to c: its words stay, what e has shown stays shown, and e shows all that b tells it
pub record Round (e : ℕ) (b c : Box) : Type 0 where
  pub size : c.n ≡ b.n
  pub words : (i : ℕ) → i < b.n → (c.word i).number ≡ (b.word i).number
  pub keeps : (i : ℕ) → i < b.n → b.shown e i ≡ true → c.shown e i ≡ true
  pub answered : (i : ℕ) → is_in i (tells e b) ≡ true → c.shown e i ≡ true

abbrev pub Rounds : ℕ → ℕ → (ℕ → Box) → Type 0
Rounds e r b = (k : ℕ) → k < r → Round e (b k) (b (suc k))

-- After r rounds the 4 * r lowest that weren't shown are, so that as many rounds as a quarter of the boxes show all.
abbrev pub NothingStarves : Type 0
NothingStarves =
    (e r : ℕ) (b : ℕ → Box) → Rounds e r b → (i : ℕ) → i < (b 0).n → 0 < ((b 0).word i).number → how_many (is_untold e (b 0)) (suc i) ≤ 4 * r → (b r).shown e i ≡ true

abbrev pub AllTold : Type 0
AllTold = (e r : ℕ) (b : ℕ → Box) → Rounds e r b → (b 0).n ≤ 4 * r → AllShown e (b r)

-- What a round needs: s is a's box when it tells e, c is e's when it answers and has these words, r is a's when the seens of that answer come and has them still.
abbrev pub RoundTrip : Type 0
RoundTrip =
    (s c r : Station) (e i : ℕ) → is_in i (tells e s.box) ≡ true → same_word (s.box.word i) (c.box.word i) ≡ true → same_word (s.box.word i) (r.box.word i) ≡ true →
    0 < r.box.cost e → r.links.last e ≡ c.links.drawn →
    (heard_seens e (record { drawn = c.links.drawn; items = seens_for (items_of (tells e s.box) s.box) c.box }) r).box.shown e i ≡ true
