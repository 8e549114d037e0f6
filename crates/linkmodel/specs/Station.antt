-- A whole box by values: its wires and its words, and what it does at each thing that comes. Assumes nothing.
use Rattle.std.specs.Prelude.{ℕ, zero, suc, ◌+◌, ◌%◌, ◌^◌, Bool, cond, not, ◌&&◌, List, [], ◌∷◌, ◌++◌, Some, None, Option, ◌==◌, nat_lt}
use Rattle.model.specs.Words.{Entry, Word, Ev, Comes, newer}
use Rattle.model.specs.Code.{same_word}
use Rattle.model.specs.Box.{Box, begun, forgets, is_new_to, takes, sees, says_now, must_say, tells}
use Rattle.linkmodel.specs.Links.{Hello, Links, wires, opens_to, who_on, road_cost, fresh, passes, hello_for, sends_hello, hears_hello, rewired, fell}
use Rattle.linkmodel.specs.Relinked.{relinked}

-- its wires, and its roads and words; the roads are those that its wires hold open
pub record Station : Type 0 where
  pub links : Links
  pub box : Box

-- what is told of a box: whom it is about, and the word
pub record Item : Type 0 where
  pub about : ℕ
  pub entry : Entry

-- a packet of words, with the drawn number of who sends it
pub record Bundle : Type 0 where
  pub drawn : ℕ
  pub items : List Item

-- that somebody has a word with this count and tag
pub record Sight : Type 0 where
  pub about : ℕ
  pub number : ℕ
  pub tag : ℕ

-- a packet of seens
pub record Seens : Type 0 where
  pub drawn : ℕ
  pub items : List Sight

-- what goes over a wire
pub data Frame : Type 0 where
  Greets : (hello : Hello) → Frame
  Tells : (bundle : Bundle) → Frame
  Shows : (seens : Seens) → Frame

-- a frame that goes out, and on which wire
pub record Out : Type 0 where
  pub on : ℕ
  pub frame : Frame

-- telling goes out every 5 ticks
abbrev pub tells_every : ℕ
tells_every = 5

-- switched on
abbrev pub station : ℕ → ℕ → ℕ → Station
station n me d = record { links = fresh n me d; box = begun n me }

-- its links become these, and its roads with them
abbrev pub relink_as : Links → Station → Station
relink_as after s = record { links = after; box = relinked s.links after s.box }

abbrev pub with_box : Box → Station → Station
with_box b s = record { links = s.links; box = b }

-- who is at the other end of a wire, if the road to it is open over some wire
abbrev pub open_to : Option ℕ → Links → Option ℕ
open_to None s = None
open_to (Some e) s = cond (nat_lt 0 (road_cost e s)) (Some e) None

abbrev pub teller : ℕ → Links → Option ℕ
teller w s = open_to (who_on (s.wire w)) s

-- the lowest of the k wires from w on over which the road to e is open, 8 if there is none
unfoldable pub lowest_wire : ℕ → Links → ℕ → ℕ → ℕ
lowest_wire e s w zero = wires
lowest_wire e s w (suc k) = cond (opens_to e (s.wire w)) w (lowest_wire e s (w + 1) k)

abbrev pub wire_to : ℕ → Links → ℕ
wire_to e s = lowest_wire e s 0 wires

-- the word that e tells it
abbrev pub told_word : ℕ → ℕ → Item → Word
told_word e me x = record { from = e; to = me; about = x.about; entry = x.entry }

-- a count of 2^63 or more is never said
abbrev pub can_say : ℕ → Bool
can_say number = nat_lt (suc number) (2 ^ 63)

-- it would have to say a word above this one, and cannot
abbrev pub is_stuck : Word → Box → Bool
is_stuck x b = b.me == x.about && (is_new_to x b && not (can_say x.entry.number))

-- one word of e is taken, unless it would have to say a count that it cannot
abbrev pub takes_item : ℕ → Item → ℕ → Box → Box
takes_item e x t b = cond (is_stuck (told_word e b.me x) b) b (takes (told_word e b.me x) t b)

-- and shows that e has it, if the packet carries the number last heard of e
abbrev pub marks_item : Bool → ℕ → Item → Box → Box
marks_item fits e x b = cond fits (sees e x.about x.entry.number x.entry.tag b) b

-- all words of a packet, one after the other, each with a tag of its own
unfoldable pub takes_all : Bool → ℕ → List Item → List ℕ → Box → Box
takes_all fits e [] ts b = b
takes_all fits e (x ∷ xs) [] b = b
takes_all fits e (x ∷ xs) (t ∷ ts) b = takes_all fits e xs ts (marks_item fits e x (takes_item e x t b))

-- the events of that, the latest first: which k-th of all words sent each one is, is told by ks
unfoldable pub takings : List ℕ → List ℕ → List Ev
takings [] ts = []
takings (k ∷ ks) [] = []
takings (k ∷ ks) (t ∷ ts) = takings ks ts ++ (Comes k t ∷ [])

-- of these words, those that it now has just so are answered by a seen
unfoldable pub seens_for : List Item → Box → List Sight
seens_for [] b = []
seens_for (x ∷ xs) b = cond (same_word x.entry (b.word x.about)) (record { about = x.about; number = x.entry.number; tag = x.entry.tag } ∷ seens_for xs b) (seens_for xs b)

-- and those of which it has a newer one by that
unfoldable pub news_for : List Item → Box → List Item
news_for [] b = []
news_for (x ∷ xs) b = cond (newer (b.word x.about) x.entry) (record { about = x.about; entry = b.word x.about } ∷ news_for xs b) (news_for xs b)

-- a packet goes out over the lowest open wire to e, if there is anything in it
abbrev pub seens_out : ℕ → List Sight → Links → List Out
seens_out e [] s = []
seens_out e (x ∷ xs) s = record { on = wire_to e s; frame = Shows (record { drawn = s.drawn; items = x ∷ xs }) } ∷ []

abbrev pub words_out : ℕ → List Item → Links → List Out
words_out e [] s = []
words_out e (x ∷ xs) s = record { on = wire_to e s; frame = Tells (record { drawn = s.drawn; items = x ∷ xs }) } ∷ []

-- a packet of words from e: what it leaves, and what is answered, first seens and then words
abbrev pub heard_words : ℕ → Bundle → List ℕ → Station → Station
heard_words e p ts s = with_box (takes_all (p.drawn == s.links.last e) e p.items ts s.box) s

abbrev pub answers : ℕ → Bundle → Station → List Out
answers e p s = seens_out e (seens_for p.items s.box) s.links ++ words_out e (news_for p.items s.box) s.links

-- a packet of seens from e
unfoldable pub sees_all : ℕ → List Sight → Box → Box
sees_all e [] b = b
sees_all e (x ∷ xs) b = sees_all e xs (sees e x.about x.number x.tag b)

abbrev pub heard_seens : ℕ → Seens → Station → Station
heard_seens e p s = with_box (cond (p.drawn == s.links.last e) (sees_all e p.items s.box) s.box) s

-- a hello, new costs, and a fall
abbrev pub heard_hello : ℕ → Hello → Station → Station
heard_hello w h s = relink_as (hears_hello w h s.links) s

abbrev pub has_costs : (ℕ → ℕ) → Station → Station
has_costs c s = relink_as (rewired c s.links) s

abbrev pub falls : ℕ → Station → Station
falls d s = record { links = fell d s.links; box = forgets (relinked s.links (fell d s.links) s.box) }

-- a tick: what is too old is dropped; then it says a word if it must and can
abbrev pub says_if_owed : ℕ → Box → Box
says_if_owed t b = cond (must_say b && can_say (b.word b.me).number) (says_now t b) b

abbrev pub ticks : ℕ → Station → Station
ticks t s = record { links = passes s.links; box = says_if_owed t (relinked s.links (passes s.links) s.box) }

-- then it sends hellos on the wires below k,
unfoldable pub hellos_on : Links → ℕ → List Out
hellos_on s zero = []
hellos_on s (suc k) = hellos_on s k ++ cond (sends_hello k s) (record { on = k; frame = Greets (hello_for k s) } ∷ []) []

-- and at every fifth tick, for each open road to a box below k, the words that the neighbour hasn't shown
unfoldable pub items_of : List ℕ → Box → List Item
items_of [] b = []
items_of (i ∷ is) b = record { about = i; entry = b.word i } ∷ items_of is b

unfoldable pub tells_on : Station → ℕ → List Out
tells_on s zero = []
tells_on s (suc k) = tells_on s k ++ cond (nat_lt 0 (road_cost k s.links)) (words_out k (items_of (tells k s.box) s.box) s.links) []

-- all that goes out at a tick, in this order
abbrev pub tick_out : Station → List Out
tick_out s = hellos_on s.links wires ++ cond (s.links.tick % tells_every == 0) (tells_on s s.links.n) []
