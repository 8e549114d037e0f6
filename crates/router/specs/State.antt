-- What the state and the answers of a box stand for in the model. Assumes nothing.
use Rattle.std.specs.Prelude.{ℕ, zero, suc, ◌+◌, ◌^◌, Bool, cond, not, ◌&&◌, ◌||◌, Some, None, Option, ◌==◌, nat_le, nat_lt}
use Rattle.bits.specs.Bits.{bit}
pub use Rattle.database.specs.State.{hop_of}
use Rattle.database.specs.State.{words_in}
pub use Rattle.messages.specs.Refusals.{RefusedBy}
use Rattle.messages.specs.Values.{at, entry_of, told_by}
use Rattle.messages.specs.declared.values.Word.{Word}
use Rattle.messages.specs.declared.values.WordId.{WordId}
use Rattle.model.specs.Box.{Box, is_open, is_new_to}
use Rattle.model.specs.Code.{same_word}
use Rattle.router.specs.declared.answers.Outcome.{Outcome}
use Rattle.router.specs.declared.answers.Outcome.TheVariants.{Taken, Said, Same, Older}
use Rattle.router.specs.declared.answers.Refusal.{Refusal}
use Rattle.router.specs.declared.answers.Refusal.TheVariants.{OutOfRange, NoRoad, CountSpent}
use Rattle.router.specs.declared.state.Router.{Router}

-- why n boxes, of which this is number me, are refused: none, more than 64, or no such number
abbrev pub begin_refusal : ℕ → ℕ → Option Refusal
begin_refusal n me = cond (nat_lt me n && nat_le n 64) None (Some OutOfRange)

-- the number of each refusal
abbrev pub refusal_number : Refusal → ℕ
refusal_number OutOfRange = 2
refusal_number NoRoad = 3
refusal_number CountSpent = 11

-- the box of the model that a state stands for
abbrev pub box_of : Router → Box
box_of s = record {
  n = s.n;
  me = s.me;
  cost = at s.links;
  word = words_in s.words;
  shown = λ e i. bit (at s.shown e) i;
}

-- how many of the roads to the boxes below k are open
unfoldable pub open_below : ℕ → Box → ℕ
open_below zero s = 0
open_below (suc k) s = open_below k s + cond (is_open k s) 1 0

-- why a road to e at cost c is refused, if it is: there is no such box, it is this box, or it would be the ninth
abbrev pub road_refusal : ℕ → ℕ → Box → Option Refusal
road_refusal e c s = cond (not (nat_lt e s.n) || (e == s.me || (nat_lt 0 c && (not (is_open e s) && nat_le 8 (open_below 64 s))))) (Some OutOfRange) None

-- a box says no count of 2^63 or more
abbrev pub says_refusal : ℕ → Option Refusal
says_refusal count = cond (nat_lt (count + 1) (2 ^ 63)) None (Some CountSpent)

-- the count of its own word leaves room for the next
abbrev pub has_room : Box → Bool
has_room s = nat_lt ((s.word s.me).number + 1) (2 ^ 63)

-- it has words of the boxes that there are
abbrev pub word_refusal : ℕ → Box → Option Refusal
word_refusal about s = cond (nat_lt about s.n) None (Some OutOfRange)

-- why a word, or a seen, of these numbers is refused that from tells: a number out of range, no open road, a count that nobody says
abbrev pub id_refusal : ℕ → WordId → Box → Option Refusal
id_refusal from x s =
    cond (not (nat_lt from s.n) || (not (nat_lt x.about s.n) || x.count == 0)) (Some OutOfRange)
    (cond (not (is_open from s)) (Some NoRoad)
    (cond (nat_le (2 ^ 63) x.count) (Some CountSpent) None))

-- the first reason of two
abbrev pub or_else : Option Refusal → Option Refusal → Option Refusal
or_else None o = o
or_else (Some r) o = Some r

-- the same of a word that is told, and also if the box would have to say a count of 2^63
abbrev pub hears_refusal : ℕ → Word → Box → Option Refusal
hears_refusal from x s = or_else (id_refusal from x.id s) (cond (s.me == x.id.about && is_new_to (told_by from s.me x) s) (says_refusal x.id.count) None)

-- what becomes of a word that is told
abbrev pub outcome_of : ℕ → Word → Box → Outcome
outcome_of from x s =
    cond (is_new_to (told_by from s.me x) s) (cond (s.me == x.id.about) Said Taken)
    (cond (same_word (entry_of x) (s.word x.id.about)) Same Older)

-- what it has said of its road to x is so
abbrev pub own_so_at : Box → ℕ → Bool
own_so_at s x = (s.word s.me).road x == s.cost x && (s.cost x == 0 || nat_lt 0 (s.word s.me).number)

-- what the road to e costs if all roads change at once: none leads to the box itself, nor to a number of no box
abbrev pub road_to : (ℕ → ℕ) → Box → ℕ → ℕ
road_to c s e = cond (nat_lt e s.n && not (e == s.me)) (c e) 0

-- what e has shown stays just where e isn't heard anew and the road was open and still is
abbrev pub still_shown : (ℕ → ℕ) → (ℕ → Bool) → Box → ℕ → ℕ → Bool
still_shown c anew s e i = not (anew e) && (is_open e s && (nat_lt 0 (c e) && s.shown e i))

-- all roads change at once; the words stay
abbrev pub relink_to : (ℕ → ℕ) → (ℕ → Bool) → Box → Box
relink_to c anew s = record { n = s.n; me = s.me; cost = road_to c s; word = s.word; shown = still_shown (road_to c s) anew s }
