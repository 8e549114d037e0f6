-- The net that some running boxes are, and whether it is at rest. Assumes nothing.
use Rattle.std.specs.Prelude.{◌≡◌, ℕ, ◌<◌, Bool, not, ◌&&◌, ◌||◌, List, [], length, ◌==◌, nat_lt}
use Rattle.model.specs.Box.{Box, must_say}
use Rattle.model.specs.Code.{same_word}
use Rattle.model.specs.Promise.{all_below}
use Rattle.model.specs.Words.{World}
use Rattle.node.specs.declared.state.Node.{Node}
use Rattle.net.specs.Plays.{whole_at}

-- the roads and words of the running box at this place
abbrev pub box_in : List Node → ℕ → Box
box_in ss a = (whole_at ss a).box

-- the net that these boxes are, whatever is on its way
abbrev pub world_of : List Node → World
world_of ss = record { n = length ss; real = λ a. (box_in ss a).cost; knows = λ a. (box_in ss a).word; flight = []; drawn = [] }

-- each box's number is its place, and it knows how many there are
abbrev pub Numbered : List Node → Type 0
Numbered ss = (a : ℕ) → a < length ss → ((box_in ss a).n ≡ length ss) × ((box_in ss a).me ≡ a)

-- two boxes have the same word of every box below n
abbrev pub alike_below : ℕ → Box → Box → Bool
alike_below n x y = all_below n (λ i. same_word (x.word i) (y.word i))

-- two boxes, with numbers a and e, agree: if one holds the road between them open, so does the other, and then they have the same words
abbrev pub agrees_with : ℕ → Box → ℕ → Box → ℕ → Bool
agrees_with n x a y e = (not (nat_lt 0 (x.cost e)) || nat_lt 0 (y.cost a)) && (not (nat_lt 0 (x.cost e) && nat_lt 0 (y.cost a)) || alike_below n x y)

-- the box at place a has this number and knows how many there are
abbrev pub is_placed : List Node → ℕ → Bool
is_placed ss a = (box_in ss a).n == length ss && (box_in ss a).me == a

-- what it has said of itself is so, and it agrees with every box
abbrev pub calm_at : List Node → ℕ → Bool
calm_at ss a = is_placed ss a && (not (must_say (box_in ss a)) && all_below (length ss) (λ e. agrees_with (length ss) (box_in ss a) a (box_in ss e) e))
