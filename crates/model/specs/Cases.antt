-- Worked cases: a table of small nets, what happens in each, and what then holds. A proof of CasesHold is the theorem. Assumes nothing.
use Rattle.std.specs.Prelude.{◌≡◌, ℕ, zero, suc, ◌+◌, List, [], ◌∷◌, ◌++◌}
use Rattle.model.specs.Map.{At, far, Hop, Nowhere, To, hop}
use Rattle.model.specs.Words.{World, Ev, Road, Says, Sends, Comes, Falls, world}
use Rattle.model.specs.Forward.{map_of, End, Arrived, Refused, travels}
use Rattle.model.specs.Promise.{Rest}

-- what can be asked of a world
pub data Fact : Type 0 where
  -- by a's own map, the next place from a towards d
  NextIs : (a d : ℕ) (next : Hop) → Fact
  -- by a's own map, what the way from a to d costs
  Costs : (a d c : ℕ) → Fact
  -- how a packet for d that begins at u ends
  EndsAs : (u d : ℕ) (end : End) → Fact
  -- the number and the tag of what a has of i
  Has : (a i number tag : ℕ) → Fact
  -- what the road from a to e costs now, 0 if a holds none open
  RoadIs : (a e c : ℕ) → Fact
  -- it is at rest
  AtRest : Fact

abbrev pub Holds : World → Fact → Type 0
Holds w (NextIs a d next) = hop (map_of w a) d a ≡ next
Holds w (Costs a d c) = far (map_of w a) d a ≡ At c
Holds w (EndsAs u d end) = travels w.n w d 0 u ≡ end
Holds w (Has a i number tag) = ((w.knows a i).number ≡ number) × ((w.knows a i).tag ≡ tag)
Holds w (RoadIs a e c) = w.real a e ≡ c
Holds w AtRest = Rest w

-- n boxes, what happens, the latest first, and what then holds
pub record Row : Type 0 where
  pub n : ℕ
  pub events : List Ev
  pub facts : List Fact

-- both ends open the road, or with 0 and 0 close it
abbrev pub both : (a e there back : ℕ) → List Ev
both a e there back = Road e a back ∷ Road a e there ∷ []

-- a sends e what it has of i, and that comes; the tag is for the word that e says anew, if it does
abbrev pub tell : (a e i tag : ℕ) → List Ev
tell a e i tag = Comes 0 tag ∷ Sends a e i ∷ []

-- a says k words, with the tags 1 to k
abbrev pub many : (a k : ℕ) → List Ev
many a zero = []
many a (suc k) = Says a (suc k) ∷ many a k

-- a closes its road to e, falls, and opens it again
abbrev pub fallen : (a e costs : ℕ) → List Ev
fallen a e costs = Road a e costs ∷ Falls a ∷ Road a e 0 ∷ []

-- i's word goes to a and to e, and from a on to d
abbrev pub around : (i a e d tag : ℕ) → List Ev
around i a e d tag = tell a d i (tag + 2) ++ tell i e i (tag + 1) ++ tell i a i tag

-- 0, 1 and 2 in a row, at cost 1: each says a word, and all are told all
abbrev pub in_a_row : List Ev
in_a_row =
    tell 1 2 1 9 ++ tell 1 2 0 8 ++ tell 1 0 2 7 ++ tell 1 0 1 6 ++ tell 2 1 2 5 ++ tell 0 1 0 4 ++
    Says 2 3 ∷ Says 1 2 ∷ Says 0 1 ∷ both 1 2 1 1 ++ both 0 1 1 1

-- 1 has said nine words, and 0 has been told the last
abbrev pub nine_said : List Ev
nine_said = tell 1 0 1 10 ++ many 1 9 ++ both 0 1 1 1

-- 4 says 1 with tag 7, tells 0, falls, and says 1 again, with tag 9
abbrev pub said_twice : List Ev
said_twice = Says 4 9 ∷ fallen 4 0 1 ++ tell 4 0 4 1 ++ Says 4 7 ∷ both 0 4 1 1

-- 0 has roads to 2 and to 5, and so has 1, all at cost 1: each of the four says a word, and all four are told all
abbrev pub two_ways : List Ev
two_ways =
    around 5 1 0 2 14 ++ around 2 1 0 5 11 ++ around 1 5 2 0 8 ++ around 0 5 2 1 5 ++
    Says 5 4 ∷ Says 2 3 ∷ Says 1 2 ∷ Says 0 1 ∷ both 5 1 1 1 ++ both 0 5 1 1 ++ both 2 1 1 1 ++ both 0 2 1 1

-- The table.
unfoldable pub cases : List Row
cases =
    -- A. three boxes in a row: a packet goes over the middle one
    record { n = 3; events = in_a_row; facts = AtRest ∷ NextIs 0 2 (To 1) ∷ Costs 0 2 2 ∷ EndsAs 0 2 (Arrived 2) ∷ [] } ∷
    -- B. the road from 1 to 2 closes, and nobody has said so: 1 would still hand on to 2, but the road is closed
    record { n = 3; events = both 1 2 0 0 ++ in_a_row; facts = RoadIs 1 2 0 ∷ NextIs 0 2 (To 1) ∷ NextIs 1 2 (To 2) ∷ EndsAs 0 2 (Refused 1) ∷ [] } ∷
    -- then 1 has said so, and 0 isn't told: 1 knows no way
    record { n = 3; events = Says 1 10 ∷ both 1 2 0 0 ++ in_a_row; facts = NextIs 0 2 (To 1) ∷ NextIs 1 2 Nowhere ∷ EndsAs 0 2 (Refused 1) ∷ [] } ∷
    -- C. 1 has said words up to 9, and 0 has the last
    record { n = 2; events = nine_said; facts = Has 1 1 9 9 ∷ Has 0 1 9 9 ∷ [] } ∷
    -- then 1 falls, and begins with number 1
    record { n = 2; events = Says 1 11 ∷ fallen 1 0 1 ++ nine_said; facts = Has 1 1 1 11 ∷ Has 0 1 9 9 ∷ [] } ∷
    -- then 0 tells it its number 9: it says 10
    record { n = 2; events = tell 0 1 1 12 ++ Says 1 11 ∷ fallen 1 0 1 ++ nine_said; facts = Has 1 1 10 12 ∷ Has 0 1 9 9 ∷ [] } ∷
    -- D. 2 falls for good, its road closes at both ends, and 1 says so and tells 0: both still have the old word of 2, but no way to it
    record { n = 3; events = tell 1 0 1 11 ++ Says 1 10 ∷ Falls 2 ∷ both 1 2 0 0 ++ in_a_row; facts = AtRest ∷ Has 0 2 1 3 ∷ Has 1 2 1 3 ∷ EndsAs 0 2 (Refused 0) ∷ EndsAs 1 2 (Refused 1) ∷ [] } ∷
    -- E. a road that costs 3 there and 5 back
    record { n = 2; events = tell 1 0 1 4 ++ tell 0 1 0 3 ++ Says 1 2 ∷ Says 0 1 ∷ both 0 1 3 5; facts = AtRest ∷ Costs 0 1 3 ∷ Costs 1 0 5 ∷ EndsAs 0 1 (Arrived 3) ∷ EndsAs 1 0 (Arrived 5) ∷ [] } ∷
    -- F. two words of 4 with number 1: 0 has that with tag 7, and 4 has said that with tag 9
    record { n = 5; events = said_twice; facts = Has 0 4 1 7 ∷ Has 4 4 1 9 ∷ [] } ∷
    -- then 0 is told 9, and takes it
    record { n = 5; events = tell 4 0 4 2 ++ said_twice; facts = Has 0 4 1 9 ∷ Has 4 4 1 9 ∷ [] } ∷
    -- or 4 is told 7, and keeps 9
    record { n = 5; events = tell 0 4 4 2 ++ said_twice; facts = Has 0 4 1 7 ∷ Has 4 4 1 9 ∷ [] } ∷
    -- G. from 0 to 1 over 2 and over 5 at equal cost: the next is the lower, 2
    record { n = 6; events = two_ways; facts = AtRest ∷ Costs 2 1 1 ∷ Costs 5 1 1 ∷ NextIs 0 1 (To 2) ∷ Costs 0 1 2 ∷ EndsAs 0 1 (Arrived 2) ∷ [] } ∷
    []

-- each of these facts holds
unfoldable pub AllOf : World → List Fact → Type 0
AllOf w [] = Unit {0}
AllOf w (f ∷ fs) = Holds w f × AllOf w fs

-- in each row, each fact holds after the events
unfoldable pub AllHold : List Row → Type 0
AllHold [] = Unit {0}
AllHold (r ∷ rs) = AllOf (world r.n r.events) r.facts × AllHold rs

-- Every row of the table holds.
abbrev pub CasesHold : Type 0
CasesHold = AllHold cases
