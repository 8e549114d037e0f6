-- The worked cases hold: each by computing, rest by the test of it.
use Rattle.std.proofs.Common.{refl}
use Rattle.model.specs.Map.{lowest, within, first_of}
use Rattle.model.specs.Words.{is_in, comes_nth, world}
use Rattle.model.specs.Forward.{travels}
use Rattle.model.specs.Promise.{all_below}
use Rattle.model.specs.Cases.{two_ways, cases, AllOf, AllHold, CasesHold}
use Rattle.model.proofs.Resting.{rest_test_lem}

infixr 2 ◌&◌
-- a pair; a row of them needs no brackets
◌&◌ : {A B : Type 0} → A → B → A × B
x & y = (x, y)

-- Every row, by computing. The world of G is written out: to find it by comparing takes too long.
pub cases_hold_lem : CasesHold
unfolding cases AllHold AllOf world is_in comes_nth all_below lowest within first_of travels
cases_hold_lem =
    ((rest_test_lem _).0 tt & refl & refl & refl & tt) &  -- A
    (refl & refl & refl & refl & tt) & (refl & refl & refl & tt) &  -- B
    ((refl & refl) & (refl & refl) & tt) & ((refl & refl) & (refl & refl) & tt) & ((refl & refl) & (refl & refl) & tt) &  -- C
    ((rest_test_lem _).0 tt & (refl & refl) & (refl & refl) & refl & refl & tt) &  -- D
    ((rest_test_lem _).0 tt & refl & refl & refl & refl & tt) &  -- E
    ((refl & refl) & (refl & refl) & tt) & ((refl & refl) & (refl & refl) & tt) & ((refl & refl) & (refl & refl) & tt) &  -- F
    ((rest_test_lem (world 6 two_ways)).0 tt & refl & refl & refl & refl & refl & tt) & tt  -- G
