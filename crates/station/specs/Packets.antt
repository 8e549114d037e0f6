-- Packets as the model has them, and why one is refused. Assumes nothing.
use Rattle.std.specs.Prelude.{◌≡◌, ℕ, zero, suc, ◌^◌, ◌<◌, Bool, false, cond, not, ◌||◌, List, [], ◌∷◌, Some, None, Option, ◌==◌, nat_le, nat_lt}
use Rattle.messages.specs.Packets.{Seens}
use Rattle.messages.specs.declared.values.WordId.{WordId}
use Rattle.model.specs.Box.{Box}
use Rattle.linkmodel.specs.Station.{Seens as Sights, Sight, Station as Whole, heard_seens, teller}
use Rattle.station.specs.declared.answers.Refusal.{Refusal}
use Rattle.station.specs.declared.answers.Refusal.TheVariants.{OutOfRange, NoRoad, CountSpent}

-- the numbers of no word
abbrev pub no_id : WordId
no_id = record { about = 0; count = 0; tag = 0 }

abbrev pub sight_of : WordId → Sight
sight_of x = record { about = x.about; number = x.count; tag = x.tag }

-- the first k of these, each as f has it
unfoldable pub first_in : {A B : Type 0} → (A → B) → ℕ → List A → List B
first_in f zero xs = []
first_in f (suc k) [] = []
first_in f (suc k) (x ∷ xs) = f x ∷ first_in f k xs

abbrev pub sights_in : ℕ → List WordId → List Sight
sights_in k xs = first_in sight_of k xs

abbrev pub seens_of : Seens → Sights
seens_of p = record { drawn = p.drawn; items = sights_in p.count p.items }

-- one of the first k passes the test
unfoldable pub any_in : (WordId → Bool) → ℕ → List WordId → Bool
any_in f zero xs = false
any_in f (suc k) [] = false
any_in f (suc k) (x ∷ xs) = f x || any_in f k xs

-- no such box, or a count of 0
abbrev pub is_out : ℕ → WordId → Bool
is_out n x = not (nat_lt x.about n) || x.count == 0

-- a count that nobody says
abbrev pub is_spent : WordId → Bool
is_spent x = nat_le (2 ^ 63) x.count

-- all of the first k are in range, and their counts can be said
abbrev pub AllGood : ℕ → ℕ → List WordId → Type 0
AllGood n k xs = (any_in (is_out n) k xs ≡ false) × (any_in is_spent k xs ≡ false)

-- the road to e is open, and all of the first k that come over it are good
abbrev pub GoodFrom : ℕ → ℕ → List WordId → Box → Type 0
GoodFrom e k xs b = (e < b.n) × ((0 < b.cost e) × AllGood b.n k xs)

-- who tells, if a road is open to somebody on that wire
abbrev pub road_refusal : Option ℕ → Option Refusal → Option Refusal
road_refusal None o = Some NoRoad
road_refusal (Some e) o = o

-- why a packet of k items is refused that this box sent: not one to four of them, or one is out of range; no open road; a count that nobody says
abbrev pub packet_refusal : ℕ → Option ℕ → ℕ → List WordId → Option Refusal
packet_refusal n from k xs =
    cond (k == 0 || (nat_lt 4 k || any_in (is_out n) k xs)) (Some OutOfRange) (road_refusal from (cond (any_in is_spent k xs) (Some CountSpent) None))

abbrev pub seens_refusal : ℕ → Seens → Whole → Option Refusal
seens_refusal w p s = packet_refusal s.box.n (teller w s.links) p.count p.items

-- what a packet of seens leaves
abbrev pub seens_from : Option ℕ → Sights → Whole → Whole
seens_from None p s = s
seens_from (Some e) p s = heard_seens e p s
