-- A packet of seens, one after the other.
use Rattle.std.proofs.Common.{◌≡◌, ℕ, ◌+◌, ◌<◌, ◌≤◌, List, [], ◌∷◌, map, length, get_or, drop, sym, refl, ap, ◌∙◌}
use Rattle.messages.specs.declared.values.WordId.{WordId}
use Rattle.model.specs.Box.{Box, map_in, sees}
use Rattle.linkmodel.specs.Station.{Sight, Station, sees_all, with_box}
use Rattle.linkmodel.specs.Calls.{Joined}
use Rattle.station.specs.Packets.{no_id, sight_of}
use Rattle.station.proofs.Scans.{next_item, none_left}

-- a box with the same roads
pub record SameRoads (a b : Box) : Type 0 where
  pub boxes : b.n ≡ a.n
  pub self : b.me ≡ a.me
  pub roads : (e : ℕ) → b.cost e ≡ a.cost e

pub roads_refl : (a : Box) → SameRoads a a
roads_refl a = record { boxes = refl; self = refl; roads = λ e. refl }

-- what is left to see, from number k on
abbrev pub sees_from : ℕ → ℕ → List WordId → Box → Box
sees_from e k xs b = sees_all e (map sight_of (drop k xs)) b

pub seen_step : (e k : ℕ) (xs : List WordId) (b : Box) → k < length xs → sees_from e k xs b ≡ sees_from e (k + 1) xs (sees e (get_or xs k no_id).about (get_or xs k no_id).count (get_or xs k no_id).tag b)
unfolding sees_all
seen_step e k xs b h = ap (λ (ys : List WordId). sees_all e (map sight_of ys) b) (next_item no_id xs k h)

pub seen_end : (e k : ℕ) (xs : List WordId) (b : Box) → length xs ≤ k → sees_from e k xs b ≡ b
unfolding sees_all
seen_end e k xs b h = ap (λ (ys : List WordId). sees_all e (map sight_of ys) b) (none_left xs k h)

-- only what is shown changes
record SameBut (a b : Box) : Type 0 where
  boxes : b.n ≡ a.n
  self : b.me ≡ a.me
  roads : b.cost ≡ a.cost
  words : b.word ≡ a.word

all_seen : (e : ℕ) (xs : List Sight) (b : Box) → SameBut b (sees_all e xs b)
unfolding sees_all
all_seen e [] b = record { boxes = refl; self = refl; roads = refl; words = refl }
all_seen e (x ∷ xs) b = let p = all_seen e xs (sees e x.about x.number x.tag b) in record { boxes = p.boxes; self = p.self; roads = p.roads; words = p.words }

pub seen_map : (e : ℕ) (xs : List Sight) (b : Box) → map_in (sees_all e xs b) ≡ map_in b
seen_map e xs b = let p = all_seen e xs b in λ k. map_in (record { n = p.boxes k; me = b.me; cost = b.cost; word = p.words k; shown = b.shown })

pub seen_self : (e : ℕ) (xs : List Sight) (b : Box) → (sees_all e xs b).me ≡ b.me
seen_self e xs b = (all_seen e xs b).self

pub seen_joined : (e : ℕ) (xs : List Sight) (s : Station) → Joined s → Joined (with_box (sees_all e xs s.box) s)
seen_joined e xs s j =
    let p = all_seen e xs s.box in
    record { sound = j.sound; count = j.count ∙ sym p.boxes; number = j.number ∙ sym p.self; roads = λ x. ap (λ (f : ℕ → ℕ). f x) p.roads ∙ j.roads x }
