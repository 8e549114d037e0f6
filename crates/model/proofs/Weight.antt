-- How much can still become new to a box: counted by the items fresher than what it has, and for who speaks by what it may yet say.
use Rattle.std.proofs.Common.{◌≡◌, ℕ, suc, ◌+◌, ◌*◌, ◌<◌, ◌≤◌, Bool, true, false, cond, ◌⊎◌, List, [], ◌∷◌, length, refl, ap, ◌∙◌, inl, inr, mul-le-mul_left, mul-suc, arith}
use Rattle.model.specs.Flood.{Item, fresher, Setup}
use Rattle.model.proofs.Tests.{true_not_false}
use Rattle.model.proofs.Tallies.{tally, tally_le, tally_lt, tally_all, tally_some, Among}
use Rattle.model.proofs.Fresh.{fresher_self, fresher_trans}
use Rattle.model.proofs.Counts.{one_le}
use Rattle.model.proofs.Owing.{owe, owe_none}

-- z is fresher than x
abbrev pub above : {P : Type 0} → Item P → Item P → Bool
above x z = fresher z x

-- old: the items there were; said: those said since
abbrev pub weight : {P : Type 0} → Setup P → List (Item P) → List (Item P) → Bool → Item P → P → ℕ
weight s old said b x p = tally (above x) said + tally (above x) old + cond b (s.boxes * (tally (above x) old + cond (owe s b x p) 1 0)) 0

fall : {P : Type 0} (x y : Item P) (l : List (Item P)) → fresher y x ≡ true → tally (above y) l ≤ tally (above x) l
fall x y l h = tally_le (above y) (above x) l (λ z q. fresher_trans z y x q h)

-- y isn't counted by who has it, and was by who had what it is fresher than
fall_more : {P : Type 0} (x y z : Item P) (l : List (Item P)) → fresher y x ≡ true → Among z l → fresher z y ≡ false → fresher z x ≡ true → tally (above y) l < tally (above x) l
fall_more x y z l h m u v = tally_lt (above y) (above x) z l (λ t q. fresher_trans t y x q h) m u v

-- a box that doesn't speak takes an item that is around
pub weight_takes : {P : Type 0} (s : Setup P) (old said : List (Item P)) (b : Bool) (x y : Item P) (p : P) → b ≡ false → fresher y x ≡ true → Among y said ⊎ Among y old → weight s old said b y p + 1 ≤ weight s old said b x p
weight_takes s old said true x y p e h m = true_not_false true refl e
weight_takes s old said false x y p e h (inl m) =
    let a : tally (above y) said < tally (above x) said = fall_more x y y said h m (fresher_self y) h in
    let b : tally (above y) old ≤ tally (above x) old = fall x y old h in
    omega arith
weight_takes s old said false x y p e h (inr m) =
    let a : tally (above y) said ≤ tally (above x) said = fall x y said h in
    let b : tally (above y) old < tally (above x) old = fall_more x y y old h m (fresher_self y) h in
    omega arith

-- an item is said somewhere else
pub weight_hears : {P : Type 0} (s : Setup P) (old said : List (Item P)) (b : Bool) (x y : Item P) (p : P) → weight s old (y ∷ said) b x p ≤ weight s old said b x p + 1
weight_hears s old said b x y p = let h : cond (above x y) 1 0 ≤ 1 = one_le (above x y) in omega arith

once_more : (n c o : ℕ) → o ≡ 0 → n * (c + 1) ≡ n * (c + o) + n
once_more n c o e = ap (λ k. n * k) (let h : c + 1 ≡ suc (c + o) = omega arith in h) ∙ mul-suc n (c + o)

-- who speaks says an item, because it owed one or above an older one
pub weight_says : {P : Type 0} (s : Setup P) (old said : List (Item P)) (b : Bool) (x y : Item P) (p : P) → b ≡ true → fresher y x ≡ true → y.body ≡ p → 0 < y.number →
    tally (above y) old + 1 ≤ tally (above x) old + cond (owe s b x p) 1 0 → weight s old (y ∷ said) b y p + s.boxes ≤ weight s old said b x p
weight_says s old said false x y p e h q k d = true_not_false false e refl
weight_says s old said true x y p e h q k d =
    let a : tally (above y) said ≤ tally (above x) said = fall x y said h in
    let b : tally (above y) old ≤ tally (above x) old = fall x y old h in
    let c : ◌≡◌ {A = ℕ} (cond (fresher y y) 1 0) 0 = ap (λ (t : Bool). cond {A = ℕ} t 1 0) (fresher_self y) in
    let o : ◌≡◌ {A = ℕ} (cond (owe s true y p) 1 0) 0 = ap (λ (t : Bool). cond {A = ℕ} t 1 0) (owe_none s true y p q k) in
    let m : s.boxes * (tally (above y) old + 1) ≤ s.boxes * (tally (above x) old + cond (owe s true x p) 1 0) = mul-le-mul_left s.boxes d in
    let n : s.boxes * (tally (above y) old + 1) ≡ s.boxes * (tally (above y) old + cond (owe s true y p) 1 0) + s.boxes =
    once_more s.boxes (tally (above y) old) (cond (owe s true y p) 1 0) o in
    omega arith

-- at the beginning, when nothing was said since
pub weight_start : {P : Type 0} (s : Setup P) (old : List (Item P)) (b : Bool) (x : Item P) (p : P) → Among x old → weight s old [] b x p ≤ length old + cond b (s.boxes * length old) 0
weight_start s old false x p m = let h : tally (above x) old ≤ length old = tally_all (above x) old in omega arith
weight_start s old true x p m =
    let h : tally (above x) old < length old = tally_some (above x) x old m (fresher_self x) in
    let o : cond (owe s true x p) 1 0 ≤ 1 = one_le (owe s true x p) in
    let k : s.boxes * (tally (above x) old + cond (owe s true x p) 1 0) ≤ s.boxes * length old = mul-le-mul_left s.boxes (let z : tally (above x) old + cond (owe s true x p) 1 0 ≤ length old = omega arith in z) in
    omega arith
