-- Readers look only at the front: whatever comes after what they read is left.
use Rattle.std.proofs.Common.{◌≡◌, ℕ, zero, suc, ◌≤◌, Bool, true, false, cond, eqb, List, [], ◌∷◌, ◌++◌, length, Ok, Err, Result, ap, ◌∙◌, ap₂, arith}
use Rattle.octets.specs.declared.Fault.{Fault}
use Rattle.octets.specs.declared.Fault.TheVariants.{Form}
use Rattle.octets.specs.Reads.{Read, onward, give, unless, byte, number, below, positive, times}
use Rattle.octets.proofs.Parts.{both, step}
use Rattle.wordframes.specs.Reading.{id_in, road_in, road_onto, roads_in, word_in}
use Rattle.frames.specs.declared.values.Entry.{Entry}
use Rattle.frames.specs.declared.values.Entry.TheVariants.{Said, Taken, Refused}
use Rattle.frames.specs.declared.values.Line.{Line}
use Rattle.frames.specs.Reading.{wrong, boxes_in, counted_in, began_in, entry_in, line_in}

-- a value that was read is read before more bytes too, and what is left is no longer than all
pub record Kept {A : Type 0} (p : Read A) (bytes : List ℕ) (v : A) (left : List ℕ) : Type 0 where
  pub again : (more : List ℕ) → p (bytes ++ more) ≡ Ok (v, left ++ more)
  pub shorter : length left ≤ length bytes

abbrev pub Local : {A : Type 0} → Read A → Type 0
Local {A} p = (bytes : List ℕ) (v : A) (left : List ℕ) → p bytes ≡ Ok (v, left) → Kept p bytes v left

pub local_then : {A B : Type 0} (p : Read A) (f : A → Read B) → Local p → ((a : A) → Local (f a)) → Local (λ bytes. onward (p bytes) f)
local_then p f lp lf bytes v left h =
    let s = step (p bytes) f v left h in
    let a = lp bytes s.value s.left s.was in
    let b = lf s.value s.left v left s.then in
    record { again = λ more. ap (λ r. onward r f) (a.again more) ∙ b.again more; shorter = omega (arith, a.shorter, b.shorter) }

pub local_give : {A : Type 0} (x : A) → Local (give x)
local_give x bytes v left h =
    let e = both x v bytes left h in
    record { again = λ more. ap₂ (λ y ys. Ok (y, ys ++ more)) e.0 e.1; shorter = omega (arith, ap length e.1) }

no_value : {A : Type 0} (e : Fault) (v : A) (left : List ℕ) → ◌≡◌ {A = Result (A × List ℕ) Fault} (Err e) (Ok (v, left)) → ⊥
no_value e v left h = let z : ◌≡◌ {A = ℕ} 0 1 = cc in omega arith

local_wrong : {A : Type 0} (e : Fault) → Local {A = A} (wrong e)
local_wrong e bytes v left h = absurd (no_value e v left h)

local_unless : (e : Fault) (good : Bool) → Local (unless e good)
local_unless e true = local_give tt
local_unless e false = local_wrong e

local_byte : Local byte
local_byte [] v left h = absurd (no_value Form v left h)
local_byte (b ∷ bs) v left h =
    let e = both b v bs left h in
    record { again = λ more. ap₂ (λ y ys. Ok (y, ys ++ more)) e.0 e.1; shorter = omega (arith, ap length e.1) }

local_number : (k : ℕ) → Local (number k)
unfolding number
local_number zero = local_give 0
local_number (suc k) = local_then (number k) _ (local_number k) (λ high. local_then byte _ local_byte (λ low. local_give _))

local_times : {S : Type 0} (k : ℕ) (f : S → Read S) (s : S) → ((t : S) → Local (f t)) → Local (times k f s)
unfolding times
local_times zero f s l = local_give s
local_times (suc k) f s l = local_then (times k f s) f (local_times k f s l) l

-- a value that has to pass a test
local_test : {A : Type 0} (p : Read A) (e : Fault) (good : A → Bool) → Local p → Local (λ bytes. onward (p bytes) (λ x mid. onward (unless e (good x) mid) (λ _. give x)))
local_test p e good l = local_then p _ l (λ x. local_then (unless e (good x)) _ (local_unless e (good x)) (λ _. local_give x))

local_cond : {A : Type 0} (b : Bool) (p q : Read A) → Local p → Local q → Local (cond b p q)
local_cond true p q l m = l
local_cond false p q l m = m

local_below : (limit : ℕ) → Local (below limit)
local_below limit = local_test byte _ _ local_byte

local_positive : (k : ℕ) → Local (positive k)
local_positive k = local_test (number k) _ _ (local_number k)

local_id : (n : ℕ) → Local (id_in n)
local_id n = local_then (below n) _ (local_below n) (λ about. local_then (positive 8) _ (local_positive 8) (λ count. local_then (number 8) _ (local_number 8) (λ tag. local_give _)))

local_road : (n about from : ℕ) → Local (road_in n about from)
local_road n about from =
    local_then (below n) _ (local_below n) (λ to. local_then (unless _ _) _ (local_unless _ _) (λ _. local_then (positive 2) _ (local_positive 2) (λ cost. local_give _)))

local_roads : (n about k : ℕ) → Local (roads_in n about k)
local_roads n about k =
    local_then (times k (road_onto n about) _) _ (local_times k (road_onto n about) _ (λ so. local_then (road_in n about so.0) _ (local_road n about so.0) (λ road. local_give _))) (λ so. local_give _)

local_word : (n : ℕ) → Local (word_in n)
local_word n =
    local_then (id_in n) _ (local_id n) (λ id. local_then byte _ local_byte (λ roads. local_then (unless _ _) _ (local_unless _ _) (λ _. local_then (roads_in n id.about roads) _ (local_roads n id.about roads) (λ costs. local_give _))))

local_counted : (n : ℕ) → Local (counted_in n)
local_counted n = local_test (word_in n) _ _ (local_word n)

local_boxes : Local boxes_in
local_boxes = local_test byte _ _ local_byte

local_began : Local began_in
local_began = local_then boxes_in _ local_boxes (λ boxes. local_then (below boxes) _ (local_below boxes) (λ me. local_give _))

-- the kinds of an entry that are not the first
module _ (n kind : ℕ) where
  abbrev said_in : Read Entry
  said_in bytes = onward (counted_in n bytes) (λ w. give (Said w))

  abbrev taken_in : Read Entry
  taken_in bytes = onward (counted_in n bytes) (λ w. give (Taken w))

  abbrev refused_in : Read Entry
  refused_in bytes = onward (byte bytes) (λ k. give (Refused k))

  abbrev from_third : Read Entry
  from_third = cond (eqb kind 3) refused_in (wrong Form)

  abbrev from_second : Read Entry
  from_second = cond (eqb kind 2) taken_in from_third

  abbrev from_first : Read Entry
  from_first = cond (eqb kind 1) said_in from_second

  local_entry : Local (entry_in n kind)
  local_entry =
      local_cond (eqb kind 0) began_in from_first local_began
      (local_cond (eqb kind 1) said_in from_second (local_then (counted_in n) _ (local_counted n) (λ w. local_give (Said w)))
      (local_cond (eqb kind 2) taken_in from_third (local_then (counted_in n) _ (local_counted n) (λ w. local_give (Taken w)))
      (local_cond (eqb kind 3) refused_in (wrong Form) (local_then byte _ local_byte (λ k. local_give (Refused k))) (local_wrong Form))))

-- what follows the first byte of a line
abbrev line_after : ℕ → ℕ → Read Line
line_after n kind bytes = line_in n (kind ∷ bytes)

local_after : (n kind : ℕ) → Local (line_after n kind)
local_after n kind =
    local_then (unless _ _) _ (local_unless _ _)
    (λ _. local_then (number 4) _ (local_number 4) (λ tick. local_then byte _ local_byte (λ what. local_then (entry_in n what) _ (local_entry n what) (λ entry. local_give _))))

-- a line that was read is read whatever comes after it, and it had at least one byte
pub line_local : (n b : ℕ) (bs : List ℕ) (l : Line) (left : List ℕ) → line_in n (b ∷ bs) ≡ Ok (l, left) → ((more : List ℕ) → line_in n (b ∷ (bs ++ more)) ≡ Ok (l, left ++ more)) × (length left ≤ length bs)
line_local n b bs l left h = let k = local_after n b bs l left h in (k.again, k.shorter)
