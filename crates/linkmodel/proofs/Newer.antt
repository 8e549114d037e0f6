-- The order of words by `newer`: not newer is a total preorder on number and tag.
use Rattle.std.proofs.Common.{◌≡◌, ℕ, suc, Bool, true, false, ◌&&◌, ◌||◌, eqb, ltb, arith}
use Rattle.std.proofs.lemmas.Bool.Decides.{nat_tests}
use Rattle.model.specs.Words.{Entry, newer}
use Rattle.model.specs.Code.{same_word}

-- the order of two words by number and tag
abbrev pub after : ℕ → ℕ → ℕ → ℕ → Bool
after m t n u = ltb n m || (eqb n m && ltb u t)

pub after_self : (m t : ℕ) → after m t m t ≡ false
after_self m t = grind (arith, nat_tests)

pub after_upto : (m t n u k v : ℕ) → after m t n u ≡ false → after n u k v ≡ false → after m t k v ≡ false
after_upto m t n u k v p q = grind (arith, nat_tests)

after_asym : (m t n u : ℕ) → after m t n u ≡ true → after n u m t ≡ false
after_asym m t n u p = grind (arith, nat_tests)

after_suc : (m t n u v : ℕ) → after m t n u ≡ true → after n u (suc m) v ≡ false
after_suc m t n u v p = grind (arith, nat_tests)

after_next : (m t u : ℕ) → after m t (suc m) u ≡ false
after_next m t u = grind (arith, nat_tests)

pub after_same : (m t n u : ℕ) → (eqb m n && eqb t u) ≡ true → (m ≡ n) × (t ≡ u)
after_same m t n u p = (grind (arith, nat_tests), grind (arith, nat_tests))

-- the same number and tag
pub after_level : (m t n u : ℕ) → (eqb m n && eqb t u) ≡ true → after m t n u ≡ false
after_level m t n u p = grind (arith, nat_tests)

pub newer_self : (x : Entry) → newer x x ≡ false
newer_self x = after_self x.number x.tag

-- not newer than what isn't newer
pub newer_upto : (x y z : Entry) → newer x y ≡ false → newer y z ≡ false → newer x z ≡ false
newer_upto x y z p q = after_upto x.number x.tag y.number y.tag z.number z.tag p q

pub newer_asym : (x y : Entry) → newer x y ≡ true → newer y x ≡ false
newer_asym x y p = after_asym x.number x.tag y.number y.tag p

-- not newer than what has a number above one that is newer
pub newer_suc : (x y z : Entry) → newer x y ≡ true → z.number ≡ suc x.number → newer y z ≡ false
newer_suc x y z p e = rw e (after_suc x.number x.tag y.number y.tag z.tag p)

-- nor than what has the next number
pub newer_next : (x z : Entry) → z.number ≡ suc x.number → newer x z ≡ false
newer_next x z e = rw e (after_next x.number x.tag z.tag)

after_over : (m t n u : ℕ) → after m t n u ≡ true → (k v : ℕ) → k ≡ suc m → after k v n u ≡ true
after_over m t n u p k v e = rw e (grind (arith, nat_tests))

after_neither : (m t n u : ℕ) → after m t n u ≡ false → after n u m t ≡ false → (m ≡ n) × (t ≡ u)
after_neither m t n u p q = (grind (arith, nat_tests), grind (arith, nat_tests))

after_above : (m t u : ℕ) → after (suc m) u m t ≡ true
after_above m t u = grind (arith, nat_tests)

-- newer than what an older one is newer than
pub newer_over : (x y z : Entry) → newer x y ≡ true → z.number ≡ suc x.number → newer z y ≡ true
newer_over x y z p e = after_over x.number x.tag y.number y.tag p z.number z.tag e

pub newer_above : (x z : Entry) → z.number ≡ suc x.number → newer z x ≡ true
newer_above x z e = rw e (after_above x.number x.tag z.tag)

-- neither is newer: the same number and tag
pub newer_neither : (x y : Entry) → newer x y ≡ false → newer y x ≡ false → (x.number ≡ y.number) × (x.tag ≡ y.tag)
newer_neither x y p q = after_neither x.number x.tag y.number y.tag p q

-- of the same word neither is newer
pub same_not_newer : (x y : Entry) → same_word x y ≡ true → newer x y ≡ false
same_not_newer x y p = after_level x.number x.tag y.number y.tag p

after_level_back : (m t n u : ℕ) → (eqb m n && eqb t u) ≡ true → after n u m t ≡ false
after_level_back m t n u p = grind (arith, nat_tests)

pub same_not_older : (x y : Entry) → same_word x y ≡ true → newer y x ≡ false
same_not_older x y p = after_level_back x.number x.tag y.number y.tag p

same_of : (m t n u : ℕ) → m ≡ n → t ≡ u → (eqb m n && eqb t u) ≡ true
same_of m t n u p q = grind (arith, nat_tests)

pub neither_same : (x y : Entry) → newer x y ≡ false → newer y x ≡ false → same_word x y ≡ true
neither_same x y p q = let e = newer_neither x y p q in same_of x.number x.tag y.number y.tag e.0 e.1
