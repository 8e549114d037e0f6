-- Nothing is left untold: each round shows the four lowest that weren't shown.
use Rattle.std.proofs.Common.{◌≡◌, ℕ, zero, suc, ◌+◌, ◌-◌, ◌*◌, ◌<◌, ◌≤◌, Bool, true, false, not, ◌&&◌, ◌||◌, eqb, ltb, List, ◌∷◌, refl, ◌∙◌, subst, add-one, arith, ltb-false, ltb-true, lt-ltb}
use borrow.Author.Tests.{eqb-false}
use Rattle.model.specs.Words.{is_in}
use Rattle.model.specs.Code.{pick}
use Rattle.model.specs.Box.{Box}
use Rattle.model.proofs.Tests.{of_cond, cond-true, cond-false, or_left, or_right}
use Rattle.linkmodel.proofs.Bools.{true_not_false}
use Rattle.linkmodel.specs.Telling.{how_many, is_untold, Round, Rounds, NothingStarves, AllTold}
use Rattle.linkmodel.proofs.Quieting.{told}

-- how many below one more
many_yes : (f : ℕ → Bool) (k : ℕ) → f k ≡ true → how_many f (suc k) ≡ suc (how_many f k)
unfolding how_many
many_yes f k h = cond-true (f k) (suc (how_many f k)) (how_many f k) h

many_no : (f : ℕ → Bool) (k : ℕ) → f k ≡ false → how_many f (suc k) ≡ how_many f k
unfolding how_many
many_no f k h = cond-false (f k) (suc (how_many f k)) (how_many f k) h

many_step : (f : ℕ → Bool) (k : ℕ) → (how_many f k ≤ how_many f (suc k)) × (how_many f (suc k) ≤ suc (how_many f k))
unfolding how_many
many_step f k = of_cond (λ (y : ℕ). (how_many f k ≤ y) × (y ≤ suc (how_many f k))) (f k) (suc (how_many f k)) (how_many f k) (λ _. (omega arith, omega arith)) (λ _. (omega arith, omega arith))

many_le : (f : ℕ → Bool) (k : ℕ) → how_many f k ≤ k
unfolding how_many
many_le f zero = omega arith
many_le f (suc k) = of_cond (λ (y : ℕ). y ≤ suc k) (f k) (suc (how_many f k)) (how_many f k) (λ _. omega (arith, many_le f k)) (λ _. omega (arith, many_le f k))

many_mono : (f : ℕ → Bool) (i j : ℕ) → how_many f i ≤ how_many f (j + i)
many_mono f i zero = subst (λ (y : ℕ). how_many f i ≤ how_many f y) (let z : i ≡ 0 + i = omega arith in z) (omega arith)
many_mono f i (suc j) = subst (λ (y : ℕ). how_many f i ≤ how_many f y) (let z : suc (j + i) ≡ suc j + i = omega arith in z) (omega (arith, many_mono f i j, (many_step f (j + i)).0))

pub many_upto : (f : ℕ → Bool) (i j : ℕ) → i ≤ j → how_many f i ≤ how_many f j
many_upto f i j h = subst (λ (y : ℕ). how_many f i ≤ how_many f y) (let z : (j - i) + i ≡ j = omega arith in z) (many_mono f i (j - i))

-- what passes, with fewer than k below it from i on, is picked
pub pick_has : (m k : ℕ) (f : ℕ → Bool) (i j : ℕ) → i ≤ j → j < i + m → f j ≡ true → how_many f j < k + how_many f i → is_in j (pick m k f i) ≡ true
unfolding pick is_in
pick_has zero k f i j a b h c = absurd (omega arith)
pick_has (suc m) zero f i j a b h c = absurd (omega (arith, many_upto f i j a))
pick_has (suc m) (suc k) f i j a b h c =
    of_cond (λ (l : List ℕ). is_in j l ≡ true) (f i) (i ∷ pick m k f (i + 1)) (pick m (suc k) f (i + 1))
    (λ y. here (eqb i j) refl (λ ne. pick_has m k f (i + 1) j (omega arith) (omega arith) h (rw add-one (omega (arith, many_yes f i y)))))
    (λ y. let ne : i ≡ j → ⊥ = (λ z. true_not_false (f j) h (subst (λ (w : ℕ). f w ≡ false) z y)) in
    pick_has m (suc k) f (i + 1) j (omega arith) (omega arith) h (rw add-one (omega (arith, many_no f i y))))
  where
    here : (e : Bool) → eqb i j ≡ e → ((i ≡ j → ⊥) → is_in j (pick m k f (i + 1)) ≡ true) → (eqb i j || is_in j (pick m k f (i + 1))) ≡ true
    here true z ih = or_left (eqb i j) (is_in j (pick m k f (i + 1))) z
    here false z ih = or_right (eqb i j) (is_in j (pick m k f (i + 1))) (ih (eqb-false i j z))

-- if what was picked passes no more, and nothing passes newly, then four fewer pass
pub four_fewer : (n : ℕ) (f g : ℕ → Bool) → ((j : ℕ) → j < n → f j ≡ false → g j ≡ false) → ((j : ℕ) → is_in j (pick n 4 f 0) ≡ true → g j ≡ false) → (i : ℕ) → i ≤ n → how_many g i ≤ how_many f i - 4
four_fewer n f g p q zero h = omega (arith, many_le g 0)
four_fewer n f g p q (suc i) h = go (f i) refl (four_fewer n f g p q i (omega arith))
  where
    none : how_many f 0 ≡ 0
    none = omega (arith, many_le f 0)

    go : (b : Bool) → f i ≡ b → how_many g i ≤ how_many f i - 4 → how_many g (suc i) ≤ how_many f (suc i) - 4
    go false z ih = omega (arith, many_no f i z, many_no g i (p i (omega arith) z))
    go true z ih = low (ltb (how_many f i) 4) refl
      where
        low : (c : Bool) → ltb (how_many f i) 4 ≡ c → how_many g (suc i) ≤ how_many f (suc i) - 4
        low true y = let w : how_many f i < 4 = ltb-true (how_many f i) 4 y in
            omega (arith, many_yes f i z, many_no g i (q i (pick_has n 4 f 0 i (omega arith) (omega arith) z (omega (arith, none)))))
        low false y = let w : 4 ≤ how_many f i = ltb-false (how_many f i) 4 y in omega (arith, many_yes f i z, (many_step g i).1)

-- what isn't untold, though said, is shown
was : (x y : Bool) → (x && not y) ≡ false → x ≡ true → y ≡ true
was true true p q = refl
was true false p q = true_not_false true refl p
was false y p q = true_not_false false q refl

-- one round
pub round_fewer : (e : ℕ) (b c : Box) → Round e b c → (i : ℕ) → i ≤ b.n → how_many (is_untold e c) i ≤ how_many (is_untold e b) i - 4
round_fewer e b c r = four_fewer b.n (is_untold e b) (is_untold e c) stays (λ j h. told e c j (λ _. r.answered j h))
  where
    stays : (j : ℕ) → j < b.n → is_untold e b j ≡ false → is_untold e c j ≡ false
    stays j l h = told e c j (λ n. r.keeps j l (was (ltb 0 (b.word j).number) (b.shown e j) h (lt-ltb 0 (b.word j).number (subst (λ (y : ℕ). 0 < y) (r.words j l) n))))

-- many rounds
rounds_size : (e r : ℕ) (b : ℕ → Box) → Rounds e r b → (b r).n ≡ (b 0).n
rounds_size e zero b h = refl
rounds_size e (suc r) b h = (h r (omega arith)).size ∙ rounds_size e r b (λ k l. h k (omega arith))

rounds_words : (e r : ℕ) (b : ℕ → Box) → Rounds e r b → (i : ℕ) → i < (b 0).n → ((b r).word i).number ≡ ((b 0).word i).number
rounds_words e zero b h i l = refl
rounds_words e (suc r) b h i l =
    (h r (omega arith)).words i (omega (arith, rounds_size e r b (λ k z. h k (omega arith)))) ∙ rounds_words e r b (λ k z. h k (omega arith)) i l

pub rounds_fewer : (e r : ℕ) (b : ℕ → Box) → Rounds e r b → (i : ℕ) → i ≤ (b 0).n → how_many (is_untold e (b r)) i ≤ how_many (is_untold e (b 0)) i - 4 * r
rounds_fewer e zero b h i l = omega arith
rounds_fewer e (suc r) b h i l =
    let before : Rounds e r b = λ k z. h k (omega arith) in
    omega (arith, rounds_fewer e r b before i l, round_fewer e (b r) (b (suc r)) (h r (omega arith)) i (omega (arith, rounds_size e r b before)))

pub nothing_starves_lem : NothingStarves
nothing_starves_lem e r b h i l p q = go (is_untold e (b r) i) refl
  where
    now : 0 < ((b r).word i).number
    now = omega (arith, rounds_words e r b h i l)

    go : (y : Bool) → is_untold e (b r) i ≡ y → (b r).shown e i ≡ true
    go true z = absurd (omega (arith, rounds_fewer e r b h (suc i) l, many_yes (is_untold e (b r)) i z))
    go false z = was (ltb 0 ((b r).word i).number) ((b r).shown e i) z (lt-ltb 0 ((b r).word i).number now)

pub all_told : AllTold
all_told e r b h q i l p =
    let li : i < (b 0).n = omega (arith, rounds_size e r b h) in
    nothing_starves_lem e r b h i li (omega (arith, rounds_words e r b h i li)) (omega (arith, many_le (is_untold e (b 0)) (suc i)))
