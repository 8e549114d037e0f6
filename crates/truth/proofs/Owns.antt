-- The word that a box says of itself is one that a line can hold: it has at most a road over each of its eight wires.
use Rattle.std.proofs.Common.{◌≡◌, ℕ, zero, suc, ◌+◌, ◌^◌, ◌<◌, ◌≤◌, Bool, true, false, cond, eqb, List, [], ◌∷◌, length, get_or, sym, refl, ap, ◌∙◌, subst, ap₂, arith, length-append, eqb-true, ne_eqb}
use mathlib.Core.Path.{fun_ext}
use borrow.Author.Tests.{eqb-false}
use Rattle.messages.specs.Values.{at}
use Rattle.messages.specs.declared.values.Word.{Word}
use Rattle.wordframes.specs.Ranges.{IdInRange, WordInRange}
use Rattle.wordframes.specs.Writing.{roads_to}
use Rattle.linkmodel.specs.Links.{Heard, Links, Open, Silent, Wire, lowest_to, opens_to, road_cost}
use Rattle.linkmodel.specs.Relinked.{Sound}
use Rattle.linkmodel.specs.Calls.{Joined}
use Rattle.linkmodel.specs.Station.{Station as Whole}
use Rattle.truth.proofs.Lines.{Readable}

-- how many of the numbers below k have a road by f
unfoldable many : (ℕ → ℕ) → ℕ → ℕ
many f zero = 0
many f (suc k) = many f k + cond (eqb (f k) 0) 0 1

many_same : (f g : ℕ → ℕ) (k : ℕ) → ((e : ℕ) → e < k → f e ≡ g e) → many f k ≡ many g k
unfolding many
many_same f g zero h = refl
many_same f g (suc k) h = ap₂ (λ (a : ℕ) (b : ℕ). a + cond (eqb b 0) 0 1) (many_same f g k (λ e l. h e (omega arith))) (h k (omega arith))

one_at_most : (b : Bool) → cond b 0 1 ≤ 1
one_at_most true = omega arith
one_at_most false = omega arith

-- f and g differ at one place only
many_more : (f g : ℕ → ℕ) (a k : ℕ) → ((e : ℕ) → (e ≡ a → ⊥) → f e ≡ g e) → many f k ≤ suc (many g k)
unfolding many
many_more f g a zero h = omega arith
many_more f g a (suc k) h = go (eqb k a) refl (many_more f g a k h)
  where
    go : (b : Bool) → eqb k a ≡ b → many f k ≤ suc (many g k) → many f k + cond (eqb (f k) 0) 0 1 ≤ suc (many g k + cond (eqb (g k) 0) 0 1)
    go true e m =
        let s = many_same f g k (λ x l. h x (λ q. let z = eqb-true k a e in absurd (omega (arith, z, q)))) in
        omega (arith, s, one_at_most (eqb (f k) 0))
    go false e m = let s : f k ≡ g k = h k (eqb-false k a e) in let z : ◌≡◌ {A = ℕ} (cond (eqb (f k) 0) 0 1) (cond (eqb (g k) 0) 0 1) = ap (λ (x : ℕ). cond (eqb x 0) 0 1) s in omega (arith, z, m)

-- at most one road over each of k wires
many_roads : (s : Links) (w k n : ℕ) → many (λ e. lowest_to e s w k) n ≤ k
unfolding lowest_to many
many_roads s w zero n = none n
  where
    none : (n : ℕ) → many (λ e. 0) n ≤ 0
    none zero = omega arith
    none (suc n) = let m = none n in omega arith
many_roads s w (suc k) n = go (s.wire w) refl (many_roads s (w + 1) k n)
  where
    off : many (λ e. lowest_to e s (w + 1) k) n ≤ k → (x : Wire) → s.wire w ≡ x → ((e : ℕ) → opens_to e x ≡ false) → many (λ e. lowest_to e s w (suc k)) n ≤ suc k
    off next x q o =
        let m = many_same (λ e. lowest_to e s w (suc k)) (λ e. lowest_to e s (w + 1) k) n
        (λ e l. ap (λ b. cond b (s.cost w) (lowest_to e s (w + 1) k)) (ap (opens_to e) q ∙ o e)) in
        omega (arith, m, next)

    go : (x : Wire) → s.wire w ≡ x → many (λ e. lowest_to e s (w + 1) k) n ≤ k → many (λ e. lowest_to e s w (suc k)) n ≤ suc k
    go Silent q next = off next Silent q (λ e. refl)
    go (Heard f d t) q next = off next (Heard f d t) q (λ e. refl)
    go (Open f d t) q next =
        let m = many_more (λ e. lowest_to e s w (suc k)) (λ e. lowest_to e s (w + 1) k) f n
        (λ e l. ap (λ b. cond b (s.cost w) (lowest_to e s (w + 1) k)) (ap (opens_to e) q ∙ ne_eqb f e (λ z. l (sym z)))) in
        omega (arith, m, next)

roads_long : (xs : List ℕ) (k : ℕ) → length (roads_to xs k) ≡ many (at xs) k
unfolding roads_to many
roads_long xs zero = refl
roads_long xs (suc k) =
    length-append {A = ℕ × ℕ} (roads_to xs k) (cond (eqb (get_or xs k 0) 0) [] ((k, get_or xs k 0) ∷ []))
    ∙ ap₂ (λ a b. a + b) (roads_long xs k) (go (eqb (get_or xs k 0) 0))
  where
    go : (b : Bool) → length {A = ℕ × ℕ} (cond b [] ((k, get_or xs k 0) ∷ [])) ≡ cond b 0 1
    go true = refl
    go false = refl

-- a road leads to another box that there is
road_there : (s : Links) (e w k : ℕ) → Sound s → (lowest_to e s w k ≡ 0 → ⊥) → (e < s.n) × (e ≡ s.me → ⊥)
unfolding lowest_to
road_there s e w zero h c = absurd (c refl)
road_there s e w (suc k) h c = go (s.wire w) refl (λ o. road_there s e (w + 1) k h (λ z. c (ap (λ b. cond b (s.cost w) (lowest_to e s (w + 1) k)) o ∙ z)))
  where
    opened : (f d t : ℕ) → s.wire w ≡ Open f d t → (b : Bool) → eqb f e ≡ b → (opens_to e (s.wire w) ≡ false → (e < s.n) × (e ≡ s.me → ⊥)) → (e < s.n) × (e ≡ s.me → ⊥)
    opened f d t q true b next = let p = h.known w f d t q in let z = eqb-true f e b in (subst (λ x. x < s.n) z p.0, λ y. p.1.0 (z ∙ y))
    opened f d t q false b next = next (ap (opens_to e) q ∙ b)

    go : (x : Wire) → s.wire w ≡ x → (opens_to e (s.wire w) ≡ false → (e < s.n) × (e ≡ s.me → ⊥)) → (e < s.n) × (e ≡ s.me → ⊥)
    go Silent q next = next (ap (opens_to e) q)
    go (Heard f d t) q next = next (ap (opens_to e) q)
    go (Open f d t) q next = opened f d t q (eqb f e) refl next

-- f up to k, as a list
unfoldable listed : (ℕ → ℕ) → ℕ → List ℕ
listed f zero = []
listed f (suc k) = f 0 ∷ listed (λ e. f (suc e)) k

listed_long : (f : ℕ → ℕ) (k : ℕ) → length (listed f k) ≡ k
unfolding listed
listed_long f zero = refl
listed_long f (suc k) = ap suc (listed_long (λ e. f (suc e)) k)

listed_at : (f : ℕ → ℕ) (k e : ℕ) → (k ≤ e → f e ≡ 0) → get_or (listed f k) e 0 ≡ f e
unfolding listed
listed_at f zero e h = sym (h (omega arith))
listed_at f (suc k) zero h = refl
listed_at f (suc k) (suc e) h = listed_at (λ x. f (suc x)) k e (λ l. h (omega arith))

-- a word of itself with its roads as they are
pub own_readable : (s : Whole) (number tag : ℕ) → Joined s → s.box.n ≤ 64 → ((e : ℕ) → s.box.cost e < 2 ^ 16) → s.box.me < s.box.n → 0 < number → number < 2 ^ 63 → tag < 2 ^ 64 →
    Readable s.box.n (record { about = s.box.me; entry = record { number = number; tag = tag; road = s.box.cost } })
own_readable s number tag j n fits me some low t =
    record { word = w; is = ap (λ (f : ℕ → ℕ). record { about = s.box.me; entry = record { number = number; tag = tag; road = f } }) (fun_ext is); good = good }
  where
    there : (e : ℕ) → (s.box.cost e ≡ 0 → ⊥) → (e < s.links.n) × (e ≡ s.links.me → ⊥)
    there e c = road_there s.links e 0 8 j.sound (λ z. c (j.roads e ∙ z))

    beyond : (e : ℕ) → 64 ≤ e → (b : Bool) → eqb (s.box.cost e) 0 ≡ b → s.box.cost e ≡ 0
    beyond e l true q = eqb-true (s.box.cost e) 0 q
    beyond e l false q = absurd (omega (arith, (there e (eqb-false (s.box.cost e) 0 q)).0, j.count))

    roads : List ℕ
    roads = listed s.box.cost 64

    is : (e : ℕ) → at roads e ≡ s.box.cost e
    is e = listed_at s.box.cost 64 e (λ l. beyond e l (eqb (s.box.cost e) 0) refl)

    w : Word
    w = record { id = record { about = s.box.me; count = number; tag = tag }; costs = roads }

    id : IdInRange s.box.n w.id
    id = record { box = me; some_count = some; count = low; tag = t }

    good : WordInRange s.box.n w
    good = record {
      id = id;
      boxes = listed_long s.box.cost 64;
      few = omega (arith, roads_long roads 64, many_same (at roads) (λ e. road_cost e s.links) 64 (λ e l. is e ∙ j.roads e), many_roads s.links 0 8 64);
      below = λ e c. subst (λ x. e < x) j.count (there e (λ z. c (is e ∙ z))).0;
      other = λ e c q. (there e (λ z. c (is e ∙ z))).1 (q ∙ sym j.number);
      costs = λ e. subst (λ x. x < 2 ^ 16) (sym (is e)) (fits e);
    }
