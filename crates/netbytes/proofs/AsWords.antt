-- Words of the model that fit are those of a packet that a frame can hold.
use Rattle.std.proofs.Common.{◌≡◌, ℕ, zero, suc, ◌+◌, ◌^◌, ◌<◌, ◌≤◌, Bool, true, false, cond, eqb, List, [], ◌∷◌, length, get_or, sym, refl, ap, ◌∙◌, subst, arith, length-append, eqb-true}
use mathlib.Core.Path.{fun_ext}
use borrow.Author.Tests.{eqb-false}
use Rattle.messages.specs.Packets.{Words}
use Rattle.messages.specs.Values.{at}
use Rattle.messages.specs.declared.values.Word.{Word}
use Rattle.linkmodel.specs.Station.{Bundle, Item}
use Rattle.netmodel.specs.Fits.{IsDrawn, ItemFits, OneToFour, roads_below}
use Rattle.station.specs.Ticking.{bundle_of, item_of, no_word}
use Rattle.wordframes.specs.Ranges.{WordInRange, WordsInRange}
use Rattle.wordframes.specs.Writing.{roads_to}
use Rattle.netbytes.proofs.Fours.{four_back, four_blank, four_good, four_long, four_of}

-- f up to k, as a list
unfoldable pub listed : (ℕ → ℕ) → ℕ → List ℕ
listed f zero = []
listed f (suc k) = f 0 ∷ listed (λ e. f (suc e)) k

listed_long : (f : ℕ → ℕ) (k : ℕ) → length (listed f k) ≡ k
unfolding listed
listed_long f zero = refl
listed_long f (suc k) = ap suc (listed_long (λ e. f (suc e)) k)

listed_at : (f : ℕ → ℕ) (k e : ℕ) → (k ≤ e → f e ≡ 0) → get_or (listed f k) e 0 ≡ f e
unfolding listed
listed_at f zero e h = sym (h (omega arith))
listed_at f (suc k) zero h = refl
listed_at f (suc k) (suc e) h = listed_at (λ x. f (suc x)) k e (λ l. h (omega arith))

-- the word of an item: its roads as a list of costs
abbrev pub word_of : Item → Word
word_of x = record { id = record { about = x.about; count = x.entry.number; tag = x.entry.tag }; costs = listed x.entry.road 64 }

-- as many roads by the one as by the other
roads_long : (xs : List ℕ) (k : ℕ) → length (roads_to xs k) ≡ roads_below (at xs) k
unfolding roads_to roads_below
roads_long xs zero = refl
roads_long xs (suc k) =
    length-append {A = ℕ × ℕ} (roads_to xs k) (cond (eqb (get_or xs k 0) 0) [] ((k, get_or xs k 0) ∷ []))
    ∙ (ap (λ (m : ℕ). m + length {A = ℕ × ℕ} (cond (eqb (get_or xs k 0) 0) [] ((k, get_or xs k 0) ∷ []))) (roads_long xs k)
    ∙ ap (λ (m : ℕ). roads_below (at xs) k + m) (go (eqb (get_or xs k 0) 0)))
  where
    go : (b : Bool) → length {A = ℕ × ℕ} (cond b [] ((k, get_or xs k 0) ∷ [])) ≡ cond b 0 1
    go true = refl
    go false = refl

module _ (n : ℕ) (few : n ≤ 64) where
  roads_back : (x : Item) → ItemFits n x → at (listed x.entry.road 64) ≡ x.entry.road
  roads_back x h = fun_ext (λ e. listed_at x.entry.road 64 e (λ l. beyond e l (eqb (x.entry.road e) 0) refl))
    where
      beyond : (e : ℕ) → 64 ≤ e → (b : Bool) → eqb (x.entry.road e) 0 ≡ b → x.entry.road e ≡ 0
      beyond e l true q = eqb-true (x.entry.road e) 0 q
      beyond e l false q = absurd (omega (arith, h.below e (eqb-false (x.entry.road e) 0 q)))

  pub word_back : (x : Item) → ItemFits n x → item_of (word_of x) ≡ x
  word_back x h = ap (λ (f : ℕ → ℕ). record { about = x.about; entry = record { number = x.entry.number; tag = x.entry.tag; road = f } }) (roads_back x h)

  pub word_good : (x : Item) → ItemFits n x → WordInRange n (word_of x)
  word_good x h =
      record {
        id = record { box = h.box; some_count = h.some_count; count = h.count; tag = h.tag };
        boxes = listed_long x.entry.road 64;
        few = omega (arith, roads_long (listed x.entry.road 64) 64, ap (λ (f : ℕ → ℕ). roads_below f 64) (roads_back x h), h.few);
        below = λ e c. h.below e (λ z. c (is e ∙ z));
        other = λ e c. h.other e (λ z. c (is e ∙ z));
        costs = λ e. subst (λ (y : ℕ). y < 2 ^ 16) (sym (is e)) (h.costs e);
      }
    where
      is : (e : ℕ) → get_or (listed x.entry.road 64) e 0 ≡ x.entry.road e
      is e = ap (λ (f : ℕ → ℕ). f e) (roads_back x h)

-- the packet of a bundle
abbrev pub words_of : Bundle → Words
words_of p = record { drawn = p.drawn; count = length p.items; items = four_of word_of no_word p.items }

module _ (n : ℕ) (few : n ≤ 64) (p : Bundle) where
  pub bundle_back : OneToFour (ItemFits n) p.items → bundle_of (words_of p) ≡ p
  bundle_back h = ap (λ (xs : List Item). record { drawn = p.drawn; items = xs }) (four_back word_of no_word (ItemFits n) item_of (word_back n few) p.items h.2 _)

  pub words_good : IsDrawn p.drawn → OneToFour (ItemFits n) p.items → WordsInRange n (words_of p)
  words_good d h =
      record {
        some_drawn = d.0;
        drawn = d.1;
        some = h.0;
        few = h.1;
        four = four_long word_of no_word p.items h.1;
        each = four_good word_of no_word (ItemFits n) (WordInRange n) (word_good n few) p.items h.2;
        blank = four_blank word_of no_word p.items;
      }
