-- What one move of a net leaves of boxes, wires and numbers, and what is then sent.
use Rattle.std.proofs.Common.{◌≡◌, ℕ, ◌<◌, Bool, true, false, cond, ◌&&◌, ◌||◌, eqb, ltb, ◌⊎◌, List, [], ◌∷◌, ◌++◌, refl, ap, inl, inr, lt-ltb}
use Rattle.model.specs.Flood.{row}
use Rattle.model.specs.Words.{is_in}
use Rattle.model.proofs.Tests.{of_cond, true_not_false}
use Rattle.linkmodel.proofs.Wires.{at_row}
use Rattle.linkmodel.proofs.Bools.{and_both}
use Rattle.linkmodel.specs.Links.{wires}
use Rattle.linkmodel.specs.Station.{Out, Station as Whole, falls, has_costs, tick_out, ticks}
use Rattle.netmodel.specs.Net.{Net, Ticks, Rewires, Falls, becomes, is_fresh, move, sent_by, small_costs}

-- one box of a net became s and sent these; these tags and numbers were drawn
pub record Moved (x y : Net) (a : ℕ) (s : Whole) (outs : List Out) (ts ds : List ℕ) : Type 0 where
  pub boxes : (b : ℕ) → y.at b ≡ row a s x.at b
  pub joined : (b u : ℕ) → y.joined b u ≡ x.joined b u
  pub laid : y.laid ≡ x.laid
  pub sent : y.sent ≡ sent_by a (x.joined a) outs ++ x.sent
  pub tags : (t : ℕ) → is_in t y.tags ≡ true → (is_in t ts ≡ true) ⊎ (is_in t x.tags ≡ true)
  pub drawn : (t : ℕ) → is_in t y.drawn ≡ true → (is_in t ds ≡ true) ⊎ (is_in t x.drawn ≡ true)

-- what is in two lists is in one of them
pub in_two : (t : ℕ) (ts us : List ℕ) → is_in t (ts ++ us) ≡ true → (is_in t ts ≡ true) ⊎ (is_in t us ≡ true)
unfolding is_in
in_two t [] us h = inr h
in_two t (x ∷ xs) us h = go (eqb x t) h (in_two t xs us)
  where
    go : (b : Bool) → (b || is_in t (xs ++ us)) ≡ true → (is_in t (xs ++ us) ≡ true → (is_in t xs ≡ true) ⊎ (is_in t us ≡ true)) → ((b || is_in t xs) ≡ true) ⊎ (is_in t us ≡ true)
    go true h f = inl refl
    go false h f = f h

-- one box becomes s and sends
pub moved : (x : Net) (a : ℕ) (s : Whole) (outs : List Out) (ts : List ℕ) → Moved x (becomes a s outs ts x) a s outs ts []
moved x a s outs ts = record { boxes = λ b. refl; joined = λ b u. refl; laid = refl; sent = refl; tags = λ t h. in_two t ts x.tags h; drawn = λ t h. inr h }

-- a row replaced by itself
pub row_self : {A : Type 0} (a : ℕ) (r : ℕ → A) (b : ℕ) → r b ≡ row a (r a) r b
row_self a r b = at_row (λ z. r b ≡ z) a (r a) r b (λ e. ap r e) (λ _. refl)

-- nothing becomes of any box
pub unmoved : (x : Net) (a : ℕ) → Moved x x a (x.at a) [] [] []
unfolding sent_by
unmoved x a = record { boxes = row_self a x.at; joined = λ b u. refl; laid = refl; sent = refl; tags = λ t h. inr h; drawn = λ t h. inr h }

-- where a test passes
pub passing : {A : Type 0} (Q : A → Type 0) (b : Bool) (x y : A) → b ≡ true → Q x → Q (cond b x y)
passing Q b x y e q = of_cond Q b x y (λ _. q) (λ f. true_not_false b e f)

-- a tick
pub tick_moved : (n : ℕ) (x : Net) (a t : ℕ) → a < n → is_fresh t x.tags ≡ true → Moved x (move n (Ticks a t) x) a (ticks t (x.at a)) (tick_out (ticks t (x.at a))) (t ∷ []) []
tick_moved n x a t l f =
    passing (λ (y : Net). Moved x y a (ticks t (x.at a)) (tick_out (ticks t (x.at a))) (t ∷ []) []) (ltb a n && is_fresh t x.tags) (becomes a (ticks t (x.at a)) (tick_out (ticks t (x.at a))) (t ∷ []) x) x
    (and_both (ltb a n) (is_fresh t x.tags) (lt-ltb a n l) f) (moved x a (ticks t (x.at a)) (tick_out (ticks t (x.at a))) (t ∷ []))

-- new costs
pub costs_moved : (n : ℕ) (x : Net) (a : ℕ) (c : ℕ → ℕ) → a < n → small_costs c wires ≡ true → Moved x (move n (Rewires a c) x) a (has_costs c (x.at a)) [] [] []
costs_moved n x a c l f =
    passing (λ (y : Net). Moved x y a (has_costs c (x.at a)) [] [] []) (ltb a n && small_costs c wires) (becomes a (has_costs c (x.at a)) [] [] x) x
    (and_both (ltb a n) (small_costs c wires) (lt-ltb a n l) f) (moved x a (has_costs c (x.at a)) [] [])

-- a fall
pub fall_moved : (n : ℕ) (x : Net) (a d : ℕ) → a < n → 0 < d → is_fresh d x.drawn ≡ true → Moved x (move n (Falls a d) x) a (falls d (x.at a)) [] [] (d ∷ [])
unfolding sent_by
fall_moved n x a d l p f =
    passing (λ (y : Net). Moved x y a (falls d (x.at a)) [] [] (d ∷ [])) (ltb a n && (ltb 0 d && is_fresh d x.drawn))
    (record { at = row a (falls d (x.at a)) x.at; joined = x.joined; sent = x.sent; tags = x.tags; drawn = d ∷ x.drawn; laid = x.laid }) x
    (and_both (ltb a n) (ltb 0 d && is_fresh d x.drawn) (lt-ltb a n l) (and_both (ltb 0 d) (is_fresh d x.drawn) (lt-ltb 0 d p) f))
    (record { boxes = λ b. refl; joined = λ b u. refl; laid = refl; sent = refl; tags = λ t h. inr h; drawn = λ t h. in_two t (d ∷ []) x.drawn h })
