-- A run goes on when a wire is laid or taken away, and it begins with boxes that are switched on.
use Rattle.std.proofs.Common.{◌≡◌, ℕ, zero, suc, ◌+◌, ◌<◌, ◌≤◌, Bool, true, false, cond, not, ◌&&◌, ◌||◌, eqb, ltb, List, [], ◌∷◌, Some, None, Option, sym, refl, ap, ◌∙◌, subst, ap₂, arith, lt-ltb, ne_eqb, eqb-true}
use Rattle.model.specs.Words.{at2, is_in}
use Rattle.model.proofs.Tests.{true_not_false}
use Rattle.linkmodel.proofs.Bools.{and_both}
use Rattle.linkmodel.specs.Hellos.{first_drawn}
use Rattle.linkmodel.specs.Links.{wires}
use Rattle.linkmodel.specs.Station.{Station as Whole, station}
use Rattle.netmodel.specs.Net.{Plug, Net, Move, Lays, Takes, Start, can_lay, is_free, move, net, plugged, unplugged}
use Rattle.netmodel.proofs.Laws.{placed}
use Rattle.netbytes.specs.Playing.{LeadsTo, PlaysAt}
use Rattle.netbytes.proofs.Moved.{passing}

-- one more place of a table was replaced, in two tables that are the same
pub place_like : {A : Type 0} (a w b u : ℕ) (x : A) (f g : ℕ → ℕ → A) → f b u ≡ g b u → at2 a w x f b u ≡ at2 a w x g b u
place_like a w b u x f g e = ap (λ (z : _). cond (eqb b a && eqb u w) x z) e

-- what a net is after a wire was laid
pub record Laying (x y : Net) (a w e v : ℕ) : Type 0 where
  pub boxes : (b : ℕ) → y.at b ≡ x.at b
  pub joined : (b u : ℕ) → y.joined b u ≡ at2 a w (Some (record { at = e; on = v; laid = x.laid })) (at2 e v (Some (record { at = a; on = w; laid = x.laid })) x.joined) b u
  pub laid : y.laid ≡ x.laid + 1
  pub tags : (t : ℕ) → is_in t y.tags ≡ true → is_in t x.tags ≡ true
  pub drawn : (t : ℕ) → is_in t y.drawn ≡ true → is_in t x.drawn ≡ true

laying : (n : ℕ) (x : Net) (a w e v : ℕ) → can_lay n a w e v x ≡ true → Laying x (move n (Lays a w e v) x) a w e v
laying n x a w e v h =
    passing (λ (y : Net). Laying x y a w e v) (can_lay n a w e v x) (plugged a w e v x) x h
    (record { boxes = λ b. refl; joined = λ b u. refl; laid = omega arith; tags = λ t z. z; drawn = λ t z. z })

next_laying : (n : ℕ) (first : ℕ → ℕ) (ms : List Move) (a w e v : ℕ) → can_lay n a w e v (net n first ms) ≡ true → Laying (net n first ms) (net n first (Lays a w e v ∷ ms)) a w e v
unfolding net
next_laying n first ms a w e v h = laying n (net n first ms) a w e v h

-- an end is free
free_end : (n : ℕ) (first : ℕ → ℕ) (ms : List Move) (at : ℕ → Whole) (j : ℕ → ℕ → Option Plug) (k d a w : ℕ) → PlaysAt n first ms at j k d → a < n → j a w ≡ None → (at a).links.cost w ≡ 0 →
    is_free ((net n first ms).joined a w) (((net n first ms).at a).links.wire w) ≡ true
free_end n first ms at j k d a w p l q z =
    ap₂ is_free (sym (p.now.joined a w) ∙ q) ((placed n first ms a p.starts).joined.sound.silent w (ap (λ (s : Whole). s.links.cost w) (sym (p.now.boxes a l)) ∙ z))

-- a wire is laid between two free ends
pub plays_lay : (n : ℕ) (first : ℕ → ℕ) (ms : List Move) (at : ℕ → Whole) (j : ℕ → ℕ → Option Plug) (k d a w e v : ℕ) →
    PlaysAt n first ms at j k d → a < n → e < n → (a ≡ e → ⊥) → w < wires → v < wires → j a w ≡ None → j e v ≡ None → (at a).links.cost w ≡ 0 → (at e).links.cost v ≡ 0 →
    PlaysAt n first (Lays a w e v ∷ ms) at (at2 a w (Some (record { at = e; on = v; laid = k })) (at2 e v (Some (record { at = a; on = w; laid = k })) j)) (k + 1) d
plays_lay n first ms at j k d a w e v p la le ne lw lv qa qe ca ce =
    let x : Net = net n first ms in
    let o = p.now in
    let fa = free_end n first ms at j k d a w p la qa ca in
    let fe = free_end n first ms at j k d e v p le qe ce in
    let c : can_lay n a w e v x ≡ true =
    and_both (ltb a n) _ (lt-ltb a n la) (and_both (ltb e n) _ (lt-ltb e n le) (and_both (not (eqb a e)) _ (ap not (ne_eqb a e ne)) (and_both (ltb w wires) _ (lt-ltb w wires lw) (and_both (ltb v wires) _ (lt-ltb v wires lv) (and_both _ _ fa fe))))) in
    let q = next_laying n first ms a w e v c in
    record {
      starts = p.starts;
      now = record {
        boxes = λ b l. o.boxes b l ∙ sym (q.boxes b);
        joined = λ b u.
            ap (λ (z : ℕ). at2 a w (Some (record { at = e; on = v; laid = z })) (at2 e v (Some (record { at = a; on = w; laid = z })) j) b u) o.laid
            ∙ place_like a w b u (Some (record { at = e; on = v; laid = x.laid })) (at2 e v (Some (record { at = a; on = w; laid = x.laid })) j) (at2 e v (Some (record { at = a; on = w; laid = x.laid })) x.joined)
            (place_like e v b u (Some (record { at = a; on = w; laid = x.laid })) j x.joined (o.joined b u))
            ∙ sym (q.joined b u);
        laid = ap (λ (z : ℕ). z + 1) o.laid ∙ sym q.laid;
        tags = λ t h. o.tags t (q.tags t h);
        drawn = λ t h. o.drawn t (q.drawn t h);
      };
    }

-- what a net is after a wire was taken away, or none was there
taken_to : (n : ℕ) (x : Net) (at : ℕ → Whole) (j : ℕ → ℕ → Option Plug) (k d a w : ℕ) (r : Option Plug) → LeadsTo n x at j k d → r ≡ None → LeadsTo n (unplugged a w r x) at j k d
taken_to n x at j k d a w r o e = subst (λ (z : Option Plug). LeadsTo n (unplugged a w z x) at j k d) (sym e) o

parted_to : (n : ℕ) (x : Net) (at : ℕ → Whole) (j : ℕ → ℕ → Option Plug) (k d a w : ℕ) (r : Option Plug) (p : Plug) → LeadsTo n x at j k d → r ≡ Some p → LeadsTo n (unplugged a w r x) at (at2 a w None (at2 p.at p.on None j)) k d
parted_to n x at j k d a w r p o e =
    subst (λ (z : Option Plug). LeadsTo n (unplugged a w z x) at (at2 a w None (at2 p.at p.on None j)) k d) (sym e)
    (record { boxes = o.boxes; joined = λ b u. place_like a w b u None (at2 p.at p.on None j) (at2 p.at p.on None x.joined) (place_like p.at p.on b u None j x.joined (o.joined b u)); laid = o.laid; tags = o.tags; drawn = o.drawn })

next_taken : (n : ℕ) (first : ℕ → ℕ) (ms : List Move) (at : ℕ → Whole) (j : ℕ → ℕ → Option Plug) (k d a w : ℕ) → LeadsTo n (unplugged a w ((net n first ms).joined a w) (net n first ms)) at j k d → LeadsTo n (net n first (Takes a w ∷ ms)) at j k d
unfolding net
next_taken n first ms at j k d a w o = o

-- no wire is there to be taken away
pub plays_take_none : (n : ℕ) (first : ℕ → ℕ) (ms : List Move) (at : ℕ → Whole) (j : ℕ → ℕ → Option Plug) (k d a w : ℕ) → PlaysAt n first ms at j k d → j a w ≡ None → PlaysAt n first (Takes a w ∷ ms) at j k d
plays_take_none n first ms at j k d a w p e =
    record { starts = p.starts; now = next_taken n first ms at j k d a w (taken_to n (net n first ms) at j k d a w ((net n first ms).joined a w) p.now (sym (p.now.joined a w) ∙ e)) }

-- one is
pub plays_take : (n : ℕ) (first : ℕ → ℕ) (ms : List Move) (at : ℕ → Whole) (j : ℕ → ℕ → Option Plug) (k d a w : ℕ) (q : Plug) → PlaysAt n first ms at j k d → j a w ≡ Some q → PlaysAt n first (Takes a w ∷ ms) at (at2 a w None (at2 q.at q.on None j)) k d
plays_take n first ms at j k d a w q p e =
    record { starts = p.starts; now = next_taken n first ms at (at2 a w None (at2 q.at q.on None j)) k d a w (parted_to n (net n first ms) at j k d a w ((net n first ms).joined a w) q p.now (sym (p.now.joined a w) ∙ e)) }

-- first numbers that none is above
first_up : (first : ℕ → ℕ) (d m : ℕ) → ((a : ℕ) → a < m → first a ≤ d) → (t : ℕ) → is_in t (first_drawn first m) ≡ true → t ≤ d
unfolding is_in first_drawn
first_up first d zero k t h = true_not_false false h refl
first_up first d (suc m) k t h = go (eqb (first m) t) refl h (first_up first d m (λ a l. k a (omega arith)) t)
  where
    go : (b : Bool) → eqb (first m) t ≡ b → (b || is_in t (first_drawn first m)) ≡ true → (is_in t (first_drawn first m) ≡ true → t ≤ d) → t ≤ d
    go true e z f = let y : first m ≡ t = eqb-true (first m) t e in omega (arith, k m (omega arith))
    go false e z f = f z

no_tag : (d t : ℕ) → is_in t [] ≡ true → t ≤ d
unfolding is_in
no_tag d t h = true_not_false false h refl

-- all boxes are switched on, and no wire is laid
pub plays_begun : (n : ℕ) (first : ℕ → ℕ) (at : ℕ → Whole) (j : ℕ → ℕ → Option Plug) (k d : ℕ) → Start n first → ((a : ℕ) → a < n → at a ≡ station n a (first a)) → ((a w : ℕ) → j a w ≡ None) → k ≡ 0 → ((a : ℕ) → a < n → first a ≤ d) → PlaysAt n first [] at j k d
unfolding net
plays_begun n first at j k d s f g z u = record { starts = s; now = record { boxes = f; joined = g; laid = z; tags = no_tag d; drawn = first_up first d n u } }
