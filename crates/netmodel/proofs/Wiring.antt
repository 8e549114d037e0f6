-- In every run wires are joined both ways, and a frame's wire that is there still is the one over which it was sent.
use Rattle.std.proofs.Common.{◌≡◌, ℕ, zero, suc, ◌<◌, Bool, true, false, not, ◌&&◌, eqb, ltb, leb, List, [], ◌∷◌, length, Some, None, Option, sym, refl, ap, ◌∙◌, subst, arith, ltb-true, eq-eqb, ne_eqb, eqb-true, ap₂}
use borrow.Author.Tests.{eqb-false}
use Rattle.model.specs.Words.{at2}
use Rattle.model.proofs.Tests.{of_cond}
use Rattle.model.proofs.Tables.{row_else, at2_here}
use Rattle.linkmodel.proofs.Bools.{and_left, and_right, and_both, not-was, true_not_false}
use Rattle.linkmodel.specs.Links.{Wire, Silent, Heard, Open, wires}
use Rattle.linkmodel.specs.Station.{Station, Frame, Greets, Tells, Shows, Out, teller, heard_words, answers, heard_seens, heard_hello, has_costs, ticks, tick_out}
use Rattle.linkmodel.specs.Calls.{all_fresh}
use Rattle.linkmodel.proofs.Fitting.{Every, every_map}
use Rattle.linkmodel.proofs.Outgoing.{every_append}
use Rattle.netmodel.specs.Net.{Plug, Sent, Net, Move, Ticks, Arrives, Rewires, Falls, Lays, Takes, sent_over, sent_by, becomes, meets_words, meets_seens, meets, sent_nth, is_there, comes, all_small, is_fresh, small_costs, is_free, can_lay, plugged, unplugged, move, net}
use Rattle.netmodel.proofs.Moving.{falls_at}

-- what each wire of each box is joined to
abbrev pub Table : Type 0
Table = ℕ → ℕ → Option Plug

-- wire w of box a is joined to p: both are wires of boxes below n, it is joined back, and fewer than l wires had been laid before it
pub record Plugged (n : ℕ) (j : Table) (l a w : ℕ) (p : Plug) : Type 0 where
  pub box : a < n
  pub wire : w < wires
  pub other : p.at < n
  pub end : p.on < wires
  pub back : j p.at p.on ≡ Some (record { at = a; on = w; laid = p.laid })
  pub before : p.laid < l

-- the wire of a frame was laid; if it is still there it is the one over which the frame was sent
abbrev pub SentOver : Table → ℕ → Sent → Type 0
SentOver j l f = (f.over.laid < l) × (is_there (j f.by f.on) f.over ≡ true → j f.by f.on ≡ Some f.over)

-- all wires are joined so, and all frames were sent so
pub record Wired (n : ℕ) (x : Net) : Type 0 where
  pub plugs : (a w : ℕ) (p : Plug) → x.joined a w ≡ Some p → Plugged n x.joined x.laid a w p
  pub sends : Every (SentOver x.joined x.laid) x.sent

-- nothing is no plug
pub no_plug : {A : Type 0} (p : Plug) → None ≡ Some p → A
no_plug p e = let z : ◌≡◌ {A = ℕ} 0 1 = cc in absurd (omega arith)

same_of_some : (o : Option Plug) (p q : Plug) → o ≡ Some p → o ≡ Some q → p ≡ q
same_of_some o p q e f = cc

-- what a box sends goes over wires that are joined
over_so : (n a w : ℕ) (j : Table) (l : ℕ) (f : Frame) → ((p : Plug) → j a w ≡ Some p → Plugged n j l a w p) → (q : Option Plug) → j a w ≡ q → Every (SentOver j l) (sent_over a w f q)
over_so n a w j l f k None e = tt
over_so n a w j l f k (Some p) e = (((k p e).before, λ _. e), tt)

all_over : (n : ℕ) (x : Net) (a : ℕ) (out : List Out) → Wired n x → Every (SentOver x.joined x.laid) (sent_by a (x.joined a) out)
unfolding sent_by
all_over n x a [] k = tt
all_over n x a (o ∷ os) k =
    every_append (SentOver x.joined x.laid) (sent_by a (x.joined a) os) (sent_over a o.on o.frame (x.joined a o.on)) (all_over n x a os k)
    (over_so n a o.on x.joined x.laid o.frame (k.plugs a o.on) (x.joined a o.on) refl)

-- what is so at a place where two were changed, one after the other
pub of_two : (Q : Option Plug → Type 0) (a w e v : ℕ) (p q : Option Plug) (j : Table) (b u : ℕ) →
    (b ≡ a → u ≡ w → Q p) → (b ≡ e → u ≡ v → Q q) → ((b ≡ a → u ≡ w → ⊥) → (b ≡ e → u ≡ v → ⊥) → Q (j b u)) → Q (at2 a w p (at2 e v q j) b u)
of_two Q a w e v p q j b u f g h =
    of_cond Q (eqb b a && eqb u w) p (at2 e v q j b u) (λ i. f (eqb-true b a (and_left (eqb b a) (eqb u w) i)) (eqb-true u w (and_right (eqb b a) (eqb u w) i)))
    (λ i. of_cond Q (eqb b e && eqb u v) q (j b u) (λ k. g (eqb-true b e (and_left (eqb b e) (eqb u v) k)) (eqb-true u v (and_right (eqb b e) (eqb u v) k)))
    (λ k. h (apart b a u w i) (apart b e u v k)))
  where
    apart : (b a u w : ℕ) → (eqb b a && eqb u w) ≡ false → b ≡ a → u ≡ w → ⊥
    apart b a u w i p q = true_not_false (eqb b a && eqb u w) (and_both (eqb b a) (eqb u w) (eq-eqb b a p) (eq-eqb u w q)) i

-- of what is joined to nothing, and of whom nobody was heard
free_so : (q : Option Plug) (x : Wire) → is_free q x ≡ true → (q ≡ None) × (x ≡ Silent)
free_so None Silent e = (refl, refl)
free_so None (Heard f d t) e = absurd (let z : ◌≡◌ {A = Bool} false true = e in cc)
free_so None (Open f d t) e = absurd (let z : ◌≡◌ {A = Bool} false true = e in cc)
free_so (Some p) x e = absurd (let z : ◌≡◌ {A = Bool} false true = e in cc)

-- what can be laid
pub record Layable (n a w e v : ℕ) (x : Net) : Type 0 where
  pub one : a < n
  pub other : e < n
  pub apart : a ≡ e → ⊥
  pub here : w < wires
  pub there : v < wires
  pub free : (x.joined a w ≡ None) × ((x.at a).links.wire w ≡ Silent)
  pub empty : (x.joined e v ≡ None) × ((x.at e).links.wire v ≡ Silent)

-- is so where the test passes
pub layable : (n a w e v : ℕ) (x : Net) → can_lay n a w e v x ≡ true → Layable n a w e v x
layable n a w e v x h =
    let f1 : Bool = is_free (x.joined a w) ((x.at a).links.wire w) in
    let f2 : Bool = is_free (x.joined e v) ((x.at e).links.wire v) in
    let h1 = and_right (ltb a n) (ltb e n && (not (eqb a e) && (ltb w wires && (ltb v wires && (f1 && f2))))) h in
    let h2 = and_right (ltb e n) (not (eqb a e) && (ltb w wires && (ltb v wires && (f1 && f2)))) h1 in
    let h3 = and_right (not (eqb a e)) (ltb w wires && (ltb v wires && (f1 && f2))) h2 in
    let h4 = and_right (ltb w wires) (ltb v wires && (f1 && f2)) h3 in
    let h5 = and_right (ltb v wires) (f1 && f2) h4 in
    record {
      one = ltb-true a n (and_left (ltb a n) (ltb e n && (not (eqb a e) && (ltb w wires && (ltb v wires && (f1 && f2))))) h);
      other = ltb-true e n (and_left (ltb e n) (not (eqb a e) && (ltb w wires && (ltb v wires && (f1 && f2)))) h1);
      apart = eqb-false a e (not-was (eqb a e) (and_left (not (eqb a e)) (ltb w wires && (ltb v wires && (f1 && f2))) h2));
      here = ltb-true w wires (and_left (ltb w wires) (ltb v wires && (f1 && f2)) h3);
      there = ltb-true v wires (and_left (ltb v wires) (f1 && f2) h4);
      free = free_so (x.joined a w) ((x.at a).links.wire w) (and_left f1 f2 h5);
      empty = free_so (x.joined e v) ((x.at e).links.wire v) (and_right f1 f2 h5);
    }

-- a wire is laid
module _ (n a w e v : ℕ) (x : Net) (c : Layable n a w e v x) (k : Wired n x) where
  abbrev here_plug : Plug
  here_plug = record { at = e; on = v; laid = x.laid }

  abbrev there_plug : Plug
  there_plug = record { at = a; on = w; laid = x.laid }

  abbrev new : Table
  new = (plugged a w e v x).joined

  at_there : new e v ≡ Some there_plug
  at_there = row_else a w e v (Some here_plug) (at2 e v (Some there_plug) x.joined) (ne_eqb e a (λ z. c.apart (sym z))) ∙ at2_here e v (Some there_plug) x.joined

  -- other wires stay
  still : (b u : ℕ) (p : Plug) → x.joined b u ≡ Some p → new b u ≡ Some p
  still b u p h =
      of_two (λ (o : Option Plug). o ≡ Some p) a w e v (Some here_plug) (Some there_plug) x.joined b u
      (λ i q. no_plug p (sym c.free.0 ∙ (ap₂ x.joined (sym i) (sym q) ∙ h))) (λ i q. no_plug p (sym c.empty.0 ∙ (ap₂ x.joined (sym i) (sym q) ∙ h))) (λ _ _. h)

  laid_plugs : (b u : ℕ) (p : Plug) → new b u ≡ Some p → Plugged n new (suc x.laid) b u p
  laid_plugs b u p =
      of_two (λ (o : Option Plug). o ≡ Some p → Plugged n new (suc x.laid) b u p) a w e v (Some here_plug) (Some there_plug) x.joined b u
      (λ i q h. let z : here_plug ≡ p = cc in
      subst (Plugged n new (suc x.laid) b u) z
      (rw (i, q) (record { box = c.one; wire = c.here; other = c.other; end = c.there; back = at_there; before = omega arith })))
      (λ i q h. let z : there_plug ≡ p = cc in
      subst (Plugged n new (suc x.laid) b u) z
      (rw (i, q) (record { box = c.other; wire = c.there; other = c.one; end = c.here; back = at2_here a w (Some here_plug) (at2 e v (Some there_plug) x.joined); before = omega arith })))
      (λ _ _ h. let o = k.plugs b u p h in
      record { box = o.box; wire = o.wire; other = o.other; end = o.end; back = still p.at p.on (record { at = b; on = u; laid = p.laid }) o.back; before = omega (arith, o.before) })

  -- what was sent before didn't go over it
  laid_sends : (f : Sent) → SentOver x.joined x.laid f → SentOver new (suc x.laid) f
  laid_sends f o = (
    omega (arith, o.0),
    of_two (λ (q : Option Plug). is_there q f.over ≡ true → q ≡ Some f.over) a w e v (Some here_plug) (Some there_plug) x.joined f.by f.on
        (λ _ _ h. later (eqb-true x.laid f.over.laid h)) (λ _ _ h. later (eqb-true x.laid f.over.laid h)) (λ _ _. o.1),
  )
    where
      later : {A : Type 0} → x.laid ≡ f.over.laid → A
      later z = absurd (let y = o.0 in omega arith)

  -- all is so after it was laid
  pub laid_wired : Wired n (plugged a w e v x)
  laid_wired = record { plugs = laid_plugs; sends = every_map (SentOver x.joined x.laid) (SentOver new (suc x.laid)) x.sent laid_sends k.sends }

-- a wire is taken away
module _ (n a w : ℕ) (x : Net) (p : Plug) (h : x.joined a w ≡ Some p) (k : Wired n x) where
  abbrev rest : Table
  rest = (unplugged a w (Some p) x).joined

  -- other wires stay
  remains : (b u : ℕ) (q : Plug) → (b ≡ a → u ≡ w → ⊥) → (b ≡ p.at → u ≡ p.on → ⊥) → x.joined b u ≡ Some q → rest b u ≡ Some q
  remains b u q f g e = of_two (λ (o : Option Plug). o ≡ Some q) a w p.at p.on None None x.joined b u (λ i j. absurd (f i j)) (λ i j. absurd (g i j)) (λ _ _. e)

  left_plugs : (b u : ℕ) (q : Plug) → rest b u ≡ Some q → Plugged n rest x.laid b u q
  left_plugs b u q =
      of_two (λ (o : Option Plug). o ≡ Some q → Plugged n rest x.laid b u q) a w p.at p.on None None x.joined b u
      (λ _ _ e. no_plug q e) (λ _ _ e. no_plug q e)
      (λ f g e. let o = k.plugs b u q e in
      record { box = o.box; wire = o.wire; other = o.other; end = o.end; back = remains q.at q.on (record { at = b; on = u; laid = q.laid }) (one f g o.back) (two f g o.back) o.back; before = o.before })
    where
      one : (b ≡ a → u ≡ w → ⊥) → (b ≡ p.at → u ≡ p.on → ⊥) → x.joined q.at q.on ≡ Some (record { at = b; on = u; laid = q.laid }) → q.at ≡ a → q.on ≡ w → ⊥
      one f g e i j = let z : p ≡ record { at = b; on = u; laid = q.laid } = same_of_some (x.joined a w) p (record { at = b; on = u; laid = q.laid }) h (ap₂ x.joined (sym i) (sym j) ∙ e) in g (sym (ap (λ (r : Plug). r.at) z)) (sym (ap (λ (r : Plug). r.on) z))

      two : (b ≡ a → u ≡ w → ⊥) → (b ≡ p.at → u ≡ p.on → ⊥) → x.joined q.at q.on ≡ Some (record { at = b; on = u; laid = q.laid }) → q.at ≡ p.at → q.on ≡ p.on → ⊥
      two f g e i j = let z : record { at = a; on = w; laid = p.laid } ≡ record { at = b; on = u; laid = q.laid } = same_of_some (x.joined p.at p.on) (record { at = a; on = w; laid = p.laid }) (record { at = b; on = u; laid = q.laid }) (k.plugs a w p h).back (ap₂ x.joined (sym i) (sym j) ∙ e) in f (sym (ap (λ (r : Plug). r.at) z)) (sym (ap (λ (r : Plug). r.on) z))

  left_sends : (f : Sent) → SentOver x.joined x.laid f → SentOver rest x.laid f
  left_sends f o = (
    o.0,
    of_two (λ (q : Option Plug). is_there q f.over ≡ true → q ≡ Some f.over) a w p.at p.on None None x.joined f.by f.on
        (λ _ _ e. gone e) (λ _ _ e. gone e) (λ _ _. o.1),
  )
    where
      gone : {A : Type 0} → false ≡ true → A
      gone e = true_not_false false e refl

  -- all is so without it
  pub left_wired : Wired n (unplugged a w (Some p) x)
  left_wired = record { plugs = left_plugs; sends = every_map (SentOver x.joined x.laid) (SentOver rest x.laid) x.sent left_sends k.sends }

-- a box changes and sends
sent_wired : (n : ℕ) (x : Net) (a : ℕ) (s : Station) (out : List Out) (ts : List ℕ) → Wired n x → Wired n (becomes a s out ts x)
sent_wired n x a s out ts k = record { plugs = k.plugs; sends = every_append (SentOver x.joined x.laid) (sent_by a (x.joined a) out) x.sent (all_over n x a out k) k.sends }

meets_wired : (n : ℕ) (x : Net) (a w : ℕ) (f : Frame) (ts : List ℕ) → Wired n x → Wired n (meets a w f ts x)
meets_wired n x a w (Greets h) ts k = sent_wired n x a (heard_hello w h (x.at a)) [] [] k
meets_wired n x a w (Tells p) ts k = go (teller w (x.at a).links)
  where
    go : (q : Option ℕ) → Wired n (meets_words a q p ts x)
    go None = k
    go (Some e) =
        of_cond (Wired n) (leb (length p.items) (length ts)) (becomes a (heard_words e p ts (x.at a)) (answers e p (heard_words e p ts (x.at a))) ts x) x
        (λ _. sent_wired n x a (heard_words e p ts (x.at a)) (answers e p (heard_words e p ts (x.at a))) ts k) (λ _. k)
meets_wired n x a w (Shows p) ts k = go (teller w (x.at a).links)
  where
    go : (q : Option ℕ) → Wired n (meets_seens a q p x)
    go None = k
    go (Some e) = sent_wired n x a (heard_seens e p (x.at a)) [] [] k

comes_wired : (n : ℕ) (x : Net) (q : Option Sent) (ts : List ℕ) → Wired n x → Wired n (comes q ts x)
comes_wired n x None ts k = k
comes_wired n x (Some f) ts k = of_cond (Wired n) (is_there (x.joined f.by f.on) f.over) (meets f.over.at f.over.on f.frame ts x) x (λ _. meets_wired n x f.over.at f.over.on f.frame ts k) (λ _. k)

taken_wired : (n a w : ℕ) (x : Net) (q : Option Plug) → x.joined a w ≡ q → Wired n x → Wired n (unplugged a w q x)
taken_wired n a w x None e k = k
taken_wired n a w x (Some p) e k = left_wired n a w x p e k

-- all is so after each move
pub move_wired : (n : ℕ) (m : Move) (x : Net) → Wired n x → Wired n (move n m x)
move_wired n (Ticks a t) x k =
    of_cond (Wired n) (ltb a n && is_fresh t x.tags) (becomes a (ticks t (x.at a)) (tick_out (ticks t (x.at a))) (t ∷ []) x) x
    (λ _. sent_wired n x a (ticks t (x.at a)) (tick_out (ticks t (x.at a))) (t ∷ []) k) (λ _. k)
move_wired n (Arrives i ts) x k = of_cond (Wired n) (all_small ts && all_fresh ts x.tags) (comes (sent_nth i x.sent) ts x) x (λ _. comes_wired n x (sent_nth i x.sent) ts k) (λ _. k)
move_wired n (Rewires a c) x k = of_cond (Wired n) (ltb a n && small_costs c wires) (becomes a (has_costs c (x.at a)) [] [] x) x (λ _. sent_wired n x a (has_costs c (x.at a)) [] [] k) (λ _. k)
move_wired n (Falls a d) x k = of_cond (Wired n) (ltb a n && (ltb 0 d && is_fresh d x.drawn)) (falls_at a d x) x (λ _. record { plugs = k.plugs; sends = k.sends }) (λ _. k)
move_wired n (Lays a w e v) x k = of_cond (Wired n) (can_lay n a w e v x) (plugged a w e v x) x (λ h. laid_wired n a w e v x (layable n a w e v x h) k) (λ _. k)
move_wired n (Takes a w) x k = taken_wired n a w x (x.joined a w) refl k

-- and so it is in every run
pub wired : (n : ℕ) (first : ℕ → ℕ) (ms : List Move) → Wired n (net n first ms)
unfolding net
wired n first [] = record { plugs = λ a w p e. no_plug p e; sends = tt }
wired n first (m ∷ ms) = move_wired n m (net n first ms) (wired n first ms)

-- what is so of all of a list is so of the frame at a place
pub of_place : (P : Sent → Type 0) (k : ℕ) (f : Sent) (fs : List Sent) → Every P fs → sent_nth k fs ≡ Some f → P f
unfolding sent_nth
of_place P k f [] h e = let z : ◌≡◌ {A = ℕ} 0 1 = cc in absurd (omega arith)
of_place P zero f (g ∷ fs) h e = let z : g ≡ f = cc in subst P z h.0
of_place P (suc k) f (g ∷ fs) h e = of_place P k f fs h.1 e
