-- Every move of a net is lawful.
use Rattle.std.proofs.Common.{◌≡◌, ℕ, ◌<◌, true, false, not, ◌&&◌, eqb, ltb, leb, List, [], ◌∷◌, length, Some, None, Option, sym, refl, ap, ◌∙◌, subst, inl, ltb-true, eqb-true, ap₂, ◌^◌}
use Rattle.model.specs.Words.{is_in}
use Rattle.model.proofs.Tests.{of_cond}
use Rattle.linkmodel.proofs.Bools.{true_not_false, and_left, and_right, not-was}
use Rattle.linkmodel.specs.Links.{Silent, Hello, wires, who_on, passes, hears_hello, rewired}
use Rattle.linkmodel.specs.Relinked.{relinked}
use Rattle.linkmodel.specs.Station.{Bundle, Seens, Frame, Greets, Tells, Shows, teller, sees_all, heard_words, answers, heard_seens, heard_hello, has_costs, ticks, tick_out}
use Rattle.linkmodel.specs.Calls.{all_fresh}
use Rattle.linkmodel.proofs.Moments.{first_drawn_lem}
use Rattle.linkmodel.proofs.Fitting.{Every, Grows, Fitting, OldItem, OldSight, grows_self, words_fit, words_grow, seens_fit, seens_grow, relinked_fits, owed_fits, owed_grows}
use Rattle.linkmodel.proofs.Hearers.{nobody, heard_passes, heard_rewired, heard_hears, teller_heard, hears_known, hears_me, hears_drawn}
use Rattle.linkmodel.proofs.Outgoing.{answers_out, ticks_out}
use Rattle.netmodel.specs.Net.{Plug, Sent, Net, Move, Ticks, Arrives, Rewires, Falls, Lays, Takes, becomes, meets_words, meets_seens, meets, sent_nth, is_there, comes, all_small, is_fresh, small_costs, can_lay, plugged, unplugged, move, net}
use Rattle.netmodel.proofs.Moving.{falls_at}
use Rattle.netmodel.proofs.Wiring.{Wired, Layable, layable, no_plug, of_two, of_place, wired}
use Rattle.netmodel.proofs.Lawful.{OnWires, end_of, ends, ends_heard, heard_ends, numbers, words_now, Framed, SentSo, Lawful, Change, changed, fallen}

-- what a box becomes at each move
module _ (n : ℕ) (x : Net) (k : Lawful n x) (a : ℕ) where
  ticks_change : (t : ℕ) → Change x a (ticks t (x.at a))
  ticks_change t = record {
    me = k.me a;
    heard = heard_ends (x.joined a) (x.at a).links (passes (x.at a).links) (heard_passes (ends (x.joined a) (x.at a).links) (x.at a).links (ends_heard (x.joined a) (x.at a).links (k.heard a)));
    drew = refl;
    lasts = k.lasts a;
    grows = owed_grows t (relinked (x.at a).links (passes (x.at a).links) (x.at a).box);
    fits = owed_fits (numbers x) (words_now x) (x.at a).links.last t (relinked (x.at a).links (passes (x.at a).links) (x.at a).box)
        (relinked_fits (numbers x) (words_now x) (x.at a).links (passes (x.at a).links) (x.at a).box (k.shows a));
  }

  costs_change : (c : ℕ → ℕ) → Change x a (has_costs c (x.at a))
  costs_change c = record {
    me = k.me a;
    heard = heard_ends (x.joined a) (x.at a).links (rewired c (x.at a).links) (heard_rewired (ends (x.joined a) (x.at a).links) c (x.at a).links (ends_heard (x.joined a) (x.at a).links (k.heard a)));
    drew = refl;
    lasts = k.lasts a;
    grows = grows_self (x.at a).box;
    fits = relinked_fits (numbers x) (words_now x) (x.at a).links (rewired c (x.at a).links) (x.at a).box (k.shows a);
  }

  hello_change : (w : ℕ) (p : Plug) (h : Hello) → x.joined a w ≡ Some p → h.from ≡ p.at → is_in h.drawn x.drawn ≡ true → Change x a (heard_hello w h (x.at a))
  hello_change w p h j f d = record {
    me = hears_me w h (x.at a).links ∙ k.me a;
    heard = heard_ends (x.joined a) (x.at a).links (hears_hello w h (x.at a).links)
        (heard_hears (ends (x.joined a) (x.at a).links) w h (x.at a).links (f ∙ sym (ap (λ (z : Option Plug). end_of z (who_on ((x.at a).links.wire w))) j)) (ends_heard (x.joined a) (x.at a).links (k.heard a)));
    drew = hears_drawn w h (x.at a).links;
    lasts = hears_known x.drawn w h (x.at a).links d (k.lasts a);
    grows = grows_self (x.at a).box;
    fits = relinked_fits (numbers x) (words_now x) (x.at a).links (hears_hello w h (x.at a).links) (x.at a).box (k.shows a);
  }

  words_change : (e : ℕ) (p : Bundle) (ts : List ℕ) → (p.drawn ≡ (x.at e).links.drawn → Every (OldItem (x.at e).box.word) p.items) → Change x a (heard_words e p ts (x.at a))
  words_change e p ts o = record {
    me = k.me a;
    heard = k.heard a;
    drew = refl;
    lasts = k.lasts a;
    grows = words_grow (eqb p.drawn ((x.at a).links.last e)) e p.items ts (x.at a).box;
    fits = words_fit (numbers x) (words_now x) (x.at a).links.last (eqb p.drawn ((x.at a).links.last e)) e p.items ts (x.at a).box
        (λ y l. o (eqb-true p.drawn ((x.at a).links.last e) y ∙ l)) (k.shows a);
  }

  seens_change : (e : ℕ) (p : Seens) → (p.drawn ≡ (x.at e).links.drawn → Every (OldSight (x.at e).box.word) p.items) → Change x a (heard_seens e p (x.at a))
  seens_change e p o = record {
    me = k.me a;
    heard = k.heard a;
    drew = refl;
    lasts = k.lasts a;
    grows = of_cond (Grows (x.at a).box) (eqb p.drawn ((x.at a).links.last e)) (sees_all e p.items (x.at a).box) (x.at a).box (λ _. seens_grow e p.items (x.at a).box) (λ _. grows_self (x.at a).box);
    fits = of_cond (Fitting (numbers x) (words_now x) (x.at a).links.last) (eqb p.drawn ((x.at a).links.last e)) (sees_all e p.items (x.at a).box) (x.at a).box
        (λ y. seens_fit (numbers x) (words_now x) (x.at a).links.last e p.items (x.at a).box (λ l. o (eqb-true p.drawn ((x.at a).links.last e) y ∙ l)) (k.shows a)) (λ _. k.shows a);
  }

-- a frame of the box at the other end comes on wire w
meets_lawful : (n : ℕ) (x : Net) (a w : ℕ) (p : Plug) (f : Frame) (ts : List ℕ) → Lawful n x → a < n → x.joined a w ≡ Some p → Framed (x.at p.at) x.drawn p.at f → Lawful n (meets a w f ts x)
meets_lawful n x a w p (Greets h) ts k an e o = changed n x a (heard_hello w h (x.at a)) [] [] k an (hello_change n x k a w p h e o.0 o.1) tt
meets_lawful n x a w p (Tells b) ts k an e o = go (teller w (x.at a).links) refl
  where
    go : (q : Option ℕ) → teller w (x.at a).links ≡ q → Lawful n (meets_words a q b ts x)
    go None z = k
    go (Some g) z =
        let be : p.at ≡ g = sym (k.heard a w g p e (teller_heard w (x.at a).links g z)) in
        of_cond (Lawful n) (leb (length b.items) (length ts)) (becomes a (heard_words g b ts (x.at a)) (answers g b (heard_words g b ts (x.at a))) ts x) x
        (λ _. changed n x a (heard_words g b ts (x.at a)) (answers g b (heard_words g b ts (x.at a))) ts k an
        (words_change n x k a g b ts (subst (λ (y : ℕ). b.drawn ≡ (x.at y).links.drawn → Every (OldItem (x.at y).box.word) b.items) be o.1))
        (answers_out g b (heard_words g b ts (x.at a)))) (λ _. k)
meets_lawful n x a w p (Shows b) ts k an e o = go (teller w (x.at a).links) refl
  where
    go : (q : Option ℕ) → teller w (x.at a).links ≡ q → Lawful n (meets_seens a q b x)
    go None z = k
    go (Some g) z =
        let be : p.at ≡ g = sym (k.heard a w g p e (teller_heard w (x.at a).links g z)) in
        changed n x a (heard_seens g b (x.at a)) [] [] k an
        (seens_change n x k a g b (subst (λ (y : ℕ). b.drawn ≡ (x.at y).links.drawn → Every (OldSight (x.at y).box.word) b.items) be o.1)) tt

comes_lawful : (n : ℕ) (x : Net) (i : ℕ) (q : Option Sent) (ts : List ℕ) → sent_nth i x.sent ≡ q → Wired n x → Lawful n x → Lawful n (comes q ts x)
comes_lawful n x i None ts e c k = k
comes_lawful n x i (Some f) ts e c k =
    of_cond (Lawful n) (is_there (x.joined f.by f.on) f.over) (meets f.over.at f.over.on f.frame ts x) x
    (λ t. let p = c.plugs f.by f.on f.over ((of_place _ i f x.sent c.sends e).1 t) in
    meets_lawful n x f.over.at f.over.on (record { at = f.by; on = f.on; laid = f.over.laid }) f.frame ts k p.other p.back (of_place (SentSo x) i f x.sent k.frames e))
    (λ _. k)

-- a wire is laid where nobody was heard
laid_lawful : (n a w e v : ℕ) (x : Net) → Layable n a w e v x → Lawful n x → Lawful n (plugged a w e v x)
laid_lawful n a w e v x c k = record { me = k.me; heard = on_wires; own = k.own; lasts = k.lasts; frames = k.frames; shows = k.shows }
  where
    quiet : {A : Type 0} (b u r t f : ℕ) → b ≡ r → u ≡ t → (x.at r).links.wire t ≡ Silent → who_on ((x.at b).links.wire u) ≡ Some f → A
    quiet b u r t f i q z h = nobody f (sym (ap who_on (ap₂ (λ (y o : ℕ). (x.at y).links.wire o) i q ∙ z)) ∙ h)

    on_wires : (b : ℕ) → OnWires ((plugged a w e v x).joined b) (x.at b).links
    on_wires b u f p j h =
        of_two (λ (o : Option Plug). o ≡ Some p → f ≡ p.at) a w e v (Some (record { at = e; on = v; laid = x.laid })) (Some (record { at = a; on = w; laid = x.laid })) x.joined b u
        (λ i q _. quiet b u a w f i q c.free.1 h) (λ i q _. quiet b u e v f i q c.empty.1 h) (λ _ _ y. k.heard b u f p y h) j

taken_lawful : (n a w : ℕ) (x : Net) (q : Option Plug) → Lawful n x → Lawful n (unplugged a w q x)
taken_lawful n a w x None k = k
taken_lawful n a w x (Some p) k = record {
  me = k.me;
  heard = λ b u f g j h. of_two (λ (o : Option Plug). o ≡ Some g → f ≡ g.at) a w p.at p.on None None x.joined b u (λ _ _ z. no_plug g z) (λ _ _ z. no_plug g z) (λ _ _ y. k.heard b u f g y h) j;
  own = k.own;
  lasts = k.lasts;
  frames = k.frames;
  shows = k.shows;
}

move_lawful : (n : ℕ) (m : Move) (x : Net) → Wired n x → Lawful n x → Lawful n (move n m x)
move_lawful n (Ticks a t) x c k =
    of_cond (Lawful n) (ltb a n && is_fresh t x.tags) (becomes a (ticks t (x.at a)) (tick_out (ticks t (x.at a))) (t ∷ []) x) x
    (λ e. changed n x a (ticks t (x.at a)) (tick_out (ticks t (x.at a))) (t ∷ []) k (ltb-true a n (and_left (ltb a n) (is_fresh t x.tags) e)) (ticks_change n x k a t) (ticks_out (ticks t (x.at a))))
    (λ _. k)
move_lawful n (Arrives i ts) x c k = of_cond (Lawful n) (all_small ts && all_fresh ts x.tags) (comes (sent_nth i x.sent) ts x) x (λ _. comes_lawful n x i (sent_nth i x.sent) ts refl c k) (λ _. k)
move_lawful n (Rewires a c) x _ k =
    of_cond (Lawful n) (ltb a n && small_costs c wires) (becomes a (has_costs c (x.at a)) [] [] x) x
    (λ e. changed n x a (has_costs c (x.at a)) [] [] k (ltb-true a n (and_left (ltb a n) (small_costs c wires) e)) (costs_change n x k a c) tt) (λ _. k)
move_lawful n (Falls a d) x c k =
    of_cond (Lawful n) (ltb a n && (ltb 0 d && is_fresh d x.drawn)) (falls_at a d x) x
    (λ e. let e1 = and_right (ltb a n) (ltb 0 d && is_fresh d x.drawn) e in
    let e2 = and_right (ltb 0 d) (is_fresh d x.drawn) e1 in
    fallen n x a d k (ltb-true 0 d (and_left (ltb 0 d) (is_fresh d x.drawn) e1)) (not-was (is_in d x.drawn) (and_right (ltb d (2 ^ 64)) (not (is_in d x.drawn)) e2)))
    (λ _. k)
move_lawful n (Lays a w e v) x c k = of_cond (Lawful n) (can_lay n a w e v x) (plugged a w e v x) x (λ h. laid_lawful n a w e v x (layable n a w e v x h) k) (λ _. k)
move_lawful n (Takes a w) x c k = taken_lawful n a w x (x.joined a w) k

-- it is lawful in every run
pub lawful : (n : ℕ) (first : ℕ → ℕ) (ms : List Move) → Lawful n (net n first ms)
unfolding net
lawful n first [] = record {
  me = λ a. refl;
  heard = λ a w f p j e. nobody f e;
  own = first_drawn_lem first n;
  lasts = λ a e. inl refl;
  frames = tt;
  shows = λ a f j h. true_not_false false h refl;
}
lawful n first (m ∷ ms) = move_lawful n m (net n first ms) (wired n first ms) (lawful n first ms)
