-- Every frame that was ever sent in a net fits: the boxes' words and numbers fit over each move, and what each sends does then.
use Rattle.std.proofs.Common.{◌≡◌, ℕ, zero, suc, ◌^◌, ◌<◌, Bool, true, not, ◌&&◌, eqb, ltb, leb, List, [], ◌∷◌, length, Some, None, Option, sym, refl, subst, arith, ltb-true}
use Rattle.model.specs.Flood.{row}
use Rattle.model.specs.Words.{is_in, at2}
use Rattle.model.proofs.Tests.{of_cond}
use Rattle.linkmodel.proofs.Bools.{and_left, and_right}
use Rattle.linkmodel.proofs.Wires.{at_row}
use Rattle.linkmodel.specs.Links.{wires, passes, rewired, fell, hears_hello}
use Rattle.linkmodel.specs.Relinked.{relinked}
use Rattle.linkmodel.specs.Calls.{all_fresh}
use Rattle.linkmodel.specs.Station.{Station, Frame, Greets, Tells, Shows, Out, teller, sees_all, heard_words, answers, heard_seens, heard_hello, has_costs, falls, ticks, tick_out}
use Rattle.netmodel.specs.Net.{Plug, Sent, Net, Move, Ticks, Arrives, Rewires, Falls, Lays, Takes, sent_over, sent_by, becomes, meets_words, meets_seens, meets, sent_nth, is_there, comes, all_small, is_fresh, small_costs, is_free, can_lay, plugged, unplugged, move, net, Start}
use Rattle.netmodel.specs.Fits.{Each, IsDrawn, FrameFits, FramesFit}
use Rattle.netmodel.proofs.InRange.{LinksFit, BoxFits, links_fresh, links_passes, links_hears, links_rewired, links_fell, box_begun, box_relinked, box_forgets, box_owed, box_takes_all, box_sees_all}
use Rattle.netmodel.proofs.SendsFit.{SendsFit, each_append, each_one, each_none, answers_fit, tick_out_fit}

-- box a of n
pub record StationFits (n a : ℕ) (s : Station) : Type 0 where
  pub links : LinksFit n a s.links
  pub box : BoxFits n a s.box

-- a frame that was sent to one of n boxes
abbrev pub SentFits : ℕ → Sent → Type 0
SentFits n f = (f.over.at < n) × FrameFits n f.frame

-- what holds over every run
pub record NetFits (n : ℕ) (x : Net) : Type 0 where
  pub at : (a : ℕ) → a < n → StationFits n a (x.at a)
  pub plugs : (a w : ℕ) (p : Plug) → x.joined a w ≡ Some p → p.at < n
  pub sent : Each (SentFits n) x.sent

-- what goes out goes to one of n boxes
sent_over_fits : (n a w : ℕ) (f : Frame) (o : Option Plug) → ((p : Plug) → o ≡ Some p → p.at < n) → FrameFits n f → Each (SentFits n) (sent_over a w f o)
sent_over_fits n a w f None h k = each_none (SentFits n)
sent_over_fits n a w f (Some p) h k = each_one (SentFits n) (record { by = a; on = w; over = p; frame = f }) (h p refl, k)

sent_by_fits : (n a : ℕ) (j : ℕ → Option Plug) (out : List Out) → ((w : ℕ) (p : Plug) → j w ≡ Some p → p.at < n) → SendsFit n out → Each (SentFits n) (sent_by a j out)
unfolding sent_by Each
sent_by_fits n a j [] h k = tt
sent_by_fits n a j (x ∷ xs) h k = each_append (SentFits n) (sent_by a j xs) (sent_over a x.on x.frame (j x.on)) (sent_by_fits n a j xs h k.1) (sent_over_fits n a x.on x.frame (j x.on) (h x.on) k.0)

-- one of n boxes changes and sends
module _ (n : ℕ) (x : Net) (k : NetFits n x) (a : ℕ) (l : a < n) where
  -- the boxes then
  at_fits : (s : Station) → StationFits n a s → (b : ℕ) → b < n → StationFits n b (row a s x.at b)
  at_fits s h b m = at_row (StationFits n b) a s x.at b (λ e. subst (λ (z : ℕ). StationFits n z s) (sym e) h) (λ _. k.at b m)

  -- and the net
  becomes_fits : (s : Station) (out : List Out) (ts : List ℕ) → StationFits n a s → SendsFit n out → NetFits n (becomes a s out ts x)
  becomes_fits s out ts h o = record {
    at = at_fits s h;
    plugs = k.plugs;
    sent = each_append (SentFits n) (sent_by a (x.joined a) out) x.sent (sent_by_fits n a (x.joined a) out (k.plugs a) o) k.sent;
  }

  -- a tick
  ticks_fit : (t : ℕ) → t < 2 ^ 64 → StationFits n a (ticks t (x.at a))
  ticks_fit t h =
      let s : StationFits n a (x.at a) = k.at a l in
      let p : LinksFit n a (passes (x.at a).links) = links_passes n a (x.at a).links s.links in
      record { links = p; box = box_owed n a t (relinked (x.at a).links (passes (x.at a).links) (x.at a).box) l h (box_relinked n a (x.at a).links (passes (x.at a).links) (x.at a).box p s.box) }

  -- a frame comes to it
  meets_fits : (w : ℕ) (f : Frame) (ts : List ℕ) → all_small ts ≡ true → FrameFits n f → NetFits n (meets a w f ts x)
  meets_fits w (Greets h) ts m o =
      let s : StationFits n a (x.at a) = k.at a l in
      let p : LinksFit n a (hears_hello w h (x.at a).links) = links_hears n a w h (x.at a).links o.1.1 s.links in
      becomes_fits (heard_hello w h (x.at a)) [] [] (record { links = p; box = box_relinked n a (x.at a).links (hears_hello w h (x.at a).links) (x.at a).box p s.box }) (each_none (λ (y : Out). FrameFits n y.frame))
  meets_fits w (Tells p) ts m o = go (teller w (x.at a).links)
    where
      go : (q : Option ℕ) → NetFits n (meets_words a q p ts x)
      go None = k
      go (Some e) =
          let s : StationFits n a (x.at a) = k.at a l in
          let b : BoxFits n a (heard_words e p ts (x.at a)).box = box_takes_all n a (eqb p.drawn ((x.at a).links.last e)) e p.items ts (x.at a).box l m o.1.2 s.box in
          of_cond (NetFits n) (leb (length p.items) (length ts)) (becomes a (heard_words e p ts (x.at a)) (answers e p (heard_words e p ts (x.at a))) ts x) x
          (λ _. becomes_fits (heard_words e p ts (x.at a)) (answers e p (heard_words e p ts (x.at a))) ts (record { links = s.links; box = b })
          (answers_fit n a e p (heard_words e p ts (x.at a)) s.links b o.1.1 o.1.2))
          (λ _. k)
  meets_fits w (Shows p) ts m o = go (teller w (x.at a).links)
    where
      go : (q : Option ℕ) → NetFits n (meets_seens a q p x)
      go None = k
      go (Some e) =
          let s : StationFits n a (x.at a) = k.at a l in
          becomes_fits (heard_seens e p (x.at a)) [] []
          (record {
            links = s.links;
            box = of_cond (BoxFits n a) (eqb p.drawn ((x.at a).links.last e)) (sees_all e p.items (x.at a).box) (x.at a).box (λ _. box_sees_all n a e p.items (x.at a).box s.box) (λ _. s.box);
          })
          (each_none (λ (y : Out). FrameFits n y.frame))

  -- new costs, and a fall
  costs_fit : (c : ℕ → ℕ) → small_costs c wires ≡ true → StationFits n a (has_costs c (x.at a))
  costs_fit c h =
      let s : StationFits n a (x.at a) = k.at a l in
      let p : LinksFit n a (rewired c (x.at a).links) = links_rewired n a c (x.at a).links h s.links in
      record { links = p; box = box_relinked n a (x.at a).links (rewired c (x.at a).links) (x.at a).box p s.box }

  falls_fit : (d : ℕ) → IsDrawn d → StationFits n a (falls d (x.at a))
  falls_fit d h =
      let s : StationFits n a (x.at a) = k.at a l in
      let p : LinksFit n a (fell d (x.at a).links) = links_fell n a d (x.at a).links h s.links in
      record { links = p; box = box_forgets n a (relinked (x.at a).links (fell d (x.at a).links) (x.at a).box) (box_relinked n a (x.at a).links (fell d (x.at a).links) (x.at a).box p s.box) }

-- nothing is not something
no_one : {A B : Type 0} (x : B) → None ≡ Some x → A
no_one x e = let z : ◌≡◌ {A = ℕ} 0 1 = cc in absurd (omega arith)

-- the frame at a place is one of them
nth_each : (P : Sent → Type 0) (k : ℕ) (fs : List Sent) (f : Sent) → sent_nth k fs ≡ Some f → Each P fs → P f
unfolding sent_nth Each
nth_each P zero [] f e h = no_one f e
nth_each P (suc k) [] f e h = no_one f e
nth_each P zero (g ∷ fs) f e h = let q : g ≡ f = cc in subst P q h.0
nth_each P (suc k) (g ∷ fs) f e h = nth_each P k fs f e h.1

-- a frame comes
comes_fits : (n : ℕ) (x : Net) (ts : List ℕ) (o : Option Sent) → all_small ts ≡ true → NetFits n x → ((f : Sent) → o ≡ Some f → SentFits n f) → NetFits n (comes o ts x)
comes_fits n x ts None m k h = k
comes_fits n x ts (Some f) m k h =
    of_cond (NetFits n) (is_there (x.joined f.by f.on) f.over) (meets f.over.at f.over.on f.frame ts x) x
    (λ _. meets_fits n x k f.over.at (h f refl).0 f.over.on f.frame ts m (h f refl).1) (λ _. k)

-- a plug of a table with one plug replaced
plug_at : (n i j : ℕ) (o : Option Plug) (r : ℕ → ℕ → Option Plug) → ((p : Plug) → o ≡ Some p → p.at < n) → ((a w : ℕ) (p : Plug) → r a w ≡ Some p → p.at < n) → (a w : ℕ) (p : Plug) → at2 i j o r a w ≡ Some p → p.at < n
plug_at n i j o r h k a w p = of_cond (λ (y : Option Plug). y ≡ Some p → p.at < n) (eqb a i && eqb w j) o (r a w) (λ _. h p) (λ _. k a w p)

-- a wire that is laid, or taken away
some_plug : (q p : Plug) (n : ℕ) → q.at < n → Some q ≡ Some p → p.at < n
some_plug q p n l e = let z : q ≡ p = cc in subst (λ (y : Plug). y.at < n) z l

lays_fit : (n a w e v : ℕ) (x : Net) → a < n → e < n → NetFits n x → NetFits n (plugged a w e v x)
lays_fit n a w e v x l m k = record {
  at = k.at;
  plugs = plug_at n a w (Some (record { at = e; on = v; laid = x.laid })) (at2 e v (Some (record { at = a; on = w; laid = x.laid })) x.joined)
      (λ p. some_plug (record { at = e; on = v; laid = x.laid }) p n m)
      (plug_at n e v (Some (record { at = a; on = w; laid = x.laid })) x.joined (λ p. some_plug (record { at = a; on = w; laid = x.laid }) p n l) k.plugs);
  sent = k.sent;
}

takes_fit : (n a w : ℕ) (o : Option Plug) (x : Net) → NetFits n x → NetFits n (unplugged a w o x)
takes_fit n a w None x k = k
takes_fit n a w (Some p) x k = record {
  at = k.at;
  plugs = plug_at n a w None (at2 p.at p.on None x.joined) (λ q z. no_one q z) (plug_at n p.at p.on None x.joined (λ q z. no_one q z) k.plugs);
  sent = k.sent;
}

-- what a wire to be laid needs besides its boxes
abbrev other_ends : ℕ → ℕ → ℕ → ℕ → Net → Bool
other_ends a w e v x = not (eqb a e) && (ltb w wires && (ltb v wires && (is_free (x.joined a w) ((x.at a).links.wire w) && is_free (x.joined e v) ((x.at e).links.wire v))))

-- the net in which box a fell
abbrev fallen_at : ℕ → ℕ → Net → Net
fallen_at a d x = record { at = row a (falls d (x.at a)) x.at; joined = x.joined; sent = x.sent; tags = x.tags; drawn = d ∷ x.drawn; laid = x.laid }

-- each move
move_fits : (n : ℕ) (m : Move) (x : Net) → NetFits n x → NetFits n (move n m x)
move_fits n (Ticks a t) x k =
    of_cond (NetFits n) (ltb a n && is_fresh t x.tags) (becomes a (ticks t (x.at a)) (tick_out (ticks t (x.at a))) (t ∷ []) x) x
    (λ e. let l : a < n = ltb-true a n (and_left (ltb a n) (is_fresh t x.tags) e) in
    let f : is_fresh t x.tags ≡ true = and_right (ltb a n) (is_fresh t x.tags) e in
    let s : StationFits n a (ticks t (x.at a)) = ticks_fit n x k a l t (ltb-true t (2 ^ 64) (and_left (ltb t (2 ^ 64)) (not (is_in t x.tags)) f)) in
    becomes_fits n x k a l (ticks t (x.at a)) (tick_out (ticks t (x.at a))) (t ∷ []) s (tick_out_fit n a (ticks t (x.at a)) l s.links s.box))
    (λ _. k)
move_fits n (Arrives i ts) x k =
    of_cond (NetFits n) (all_small ts && all_fresh ts x.tags) (comes (sent_nth i x.sent) ts x) x
    (λ e. comes_fits n x ts (sent_nth i x.sent) (and_left (all_small ts) (all_fresh ts x.tags) e) k (λ f q. nth_each (SentFits n) i x.sent f q k.sent))
    (λ _. k)
move_fits n (Rewires a c) x k =
    of_cond (NetFits n) (ltb a n && small_costs c wires) (becomes a (has_costs c (x.at a)) [] [] x) x
    (λ e. let l : a < n = ltb-true a n (and_left (ltb a n) (small_costs c wires) e) in
    becomes_fits n x k a l (has_costs c (x.at a)) [] [] (costs_fit n x k a l c (and_right (ltb a n) (small_costs c wires) e)) (each_none (λ (y : Out). FrameFits n y.frame)))
    (λ _. k)
move_fits n (Falls a d) x k =
    of_cond (NetFits n) (ltb a n && (ltb 0 d && is_fresh d x.drawn)) (fallen_at a d x) x
    (λ e. let l : a < n = ltb-true a n (and_left (ltb a n) (ltb 0 d && is_fresh d x.drawn) e) in
    let f : (ltb 0 d && is_fresh d x.drawn) ≡ true = and_right (ltb a n) (ltb 0 d && is_fresh d x.drawn) e in
    let g : is_fresh d x.drawn ≡ true = and_right (ltb 0 d) (is_fresh d x.drawn) f in
    let h : IsDrawn d = (ltb-true 0 d (and_left (ltb 0 d) (is_fresh d x.drawn) f), ltb-true d (2 ^ 64) (and_left (ltb d (2 ^ 64)) (not (is_in d x.drawn)) g)) in
    record { at = at_fits n x k a l (falls d (x.at a)) (falls_fit n x k a l d h); plugs = k.plugs; sent = k.sent })
    (λ _. k)
move_fits n (Lays a w e v) x k =
    of_cond (NetFits n) (can_lay n a w e v x) (plugged a w e v x) x
    (λ q. lays_fit n a w e v x (ltb-true a n (and_left (ltb a n) (ltb e n && other_ends a w e v x) q)) (ltb-true e n (and_left (ltb e n) (other_ends a w e v x) (and_right (ltb a n) (ltb e n && other_ends a w e v x) q))) k)
    (λ _. k)
move_fits n (Takes a w) x k = takes_fit n a w (x.joined a w) x k

-- each run
net_fits : (n : ℕ) (first : ℕ → ℕ) (ms : List Move) → Start n first → NetFits n (net n first ms)
unfolding net Each
net_fits n first [] st = record {
  at = λ a l. record { links = links_fresh n a (first a) (st.drawn.0 a l, st.small a l); box = box_begun n a };
  plugs = λ a w p e. no_one p e;
  sent = tt;
}
net_fits n first (m ∷ ms) st = move_fits n m (net n first ms) (net_fits n first ms st)

-- so every frame fits
pub frames_fit_lem : FramesFit
frames_fit_lem n first ms st k f e = (nth_each (SentFits n) k (net n first ms).sent f e (net_fits n first ms st).sent).1
