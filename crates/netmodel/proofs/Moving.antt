-- What holds over each thing that a box does holds of each box over each move of a net.
use Rattle.std.proofs.Common.{ℕ, ◌&&◌, ltb, leb, List, [], ◌∷◌, length, Some, None, Option, sym, subst}
use Rattle.model.specs.Flood.{row}
use Rattle.model.proofs.Tests.{of_cond}
use Rattle.linkmodel.specs.Links.{Hello, wires}
use Rattle.linkmodel.specs.Station.{Station, Bundle, Seens, Frame, Greets, Tells, Shows, teller, station, heard_words, answers, heard_seens, heard_hello, has_costs, falls, ticks, tick_out}
use Rattle.linkmodel.specs.Calls.{all_fresh}
use Rattle.linkmodel.proofs.Wires.{at_row}
use Rattle.netmodel.specs.Net.{Plug, Sent, Net, Move, Ticks, Arrives, Rewires, Falls, Lays, Takes, becomes, meets_words, meets_seens, meets, sent_nth, is_there, comes, all_small, is_fresh, small_costs, can_lay, plugged, unplugged, move, net}

-- a relation of a box to itself, and to what it is after each thing that it does
pub record EachThing (R : Station → Station → Type 0) : Type 0 where
  pub nothing : (s : Station) → R s s
  pub ticked : (t : ℕ) (s : Station) → R s (ticks t s)
  pub greeted : (w : ℕ) (h : Hello) (s : Station) → R s (heard_hello w h s)
  pub told : (e : ℕ) (p : Bundle) (ts : List ℕ) (s : Station) → R s (heard_words e p ts s)
  pub seen : (e : ℕ) (p : Seens) (s : Station) → R s (heard_seens e p s)
  pub rewired : (c : ℕ → ℕ) (s : Station) → R s (has_costs c s)
  pub fell : (d : ℕ) (s : Station) → R s (falls d s)

-- a fall, of the whole net
abbrev pub falls_at : ℕ → ℕ → Net → Net
falls_at a d x = record { at = row a (falls d (x.at a)) x.at; joined = x.joined; sent = x.sent; tags = x.tags; drawn = d ∷ x.drawn; laid = x.laid }

module _ (R : Station → Station → Type 0) (k : EachThing R) where
  over_row : (x : Net) (b : ℕ) (s : Station) (a : ℕ) → R (x.at b) s → R (x.at a) (row b s x.at a)
  over_row x b s a h = at_row (R (x.at a)) b s x.at a (λ e. subst (λ (z : ℕ). R (x.at z) s) (sym e) h) (λ _. k.nothing (x.at a))

  over_meets : (x : Net) (b w : ℕ) (f : Frame) (ts : List ℕ) (a : ℕ) → R (x.at a) ((meets b w f ts x).at a)
  over_meets x b w (Greets h) ts a = over_row x b (heard_hello w h (x.at b)) a (k.greeted w h (x.at b))
  over_meets x b w (Tells p) ts a = go (teller w (x.at b).links)
    where
      go : (q : Option ℕ) → R (x.at a) ((meets_words b q p ts x).at a)
      go None = k.nothing (x.at a)
      go (Some e) =
          of_cond (λ (y : Net). R (x.at a) (y.at a)) (leb (length p.items) (length ts)) (becomes b (heard_words e p ts (x.at b)) (answers e p (heard_words e p ts (x.at b))) ts x) x
          (λ _. over_row x b (heard_words e p ts (x.at b)) a (k.told e p ts (x.at b))) (λ _. k.nothing (x.at a))
  over_meets x b w (Shows p) ts a = go (teller w (x.at b).links)
    where
      go : (q : Option ℕ) → R (x.at a) ((meets_seens b q p x).at a)
      go None = k.nothing (x.at a)
      go (Some e) = over_row x b (heard_seens e p (x.at b)) a (k.seen e p (x.at b))

  over_comes : (x : Net) (q : Option Sent) (ts : List ℕ) (a : ℕ) → R (x.at a) ((comes q ts x).at a)
  over_comes x None ts a = k.nothing (x.at a)
  over_comes x (Some f) ts a =
      of_cond (λ (y : Net). R (x.at a) (y.at a)) (is_there (x.joined f.by f.on) f.over) (meets f.over.at f.over.on f.frame ts x) x
      (λ _. over_meets x f.over.at f.over.on f.frame ts a) (λ _. k.nothing (x.at a))

  over_unplugged : (x : Net) (b w : ℕ) (q : Option Plug) (a : ℕ) → R (x.at a) ((unplugged b w q x).at a)
  over_unplugged x b w None a = k.nothing (x.at a)
  over_unplugged x b w (Some p) a = k.nothing (x.at a)

  -- so it is over each move
  pub over_move : (n : ℕ) (m : Move) (x : Net) (a : ℕ) → R (x.at a) ((move n m x).at a)
  over_move n (Ticks b t) x a =
      of_cond (λ (y : Net). R (x.at a) (y.at a)) (ltb b n && is_fresh t x.tags) (becomes b (ticks t (x.at b)) (tick_out (ticks t (x.at b))) (t ∷ []) x) x
      (λ _. over_row x b (ticks t (x.at b)) a (k.ticked t (x.at b))) (λ _. k.nothing (x.at a))
  over_move n (Arrives i ts) x a =
      of_cond (λ (y : Net). R (x.at a) (y.at a)) (all_small ts && all_fresh ts x.tags) (comes (sent_nth i x.sent) ts x) x
      (λ _. over_comes x (sent_nth i x.sent) ts a) (λ _. k.nothing (x.at a))
  over_move n (Rewires b c) x a =
      of_cond (λ (y : Net). R (x.at a) (y.at a)) (ltb b n && small_costs c wires) (becomes b (has_costs c (x.at b)) [] [] x) x
      (λ _. over_row x b (has_costs c (x.at b)) a (k.rewired c (x.at b))) (λ _. k.nothing (x.at a))
  over_move n (Falls b d) x a =
      of_cond (λ (y : Net). R (x.at a) (y.at a)) (ltb b n && (ltb 0 d && is_fresh d x.drawn)) (falls_at b d x) x
      (λ _. over_row x b (falls d (x.at b)) a (k.fell d (x.at b))) (λ _. k.nothing (x.at a))
  over_move n (Lays b w e v) x a = of_cond (λ (y : Net). R (x.at a) (y.at a)) (can_lay n b w e v x) (plugged b w e v x) x (λ _. k.nothing (x.at a)) (λ _. k.nothing (x.at a))
  over_move n (Takes b w) x a = over_unplugged x b w (x.joined b w) a

-- what each box has when it is switched on and keeps over each thing that it does it has in every run
pub in_every_run : (Q : ℕ → Station → Type 0) (n : ℕ) (first : ℕ → ℕ) → ((a : ℕ) → Q a (station n a (first a))) → ((a : ℕ) → EachThing (λ (s r : Station). Q a s → Q a r)) → (ms : List Move) (a : ℕ) → Q a ((net n first ms).at a)
unfolding net
in_every_run Q n first h k [] a = h a
in_every_run Q n first h k (m ∷ ms) a = over_move (λ (s r : Station). Q a s → Q a r) (k a) n m (net n first ms) a (in_every_run Q n first h k ms a)
