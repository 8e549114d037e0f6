-- A run goes on when the bytes of a frame that was sent come to the other end of its wire, or are lost since that is gone.
use Rattle.std.proofs.Common.{◌≡◌, ℕ, ◌+◌, ◌^◌, ◌<◌, ◌≤◌, true, false, List, [], ◌∷◌, ◌++◌, Some, Option, sym, refl, ap, ◌∙◌, subst, arith, leb-true}
use Rattle.std.specs.List.{flat_map}
use Rattle.model.specs.Flood.{row}
use Rattle.linkmodel.specs.Calls.{Joined}
use Rattle.linkmodel.specs.Links.{wires}
use Rattle.linkmodel.specs.Station.{Station as Whole}
use Rattle.linkmodel.specs.Calls.{all_fresh}
use Rattle.netmodel.specs.Fits.{FrameFits}
use Rattle.netmodel.specs.Net.{Plug, Net, Sent, Move, Arrives, all_small, is_there, net, sent_nth}
use Rattle.netmodel.proofs.Laws.{frames_fit, placed, same_plug, wires_join}
use Rattle.node.specs.Book.{book_bytes}
use Rattle.node.specs.Wires.{out_bytes}
use Rattle.outbox.specs.declared.reading.Port.{Port}
use Rattle.netbytes.specs.Arriving.{ShownOpen, after_frame, sent_after}
use Rattle.netbytes.specs.Playing.{PlaysAt, Posts}
use Rattle.netbytes.proofs.Comes.{TaggedBy, arrival_moved, lost_moved}
use Rattle.netbytes.proofs.Fresh.{UpTo, four, four_fresh, four_small, four_up, none_up}
use Rattle.netbytes.proofs.Moved.{Moved}
use Rattle.netbytes.proofs.OpenOnly.{shown_open}
use Rattle.netbytes.proofs.Played.{next_move, plays_on, plays_still, posts}
use Rattle.netbytes.proofs.WireHeard.{HeardAs}

-- what is so of the box to which a frame comes over a wire that is there
pub record Reached (n : ℕ) (s : Whole) (f : Sent) : Type 0 where
  pub box : f.over.at < n
  pub wire : f.over.on < wires
  pub joined : Joined s
  pub shown : ShownOpen s
  pub count : s.links.n ≡ n
  pub few : n ≤ 64
  pub fits : FrameFits n f.frame

-- is so in every run
pub reached : (n : ℕ) (first : ℕ → ℕ) (ms : List Move) (at : ℕ → Whole) (j : ℕ → ℕ → Option Plug) (k d i : ℕ) (f : Sent) →
    PlaysAt n first ms at j k d → sent_nth i (net n first ms).sent ≡ Some f → is_there (j f.by f.on) f.over ≡ true → Reached n (at f.over.at) f
reached n first ms at j k d i f p e t =
    let x : Net = net n first ms in
    let there : is_there (x.joined f.by f.on) f.over ≡ true = ap (λ (o : Option Plug). is_there o f.over) (sym (p.now.joined f.by f.on)) ∙ t in
    let w = (wires_join n first ms p.starts f.by f.on f.over (same_plug n first ms p.starts i f e there)).0 in
    let o = placed n first ms f.over.at p.starts in
    let same : x.at f.over.at ≡ at f.over.at = sym (p.now.boxes f.over.at w.2) in
    record {
      box = w.2;
      wire = w.3;
      joined = subst Joined same o.joined;
      shown = subst ShownOpen same (shown_open n first ms f.over.at);
      count = ap (λ (s : Whole). s.links.n) (sym same) ∙ (o.joined.count ∙ o.count);
      few = leb-true n 64 p.starts.few;
      fits = frames_fit n first ms p.starts i f e;
    }

-- each box knows how many there are
pub count_of : (n : ℕ) (first : ℕ → ℕ) (ms : List Move) (at : ℕ → Whole) (j : ℕ → ℕ → Option Plug) (k d a : ℕ) → PlaysAt n first ms at j k d → a < n → (at a).links.n ≡ n
count_of n first ms at j k d a p l = let o = placed n first ms a p.starts in ap (λ (s : Whole). s.links.n) (p.now.boxes a l) ∙ (o.joined.count ∙ o.count)

-- tags of which none was drawn, if none above d was, and then none above e is
pub record NewTags (d e : ℕ) (ts : List ℕ) : Type 0 where
  pub small : all_small ts ≡ true
  pub fresh : (old : List ℕ) → UpTo d old → all_fresh ts old ≡ true
  pub later : d ≤ e
  pub up : UpTo e ts

-- none, or the next four
pub no_tags : (d e : ℕ) → d ≤ e → NewTags d e []
unfolding all_small all_fresh
no_tags d e l = record { small = refl; fresh = λ old u. refl; later = l; up = none_up e }

pub four_tags : (d : ℕ) → d + 4 < 2 ^ 64 → NewTags d (d + 4) (four d)
four_tags d l = record { small = four_small d l; fresh = λ old u. four_fresh d old u; later = omega arith; up = four_up d }

-- a frame comes to a box, which does with it what is defined for it
pub plays_arrival : (n : ℕ) (first : ℕ → ℕ) (ms : List Move) (at : ℕ → Whole) (j : ℕ → ℕ → Option Plug) (k d e i : ℕ) (f : Sent) (ts us : List ℕ) (r : Whole) (given : List ℕ) (goes : Option Port) →
    PlaysAt n first ms at j k d → sent_nth i (net n first ms).sent ≡ Some f → is_there (j f.by f.on) f.over ≡ true → f.over.at < n → NewTags d e ts → TaggedBy f.frame ts us → HeardAs f.over.on f.frame us (at f.over.at) r given goes →
    PlaysAt n first (Arrives i ts ∷ ms) (row f.over.at r at) j k e × Posts n first (Arrives i ts) ms f.over.at given
plays_arrival n first ms at j k d e i f ts us r given goes p nth t l new tagged heard =
    let x : Net = net n first ms in
    let a = f.over.at in
    let w = f.over.on in
    let same : at a ≡ x.at a = p.now.boxes a l in
    let there : is_there (x.joined f.by f.on) f.over ≡ true = ap (λ (o : Option Plug). is_there o f.over) (sym (p.now.joined f.by f.on)) ∙ t in
    let q : Moved x (net n first (Arrives i ts ∷ ms)) a (after_frame w f.frame us (x.at a)) (sent_after w f.frame (after_frame w f.frame us (x.at a))) ts [] =
    next_move n first (Arrives i ts) ms a _ _ _ _ (arrival_moved n x i f ts us nth there new.small (new.fresh x.tags p.now.tags) tagged) in (
      plays_on n first (Arrives i ts) ms at j k d e a (after_frame w f.frame us (x.at a)) r (sent_after w f.frame (after_frame w f.frame us (x.at a))) ts [] p q (heard.whole ∙ ap (after_frame w f.frame us) same) new.later new.up (none_up e),
      posts n first (Arrives i ts) ms a (at a).links.tick (after_frame w f.frame us (x.at a)) heard.gives.notes (sent_after w f.frame (after_frame w f.frame us (x.at a))) ts [] given q
          (heard.gives.is ∙ ap (λ (s : Whole). flat_map (book_bytes (at a).links.tick) heard.gives.notes ++ flat_map out_bytes (sent_after w f.frame (after_frame w f.frame us s))) same),
    )

-- its wire is gone: nothing becomes of any box
pub plays_loss : (n : ℕ) (first : ℕ → ℕ) (ms : List Move) (at : ℕ → Whole) (j : ℕ → ℕ → Option Plug) (k d i a : ℕ) (f : Sent) (ts : List ℕ) →
    PlaysAt n first ms at j k d → sent_nth i (net n first ms).sent ≡ Some f → is_there (j f.by f.on) f.over ≡ false → PlaysAt n first (Arrives i ts ∷ ms) at j k d × Posts n first (Arrives i ts) ms a []
plays_loss n first ms at j k d i a f ts p nth t =
    let x : Net = net n first ms in
    let there : is_there (x.joined f.by f.on) f.over ≡ false = ap (λ (o : Option Plug). is_there o f.over) (sym (p.now.joined f.by f.on)) ∙ t in
    let q : Moved x (net n first (Arrives i ts ∷ ms)) a (x.at a) [] [] [] = next_move n first (Arrives i ts) ms a _ _ _ _ (lost_moved n x i f ts a nth there) in
    (plays_still n first (Arrives i ts) ms at j k d a p q, posts n first (Arrives i ts) ms a 0 (x.at a) [] [] [] [] [] q refl)
