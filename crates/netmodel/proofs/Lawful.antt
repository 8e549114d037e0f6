-- What holds of what was heard, drawn, sent and shown over every run of a net, and that it is kept when one box changes and sends, or falls.
use Rattle.std.proofs.Common.{◌≡◌, ℕ, ◌<◌, true, false, eqb, List, [], ◌∷◌, Some, None, Option, sym, refl, ap, ◌∙◌, subst, inl, inr, eq-eqb}
use Rattle.model.specs.Words.{Entry, newer, is_in}
use Rattle.model.proofs.Tests.{or_left}
use Rattle.linkmodel.proofs.Bools.{true_not_false}
use Rattle.linkmodel.specs.Links.{Links, who_on}
use Rattle.linkmodel.specs.Station.{Station, Frame, Greets, Tells, Shows, Out, falls}
use Rattle.linkmodel.proofs.Wires.{row_at, at_row}
use Rattle.linkmodel.proofs.Newer.{newer_upto, after_upto}
use Rattle.linkmodel.proofs.Fitting.{Every, every_map, Grows, Fitting, OldItem, OldSight}
use Rattle.linkmodel.proofs.Hearers.{HeardOnly, nobody, Known, known_more, known_on, not_known}
use Rattle.linkmodel.proofs.Outgoing.{Sendable, Sendables, every_append}
use Rattle.netmodel.specs.Net.{Plug, Sent, Net, sent_over, sent_by, becomes}
use Rattle.netmodel.proofs.Moving.{falls_at}

-- on a wire that is joined only the box at its other end was heard
abbrev pub OnWires : (ℕ → Option Plug) → Links → Type 0
OnWires j s = (w f : ℕ) (p : Plug) → j w ≡ Some p → who_on (s.wire w) ≡ Some f → f ≡ p.at

-- the box at the other end, or who was heard where there is none
abbrev pub end_of : Option Plug → Option ℕ → ℕ
end_of (Some p) o = p.at
end_of None (Some f) = f
end_of None None = 0

-- so for each wire of a box
abbrev pub ends : (ℕ → Option Plug) → Links → ℕ → ℕ
ends j s w = end_of (j w) (who_on (s.wire w))

-- only these were heard
pub ends_heard : (j : ℕ → Option Plug) (s : Links) → OnWires j s → HeardOnly (ends j s) s
ends_heard j s k w f e = go (j w) refl
  where
    go : (o : Option Plug) → j w ≡ o → f ≡ end_of o (who_on (s.wire w))
    go None q = subst (λ (z : Option ℕ). f ≡ end_of None z) (sym e) refl
    go (Some p) q = k w f p q e

-- and where only these were heard it is so of each wire that is joined
pub heard_ends : (j : ℕ → Option Plug) (s r : Links) → HeardOnly (ends j s) r → OnWires j r
heard_ends j s r k w f p q e = k w f e ∙ ap (λ (z : Option Plug). end_of z (who_on (s.wire w))) q

-- the present numbers of all boxes
abbrev pub numbers : Net → ℕ → ℕ
numbers x e = (x.at e).links.drawn

-- and their words
abbrev pub words_now : Net → ℕ → ℕ → Entry
words_now x e = (x.at e).box.word

-- a frame by box b, which is now s: its number was drawn; if it is the present one of b, nothing in the frame is newer than what b has
abbrev pub Framed : Station → List ℕ → ℕ → Frame → Type 0
Framed s ds b (Greets h) = (h.from ≡ b) × (is_in h.drawn ds ≡ true)
Framed s ds b (Tells p) = (is_in p.drawn ds ≡ true) × (p.drawn ≡ s.links.drawn → Every (OldItem s.box.word) p.items)
Framed s ds b (Shows p) = (is_in p.drawn ds ≡ true) × (p.drawn ≡ s.links.drawn → Every (OldSight s.box.word) p.items)

-- a frame is lawful for who sent it
abbrev pub SentSo : Net → Sent → Type 0
SentSo x f = Framed (x.at f.by) x.drawn f.by f.frame

-- each box's own number and those that it last heard were drawn, all frames are lawful, and what is shown isn't newer than what who has shown it has
pub record Lawful (n : ℕ) (x : Net) : Type 0 where
  pub me : (a : ℕ) → (x.at a).links.me ≡ a
  pub heard : (a : ℕ) → OnWires (x.joined a) (x.at a).links
  pub own : (a : ℕ) → a < n → is_in (x.at a).links.drawn x.drawn ≡ true
  pub lasts : (a e : ℕ) → Known ((x.at a).links.last e) x.drawn
  pub frames : Every (SentSo x) x.sent
  pub shows : (a : ℕ) → Fitting (numbers x) (words_now x) (x.at a).links.last (x.at a).box

-- what box a may become in one life
pub record Change (x : Net) (a : ℕ) (s : Station) : Type 0 where
  pub me : s.links.me ≡ a
  pub heard : OnWires (x.joined a) s.links
  pub drew : s.links.drawn ≡ (x.at a).links.drawn
  pub lasts : (e : ℕ) → Known (s.links.last e) x.drawn
  pub grows : Grows (x.at a).box s.box
  pub fits : Fitting (numbers x) (words_now x) s.links.last s.box

-- a frame stays lawful when its box grows in the same life
framed_grows : (s r : Station) (ds : List ℕ) (b : ℕ) (f : Frame) → r.links.drawn ≡ s.links.drawn → Grows s.box r.box → Framed s ds b f → Framed r ds b f
framed_grows s r ds b (Greets h) e g k = k
framed_grows s r ds b (Tells p) e g k =
    (k.0, λ q. every_map (OldItem s.box.word) (OldItem r.box.word) p.items (λ x o. newer_upto x.entry (s.box.word x.about) (r.box.word x.about) o (g x.about)) (k.1 (q ∙ e)))
framed_grows s r ds b (Shows p) e g k = (
  k.0,
  λ q. every_map (OldSight s.box.word) (OldSight r.box.word) p.items
      (λ x o. after_upto x.number x.tag (s.box.word x.about).number (s.box.word x.about).tag (r.box.word x.about).number (r.box.word x.about).tag o (g x.about)) (k.1 (q ∙ e)),
)

-- what a box sends is lawful
sent_framed : (s : Station) (ds : List ℕ) (a : ℕ) (f : Frame) → s.links.me ≡ a → is_in s.links.drawn ds ≡ true → Sendable s f → Framed s ds a f
sent_framed s ds a (Greets h) m d k = (k.0 ∙ m, subst (λ (z : ℕ). is_in z ds ≡ true) (sym k.1) d)
sent_framed s ds a (Tells p) m d k = (subst (λ (z : ℕ). is_in z ds ≡ true) (sym k.0) d, λ _. k.1)
sent_framed s ds a (Shows p) m d k = (subst (λ (z : ℕ). is_in z ds ≡ true) (sym k.0) d, λ _. k.1)

-- on whichever wire it goes out
over_framed : (x : Net) (a w : ℕ) (f : Frame) (q : Option Plug) → Framed (x.at a) x.drawn a f → Every (SentSo x) (sent_over a w f q)
over_framed x a w f None h = tt
over_framed x a w f (Some p) h = (h, tt)

all_framed : (x : Net) (a : ℕ) (j : ℕ → Option Plug) (out : List Out) → ((f : Frame) → Sendable (x.at a) f → Framed (x.at a) x.drawn a f) → Sendables (x.at a) out → Every (SentSo x) (sent_by a j out)
unfolding sent_by
all_framed x a j [] k h = tt
all_framed x a j (o ∷ os) k h = every_append (SentSo x) (sent_by a j os) (sent_over a o.on o.frame (j o.on)) (all_framed x a j os k h.1) (over_framed x a o.on o.frame (j o.on) (k o.frame h.0))

-- one box changes and sends
module _ (n : ℕ) (x : Net) (a : ℕ) (s : Station) (out : List Out) (ts : List ℕ) where
  changed_fits : (r : Station) → Change x a s → Fitting (numbers x) (words_now x) r.links.last r.box → Fitting (numbers (becomes a s out ts x)) (words_now (becomes a s out ts x)) r.links.last r.box
  changed_fits r c g f j h =
      at_row (λ (q : Station). r.links.last f ≡ q.links.drawn → newer (r.box.word j) (q.box.word j) ≡ false) a s x.at f
      (λ e l. newer_upto (r.box.word j) ((x.at a).box.word j) (s.box.word j)
      (subst (λ (z : ℕ). newer (r.box.word j) ((x.at z).box.word j) ≡ false) e (g f j h (l ∙ (c.drew ∙ ap (λ (z : ℕ). (x.at z).links.drawn) (sym e))))) (c.grows j))
      (λ _ l. g f j h l)

  changed_frame : Change x a s → (f : Sent) → SentSo x f → SentSo (becomes a s out ts x) f
  changed_frame c f o =
      at_row (λ (q : Station). Framed q x.drawn f.by f.frame) a s x.at f.by
      (λ e. framed_grows (x.at f.by) s x.drawn f.by f.frame (subst (λ (z : ℕ). s.links.drawn ≡ (x.at z).links.drawn) (sym e) c.drew) (subst (λ (z : ℕ). Grows (x.at z).box s.box) (sym e) c.grows) o)
      (λ _. o)

  -- all stays lawful
  pub changed : Lawful n x → a < n → Change x a s → Sendables s out → Lawful n (becomes a s out ts x)
  changed k an c o = record {
    me = λ b. at_row (λ (q : Station). q.links.me ≡ b) a s x.at b (λ e. c.me ∙ sym e) (λ _. k.me b);
    heard = λ b. at_row (λ (q : Station). OnWires (x.joined b) q.links) a s x.at b (λ e. subst (λ (z : ℕ). OnWires (x.joined z) s.links) (sym e) c.heard) (λ _. k.heard b);
    own = λ b h. at_row (λ (q : Station). is_in q.links.drawn x.drawn ≡ true) a s x.at b (λ _. here) (λ _. k.own b h);
    lasts = λ b e. at_row (λ (q : Station). Known (q.links.last e) x.drawn) a s x.at b (λ _. c.lasts e) (λ _. k.lasts b e);
    frames = every_append (SentSo (becomes a s out ts x)) (sent_by a (x.joined a) out) x.sent
        (all_framed (becomes a s out ts x) a (x.joined a) out (λ f. subst (λ (q : Station). Sendable q f → Framed q x.drawn a f) (sym (row_at a s x.at)) (sent_framed s x.drawn a f c.me here))
        (subst (λ (q : Station). Sendables q out) (sym (row_at a s x.at)) o))
        (every_map (SentSo x) (SentSo (becomes a s out ts x)) x.sent (changed_frame c) k.frames);
    shows = λ b. at_row (λ (q : Station). Fitting (numbers (becomes a s out ts x)) (words_now (becomes a s out ts x)) q.links.last q.box) a s x.at b
        (λ _. changed_fits s c c.fits) (λ _. changed_fits (x.at b) c (k.shows b));
  }
    where
      here : is_in s.links.drawn x.drawn ≡ true
      here = subst (λ (z : ℕ). is_in z x.drawn ≡ true) (sym c.drew) (k.own a an)

-- a frame of a box that fell carries an old number
fallen_frame : (s : Station) (d : ℕ) (ds : List ℕ) (b : ℕ) (f : Frame) → 0 < d → is_in d ds ≡ false → Framed s ds b f → Framed (falls d s) (d ∷ ds) b f
fallen_frame s d ds b (Greets h) p q k = (k.0, known_more d h.drawn ds k.1)
fallen_frame s d ds b (Tells m) p q k = (known_more d m.drawn ds k.0, λ e. not_known d ds p q (inr (subst (λ (z : ℕ). is_in z ds ≡ true) e k.0)))
fallen_frame s d ds b (Shows m) p q k = (known_more d m.drawn ds k.0, λ e. not_known d ds p q (inr (subst (λ (z : ℕ). is_in z ds ≡ true) e k.0)))

-- that of another box stays
framed_more : (s : Station) (d : ℕ) (ds : List ℕ) (b : ℕ) (f : Frame) → Framed s ds b f → Framed s (d ∷ ds) b f
framed_more s d ds b (Greets h) k = (k.0, known_more d h.drawn ds k.1)
framed_more s d ds b (Tells m) k = (known_more d m.drawn ds k.0, k.1)
framed_more s d ds b (Shows m) k = (known_more d m.drawn ds k.0, k.1)

drawn_first : (d : ℕ) (ds : List ℕ) → is_in d (d ∷ ds) ≡ true
unfolding is_in
drawn_first d ds = or_left (eqb d d) (is_in d ds) (eq-eqb d d refl)

-- all is lawful after a fall
pub fallen : (n : ℕ) (x : Net) (a d : ℕ) → Lawful n x → 0 < d → is_in d x.drawn ≡ false → Lawful n (falls_at a d x)
fallen n x a d k p q = record {
  me = λ b. at_row (λ (r : Station). r.links.me ≡ b) a (falls d (x.at a)) x.at b (λ e. k.me a ∙ sym e) (λ _. k.me b);
  heard = λ b. at_row (λ (r : Station). OnWires (x.joined b) r.links) a (falls d (x.at a)) x.at b (λ _ w f g j z. nobody f z) (λ _. k.heard b);
  own = λ b h. at_row (λ (r : Station). is_in r.links.drawn (d ∷ x.drawn) ≡ true) a (falls d (x.at a)) x.at b (λ _. drawn_first d x.drawn) (λ _. known_more d (x.at b).links.drawn x.drawn (k.own b h));
  lasts = λ b e. at_row (λ (r : Station). Known (r.links.last e) (d ∷ x.drawn)) a (falls d (x.at a)) x.at b (λ _. inl refl) (λ _. known_on d ((x.at b).links.last e) x.drawn (k.lasts b e));
  frames = every_map (SentSo x) (SentSo (falls_at a d x)) x.sent
      (λ f o. at_row (λ (r : Station). Framed r (d ∷ x.drawn) f.by f.frame) a (falls d (x.at a)) x.at f.by
      (λ e. fallen_frame (x.at a) d x.drawn f.by f.frame p q (subst (λ (z : ℕ). Framed (x.at z) x.drawn f.by f.frame) e o))
      (λ _. framed_more (x.at f.by) d x.drawn f.by f.frame o))
      k.frames;
  shows = λ b. at_row (λ (r : Station). Fitting (numbers (falls_at a d x)) (words_now (falls_at a d x)) r.links.last r.box) a (falls d (x.at a)) x.at b
      (λ _ f j h. true_not_false false h refl)
      (λ _ f j h. at_row (λ (r : Station). (x.at b).links.last f ≡ r.links.drawn → newer ((x.at b).box.word j) (r.box.word j) ≡ false) a (falls d (x.at a)) x.at f
      (λ _ l. not_known d x.drawn p q (subst (λ (z : ℕ). Known z x.drawn) l (k.lasts b f)))
      (λ _ l. k.shows b f j h l));
}
