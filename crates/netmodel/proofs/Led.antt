-- What leads from a net that stands to one that stands: the events of one box, and of what it sends.
use Rattle.std.proofs.Common.{◌≡◌, ℕ, ◌<◌, T, List, [], ◌∷◌, ◌++◌, sym, subst, append_assoc, append-nil}
use Rattle.model.specs.Words.{Word, Ev, world}
use Rattle.model.specs.Promise.{by_rule}
use Rattle.model.proofs.Rows.{Like}
use Rattle.model.proofs.WordsByRule.{rule_join}
use Rattle.linkmodel.specs.Station.{Station, Out, falls}
use Rattle.linkmodel.proofs.Wires.{row_at}
use Rattle.linkmodel.proofs.Fitting.{Every}
use Rattle.model.specs.Flood.{row}
use Rattle.netmodel.specs.Net.{Net, sent_by, becomes}
use Rattle.netmodel.specs.Standing.{StandsFor, Stays, on_way}
use Rattle.netmodel.proofs.Others.{Away, away_join, away_more}
use Rattle.netmodel.proofs.Becoming.{becomes_stands}
use Rattle.netmodel.proofs.Sent.{Said, saying_all, all_sent}
use Rattle.netmodel.proofs.Tags.{none_in}
use Rattle.netmodel.proofs.Doings.{Keeps, Did}

-- these events lead from net x, which stands after es, to net y
pub record Led (n : ℕ) (x y : Net) (es : List Ev) : Type 0 where
  pub events : List Ev
  pub stands : StandsFor n y (events ++ es)
  pub rule : Stays n x y → T (by_rule n events es)

-- nothing happens
pub led_none : (n : ℕ) (x y : Net) (es : List Ev) → StandsFor n y es → Led n x y es
unfolding by_rule
led_none n x y es st = record { events = []; stands = st; rule = λ _. tt }

-- what stays of all stays of the box that changed
stays_keeps : (n a : ℕ) (x : Net) (r : Station) (out : List Out) (ts : List ℕ) → a < n → Stays n x (becomes a r out ts x) → Keeps n (x.at a) r
stays_keeps n a x r out ts l k = record {
  roads = λ e h. subst (λ (q : Station). q.box.cost e ≡ (x.at a).box.cost e) (row_at a r x.at) (k.roads a e l h);
  lasts = λ e h. subst (λ (q : Station). q.links.last e ≡ (x.at a).links.last e) (row_at a r x.at) (k.lasts a e l h);
  life = subst (λ (q : Station). q.links.drawn ≡ (x.at a).links.drawn) (row_at a r x.at) (k.lives a l);
}

-- a box does something, and then sends
pub led_box : (n a : ℕ) (x : Net) (es fs : List Ev) (r : Station) (out : List Out) (ts : List ℕ) → a < n → StandsFor n x es → Did n a (x.at a) r fs es ts → Every (λ (o : Out). Said n r.box (x.joined a o.on) o.frame) out →
    Led n x (becomes a r out ts x) es
led_box n a x es fs r out ts l st d said =
    let s = all_sent n a r.box l (x.joined a) (fs ++ es) out said d.like in
    let gs : List Ev = saying_all a (x.joined a) out in
    let ws : List Word = on_way (sent_by a (x.joined a) out) in
    record {
      events = gs ++ fs;
      stands = becomes_stands n a x es (gs ++ fs) r out ts l st d.joined (subst (λ (z : List Ev). Like n a (world n z) r.box) (sym (append_assoc gs fs es)) s.stays)
          (subst (λ (z : List Word). Away n a (gs ++ fs) es z ts) (append-nil ws) (away_join n a fs gs es [] ws ts d.away (away_more n a gs (fs ++ es) ws [] ts (λ t h. none_in t ts h) s.away)));
      rule = λ k. rule_join n gs fs es s.rule (d.rule (stays_keeps n a x r out ts l k));
    }

-- it falls
abbrev pub falls_at : ℕ → ℕ → Net → Net
falls_at a d x = record { at = row a (falls d (x.at a)) x.at; joined = x.joined; sent = x.sent; tags = x.tags; drawn = d ∷ x.drawn; laid = x.laid }

-- as it does anything else, but for the number that is drawn
pub led_falls : (n a d : ℕ) (x : Net) (es fs : List Ev) → a < n → StandsFor n x es → Did n a (x.at a) (falls d (x.at a)) fs es [] → Led n x (falls_at a d x) es
unfolding sent_by
led_falls n a d x es fs l st did =
    let p = led_box n a x es fs (falls d (x.at a)) [] [] l st did tt in
    record {
      events = p.events;
      stands = record { joined = p.stands.joined; boxes = p.stands.boxes; flight = p.stands.flight; tags = p.stands.tags };
      rule = λ k. p.rule (record { roads = k.roads; lasts = k.lasts; lives = k.lives });
    }
