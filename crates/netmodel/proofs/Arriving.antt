-- A frame that comes is a list of the model's events.
use Rattle.std.proofs.Common.{◌≡◌, ℕ, ◌<◌, ◌≤◌, true, ltb, leb, T, List, [], ◌∷◌, length, take, Some, None, Option, sym, refl, ap, subst, ltb-true, leb-true}
use Rattle.model.specs.Words.{Ev, world}
use Rattle.model.proofs.Tests.{of_cond}
use Rattle.linkmodel.specs.Links.{Links, who_on, road_cost, hears_hello, relinks}
use Rattle.linkmodel.specs.Station.{Item, Bundle, Seens, Frame, Greets, Tells, Shows, open_to, teller, takings, heard_words, answers, heard_seens, heard_hello}
use Rattle.linkmodel.specs.Calls.{are_sent, all_fresh}
use Rattle.linkmodel.proofs.Hearers.{nobody}
use Rattle.linkmodel.proofs.Fitting.{Every}
use Rattle.netmodel.specs.Net.{Sent, Net, Move, net, Start, becomes, meets_words, meets_seens, meets, sent_nth, is_there, comes, counts_words, counts_frame, counts_sent}
use Rattle.netmodel.specs.Standing.{StandsFor, words_of, on_way}
use Rattle.netmodel.specs.Fits.{ItemFits, Each, FrameFits}
use Rattle.netmodel.proofs.Laws.{wires_join, frames_fit, same_plug, teller_sent}
use Rattle.netmodel.proofs.Uttered.{Leads, answers_said}
use Rattle.netmodel.proofs.Places.{AllFound, sent_found}
use Rattle.netmodel.proofs.Tags.{in_few, fresh_less}
use Rattle.netmodel.proofs.Coming.{takings_away, takings_rule, words_like}
use Rattle.netmodel.proofs.Doings.{hello_did, seens_did}
use Rattle.netmodel.proofs.Led.{Led, led_none, led_box}
use Rattle.netmodel.proofs.Others.{away_more}

-- who tells on a wire has its road open
pub teller_open : (w : ℕ) (s : Links) (e : ℕ) → teller w s ≡ Some e → 0 < road_cost e s
teller_open w s e q = go (who_on (s.wire w)) q
  where
    go : (o : Option ℕ) → open_to o s ≡ Some e → 0 < road_cost e s
    go None p = nobody e p
    go (Some f) p = of_cond (λ (y : Option ℕ). y ≡ Some e → 0 < road_cost e s) (ltb 0 (road_cost f s)) (Some f) None
        (λ h z. let i : f ≡ e = cc in subst (λ (k : ℕ). 0 < road_cost k s) i (ltb-true 0 (road_cost f s) h)) (λ _ z. nobody e z) p

-- what fits is about boxes
fits_about : (n : ℕ) (xs : List Item) → Each (ItemFits n) xs → Every (λ (x : Item). x.about < n) xs
unfolding Each
fits_about n [] h = tt
fits_about n (x ∷ xs) h = (h.0.box, fits_about n xs h.1)

-- in every run an open wire leads to whom it is open
pub leads_to : (n : ℕ) (first : ℕ → ℕ) (ms : List Move) (a : ℕ) → Start n first → Leads n ((net n first ms).joined a) ((net n first ms).at a).links
leads_to n first ms a start w f d t p e q = let k = wires_join n first ms start a w p q in (k.1 f (ap who_on e), k.0.2)

module _ (n : ℕ) (first : ℕ → ℕ) (ms : List Move) (es : List Ev) (start : Start n first) (st : StandsFor n (net n first ms) es) where
  abbrev X : Net
  X = net n first ms

  -- a packet of words, where who sent it is known, and there are tags enough
  words_led : (k : ℕ) (f : Sent) (ts : List ℕ) (p : Bundle) (e : ℕ) → sent_nth k X.sent ≡ Some f → is_there (X.joined f.by f.on) f.over ≡ true → f.over.at < n → f.frame ≡ Tells p → teller f.over.on (X.at f.over.at).links ≡ Some e →
      length p.items ≤ length ts → T (all_fresh ts X.tags) → T (counts_words (Some e) p ts (X.at f.over.at)) →
      Led n X (becomes f.over.at (heard_words e p ts (X.at f.over.at)) (answers e p (heard_words e p ts (X.at f.over.at))) ts X) es
  words_led k f ts p e q there l says knows many fresh counts =
      let a = f.over.at in
      let s = X.at a in
      let r = heard_words e p ts s in
      let o : 0 < road_cost e s.links = teller_open f.over.on s.links e knows in
      let found : AllFound e a p.items (on_way X.sent) = subst (λ (b : ℕ). AllFound b a p.items (on_way X.sent)) (sym (teller_sent n first ms start k e f q there knows)) (sent_found k X.sent f p.items q (ap (words_of f.by a) says)) in
      let sent : are_sent found.0 e a p.items (world n es).flight = subst (are_sent found.0 e a p.items) (sym st.flight) found.1 in
      let w = words_like n a s es e p found.0 ts (st.joined a l) (st.boxes a l) o sent many (fresh_less ts X.tags (world n es).drawn st.tags fresh) counts in
      let us : List ℕ = take (length p.items) ts in
      let fits : FrameFits n (Tells p) = subst (FrameFits n) says (frames_fit n first ms start k f q) in
      led_box n a X es (takings found.0 us) r (answers e p r) ts l st
      (record { joined = w.0; like = w.1; away = away_more n a (takings found.0 us) es [] us ts (λ t h. in_few (length p.items) t ts h) (takings_away n a e p.items found.0 us es sent); rule = λ _. takings_rule n found.0 us es })
      (answers_said n (X.joined a) r (leads_to n first ms a start) w.0.roads e p o (fits_about n p.items fits.1.2))

  -- what comes to a box
  words_meet : (k : ℕ) (f : Sent) (ts : List ℕ) (p : Bundle) → sent_nth k X.sent ≡ Some f → is_there (X.joined f.by f.on) f.over ≡ true → f.over.at < n → f.frame ≡ Tells p →
      T (all_fresh ts X.tags) → (o : Option ℕ) → teller f.over.on (X.at f.over.at).links ≡ o → T (counts_words o p ts (X.at f.over.at)) → Led n X (meets_words f.over.at o p ts X) es
  words_meet k f ts p q there l says fresh None knows counts = led_none n X X es st
  words_meet k f ts p q there l says fresh (Some e) knows counts =
      let r = heard_words e p ts (X.at f.over.at) in
      of_cond (λ (y : Net). Led n X y es) (leb (length p.items) (length ts)) (becomes f.over.at r (answers e p r) ts X) X
      (λ h. words_led k f ts p e q there l says knows (leb-true (length p.items) (length ts) h) fresh counts) (λ _. led_none n X X es st)

  seens_meet : (a : ℕ) (p : Seens) → a < n → (o : Option ℕ) → Led n X (meets_seens a o p X) es
  seens_meet a p l None = led_none n X X es st
  seens_meet a p l (Some e) = led_box n a X es [] (heard_seens e p (X.at a)) [] [] l st (seens_did n a (X.at a) es (st.joined a l) (st.boxes a l) e p) tt

  frame_meets : (k : ℕ) (f : Sent) (ts : List ℕ) → sent_nth k X.sent ≡ Some f → is_there (X.joined f.by f.on) f.over ≡ true → f.over.at < n → T (all_fresh ts X.tags) →
      (g : Frame) → f.frame ≡ g → T (counts_frame f.over.on g ts (X.at f.over.at)) → Led n X (meets f.over.at f.over.on g ts X) es
  frame_meets k f ts q there l fresh (Greets h) says counts =
      let a = f.over.at in
      led_box n a X es (relinks (X.at a).links (hears_hello f.over.on h (X.at a).links) n) (heard_hello f.over.on h (X.at a)) [] [] l st (hello_did n a (X.at a) es (st.joined a l) (st.boxes a l) f.over.on h) tt
  frame_meets k f ts q there l fresh (Tells p) says counts = words_meet k f ts p q there l says fresh (teller f.over.on (X.at f.over.at).links) refl counts
  frame_meets k f ts q there l fresh (Shows p) says counts = seens_meet f.over.at p l (teller f.over.on (X.at f.over.at).links)

  -- any frame of those sent
  pub arrives_led : (k : ℕ) (ts : List ℕ) → T (all_fresh ts X.tags) → (o : Option Sent) → sent_nth k X.sent ≡ o → T (counts_sent o ts X) → Led n X (comes o ts X) es
  arrives_led k ts fresh None q counts = led_none n X X es st
  arrives_led k ts fresh (Some f) q counts =
      of_cond (λ (y : Net). Led n X y es) (is_there (X.joined f.by f.on) f.over) (meets f.over.at f.over.on f.frame ts X) X
      (λ there.
      let w = wires_join n first ms start f.by f.on f.over (same_plug n first ms start k f q there) in
      frame_meets k f ts q there w.0.2 fresh f.frame refl counts)
      (λ _. led_none n X X es st)
