-- What stands by wire is what the model sends.
use Rattle.std.proofs.Common.{◌≡◌, ℕ, zero, suc, ◌<◌, ◌≤◌, Bool, true, false, cond, eqb, ltb, List, [], ◌∷◌, ◌++◌, length, get_or, Some, None, Option, sym, refl, ap, ◌∙◌, ap₂, arith, ltb-true, eq-eqb, ne_eqb}
use Rattle.hello.specs.State.{hello_on, sent_as}
use Rattle.messages.specs.declared.values.Hello.{Hello}
use Rattle.messages.specs.Packets.{Words}
use Rattle.model.specs.Box.{tells}
use Rattle.linkmodel.specs.Links.{Hello as Greeting, Links, hello_for, road_cost, sends_hello, who_on}
use Rattle.linkmodel.specs.Station.{Greets, Item, Out, Shows, Sight, Station, Tells, hellos_on, items_of, seens_out, tells_on, tick_out, wire_to, words_out}
use Rattle.messages.specs.Packets.{Seens}
use Rattle.station.specs.Packets.{seens_of}
use Rattle.station.specs.Hearing.{Showing, shown_on}
use Rattle.station.specs.Ticking.{Carries, bundle_of, goes_out, greeting_on, greetings_in, is_telling, no_words, packet_on, tellings_in, told_on, told_to}
use Rattle.station.proofs.Carrying.{told_to_lem}
use Rattle.station.proofs.LowestWire.{open_who, open_wire}

-- a hello that goes out as the model has it
greets : ℕ → Option Greeting → List Out
greets w None = []
greets w (Some h) = record { on = w; frame = Greets h } ∷ []

greeting_is : (w : ℕ) (o : Option Hello) → greeting_on w o ≡ greets w (sent_as o)
unfolding greets
greeting_is w None = refl
greeting_is w (Some h) = refl

greets_if : (w : ℕ) (s : Links) (b : Bool) → greets w (cond b (Some (hello_for w s)) None) ≡ cond b (record { on = w; frame = Greets (hello_for w s) } ∷ []) []
unfolding greets
greets_if w s true = refl
greets_if w s false = refl

pub hellos_out_lem : (hs : List (Option Hello)) (s : Links) (k : ℕ) → k ≤ 8 → ((w : ℕ) → w < 8 → sent_as (get_or hs w None) ≡ hello_on w s) → greetings_in hs k ≡ hellos_on s k
unfolding greetings_in hellos_on
hellos_out_lem hs s zero l h = refl
hellos_out_lem hs s (suc k) l h =
    ap₂ (λ (xs ys : List Out). xs ++ ys) (hellos_out_lem hs s k (omega arith) h)
    (greeting_is k (get_or hs k None) ∙ ap (greets k) (h k (omega arith)) ∙ greets_if k s (sends_hello k s))

-- a packet that carries these
pub packet_out : (e d : ℕ) (p : Words) (xs : List Item) (s : Links) → s.drawn ≡ d → Carries p d xs → packet_on (wire_to e s) p ≡ words_out e xs s
packet_out e d p [] s q c = ap (λ (k : ℕ). cond (eqb k 0) [] (record { on = wire_to e s; frame = Tells (bundle_of p) } ∷ [])) c.count
packet_out e d p (x ∷ xs) s q c =
    ap (λ (k : ℕ). cond (eqb k 0) [] (record { on = wire_to e s; frame = Tells (bundle_of p) } ∷ [])) c.count
    ∙ ap (λ (b : Bool). cond b [] (record { on = wire_to e s; frame = Tells (bundle_of p) } ∷ [])) (ne_eqb (suc (length xs)) 0 (λ z. absurd (omega arith)))
    ∙ ap₂ (λ (k : ℕ) (ys : List Item). told k ys) (c.drawn ∙ sym q) c.items
  where
    told : ℕ → List Item → List Out
    told k ys = record { on = wire_to e s; frame = Tells (record { drawn = k; items = ys }) } ∷ []

-- and one of seens
pub shown_out : (e d : ℕ) (p : Seens) (xs : List Sight) (s : Links) → s.drawn ≡ d → Showing p d xs → shown_on (wire_to e s) p ≡ seens_out e xs s
shown_out e d p [] s q c = ap (λ (k : ℕ). cond (eqb k 0) [] (record { on = wire_to e s; frame = Shows (seens_of p) } ∷ [])) c.count
shown_out e d p (x ∷ xs) s q c =
    ap (λ (k : ℕ). cond (eqb k 0) [] (record { on = wire_to e s; frame = Shows (seens_of p) } ∷ [])) c.count
    ∙ ap (λ (b : Bool). cond b [] (record { on = wire_to e s; frame = Shows (seens_of p) } ∷ [])) (ne_eqb (suc (length xs)) 0 (λ z. absurd (omega arith)))
    ∙ ap₂ (λ (k : ℕ) (ys : List Sight). shown k ys) (c.drawn ∙ sym q) c.items
  where
    shown : ℕ → List Sight → List Out
    shown k ys = record { on = wire_to e s; frame = Shows (record { drawn = k; items = ys }) } ∷ []

module _ (ps : List Words) (s : Station) (h : (w : ℕ) → w < 8 → Carries (get_or ps w no_words) s.links.drawn (told_on w s)) where
  -- when it is time to tell
  one_told : is_telling s.links ≡ true → (k : ℕ) (b : Bool) → ltb 0 (road_cost k s.links) ≡ b →
      cond b (packet_on (wire_to k s.links) (get_or ps (wire_to k s.links) no_words)) [] ≡ cond b (words_out k (items_of (tells k s.box) s.box) s.links) []
  one_told t k true q =
      let w = wire_to k s.links in
      let o = open_wire k s.links (ltb-true 0 (road_cost k s.links) q) in
      packet_out k s.links.drawn (get_or ps w no_words) (told_on w s) s.links refl (h w o.0)
      ∙ ap (λ (xs : List Item). words_out k xs s.links) (told_to_lem w k s t (open_who k (s.links.wire w) o.1) (eq-eqb w w refl))
  one_told t k false q = refl

  tells_out : is_telling s.links ≡ true → (k : ℕ) → tellings_in ps s.links k ≡ tells_on s k
  unfolding tellings_in tells_on
  tells_out t zero = refl
  tells_out t (suc k) = ap₂ (λ (xs ys : List Out). xs ++ ys) (tells_out t k) (one_told t k (ltb 0 (road_cost k s.links)) refl)

  -- and when it isn't
  none_told : is_telling s.links ≡ false → (k : ℕ) (b : Bool) → ltb 0 (road_cost k s.links) ≡ b → cond b (packet_on (wire_to k s.links) (get_or ps (wire_to k s.links) no_words)) [] ≡ []
  none_told t k true q =
      let w = wire_to k s.links in
      let o = open_wire k s.links (ltb-true 0 (road_cost k s.links) q) in
      packet_out k s.links.drawn (get_or ps w no_words) (told_on w s) s.links refl (h w o.0)
      ∙ ap (λ (b : Bool). words_out k (cond b (told_to (who_on (s.links.wire w)) w s) []) s.links) t
  none_told t k false q = refl

  tells_none : is_telling s.links ≡ false → (k : ℕ) → tellings_in ps s.links k ≡ []
  unfolding tellings_in
  tells_none t zero = refl
  tells_none t (suc k) = ap₂ (λ (xs ys : List Out). xs ++ ys) (tells_none t k) (none_told t k (ltb 0 (road_cost k s.links)) refl)

  pub all_out : (hs : List (Option Hello)) → ((w : ℕ) → w < 8 → sent_as (get_or hs w None) ≡ hello_on w s.links) → goes_out hs ps s ≡ tick_out s
  all_out hs g = ap₂ (λ (xs ys : List Out). xs ++ ys) (hellos_out_lem hs s.links 8 (omega arith) g) (go (is_telling s.links) refl)
    where
      go : (b : Bool) → is_telling s.links ≡ b → tellings_in ps s.links s.links.n ≡ cond b (tells_on s s.links.n) []
      go true t = tells_out t s.links.n
      go false t = tells_none t s.links.n
