-- One parcel after the other.
use Rattle.std.proofs.Common.{◌≡◌, ℕ, ◌+◌, ◌<◌, ◌≤◌, Bool, true, false, cond, ltb, List, [], ◌∷◌, ◌++◌, length, get_or, take, Some, None, Option, sym, refl, ap, ◌∙◌, append_assoc, append-nil, add-one, arith, ltb-true}
use Rattle.std.specs.List.{flat_map}
use Rattle.std.proofs.lemmas.List.{get_or-take, get_or_default, length-take-le}
use Rattle.messages.specs.declared.values.Hello.{Hello}
use Rattle.messages.specs.declared.values.Word.{Word}
use Rattle.messages.specs.Packets.{Words}
use Rattle.router.specs.declared.answers.Outcome.{Outcome}
use Rattle.linkmodel.specs.Links.{Links, road_cost}
use Rattle.linkmodel.specs.Station.{Station as Whole, wire_to}
use Rattle.outbox.specs.Parcels.{contents}
use Rattle.outbox.specs.declared.state.Outbox.{Outbox}
use Rattle.station.specs.State.{wire_open}
use Rattle.station.proofs.LowestWire.{open_wire}
use Rattle.station.specs.Ticking.{greeting_on, greetings_in, item_of, no_word, no_words, packet_on, tellings_in}
use Rattle.node.specs.Giving.{Added, note_of, told_over}
use Rattle.node.specs.Hearing.{note_for, notes_for}
use Rattle.node.specs.Wires.{out_bytes}

pub joined_append : {A : Type 0} (f : A → List ℕ) (xs ys : List A) → flat_map f (xs ++ ys) ≡ flat_map f xs ++ flat_map f ys
joined_append f [] ys = refl
joined_append f (x ∷ xs) ys = ap (λ z. f x ++ z) (joined_append f xs ys) ∙ sym (append_assoc (f x) (flat_map f xs) (flat_map f ys))

-- nothing is added
pub added_none : (o : Outbox) → Added 0 [] o o
added_none o = record { holds = sym (append-nil (contents o)); used = omega arith }

-- some is added, and then more
pub added_more : {a b c : Outbox} {j k : ℕ} {x y : List ℕ} (m : ℕ) (z : List ℕ) → Added j x a b → Added k y b c → j + k ≤ m → x ++ y ≡ z → Added m z a c
added_more {a} {b} {c} {j} {k} {x} {y} m z p q h e =
    record {
      holds = q.holds ∙ (ap (λ w. w ++ y) p.holds ∙ (append_assoc (contents a) x y ∙ ap (λ w. contents a ++ w) e));
      used = omega (arith, p.used, q.used);
    }

-- the same under another name
pub added_as : {a b : Outbox} {j : ℕ} {x : List ℕ} (m : ℕ) (z : List ℕ) → Added j x a b → j ≤ m → x ≡ z → Added m z a b
added_as {a} m z p h e = record { holds = p.holds ∙ ap (λ w. contents a ++ w) e; used = omega (arith, p.used) }

pub greetings_none : (hs : List (Option Hello)) → flat_map out_bytes (greetings_in hs 0) ≡ []
unfolding greetings_in
greetings_none hs = refl

pub greetings_more : (hs : List (Option Hello)) (w : ℕ) → flat_map out_bytes (greetings_in hs w) ++ flat_map out_bytes (greeting_on w (get_or hs w None)) ≡ flat_map out_bytes (greetings_in hs (w + 1))
unfolding greetings_in
greetings_more hs w = rw add-one (sym (joined_append out_bytes (greetings_in hs w) (greeting_on w (get_or hs w None))))

pub tellings_none : (ps : List Words) (s : Links) → flat_map out_bytes (tellings_in ps s 0) ≡ []
unfolding tellings_in
tellings_none ps s = refl

pub tellings_more : (ps : List Words) (s : Links) (k : ℕ) → flat_map out_bytes (tellings_in ps s k) ++ flat_map out_bytes (told_over ps k s) ≡ flat_map out_bytes (tellings_in ps s (k + 1))
unfolding tellings_in
tellings_more ps s k = rw add-one (sym (joined_append out_bytes (tellings_in ps s k) (told_over ps k s)))

-- a road that is open goes over its lowest open wire
pub record OpenOver (e : ℕ) (s : Links) (w : ℕ) : Type 0 where
  pub held : ltb 0 (road_cost e s) ≡ true
  pub is : wire_to e s ≡ w
  pub small : w < 8

pub open_over_lem : (e : ℕ) (s : Links) (w : ℕ) → Some w ≡ wire_open e s → OpenOver e s w
open_over_lem e s w h = go (ltb 0 (road_cost e s)) refl h
  where
    go : (b : Bool) → ltb 0 (road_cost e s) ≡ b → Some w ≡ cond b (Some (wire_to e s)) None → OpenOver e s w
    go false q h = let z : ◌≡◌ {A = ℕ} 0 1 = cc in absurd (omega arith)
    go true q h =
        let i : wire_to e s ≡ w = cc in
        let l = (open_wire e s (ltb-true 0 (road_cost e s) q)).0 in
        record { held = q; is = i; small = omega arith }

pub told_over_lem : (ps : List Words) (e : ℕ) (s : Links) (w : ℕ) → OpenOver e s w → told_over ps e s ≡ packet_on w (get_or ps w no_words)
told_over_lem ps e s w o = ap (λ b. cond b (packet_on (wire_to e s) (get_or ps (wire_to e s) no_words)) []) o.held ∙ ap (λ v. packet_on v (get_or ps v no_words)) o.is

pub notes_none : (os : List (Option Outcome)) (xs : List Word) (ts : List ℕ) (s : Whole) → flat_map (note_of s) (notes_for os xs ts s 0) ≡ []
unfolding notes_for
notes_none os xs ts s = refl

pub notes_more : (os : List (Option Outcome)) (xs : List Word) (ts : List ℕ) (s : Whole) (k : ℕ) →
    flat_map (note_of s) (notes_for os xs ts s k) ++ flat_map (note_of s) (note_for (get_or os k None) (item_of (get_or xs k no_word)) (get_or ts k 0) s) ≡ flat_map (note_of s) (notes_for os xs ts s (k + 1))
unfolding notes_for
notes_more os xs ts s k = rw add-one (sym (joined_append (note_of s) (notes_for os xs ts s k) (note_for (get_or os k None) (item_of (get_or xs k no_word)) (get_or ts k 0) s)))

-- the words of a packet
pub told_long : (n : ℕ) (xs told : List Word) → told ≡ take n xs → n ≤ length xs → length told ≡ n
told_long n xs told e h = ap length e ∙ length-take-le n xs h

pub told_item : (n k : ℕ) (xs told : List Word) (d : Word) → told ≡ take n xs → n ≤ length xs → k < length told → get_or told k d ≡ get_or xs k no_word
told_item n k xs told d e h l =
    let m = told_long n xs told e h in
    ap (λ z. get_or z k d) e ∙ (get_or-take n xs k d (omega arith) ∙ get_or_default xs k d no_word (omega arith))
