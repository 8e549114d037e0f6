-- A packet of words and one of seens that are read do what they do in the model.
use Rattle.std.proofs.Common.{◌≡◌, ℕ, ◌^◌, ◌<◌, ◌≤◌, Bool, false, not, ◌||◌, eqb, ltb, leb, List, [], ◌∷◌, ◌++◌, length, take, Some, None, Option, sym, refl, ap, ◌∙◌, subst, ap₂, arith, lt-ltb}
use Rattle.std.proofs.lemmas.Bool.Decides.{nat_tests}
use Rattle.std.proofs.lemmas.List.{map-id}
use Rattle.std.specs.List.{flat_map}
use Rattle.messages.specs.Values.{ids_of}
use Rattle.messages.specs.declared.values.Word.{Word}
use Rattle.messages.specs.declared.values.WordId.{WordId}
use Rattle.model.specs.Box.{Box}
use Rattle.linkmodel.specs.Calls.{Joined}
use Rattle.linkmodel.specs.Links.{Links}
use Rattle.linkmodel.specs.Station.{Bundle, Item, Seens as Sights, Shows, Station as Whole, Tells, marks_item, takes_all, takes_item, teller, with_box}
use Rattle.netmodel.specs.Fits.{FrameFits, ItemFits, SightFits}
use Rattle.node.specs.Giving.{note_of}
use Rattle.node.specs.Hearing.{handled, notes_for, unless_refused, words_give, words_leave}
use Rattle.node.specs.Wires.{out_bytes}
use Rattle.packets.specs.declared.error_quota.Quota.{Quota}
use Rattle.station.specs.Hearing.{answers_from, outcomes_from, words_from, words_refusal}
use Rattle.station.specs.Packets.{any_in, is_out, is_spent, no_id, packet_refusal, road_refusal, seens_from, seens_of, seens_refusal}
use Rattle.station.specs.Ticking.{bundle_of, no_word}
use Rattle.station.specs.declared.answers.Refusal.{Refusal as Reason}
use Rattle.netbytes.proofs.AsSeens.{id_of, seens_to, sights_back}
use Rattle.netbytes.proofs.AsWords.{bundle_back, word_of, words_of}
use Rattle.netbytes.proofs.Fours.{four_none}
use Rattle.netbytes.proofs.Refusing.{refused_so}
use Rattle.netbytes.specs.Arriving.{HandledAs, wire_bytes}

-- a good packet is refused only where no road is open
admits : (n k : ℕ) (from : Option ℕ) (xs : List WordId) → 1 ≤ k → k ≤ 4 → any_in (is_out n) k xs ≡ false → any_in is_spent k xs ≡ false → packet_refusal n from k xs ≡ road_refusal from None
admits n k from xs a b c d =
    let z : eqb k 0 ≡ false = grind (arith, nat_tests) in
    let f : ltb 4 k ≡ false = grind (arith, nat_tests) in
    rw (z, f, c, d) refl

-- numbers in range
in_range : (n about count : ℕ) → about < n → 0 < count → (not (ltb about n) || eqb count 0) ≡ false
in_range n about count a b =
    let z : eqb count 0 ≡ false = grind (arith, nat_tests) in
    rw (lt-ltb about n a, z) refl

unspent : (count : ℕ) → count < 2 ^ 63 → leb (2 ^ 63) count ≡ false
unspent count a = grind (arith, nat_tests)

module _ (n : ℕ) (p : Bundle) where
  words_admitted : (m : ℕ) (from : Option ℕ) → n ≡ m → FrameFits n (Tells p) → packet_refusal m from (length p.items) (ids_of (words_of p).items) ≡ road_refusal from None
  words_admitted m from e h =
      subst (λ (m : ℕ). packet_refusal m from (length p.items) (ids_of (words_of p).items) ≡ road_refusal from None) e
      (admits n (length p.items) from (ids_of (words_of p).items) h.1.0 h.1.1
      (four_none word_of no_word (ItemFits n) (λ (x : Word). x.id) (is_out n) (λ x k. in_range n x.about x.entry.number k.box k.some_count) p.items h.1.2 _)
      (four_none word_of no_word (ItemFits n) (λ (x : Word). x.id) is_spent (λ x k. unspent x.entry.number k.count) p.items h.1.2 _))

module _ (n : ℕ) (p : Sights) where
  seens_admitted : (m : ℕ) (from : Option ℕ) → n ≡ m → FrameFits n (Shows p) → packet_refusal m from (length p.items) (seens_to p).items ≡ road_refusal from None
  seens_admitted m from e h =
      subst (λ (m : ℕ). packet_refusal m from (length p.items) (seens_to p).items ≡ road_refusal from None) e
      (admits n (length p.items) from (seens_to p).items h.1.0 h.1.1
      (ap (any_in (is_out n) (length p.items)) (sym (map-id (seens_to p).items))
      ∙ four_none id_of no_id (SightFits n) (λ (x : WordId). x) (is_out n) (λ x k. in_range n x.about x.number k.box k.some_count) p.items h.1.2 _)
      (ap (any_in is_spent (length p.items)) (sym (map-id (seens_to p).items))
      ∙ four_none id_of no_id (SightFits n) (λ (x : WordId). x) is_spent (λ x k. unspent x.number k.count) p.items h.1.2 _))

-- tags past the last word count for nothing
takes_enough : (fits : Bool) (e : ℕ) (xs : List Item) (ts : List ℕ) (b : Box) → takes_all fits e xs (take (length xs) ts) b ≡ takes_all fits e xs ts b
unfolding takes_all
takes_enough fits e [] ts b = refl
takes_enough fits e (x ∷ xs) [] b = refl
takes_enough fits e (x ∷ xs) (t ∷ ts) b = takes_enough fits e xs ts (marks_item fits e x (takes_item e x t b))

words_enough : (from : Option ℕ) (p : Bundle) (ts : List ℕ) (s : Whole) → words_from from p (take (length p.items) ts) s ≡ words_from from p ts s
words_enough None p ts s = refl
words_enough (Some e) p ts s = ap (λ (b : Box). with_box b s) (takes_enough (eqb p.drawn (s.links.last e)) e p.items ts s.box)

-- words change no links
words_links : (from : Option ℕ) (p : Bundle) (ts : List ℕ) (s : Whole) → (words_from from p ts s).links ≡ s.links
words_links None p ts s = refl
words_links (Some e) p ts s = refl

-- a packet of words on wire w
pub tells_as : (p : Bundle) (w : ℕ) (ts : List ℕ) (s : Whole) (q : Quota) → Joined s → s.links.n ≤ 64 → FrameFits s.links.n (Tells p) →
    HandledAs w (Tells p) ts s q (unless_refused (words_refusal w (words_of p) s) (handled (words_leave w (words_of p) ts s) (words_give w (words_of p) ts s) q (wire_bytes (Tells p))) s q (wire_bytes (Tells p)))
tells_as p w ts s q j few h = go from refl
  where
    from : Option ℕ
    from = teller w s.links

    k : words_refusal w (words_of p) s ≡ road_refusal from None
    k = words_admitted s.links.n p s.box.n from j.count h

    back : bundle_of (words_of p) ≡ p
    back = bundle_back s.links.n few p h.1

    left : words_leave w (words_of p) ts s ≡ words_from from p ts s
    left = ap (λ (b : Bundle). words_from from b (take (length p.items) ts) s) back ∙ words_enough from p ts s

    outs : flat_map out_bytes (answers_from from (bundle_of (words_of p)) (words_leave w (words_of p) ts s)) ≡ flat_map out_bytes (answers_from (teller w (words_from from p ts s).links) p (words_from from p ts s))
    outs =
        ap₂ (λ (b : Bundle) (r : Whole). flat_map out_bytes (answers_from from b r)) back left
        ∙ ap (λ (l : Links). flat_map out_bytes (answers_from (teller w l) p (words_from from p ts s))) (sym (words_links from p ts s))

    So : Option Reason → Type 0
    So o = HandledAs w (Tells p) ts s q (unless_refused o (handled (words_leave w (words_of p) ts s) (words_give w (words_of p) ts s) q (wire_bytes (Tells p))) s q (wire_bytes (Tells p)))

    go : (o : Option ℕ) → from ≡ o → So (words_refusal w (words_of p) s)
    go None e =
        let same : words_from from p ts s ≡ s = ap (λ (z : Option ℕ). words_from z p ts s) e in
        subst So (sym (k ∙ ap (λ (z : Option ℕ). road_refusal z None) e))
        (refused_so w 3 (Tells p) ts s q (sym same) (ap (λ (r : Whole). answers_from (teller w r.links) p r) same ∙ ap (λ (z : Option ℕ). answers_from z p s) e))
    go (Some x) e =
        subst So (sym (k ∙ ap (λ (z : Option ℕ). road_refusal z None) e))
        (record {
          whole = left;
          gives = record {
            notes = notes_for (outcomes_from from (words_of p) ts s) (words_of p).items ts s (length p.items);
            is = ap (λ (z : List ℕ). flat_map (note_of s) (notes_for (outcomes_from from (words_of p) ts s) (words_of p).items ts s (length p.items)) ++ z) outs;
          };
          errors = refl;
          left = refl;
          goes = refl;
        })

-- a packet of seens on wire w
pub shows_as : (p : Sights) (w : ℕ) (ts : List ℕ) (s : Whole) (q : Quota) → Joined s → FrameFits s.links.n (Shows p) →
    HandledAs w (Shows p) ts s q (unless_refused (seens_refusal w (seens_to p) s) (handled (seens_from (teller w s.links) (seens_of (seens_to p)) s) [] q (wire_bytes (Shows p))) s q (wire_bytes (Shows p)))
shows_as p w ts s q j h = go from refl
  where
    from : Option ℕ
    from = teller w s.links

    k : seens_refusal w (seens_to p) s ≡ road_refusal from None
    k = seens_admitted s.links.n p s.box.n from j.count h

    So : Option Reason → Type 0
    So o = HandledAs w (Shows p) ts s q (unless_refused o (handled (seens_from from (seens_of (seens_to p)) s) [] q (wire_bytes (Shows p))) s q (wire_bytes (Shows p)))

    go : (o : Option ℕ) → from ≡ o → So (seens_refusal w (seens_to p) s)
    go None e =
        subst So (sym (k ∙ ap (λ (z : Option ℕ). road_refusal z None) e))
        (refused_so w 3 (Shows p) ts s q (sym (ap (λ (z : Option ℕ). seens_from z p s) e)) refl)
    go (Some x) e =
        subst So (sym (k ∙ ap (λ (z : Option ℕ). road_refusal z None) e))
        (record {
          whole = ap (λ (b : Sights). seens_from from b s) (sights_back s.links.n p h.1);
          gives = record { notes = []; is = refl };
          errors = refl;
          left = refl;
          goes = refl;
        })
