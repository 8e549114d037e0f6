-- A net of which one box did some events, and sent, stands after them.
use Rattle.std.proofs.Common.{◌≡◌, ℕ, ◌<◌, true, eqb, ◌⊎◌, List, ◌++◌, sym, ap, ◌∙◌, subst, inl, inr, eqb-true}
use borrow.Author.Tests.{eqb-false}
use Rattle.std.proofs.lemmas.List.Concat.{flat_map-append}
use Rattle.model.specs.Words.{Word, Ev, is_in, world}
use Rattle.model.specs.Boxes.{StandsAs}
use Rattle.model.proofs.Tests.{of_cond}
use Rattle.model.proofs.Rows.{Like, like_of, stands_of}
use Rattle.linkmodel.specs.Station.{Station, Out}
use Rattle.linkmodel.specs.Calls.{Joined}
use Rattle.netmodel.specs.Net.{Net, sent_by, becomes}
use Rattle.netmodel.specs.Standing.{StandsFor, words_in, on_way}
use Rattle.netmodel.proofs.Tags.{in_first, in_second}
use Rattle.netmodel.proofs.Others.{Away}

-- where the tags drawn are among those of the net
pub becomes_stands : (n a : ℕ) (x : Net) (es fs : List Ev) (s : Station) (out : List Out) (ts : List ℕ) → a < n → StandsFor n x es → Joined s → Like n a (world n (fs ++ es)) s.box →
    Away n a fs es (on_way (sent_by a (x.joined a) out)) ts → StandsFor n (becomes a s out ts x) (fs ++ es)
becomes_stands n a x es fs s out ts l st j k w = record {
  joined = λ b lb. of_cond Joined (eqb b a) s (x.at b) (λ _. j) (λ _. st.joined b lb);
  boxes = λ b lb. of_cond (λ (q : Station). StandsAs n b q.box (fs ++ es)) (eqb b a) s (x.at b)
      (λ e. subst (λ (c : ℕ). StandsAs n c s.box (fs ++ es)) (sym (eqb-true b a e)) (stands_of n a s.box (fs ++ es) l k))
      (λ e. stands_of n b (x.at b).box (fs ++ es) lb (w.others b (x.at b).box lb (eqb-false b a e) (like_of n b (x.at b).box es (st.boxes b lb))));
  flight = w.flight ∙ (ap (λ (z : List Word). on_way (sent_by a (x.joined a) out) ++ z) st.flight ∙ sym (flat_map-append words_in (sent_by a (x.joined a) out) x.sent));
  tags = λ t h. go t (w.drawn t h);
}
  where
    go : (t : ℕ) → (is_in t ts ≡ true) ⊎ (is_in t (world n es).drawn ≡ true) → is_in t (ts ++ x.tags) ≡ true
    go t (inl h) = in_first t ts x.tags h
    go t (inr h) = in_second t ts x.tags (st.tags t h)
