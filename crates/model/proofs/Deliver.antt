-- A packet that boxes hand on goes the way that it goes in the world, so at rest it arrives at the least cost or is refused where it was sent.
use Rattle.std.proofs.Common.{◌≡◌, ℕ, zero, suc, ◌+◌, ◌<◌, cond, eqb, ltb, sym, refl, ap, ◌∙◌, subst}
use Rattle.model.specs.Map.{Hop, Nowhere, To, hop}
use Rattle.model.specs.Words.{World, world}
use Rattle.model.specs.Forward.{map_of, End, Arrived, Refused, onward, travels}
use Rattle.model.specs.Box.{Box}
use Rattle.model.specs.Boxes.{handed_on, follows, BoxesDeliver}
use Rattle.model.proofs.Closed.{hop_to}
use Rattle.model.proofs.Arrive.{arrives, refused}
use Rattle.model.proofs.OfWords.{same_words_lem}
use Rattle.model.proofs.Sizes.{world_n}
use Rattle.model.proofs.Rows.{Like, like_of}
use Rattle.model.proofs.BoxCode.{like_hands}

-- a box hands on over its road as the router does
same_onward : (n u : ℕ) (w : World) (s : Box) (go to : ℕ → ℕ → End) (c : ℕ) (h : Hop) → Like n u w s → ((x v : ℕ) → h ≡ To v → go x v ≡ to x v) → handed_on go s c u h ≡ onward to w c u h
same_onward n u w s go to c Nowhere k same = refl
same_onward n u w s go to c (To v) k same =
    ap (λ (x : ℕ). cond (ltb 0 x) (go (c + x) v) (Refused u)) (sym (k.real v)) ∙ ap (λ (e : End). cond (ltb 0 (w.real u v)) e (Refused u)) (same (c + w.real u v) v refl)

-- so it goes the same way
same_way : (n : ℕ) (w : World) (b : ℕ → Box) → w.n ≡ n → ((a : ℕ) → a < n → Like n a w (b a)) → (k d c u : ℕ) → u < n → follows k b d c u ≡ travels k w d c u
unfolding follows travels
same_way n w b m like zero d c u l = refl
same_way n w b m like (suc k) d c u l =
    ap (λ (e : End). cond (eqb u d) (Arrived c) e)
    (ap (λ (h : Hop). handed_on (λ x v. follows k b d x v) (b u) c u h) (like_hands n u w (b u) d m (like u l))
    ∙ same_onward n u w (b u) (λ x v. follows k b d x v) (λ x v. travels k w d x v) c (hop (map_of w u) d u) (like u l)
    (λ x v h. same_way n w b m like k d x v (subst (λ i. v < i) m (hop_to (map_of w u) d u v h).0)))

pub boxes_deliver_lem : BoxesDeliver
boxes_deliver_lem n es b stands rest u d lu ld =
    let same : follows n b d 0 u ≡ travels n (world n es) d 0 u = same_way n (world n es) b (world_n n es) (λ a l. like_of n a (b a) es (stands a l)) n d 0 u lu in
    (λ c h. same ∙ arrives same_words_lem n es rest u d c lu ld h, λ h. same ∙ refused same_words_lem n es rest u d lu ld h)
