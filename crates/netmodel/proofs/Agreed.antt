-- In a window in which nothing new came, whoever share a road have the same words in the end: round by round one word more.
use Rattle.std.proofs.Common.{◌≡◌, ℕ, suc, ◌<◌, ◌≤◌, true, List, [], ◌∷◌, ◌++◌, length, sym, refl, ap, ◌∙◌, subst, append_assoc, arith}
use Rattle.model.specs.Words.{Entry}
use Rattle.model.specs.Code.{same_word}
use Rattle.model.specs.Spread.{joined}
use Rattle.model.proofs.Below.{below_suc}
use Rattle.linkmodel.proofs.Newer.{neither_same}
use Rattle.netmodel.specs.Net.{Net, Move, net, Start}
use Rattle.netmodel.specs.Windows.{Round, Rounds}
use Rattle.netmodel.proofs.Moments.{Alike, AllAlike, alike_early, alike_late, Counted, counts_early}
use Rattle.netmodel.proofs.Showns.{shown_on}
use Rattle.netmodel.proofs.Trips.{old_word, shown_then}

-- who has a road open to a box has heard the number that this has now
abbrev pub Heard : ℕ → Net → Type 0
Heard n x = (a e : ℕ) → a < n → e < n → 0 < (x.at a).box.cost e → (x.at a).links.last e ≡ (x.at e).links.drawn

-- who has no word of a box has no tag of it
abbrev pub Blank : ℕ → Net → Type 0
Blank n x = (a i : ℕ) → a < n → ((x.at a).box.word i).number ≡ 0 → ((x.at a).box.word i).tag ≡ 0

-- the first stays so where roads, lives and words do
pub heard_on : (n : ℕ) (x y : Net) → Alike n x y → Heard n x → Heard n y
heard_on n x y k h a e la le p = k.lasts a e la le ∙ (h a e la le (subst (λ (z : ℕ). 0 < z) (k.roads a e la le) p) ∙ sym (k.lives e le))

-- and the second
pub blank_on : (n : ℕ) (x y : Net) → Alike n x y → Blank n x → Blank n y
blank_on n x y k h a i la z = ap (λ (w : Entry). w.tag) (k.words a i la) ∙ h a i la (sym (ap (λ (w : Entry). w.number) (k.words a i la)) ∙ z)

-- two boxes share a road
abbrev pub Share : Net → ℕ → ℕ → Type 0
Share x a e = (0 < (x.at a).box.cost e) × (0 < (x.at e).box.cost a)

-- who share a road have the same words of all below r, and have them as shown
pub record Agreed (n : ℕ) (x : Net) (r : ℕ) : Type 0 where
  pub same : (a e : ℕ) → a < n → e < n → Share x a e → (i : ℕ) → i < r → same_word ((x.at a).box.word i) ((x.at e).box.word i) ≡ true
  pub shown : (a e : ℕ) → a < n → e < n → Share x a e → (i : ℕ) → i < r → 0 < ((x.at a).box.word i).number → (x.at a).box.shown e i ≡ true

-- one round
one_round : (n : ℕ) (first : ℕ → ℕ) → Start n first → (rs ms : List Move) → AllAlike n first rs ms → Counted n first (rs ++ ms) → Heard n (net n first ms) → Blank n (net n first ms) → Round n first rs ms → (r : ℕ) → r < n →
    Agreed n (net n first ms) r → Agreed n (net n first (rs ++ ms)) (suc r)
one_round n first st rs ms k c hd bl d r l g = record {
  same = λ a e la le s. below_suc (λ i. same_word ((y.at a).box.word i) ((y.at e).box.word i) ≡ true) r
      (λ i li. moved a e la le i (g.same a e la le (shared a e la le s) i li)) (moved a e la le r (now a e la le (shared a e la le s)));
  shown = λ a e la le s. below_suc (λ i. 0 < ((y.at a).box.word i).number → (y.at a).box.shown e i ≡ true) r
      (λ i li p. shown_on n first st rs ms k a e i la le (shared a e la le s).0 (g.shown a e la le (shared a e la le s) i li (said a la i p)))
      (λ p. let q = shared a e la le s in
      shown_then n first st rs ms k c a e la le q.0 q.1 (hd a e la le q.0) r l (g.shown a e la le q) (now a e la le q) (said a la r p) (d a e la le q.0 q.1));
}
  where
    x : Net
    x = net n first ms

    y : Net
    y = net n first (rs ++ ms)

    xy : Alike n x y
    xy = k [] rs refl

    shared : (a e : ℕ) → a < n → e < n → Share y a e → Share x a e
    shared a e la le s = (subst (λ (z : ℕ). 0 < z) (xy.roads a e la le) s.0, subst (λ (z : ℕ). 0 < z) (xy.roads e a le la) s.1)

    moved : (a e : ℕ) → a < n → e < n → (i : ℕ) → same_word ((x.at a).box.word i) ((x.at e).box.word i) ≡ true → same_word ((y.at a).box.word i) ((y.at e).box.word i) ≡ true
    moved a e la le i h =
        subst (λ (w : Entry). same_word w ((y.at e).box.word i) ≡ true) (sym (xy.words a i la)) (subst (λ (w : Entry). same_word ((x.at a).box.word i) w ≡ true) (sym (xy.words e i le)) h)

    said : (a : ℕ) → a < n → (i : ℕ) → 0 < ((y.at a).box.word i).number → 0 < ((x.at a).box.word i).number
    said a la i p = subst (λ (w : Entry). 0 < w.number) (xy.words a i la) p

    now : (a e : ℕ) → a < n → e < n → Share x a e → same_word ((x.at a).box.word r) ((x.at e).box.word r) ≡ true
    now a e la le s = neither_same ((x.at a).box.word r) ((x.at e).box.word r)
        (old_word n first st rs ms k c a e la le s.0 s.1 (hd a e la le s.0) r l (bl a r la) (g.shown a e la le s) (d a e la le s.0 s.1))
        (old_word n first st rs ms k c e a le la s.1 s.0 (hd e a le la s.1) r l (bl e r le) (g.shown e a le la (s.1, s.0)) (d e a le la s.1 s.0))

-- all rounds
pub all_rounds : (n : ℕ) (first : ℕ → ℕ) → Start n first → (rss : List (List Move)) (ms : List Move) → AllAlike n first (joined rss) ms → Counted n first (joined rss ++ ms) → Heard n (net n first ms) → Blank n (net n first ms) →
    Rounds n first rss ms → length rss ≤ n → Agreed n (net n first (joined rss ++ ms)) (length rss)
unfolding Rounds joined
all_rounds n first st [] ms k c hd bl h l = record { same = λ a e la le s i li. absurd (omega arith); shown = λ a e la le s i li p. absurd (omega arith) }
all_rounds n first st (rs ∷ rss) ms k c hd bl (h, hs) l =
    subst (λ (m : List Move). Agreed n (net n first m) (suc (length rss))) (sym (append_assoc rs (joined rss) ms))
    (one_round n first st rs (joined rss ++ ms) (alike_late n first rs (joined rss) ms k) counts
    (heard_on n (net n first ms) (net n first (joined rss ++ ms)) early hd) (blank_on n (net n first ms) (net n first (joined rss ++ ms)) early bl) h (length rss) (omega arith)
    (all_rounds n first st rss ms (alike_early n first rs (joined rss) ms k) (counts_early n first rs (joined rss ++ ms) counts) hd bl hs (omega arith)))
  where
    counts : Counted n first (rs ++ (joined rss ++ ms))
    counts = subst (λ (m : List Move). Counted n first m) (append_assoc rs (joined rss) ms) c

    early : Alike n (net n first ms) (net n first (joined rss ++ ms))
    early = k rs (joined rss) refl
