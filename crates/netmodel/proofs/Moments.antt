-- The moments of a run: what is so over every move of a stretch in which roads, boxes and words stay.
use Rattle.std.proofs.Common.{◌≡◌, ℕ, ◌<◌, T, List, [], ◌∷◌, ◌++◌, sym, refl, ap, ◌∙◌, subst, append_assoc, append-nil}
use Rattle.netmodel.specs.Net.{Net, Move, net, all_counted, counts_at}
use Rattle.model.proofs.Tests.{left_t, right_t}

-- roads, lives and words are as they were
pub record Alike (n : ℕ) (x y : Net) : Type 0 where
  pub roads : (a e : ℕ) → a < n → e < n → (y.at a).box.cost e ≡ (x.at a).box.cost e
  pub lasts : (a e : ℕ) → a < n → e < n → (y.at a).links.last e ≡ (x.at a).links.last e
  pub lives : (a : ℕ) → a < n → (y.at a).links.drawn ≡ (x.at a).links.drawn
  pub words : (a i : ℕ) → a < n → (y.at a).box.word i ≡ (x.at a).box.word i

-- also from the later to the earlier
pub alike_back : (n : ℕ) (x y : Net) → Alike n x y → Alike n y x
alike_back n x y k = record {
  roads = λ a e l m. sym (k.roads a e l m);
  lasts = λ a e l m. sym (k.lasts a e l m);
  lives = λ a l. sym (k.lives a l);
  words = λ a i l. sym (k.words a i l);
}

-- and over two steps
pub alike_on : (n : ℕ) (x y z : Net) → Alike n x y → Alike n y z → Alike n x z
alike_on n x y z k h = record {
  roads = λ a e l m. h.roads a e l m ∙ k.roads a e l m;
  lasts = λ a e l m. h.lasts a e l m ∙ k.lasts a e l m;
  lives = λ a l. h.lives a l ∙ k.lives a l;
  words = λ a i l. h.words a i l ∙ k.words a i l;
}

-- at each moment of rs after ms they are as they were after ms
abbrev pub AllAlike : ℕ → (ℕ → ℕ) → List Move → List Move → Type 0
AllAlike n first rs ms = (later before : List Move) → rs ≡ later ++ before → Alike n (net n first ms) (net n first (before ++ ms))

-- also over the earlier part
pub alike_early : (n : ℕ) (first : ℕ → ℕ) (late early ms : List Move) → AllAlike n first (late ++ early) ms → AllAlike n first early ms
alike_early n first late early ms k later before e = k (late ++ later) before (ap (λ (l : List Move). late ++ l) e ∙ sym (append_assoc late later before))

-- and over the later part
pub alike_late : (n : ℕ) (first : ℕ → ℕ) (late early ms : List Move) → AllAlike n first (late ++ early) ms → AllAlike n first late (early ++ ms)
alike_late n first late early ms k later before e =
    let start : Alike n (net n first ms) (net n first (early ++ ms)) = k late early refl in
    let then : Alike n (net n first ms) (net n first ((before ++ early) ++ ms)) = k later (before ++ early) (ap (λ (l : List Move). l ++ early) e ∙ append_assoc later before early) in
    alike_on n (net n first (early ++ ms)) (net n first ms) (net n first (before ++ (early ++ ms))) (alike_back n (net n first ms) (net n first (early ++ ms)) start)
    (subst (λ (l : List Move). Alike n (net n first ms) (net n first l)) (append_assoc before early ms) then)

-- every move of this run counts
abbrev pub Counted : ℕ → (ℕ → ℕ) → List Move → Type 0
Counted n first rs = (later : List Move) (m : Move) (before : List Move) → rs ≡ later ++ (m ∷ before) → T (counts_at m (net n first before))

-- where all of a run counts, so does its earlier part
pub counted_early : (n : ℕ) (first : ℕ → ℕ) (late early : List Move) → T (all_counted n first (late ++ early) []) → T (all_counted n first early [])
unfolding all_counted
counted_early n first [] early h = h
counted_early n first (m ∷ late) early h = counted_early n first late early (right_t (counts_at m (net n first ((late ++ early) ++ []))) (all_counted n first (late ++ early) []) h)

-- and its last move
counted_last : (n : ℕ) (first : ℕ → ℕ) (m : Move) (before : List Move) → T (all_counted n first (m ∷ before) []) → T (counts_at m (net n first before))
unfolding all_counted
counted_last n first m before h =
    subst (λ (l : List Move). T (counts_at m (net n first l))) (append-nil before) (left_t (counts_at m (net n first (before ++ []))) (all_counted n first before []) h)

-- so each move counts
pub counted_each : (n : ℕ) (first : ℕ → ℕ) (rs : List Move) → T (all_counted n first rs []) → Counted n first rs
counted_each n first rs h later m before e = counted_last n first m before (counted_early n first later (m ∷ before) (subst (λ (l : List Move). T (all_counted n first l [])) e h))

-- and each of an earlier part
pub counts_early : (n : ℕ) (first : ℕ → ℕ) (late early : List Move) → Counted n first (late ++ early) → Counted n first early
counts_early n first late early c later m before e = c (late ++ later) m before (ap (λ (l : List Move). late ++ l) e ∙ sym (append_assoc late later (m ∷ before)))
