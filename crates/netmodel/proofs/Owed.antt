-- Who ticks in a stretch in which no word changes owed none: what it has said of itself is so.
use Rattle.std.proofs.Common.{◌≡◌, ℕ, suc, ◌<◌, Bool, true, false, ◌&&◌, T, ltb, List, [], ◌∷◌, ◌++◌, sym, refl, ap, ◌∙◌, subst, append_assoc, arith, lt-ltb}
use Rattle.model.specs.Words.{Entry, World}
use Rattle.model.specs.Promise.{own_true}
use Rattle.model.specs.Box.{Box, says_now, own_word, must_say, own_so}
use Rattle.model.proofs.Tests.{of_cond, cond-true, true_t, t_true, t_since}
use Rattle.model.proofs.Resting.{own_so_lem, so_own}
use Rattle.std.proofs.lemmas.Bool.{not-false}
use Rattle.linkmodel.proofs.Bools.{and_both}
use Rattle.linkmodel.proofs.Wires.{row_at}
use Rattle.linkmodel.specs.Station.{Station, can_say, says_if_owed, ticks, tick_out}
use Rattle.linkmodel.specs.Calls.{expired}
use Rattle.netmodel.specs.Net.{Net, Move, Ticks, becomes, is_fresh, net, Start}
use Rattle.netmodel.specs.Standing.{world_in}
use Rattle.netmodel.specs.Windows.{TicksIn}
use Rattle.netmodel.proofs.Laws.{Placed, placed}
use Rattle.netmodel.proofs.Moments.{Alike, AllAlike, alike_early, alike_late, Counted}

-- what a box is after its tick
ticked : (Q : Station → Type 0) (n : ℕ) (first : ℕ → ℕ) (ms : List Move) (a t : ℕ) → a < n → is_fresh t (net n first ms).tags ≡ true → Q (ticks t ((net n first ms).at a)) → Q ((net n first (Ticks a t ∷ ms)).at a)
unfolding net
ticked Q n first ms a t l f q =
    let x : Net = net n first ms in
    subst (λ (y : Net). Q (y.at a)) (sym (cond-true (ltb a n && is_fresh t x.tags) (becomes a (ticks t (x.at a)) (tick_out (ticks t (x.at a))) (t ∷ []) x) x (and_both (ltb a n) (is_fresh t x.tags) (lt-ltb a n l) f)))
    (subst Q (sym (row_at a (ticks t (x.at a)) x.at)) q)

-- a box alone, as a world
abbrev alone : Box → World
alone b = record { n = b.n; real = λ a. b.cost; knows = λ a. b.word; flight = []; drawn = [] }

-- where it owes, its number rises
owed_rises : (t : ℕ) (b : Box) (a : ℕ) → b.me ≡ a → must_say b ≡ true → can_say (b.word a).number ≡ true → ((says_if_owed t b).word a).number ≡ suc (b.word a).number
owed_rises t b a m h c = subst (λ (e : ℕ). ((says_if_owed t b).word e).number ≡ suc (b.word e).number) m
    (subst (λ (y : Box). (y.word b.me).number ≡ suc (b.word b.me).number)
    (sym (cond-true (must_say b && can_say (b.word b.me).number) (says_now t b) b (and_both (must_say b) (can_say (b.word b.me).number) h (subst (λ (e : ℕ). can_say (b.word e).number ≡ true) (sym m) c))))
    (ap (λ (y : Entry). y.number) (row_at b.me (own_word (b.word b.me).number t b) b.word)))

-- the roads are those before it says anything
owed_roads : (t : ℕ) (b : Box) → (says_if_owed t b).cost ≡ b.cost
owed_roads t b = of_cond (λ (y : Box). y.cost ≡ b.cost) (must_say b && can_say (b.word b.me).number) (says_now t b) b (λ _. refl) (λ _. refl)

-- what a has said of itself is so at the end
pub owes_none : (n : ℕ) (first : ℕ → ℕ) → Start n first → (rs ms : List Move) → AllAlike n first rs ms → Counted n first (rs ++ ms) → (a : ℕ) → a < n → TicksIn n first a rs ms → T (own_true a (world_in n (net n first (rs ++ ms))))
owes_none n first st rs ms k c a l t = so_own a (world_in n z) (λ v lv. own v lv (own_so_lem b.me (alone b) (true_t (own_so b) (not-false (own_so b) (silent (must_say b) refl))) v (subst (λ (m : ℕ). v < m) (sym at.count) lv)))
  where
    q : List Move
    q = t.before ++ ms

    x : Net
    x = net n first q

    y : Net
    y = net n first (Ticks a t.tag ∷ q)

    z : Net
    z = net n first (rs ++ ms)

    b : Box
    b = expired (x.at a)

    at : Placed n first q a
    at = placed n first q a st

    splits : rs ++ ms ≡ t.later ++ (Ticks a t.tag ∷ q)
    splits = ap (λ (m : List Move). m ++ ms) t.split ∙ append_assoc t.later (Ticks a t.tag ∷ t.before) ms

    all : AllAlike n first (t.later ++ (Ticks a t.tag ∷ t.before)) ms
    all = subst (λ (m : List Move). AllAlike n first m ms) t.split k

    xy : Alike n x y
    xy = alike_late n first (Ticks a t.tag ∷ []) t.before ms (alike_early n first t.later (Ticks a t.tag ∷ t.before) ms all) [] (Ticks a t.tag ∷ []) refl

    yz : Alike n y z
    yz = subst (λ (m : List Move). Alike n y (net n first m)) (sym splits) (alike_late n first t.later (Ticks a t.tag ∷ t.before) ms all [] t.later refl)

    -- it says nothing at its tick
    silent : (o : Bool) → must_say b ≡ o → must_say b ≡ false
    silent false h = h
    silent true h =
        let can : can_say (b.word a).number ≡ true = t_true (can_say (b.word a).number) (t_since (must_say b) (can_say (b.word a).number) (c t.later (Ticks a t.tag) q splits) (true_t (must_say b) h)) in
        let rises : ((y.at a).box.word a).number ≡ suc ((x.at a).box.word a).number =
        ticked (λ (s : Station). (s.box.word a).number ≡ suc ((x.at a).box.word a).number) n first q a t.tag l t.fresh (owed_rises t.tag b a at.number h can) in
        let same : ((y.at a).box.word a).number ≡ ((x.at a).box.word a).number = ap (λ (w : Entry). w.number) (xy.words a a l) in
        absurd (omega arith)

    own : (v : ℕ) → v < n → ((b.word b.me).road v ≡ b.cost v) × (0 < b.cost v → 0 < (b.word b.me).number) → (((z.at a).box.word a).road v ≡ (z.at a).box.cost v) × (0 < (z.at a).box.cost v → 0 < ((z.at a).box.word a).number)
    own v lv h =
        let w : (z.at a).box.word a ≡ b.word b.me = yz.words a a l ∙ (xy.words a a l ∙ ap (x.at a).box.word (sym at.number)) in
        let r : (z.at a).box.cost v ≡ b.cost v = yz.roads a v l lv ∙ ticked (λ (s : Station). s.box.cost v ≡ b.cost v) n first q a t.tag l t.fresh (ap (λ (f : ℕ → ℕ). f v) (owed_roads t.tag b)) in
        (ap (λ (u : Entry). u.road v) w ∙ (h.0 ∙ sym r), λ p. subst (λ (u : Entry). 0 < u.number) (sym w) (h.1 (subst (λ (m : ℕ). 0 < m) r p)))
