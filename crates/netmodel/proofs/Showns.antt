-- What is shown stays so over a stretch in which roads, boxes and words stay.
use Rattle.std.proofs.Common.{◌≡◌, ℕ, ◌<◌, true, List, [], ◌∷◌, ◌++◌, sym, refl, subst}
use Rattle.model.specs.Words.{Entry}
use Rattle.model.specs.Code.{same_word}
use Rattle.linkmodel.specs.Links.{road_cost}
use Rattle.linkmodel.proofs.Newer.{newer_self, neither_same}
use Rattle.netmodel.specs.Net.{Net, Move, net, Start}
use Rattle.netmodel.proofs.Laws.{shown_stays, placed}
use Rattle.netmodel.proofs.Moments.{Alike, AllAlike, alike_early, alike_late}

-- every word is the same as itself
pub same_self : (x : Entry) → same_word x x ≡ true
same_self x = neither_same x x (newer_self x) (newer_self x)

-- a road that is open is so over its wires
pub wired : (n : ℕ) (first : ℕ → ℕ) (ms : List Move) (a e : ℕ) → Start n first → 0 < ((net n first ms).at a).box.cost e → 0 < road_cost e ((net n first ms).at a).links
wired n first ms a e st p = subst (λ (c : ℕ). 0 < c) ((placed n first ms a st).joined.roads e) p

-- what e has shown a stays so until the end of the stretch
pub shown_on : (n : ℕ) (first : ℕ → ℕ) → Start n first → (rs ms : List Move) → AllAlike n first rs ms → (a e i : ℕ) → a < n → e < n → 0 < ((net n first ms).at a).box.cost e →
    ((net n first ms).at a).box.shown e i ≡ true → ((net n first (rs ++ ms)).at a).box.shown e i ≡ true
unfolding net
shown_on n first st [] ms k a e i la le p h = h
shown_on n first st (m ∷ rs) ms k a e i la le p h =
    let x : Net = net n first ms in
    let y : Net = net n first (rs ++ ms) in
    let z : Net = net n first (m ∷ (rs ++ ms)) in
    let xy : Alike n x y = k (m ∷ []) rs refl in
    let yz : Alike n y z = alike_late n first (m ∷ []) rs ms k [] (m ∷ []) refl in
    let py : 0 < (y.at a).box.cost e = subst (λ (c : ℕ). 0 < c) (sym (xy.roads a e la le)) p in
    let pz : 0 < (z.at a).box.cost e = subst (λ (c : ℕ). 0 < c) (sym (yz.roads a e la le)) py in
    shown_stays n m y a e i (shown_on n first st rs ms (alike_early n first (m ∷ []) rs ms k) a e i la le p h)
    (wired n first (rs ++ ms) a e st py) (wired n first (m ∷ (rs ++ ms)) a e st pz) (yz.lasts a e la le)
    (subst (λ (w : Entry). same_word ((y.at a).box.word i) w ≡ true) (sym (yz.words a i la)) (same_self ((y.at a).box.word i)))
