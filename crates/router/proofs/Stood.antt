-- Each call is the model's event: a state that stood after some events stands after one more.
use Rattle.std.proofs.Common.{◌≡◌, ℕ, ◌<◌, false, List, [], ◌∷◌, sym, refl, subst}
use Rattle.model.specs.Words.{Word, Ev, Road, Says, Comes, is_in, world}
use Rattle.model.specs.Code.{nth_is}
use Rattle.model.specs.Box.{Box, Stands, begun, road_is, says_now, sees, hears}
use Rattle.model.proofs.BoxCode.{box_is_code_lem}

-- what stands for a state stands for one that is the same
pub stands_as_lem : {s t : Box} (es : List Ev) → s ≡ t → Stands t es → Stands s es
stands_as_lem es e st = subst (λ (u : Box). Stands u es) (sym e) st

pub begin_so : (n me : ℕ) → me < n → Stands (begun n me) []
begin_so n me l = let b = box_is_code_lem n me l in subst (λ (t : Box). Stands t []) b.1.begin b.0.begins.2

pub road_so : (s : Box) (es : List Ev) (e c : ℕ) → Stands s es → Stands (road_is e c s) (Road s.me e c ∷ es)
road_so s es e c st =
    let b = box_is_code_lem s.n s.me st.is_one in
    subst (λ (t : Box). Stands t (Road s.me e c ∷ es)) (b.1.road e c s) (b.0.road_so s es e c (refl, refl, st)).2

pub says_so : (s : Box) (es : List Ev) (t : ℕ) → Stands s es → is_in t (world s.n es).drawn ≡ false → Stands (says_now t s) (Says s.me t ∷ es)
says_so s es t st f =
    let b = box_is_code_lem s.n s.me st.is_one in
    subst (λ (u : Box). Stands u (Says s.me t ∷ es)) (b.1.says t s) (b.0.says_so s es t (refl, refl, st) f).2

pub hears_so : (s : Box) (es : List Ev) (i t : ℕ) (x : Word) → Stands s es → nth_is i x (world s.n es).flight → x.to ≡ s.me → is_in t (world s.n es).drawn ≡ false → Stands (hears x t s) (Comes i t ∷ es)
hears_so s es i t x st h here f =
    let b = box_is_code_lem s.n s.me st.is_one in
    subst (λ (u : Box). Stands u (Comes i t ∷ es)) (b.1.hears x t s) (b.0.hears_so s es i t x (refl, refl, st) h here f).2

pub seen_so : (s : Box) (es : List Ev) (e i c t : ℕ) → Stands s es → Stands (sees e i c t s) es
seen_so s es e i c t st =
    let b = box_is_code_lem s.n s.me st.is_one in
    subst (λ (u : Box). Stands u es) (b.1.seen e i c t s) (b.0.seen_so s es e i c t (refl, refl, st)).2
