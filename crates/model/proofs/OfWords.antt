-- What holds of flooding, of words about roads: words never get older, one tag is one word, and nobody has of a router what it didn't say.
use Rattle.std.proofs.Common.{◌≡◌, ℕ, ◌<◌, false, List, [], ◌∷◌, ◌++◌, sym, refl, ap, ◌∙◌, subst, arith}
use Rattle.std.proofs.lemmas.Bool.{eqb-true}
use Rattle.model.specs.Words.{Entry, World, Ev, Road, Says, Sends, Comes, Falls, step, world}
use Rattle.model.specs.Promise.{Onward, SameWords, OwnWords}
use Rattle.model.specs.Settling.{OneTag}
use Rattle.model.specs.Flood.{Item, fresher, Setup, Net, Act, Back, act, net}
use Rattle.model.specs.Roads.{item_of, act_of, acts_of, Mirrors}
use Rattle.model.proofs.OnwardFor.{onward_for_lem}
use Rattle.model.proofs.OneTagFor.{one_tag_for_lem}
use Rattle.model.proofs.SpokenFor.{spoken_for_lem}
use Rattle.model.proofs.Mirror.{net_of, net_of_mirrors, mirror_step}
use Rattle.model.proofs.RoadsInstance.{roads, roads_are, mirrored}

-- who falls in the one falls in the other
same_fall : (w : World) (e : Ev) (x : ℕ) (to : ℕ → ℕ) → act_of w e ≡ Back x to → e ≡ Falls x
same_fall w (Road a e c) x to h = cc
same_fall w (Says a t) x to h = cc
same_fall w (Sends a e i) x to h = cc
same_fall w (Comes k t) x to h = cc
same_fall w (Falls a) x to h = cc

pub onward : Onward
onward w e a i stands =
    let s : Setup (ℕ → ℕ) = roads w.n in
    let m : Mirrors (step e w) (act s (act_of w e) (net_of w)) = mirror_step w (net_of w) s (record { boxes = refl; subjects = refl; blank = λ x. refl }) (net_of_mirrors w) e in
    subst (λ (y : Item (ℕ → ℕ)). fresher (item_of (w.knows a i)) y ≡ false) (m.holds a i) (onward_for_lem (ℕ → ℕ) s (net_of w) (act_of w e) a i (λ x to is same. stands x (same_fall w e x to is) same))

-- the net of these events
abbrev net_after : ℕ → List Ev → Net (ℕ → ℕ)
net_after n es = net (roads n) (acts_of n es)

after : (n : ℕ) (es : List Ev) → Mirrors (world n es) (net_after n es)
after n es = mirrored n (roads n) (roads_are n) es

abbrev entry_of : Item (ℕ → ℕ) → Entry
entry_of x = record { number = x.number; tag = x.tag; road = x.body }

pub one_tag : OneTag
one_tag n es a e i j hi hj same =
    let s : Setup (ℕ → ℕ) = roads n in
    let p : (net_after n es).holds a i ≡ item_of ((world n es).knows a i) = (after n es).holds a i in
    let q : (net_after n es).holds e j ≡ item_of ((world n es).knows e j) = (after n es).holds e j in
    let (ij, items) = one_tag_for_lem (ℕ → ℕ) s (acts_of n es) a e i j
    (subst (λ (x : Item (ℕ → ℕ)). 0 < x.number) (sym p) hi) (subst (λ (x : Item (ℕ → ℕ)). 0 < x.number) (sym q) hj)
    (ap (λ (x : Item (ℕ → ℕ)). x.tag) p ∙ (same ∙ ap (λ (x : Item (ℕ → ℕ)). x.tag) (sym q))) in
    (ij, ap entry_of (sym p ∙ (items ∙ q)))

pub same_words_lem : SameWords
same_words_lem n es a e i pos numbers tags x = ap (λ (y : Entry). y.road x) (one_tag n es a e i i pos (subst (λ k. 0 < k) numbers pos) tags).1

-- a part of the acts is the acts of a part
acts_split : (n : ℕ) (es : List Ev) (l b : List (Act (ℕ → ℕ))) → acts_of n es ≡ l ++ b → (later : List Ev) × (before : List Ev) × (es ≡ later ++ before) × (b ≡ acts_of n before)
unfolding acts_of
acts_split n es [] b h = ([], es, refl, sym h)
acts_split n [] (x ∷ l) b h = absurd (let z : ◌≡◌ {A = ℕ} 0 1 = cc in omega arith)
acts_split n (e ∷ es) (x ∷ l) b h =
    let tails : acts_of n es ≡ l ++ b = cc in
    more e (acts_split n es l b tails)
  where
    more : (e : Ev) → (later : List Ev) × (before : List Ev) × (es ≡ later ++ before) × (b ≡ acts_of n before) → (later : List Ev) × (before : List Ev) × (e ∷ es ≡ later ++ before) × (b ≡ acts_of n before)
    more e (later, before, split, is) = (e ∷ later, before, ap (λ r. e ∷ r) split, is)

pub own_words_lem : OwnWords
own_words_lem n es a i pos =
    let s : Setup (ℕ → ℕ) = roads n in
    let p : (net_after n es).holds a i ≡ item_of ((world n es).knows a i) = (after n es).holds a i in
    let (l, b, speaker, split, speaks, body) = spoken_for_lem (ℕ → ℕ) s (acts_of n es) a i (subst (λ (x : Item (ℕ → ℕ)). 0 < x.number) (sym p) pos) in
    let (later, before, parts, is) = acts_split n es l b split in
    let m : Mirrors (world n before) (net s b) = subst (λ (c : List (Act (ℕ → ℕ))). Mirrors (world n before) (net s c)) (sym is) (after n before) in
    let self : speaker ≡ i = eqb-true speaker i (sym (m.speaks speaker i) ∙ speaks) in
    let roads-then : ((world n es).knows a i).road ≡ (world n before).real i = ap (λ (x : Item (ℕ → ℕ)). x.body) (sym p) ∙ (body ∙ (m.would speaker i ∙ ap (λ k. (world n before).real k) self)) in
    (later, before, parts, λ x. ap (λ (f : ℕ → ℕ). f x) roads-then)
