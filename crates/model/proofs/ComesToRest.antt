-- From any state, a few acts by rule about a subject bring rest about it, and leave what is had of other subjects.
use Rattle.std.proofs.Common.{◌≡◌, ℕ, zero, suc, ◌+◌, ◌*◌, ◌<◌, ◌≤◌, true, false, not, ◌&&◌, ◌||◌, T, ltb, List, [], ◌∷◌, ◌++◌, length, sym, refl, ◌∙◌, subst, ⊎_elim, append_assoc, arith, length-append}
use Rattle.std.proofs.lemmas.Bool.{both_ways, cases_Bool, and_parts, cond-true, cond-false}
use Rattle.model.specs.Words.{is_in}
use Rattle.model.specs.Flood.{Item, fresher, Setup, Net, Act, Speaks, Tells, Gets, spoken, act, net}
use Rattle.model.specs.Spread.{Lone, owes, Settled, by_rule_for, ComesToRestFor}
use Rattle.model.proofs.Fresh.{fresher_self, fresher_trans, fresher_upto, not_both, number_fresher, Freshest}
use Rattle.model.proofs.Counts.{count, count_lt, count_le}
use Rattle.model.proofs.Below.{bound}
use Rattle.model.proofs.FreshTag.{fresh_tag}
use Rattle.model.proofs.Acts.{Puts}
use Rattle.model.proofs.OneTelling.{told_item, telling_puts, saying_puts}
use Rattle.model.proofs.ByRule.{rule_saying, rule_telling, rule_join}
use Rattle.model.proofs.ActiveLinks.{Source, newest_link, none_active, some_owes}
use Rattle.model.proofs.Owing.{silent_owes, said_owes}
use Rattle.model.proofs.AfterTelling.{own_after, Top, top_after, behind, behind_after, Past, past_after, past_said, lone_after}

-- after es, at most k acts by rule bring rest about i, and leave what is had of other subjects
record Rest {P : Type 0} (s : Setup P) (i k : ℕ) (es : List (Act P)) : Type 0 where
  acts : List (Act P)
  short : length acts ≤ k
  rule : (j : ℕ) → T (by_rule_for s j acts es)
  calm : Settled s (net s (acts ++ es)) i
  other : (a j : ℕ) → (j ≡ i → ⊥) → (net s (acts ++ es)).holds a j ≡ (net s es).holds a j

-- rest already
at_rest_lem : {P : Type 0} (s : Setup P) (i k : ℕ) (es : List (Act P)) → Settled s (net s es) i → Rest s i k es
unfolding by_rule_for
at_rest_lem s i k es h = record { acts = []; short = omega arith; rule = λ j. tt; calm = h; other = λ a j q. refl }

-- first gs, then rest
then_rest : {P : Type 0} (s : Setup P) (i k m : ℕ) (gs es : List (Act P)) → ((j : ℕ) → T (by_rule_for s j gs es)) →
    ((a j : ℕ) → (j ≡ i → ⊥) → (net s (gs ++ es)).holds a j ≡ (net s es).holds a j) → length gs + k ≤ m → Rest s i k (gs ++ es) → Rest s i m es
then_rest {P} s i k m gs es rule other le r = record {
  acts = r.acts ++ gs;
  short = omega (arith, length-append r.acts gs, r.short);
  rule = λ j. rule_join s j r.acts gs es (r.rule j) (rule j);
  calm = subst (λ (l : List (Act P)). Settled s (net s l) i) (sym (append_assoc r.acts gs es)) r.calm;
  other = λ a j q. subst (λ (l : List (Act P)). (net s l).holds a j ≡ (net s es).holds a j) (sym (append_assoc r.acts gs es)) (r.other a j q ∙ other a j q);
}

-- nobody owes, no active source is fresher than x, and at most k boxes are behind x
record Under {P : Type 0} (s : Setup P) (w : Net P) (i : ℕ) (x : Item P) (k : ℕ) : Type 0 where
  own : (p : ℕ) → p < s.boxes → owes s w p i ≡ false
  top : Top s w i x
  few : behind s w i x ≤ k

-- an active link with the newest source
abbrev Newest : {P : Type 0} → Setup P → Net P → ℕ → Type 0
Newest s w i = Freshest (Source s w i) (λ a. w.holds a i) s.boxes

-- who can be told something new is behind x
told_behind : {P : Type 0} (s : Setup P) (w : Net P) (i k : ℕ) (x : Item P) → Under s w i x k → (r : Newest s w i) → fresher x (w.holds r.2.0 i) ≡ true
told_behind s w i k x u r = fresher_upto (w.holds r.0 i) x (w.holds r.2.0 i) r.2.2.news (u.top r.0 r.1 r.2)

-- nobody is behind: no active link
none_behind : {P : Type 0} (s : Setup P) (w : Net P) (i : ℕ) (x : Item P) → Under s w i x 0 → Newest s w i → ⊥
none_behind s w i x u r =
    let l : count s.boxes (λ p. false) < behind s w i x = count_lt s.boxes (λ p. false) (λ p. fresher x (w.holds p i)) (λ p m h. absurd h) r.2.0 r.2.1 refl (told_behind s w i 0 x u r) in
    omega (arith, l, u.few)

-- who doesn't speak is told
under_told : {P : Type 0} (s : Setup P) (w v : Net P) (i k : ℕ) (x : Item P) → Under s w i x (suc k) → (r : Newest s w i) → w.speaks r.2.0 i ≡ false →
    Puts w v r.2.0 i (w.holds r.0 i) → Under s v i (w.holds r.0 i) k
under_told s w v i k x u r mute t =
    let e = r.2.0 in let y = w.holds r.0 i in record {
      own = own_after s w v e i y t u.own (silent_owes s v e i (subst (λ sp. sp e i ≡ false) (sym t.speaks) mute));
      top = top_after s w v e i y y t (not_both y (w.holds e i) r.2.2.news) (fresher_self y) r.3;
      few = omega (arith, behind_after s w v e i x y t r.2.1 (told_behind s w i (suc k) x u r) (u.top r.0 r.1 r.2), u.few);
    }

-- the speaker is told, and says above it
under_said : {P : Type 0} (s : Setup P) (w v : Net P) (i k t : ℕ) (x : Item P) → Under s w i x k → (r : Newest s w i) →
    Puts w v r.2.0 i (spoken r.2.0 i (w.holds r.0 i).number t w) → Under s v i (spoken r.2.0 i (w.holds r.0 i).number t w) s.boxes
under_said s w v i k t x u r h =
    let e = r.2.0 in let z = w.holds r.0 i in let y = spoken e i z.number t w in let f : fresher y z ≡ true = number_fresher y z (omega arith) in record {
      own = own_after s w v e i y h u.own (said_owes s w v e i z.number t h.would h.here);
      top = top_after s w v e i z y h (not_both y (w.holds e i) (fresher_trans y z (w.holds e i) f r.2.2.news)) (not_both y z f) r.3;
      few = count_le s.boxes (λ p. fresher y (v.holds p i));
    }

-- the acts after a telling over the link found
abbrev next_acts : {P : Type 0} → (s : Setup P) (i t : ℕ) (es : List (Act P)) → Newest s (net s es) i → List (Act P)
next_acts s i t es r = Gets 0 t ∷ Tells r.0 r.2.0 i ∷ es

next_puts : {P : Type 0} (s : Setup P) (i t : ℕ) (es : List (Act P)) → i < s.subjects → (r : Newest s (net s es) i) → is_in t (net s es).drawn ≡ false →
    Puts (net s es) (net s (next_acts s i t es r)) r.2.0 i (told_item r.0 r.2.0 i t (net s es))
unfolding net
next_puts s i t es hi r hd = telling_puts s r.0 r.2.0 i t (net s es) r.1 r.2.1 hi r.2.2.out r.2.2.back hd r.2.2.news

-- who doesn't speak takes what it is told
next_told : {P : Type 0} (s : Setup P) (i t : ℕ) (es : List (Act P)) → i < s.subjects → (r : Newest s (net s es) i) → is_in t (net s es).drawn ≡ false → (net s es).speaks r.2.0 i ≡ false →
    Puts (net s es) (net s (next_acts s i t es r)) r.2.0 i ((net s es).holds r.0 i)
next_told s i t es hi r hd mute =
    let w = net s es in let e = r.2.0 in let z = w.holds r.0 i in
    subst (Puts w (net s (next_acts s i t es r)) e i) (cond-false (w.speaks e i) (spoken e i z.number t w) z mute) (next_puts s i t es hi r hd)

-- who speaks says above it
next_said : {P : Type 0} (s : Setup P) (i t : ℕ) (es : List (Act P)) → i < s.subjects → (r : Newest s (net s es) i) → is_in t (net s es).drawn ≡ false → (net s es).speaks r.2.0 i ≡ true →
    Puts (net s es) (net s (next_acts s i t es r)) r.2.0 i (spoken r.2.0 i ((net s es).holds r.0 i).number t (net s es))
next_said s i t es hi r hd says =
    let w = net s es in let e = r.2.0 in let z = w.holds r.0 i in
    subst (Puts w (net s (next_acts s i t es r)) e i) (cond-true (w.speaks e i) (spoken e i z.number t w) z says) (next_puts s i t es hi r hd)

-- rest after a telling is rest with two more acts
next_rest : {P : Type 0} (s : Setup P) (i t k m : ℕ) (es : List (Act P)) → i < s.subjects → (r : Newest s (net s es) i) → is_in t (net s es).drawn ≡ false → 2 + k ≤ m →
    Rest s i k (next_acts s i t es r) → Rest s i m es
next_rest s i t k m es hi r hd le rest =
    then_rest s i k m (Gets 0 t ∷ Tells r.0 r.2.0 i ∷ []) es (rule_telling s r.0 r.2.0 i t es) (next_puts s i t es hi r hd).other (omega arith) rest

-- tellings to who doesn't speak, each of which keeps I, as many as boxes are behind; and if one to who speaks comes before, c acts more after it
climb : {P : Type 0} (s : Setup P) (i c : ℕ) (I : Net P → Item P → Type 0) → i < s.subjects →
    ((w v : Net P) (k : ℕ) (x : Item P) → I w x → Under s w i x k → (r : Newest s w i) → w.speaks r.2.0 i ≡ false → Puts w v r.2.0 i (w.holds r.0 i) → I v (w.holds r.0 i)) →
    ((es : List (Act P)) (k t : ℕ) (x : Item P) → I (net s es) x → Under s (net s es) i x k → (r : Newest s (net s es) i) → is_in t (net s es).drawn ≡ false → (net s es).speaks r.2.0 i ≡ true → Rest s i c (next_acts s i t es r)) →
    (k : ℕ) (es : List (Act P)) (x : Item P) → I (net s es) x → Under s (net s es) i x k → Rest s i (2 * k + c) es
climb s i c I hi keep said zero es x h u = ⊎_elim (λ r. absurd (none_behind s (net s es) i x u r)) (λ none. at_rest_lem s i (2 * 0 + c) es (none_active s (net s es) i u.own none)) (newest_link s (net s es) i)
climb {P} s i c I hi keep said (suc k) es x h u =
    ⊎_elim (λ r. ⊎_elim (speaker r) (telling (climb s i c I hi keep said k) r) (cases_Bool ((net s es).speaks r.2.0 i))) (λ none. at_rest_lem s i (2 * suc k + c) es (none_active s (net s es) i u.own none)) (newest_link s (net s es) i)
  where
    t : ℕ
    t = (fresh_tag (net s es).drawn).0

    hd : is_in t (net s es).drawn ≡ false
    hd = (fresh_tag (net s es).drawn).1

    telling : ((fs : List (Act P)) (y : Item P) → I (net s fs) y → Under s (net s fs) i y k → Rest s i (2 * k + c) fs) → (r : Newest s (net s es) i) → (net s es).speaks r.2.0 i ≡ false → Rest s i (2 * suc k + c) es
    telling more r mute =
        let v = net s (next_acts s i t es r) in let p = next_told s i t es hi r hd mute in
        next_rest s i t (2 * k + c) (2 * suc k + c) es hi r hd (omega arith)
        (more (next_acts s i t es r) ((net s es).holds r.0 i) (keep (net s es) v (suc k) x h u r mute p) (under_told s (net s es) v i k x u r mute p))

    speaker : (r : Newest s (net s es) i) → (net s es).speaks r.2.0 i ≡ true → Rest s i (2 * suc k + c) es
    speaker r says = next_rest s i t c (2 * suc k + c) es hi r hd (omega arith) (said es (suc k) t x h u r hd says)

-- when no speaker is behind, as many tellings as boxes are behind bring rest
past_settles : {P : Type 0} (s : Setup P) (i : ℕ) → i < s.subjects → (k : ℕ) (es : List (Act P)) (x : Item P) → Past s (net s es) i x → Under s (net s es) i x k → Rest s i (2 * k + 0) es
past_settles s i hi =
    climb s i 0 (λ w x. Past s w i x) hi (λ w v k x past u r mute p. past_after s w v r.2.0 i x (w.holds r.0 i) p mute (u.top r.0 r.1 r.2) past)
    (λ es k t x past u r hd says. absurd (both_ways (fresher x ((net s es).holds r.2.0 i)) (past r.2.0 r.2.1 says) (told_behind s (net s es) i k x u r)))

-- in general, so many tellings up to the one to the speaker, and then at most as many as there are boxes
settles : {P : Type 0} (s : Setup P) (i : ℕ) → i < s.subjects → (k : ℕ) (es : List (Act P)) (x : Item P) → Lone s (net s es) i → Under s (net s es) i x k → Rest s i (2 * k + (2 * s.boxes + 0)) es
settles s i hi =
    climb s i (2 * s.boxes + 0) (λ w x. Lone s w i) hi (λ w v k x lone u r mute p. lone_after s w v r.2.0 i (w.holds r.0 i) p lone)
    (λ es k t x lone u r hd says.
    let v = net s (next_acts s i t es r) in let y = spoken r.2.0 i ((net s es).holds r.0 i).number t (net s es) in let p = next_said s i t es hi r hd says in
    past_settles s i hi s.boxes (next_acts s i t es r) y (past_said s (net s es) v r.2.0 i y p r.2.1 says lone) (under_said s (net s es) v i k t x u r p))

-- nobody owes: two tellings for each box bring rest
own_settles : {P : Type 0} (s : Setup P) (i : ℕ) (es : List (Act P)) → i < s.subjects → Lone s (net s es) i → ((p : ℕ) → p < s.boxes → owes s (net s es) p i ≡ false) → Rest s i (4 * s.boxes) es
own_settles {P} s i es hi lone own = let q : 2 * s.boxes + (2 * s.boxes + 0) ≡ 4 * s.boxes = omega arith in subst (λ (k : ℕ). Rest s i k es) q (settles s i hi s.boxes es x lone under)
  where
    most : (m : ℕ) × ((p : ℕ) → p < s.boxes → ((net s es).holds p i).number ≤ m)
    most = bound s.boxes (λ p. ((net s es).holds p i).number)

    x : Item P
    x = record { number = suc most.0; tag = 0; body = s.blank }

    top : Top s (net s es) i x
    top p l r = not_both x ((net s es).holds p i) (number_fresher x ((net s es).holds p i) (omega (arith, most.1 p l)))

    under : Under s (net s es) i x s.boxes
    under = record { own = own; top = top; few = count_le s.boxes (λ p. fresher x ((net s es).holds p i)) }

-- the speaker owes: it says, and then nobody owes
owing_settles : {P : Type 0} (s : Setup P) (i a : ℕ) (es : List (Act P)) → i < s.subjects → Lone s (net s es) i → a < s.boxes → owes s (net s es) a i ≡ true → Rest s i (4 * s.boxes + 1) es
unfolding net
owing_settles {P} s i a es hi lone ha ho =
    then_rest s i (4 * s.boxes) (4 * s.boxes + 1) (Speaks a i t ∷ []) es (rule_saying s a i t es ho) said.other (omega arith)
    (own_settles s i (Speaks a i t ∷ es) hi (lone_after s w v a i y said lone) own)
  where
    w : Net P
    w = net s es

    t : ℕ
    t = (fresh_tag w.drawn).0

    v : Net P
    v = act s (Speaks a i t) w

    y : Item P
    y = spoken a i (w.holds a i).number t w

    says : w.speaks a i ≡ true
    says = (and_parts (w.speaks a i) (not (s.same (w.holds a i).body (w.would a i) && (s.mute (w.would a i) || ltb 0 (w.holds a i).number))) ho).0

    said : Puts w v a i y
    said = saying_puts s a i t w ha hi says (fresh_tag w.drawn).1

    self : owes s v a i ≡ false
    self = said_owes s w v a i (w.holds a i).number t said.would said.here

    own : (p : ℕ) → p < s.boxes → owes s v p i ≡ false
    own p l = ⊎_elim (λ h. subst (λ k. owes s v k i ≡ false) (sym (lone p a l ha (subst (λ sp. sp p i ≡ true) said.speaks h) says)) self) (λ h. silent_owes s v p i h) (cases_Bool (v.speaks p i))

pub comes_to_rest_for_lem : (P : Type 0) → ComesToRestFor P
comes_to_rest_for_lem P s i es hi even lone = out (⊎_elim (λ r. owing_settles s i r.0 es hi lone r.1 r.2) idle (some_owes s (net s es) i))
  where
    idle : ((p : ℕ) → p < s.boxes → owes s (net s es) p i ≡ false) → Rest s i (4 * s.boxes + 1) es
    idle own = let r = own_settles s i es hi lone own in record { acts = r.acts; short = omega (arith, r.short); rule = r.rule; calm = r.calm; other = r.other }

    out : Rest s i (4 * s.boxes + 1) es → (fs : List (Act P)) × (length fs ≤ 4 * s.boxes + 1) × ((j : ℕ) → T (by_rule_for s j fs es)) × Settled s (net s (fs ++ es)) i × ((a j : ℕ) → (j ≡ i → ⊥) → (net s (fs ++ es)).holds a j ≡ (net s es).holds a j)
    out r = (r.acts, r.short, r.rule, r.calm, r.other)
