-- While both ends of each link agree: either it is rest, or at most two acts by rule bring something new to somebody.
use Rattle.std.proofs.Common.{◌≡◌, ℕ, ◌+◌, ◌<◌, ◌≤◌, Bool, true, false, cond, T, ◌⊎◌, List, [], ◌∷◌, length, sym, refl, subst, inl, inr, ⊎_elim, arith}
use Rattle.model.specs.Words.{is_in}
use Rattle.model.specs.Flood.{Setup, Act, Speaks, Tells, Gets, act, net}
use Rattle.model.specs.Spread.{owes, Settled, by_rule_for, is_new, news_nth, news, ProgressFor}
use Rattle.model.proofs.Fresh.{Freshest}
use Rattle.model.proofs.FreshTag.{fresh_tag}
use Rattle.model.proofs.OneTelling.{tells_sends, copy_of}
use Rattle.model.proofs.ByRule.{rule_saying, rule_telling}
use Rattle.model.proofs.ActiveLinks.{Active, Source, newest_link, none_active, some_owes}
use Rattle.model.proofs.OneAct.{copy_new, saying_new}
use Rattle.model.proofs.Acts.{telling}

one_more : (k : ℕ) (b : Bool) → b ≡ true → 0 < k + cond b 1 0
one_more k b h = rw h (omega arith)

-- a telling over an active link is new
telling_new : {P : Type 0} (s : Setup P) (a e i t : ℕ) (es : List (Act P)) → a < s.boxes → e < s.boxes → i < s.subjects → Active (net s es) i a e → is_in t (net s es).drawn ≡ false →
    0 < news s i (Gets 0 t ∷ Tells a e i ∷ []) es
unfolding news net
telling_new s a e i t es ha he hi h hd = one_more (news s i (Tells a e i ∷ []) es) (is_new s i (Gets 0 t) (act s (Tells a e i) (net s es)))
    (subst (λ v. is_new s i (Gets 0 t) v ≡ true) (sym (tells_sends s a e i (net s es) ha he hi h.out)) (unfold news_nth in copy_new (telling a e i (net s es)) i t (copy_of a e i (net s es)) refl h.back hd h.news))

pub progress_for_lem : (P : Type 0) → ProgressFor P
progress_for_lem P s i es hi even = ⊎_elim saying (λ own. ⊎_elim telling (λ none. inl (none_active s (net s es) i own none)) (newest_link s (net s es) i)) (some_owes s (net s es) i)
  where
    t : ℕ
    t = (fresh_tag (net s es).drawn).0

    Goal : Type 0
    Goal = Settled s (net s es) i ⊎ ((fs : List (Act P)) × (length fs ≤ 2) × ((j : ℕ) → T (by_rule_for s j fs es)) × (0 < news s i fs es))

    saying : (a : ℕ) × (a < s.boxes) × (owes s (net s es) a i ≡ true) → Goal
    saying r = inr (Speaks r.0 i t ∷ [], omega arith, rule_saying s r.0 i t es r.2, unfold news in one_more 0 (is_new s i (Speaks r.0 i t) (net s es)) (saying_new s r.0 i t (net s es) r.1 hi (fresh_tag (net s es).drawn).1 r.2))

    telling : Freshest (Source s (net s es) i) (λ a. (net s es).holds a i) s.boxes → Goal
    telling r = inr (
      Gets 0 t ∷ Tells r.0 r.2.0 i ∷ [],
      omega arith,
      rule_telling s r.0 r.2.0 i t es,
      telling_new s r.0 r.2.0 i t es r.1 r.2.1 hi r.2.2 (fresh_tag (net s es).drawn).1,
    )
