-- What is answered, one after the other.
use Rattle.std.proofs.Common.{◌≡◌, ℕ, zero, suc, ◌+◌, ◌<◌, ◌≤◌, Bool, true, false, cond, not, ◌||◌, eqb, ltb, ◌≢◌, List, [], ◌∷◌, ◌++◌, length, get_or, map, drop, set, sym, refl, ap, ◌∙◌, subst, append_assoc, append-nil, le_of_suc-le-suc, not-suc-le-zero, add-one, arith, length-set, get_or-set_other, ltb-false, ltb-true}
use lib.ListN.{get_or-eq_default}
use Rattle.messages.specs.Values.{entry_of}
use Rattle.messages.specs.declared.values.Word.{Word}
use Rattle.model.specs.Box.{Box}
use Rattle.model.specs.Code.{same_word}
use Rattle.model.specs.Words.{newer}
use Rattle.linkmodel.specs.Station.{Item, Sight, news_for, seens_for}
use Rattle.station.specs.Packets.{first_in, is_out, sight_of}
use Rattle.station.specs.Ticking.{item_of}
use Rattle.station.proofs.Scans.{NonePass, next_item, none_here, none_left}
use Rattle.station.proofs.TakingWords.{any_word}

-- one more is put behind the first c
put_at : {A B : Type 0} (f : A → B) (xs : List A) (c : ℕ) (x : A) → c < length xs → first_in f (suc c) (set xs c x) ≡ first_in f c xs ++ (f x ∷ [])
unfolding first_in
put_at f [] c x l = absurd (not-suc-le-zero l)
put_at f (y ∷ ys) zero x l = refl
put_at {A} {B} f (y ∷ ys) (suc c) x l = ap (λ (zs : List B). f y ∷ zs) (put_at f ys c x (le_of_suc-le-suc l))

first_length : {A B : Type 0} (f : A → B) (c : ℕ) (xs : List A) → c ≤ length xs → length (first_in f c xs) ≡ c
unfolding first_in
first_length f zero xs l = refl
first_length f (suc c) [] l = absurd (not-suc-le-zero l)
first_length f (suc c) (x ∷ xs) l = ap suc (first_length f c xs (le_of_suc-le-suc l))

-- of the answers to all, c stand in xs, and what is left is still to come; past those xs is blank
pub record PutTo {A B : Type 0} (f : A → B) (d : A) (all left : List B) (k c : ℕ) (xs : List A) : Type 0 where
  pub room : length xs ≡ 4
  pub few : c ≤ k
  pub list : all ≡ first_in f c xs ++ left
  pub blank : (j : ℕ) → c ≤ j → get_or xs j d ≡ d

-- past its end a list of blanks is blank
pub rest_blank : {A : Type 0} (xs : List A) (d : A) → length xs ≡ 4 → ((j : ℕ) → j < 4 → get_or xs j d ≡ d) → (j : ℕ) → get_or xs j d ≡ d
rest_blank xs d l h j = go (ltb j 4) refl
  where
    go : (b : Bool) → ltb j 4 ≡ b → get_or xs j d ≡ d
    go true q = h j (ltb-true j 4 q)
    go false q = get_or-eq_default xs d (rw l (ltb-false j 4 q))

module _ {A B : Type 0} (f : A → B) (d : A) (all : List B) where
  pub put_none : (left : List B) (xs : List A) → length xs ≡ 4 → ((j : ℕ) → get_or xs j d ≡ d) → all ≡ left → PutTo f d all left 0 0 xs
  unfolding first_in
  put_none left xs l h e = record { room = l; few = omega arith; list = e; blank = λ j q. h j }

  pub put_as : (left : List B) (k c b : ℕ) (xs ys : List A) → b ≡ c → ys ≡ xs → PutTo f d all left k c xs → PutTo f d all left k b ys
  put_as left k c b xs ys p q h = subst (λ (zs : List A). PutTo f d all left k b zs) (sym q) (subst (λ (n : ℕ). PutTo f d all left k n xs) (sym p) h)

  -- one is answered
  pub put_more : (left rest : List B) (k c : ℕ) (xs : List A) (x : A) → k < 4 → PutTo f d all left k c xs → left ≡ f x ∷ rest → PutTo f d all rest (k + 1) (c + 1) (set xs c x)
  put_more left rest k c xs x l p q =
      let few = p.few in
      let room : c < length xs = omega (arith, p.room) in
      record {
        room = length-set xs c x ∙ p.room;
        few = omega arith;
        list = p.list ∙ ap (λ (ys : List B). first_in f c xs ++ ys) q ∙ sym (append_assoc (first_in f c xs) (f x ∷ []) rest)
            ∙ ap (λ (ys : List B). ys ++ rest) (sym (ap (λ (i : ℕ). first_in f i (set xs c x)) (add-one c) ∙ put_at f xs c x room));
        blank = λ j i. let ne : j ≢ c = omega arith in get_or-set_other xs c j x d ne ∙ p.blank j (omega arith);
      }

  -- one isn't
  pub put_not : (left rest : List B) (k c : ℕ) (xs : List A) → PutTo f d all left k c xs → left ≡ rest → PutTo f d all rest (k + 1) c xs
  put_not left rest k c xs p q = let few = p.few in record { room = p.room; few = omega arith; list = p.list ∙ ap (λ (ys : List B). first_in f c xs ++ ys) q; blank = p.blank }

  -- all are through
  pub put_list : (left : List B) (k c : ℕ) (xs : List A) → PutTo f d all left k c xs → left ≡ [] → first_in f c xs ≡ all
  put_list left k c xs p q = sym (p.list ∙ ap (λ (ys : List B). first_in f c xs ++ ys) q ∙ append-nil (first_in f c xs))

  pub put_count : (left : List B) (k c : ℕ) (xs : List A) → k ≤ 4 → PutTo f d all left k c xs → left ≡ [] → c ≡ length all
  put_count left k c xs l p q =
      let few = p.few in
      sym (first_length f c xs (omega (arith, p.room))) ∙ ap (λ (ys : List B). length ys) (put_list left k c xs p q)

-- what is left of the answers after k words
abbrev pub seens_left : ℕ → List Word → Box → List Sight
seens_left k ws b = seens_for (map item_of (drop k ws)) b

abbrev pub news_left : ℕ → List Word → Box → List Item
news_left k ws b = news_for (map item_of (drop k ws)) b

pub seens_step : (k : ℕ) (ws : List Word) (b : Box) → k < length ws →
    seens_left k ws b ≡ cond (same_word (entry_of (get_or ws k any_word)) (b.word (get_or ws k any_word).id.about)) (sight_of (get_or ws k any_word).id ∷ seens_left (k + 1) ws b) (seens_left (k + 1) ws b)
unfolding seens_for
seens_step k ws b h = ap (λ (ys : List Word). seens_for (map item_of ys) b) (next_item any_word ws k h)

pub seens_end : (k : ℕ) (ws : List Word) (b : Box) → length ws ≤ k → seens_left k ws b ≡ []
unfolding seens_for
seens_end k ws b h = ap (λ (ys : List Word). seens_for (map item_of ys) b) (none_left ws k h)

pub news_step : (k : ℕ) (ws : List Word) (b : Box) → k < length ws →
    news_left k ws b ≡ cond (newer (b.word (get_or ws k any_word).id.about) (entry_of (get_or ws k any_word)))
    (record { about = (get_or ws k any_word).id.about; entry = b.word (get_or ws k any_word).id.about } ∷ news_left (k + 1) ws b) (news_left (k + 1) ws b)
unfolding news_for
news_step k ws b h = ap (λ (ys : List Word). news_for (map item_of ys) b) (next_item any_word ws k h)

pub news_end : (k : ℕ) (ws : List Word) (b : Box) → length ws ≤ k → news_left k ws b ≡ []
unfolding news_for
news_end k ws b h = ap (λ (ys : List Word). news_for (map item_of ys) b) (none_left ws k h)

-- each word is about a box that there is
pub about_in_lem : (n k : ℕ) (ws : List Word) → k < length ws → NonePass (λ x. is_out n x.id) (drop k ws) → (get_or ws k any_word).id.about < n
about_in_lem n k ws h q = let x = get_or ws k any_word in ltb-true x.id.about n (go (ltb x.id.about n) (eqb x.id.count 0) (none_here (λ y. is_out n y.id) any_word ws k h q))
  where
    go : (a c : Bool) → (not a || c) ≡ false → a ≡ true
    go true c e = refl
    go false c e = let z : ◌≡◌ {A = ℕ} 0 1 = cc in absurd (omega arith)
