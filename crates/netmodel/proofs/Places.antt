-- The words of a frame that was sent have their places among all words on their way; tags beyond those needed count for nothing.
use Rattle.std.proofs.Common.{◌≡◌, ℕ, zero, suc, Bool, not, ◌&&◌, List, [], ◌∷◌, ◌++◌, length, take, Some, sym, refl, ap, ◌∙◌, subst, arith}
use Rattle.model.specs.Words.{Word}
use Rattle.model.specs.Code.{nth_is}
use Rattle.model.specs.Box.{Box}
use Rattle.linkmodel.specs.Station.{Item, told_word, is_stuck, takes_item, marks_item, takes_all}
use Rattle.linkmodel.specs.Calls.{are_sent, none_stuck}
use Rattle.netmodel.specs.Net.{Sent, sent_nth}
use Rattle.netmodel.specs.Standing.{told_words, words_in, on_way}

-- it has a place in a list
abbrev Found : Word → List Word → Type 0
Found x xs = (k : ℕ) × nth_is k x xs

found_left : (x : Word) (xs ys : List Word) → Found x xs → Found x (xs ++ ys)
unfolding nth_is
found_left x [] ys (k, h) = absurd h
found_left x (y ∷ xs) ys (zero, h) = (zero, h)
found_left x (y ∷ xs) ys (suc k, h) = let r = found_left x xs ys (k, h) in (suc r.0, r.1)

found_right : (x : Word) (xs ys : List Word) → Found x ys → Found x (xs ++ ys)
unfolding nth_is
found_right x [] ys f = f
found_right x (y ∷ xs) ys f = let r = found_right x xs ys f in (suc r.0, r.1)

-- and so have all of these words of e to me
abbrev pub AllFound : ℕ → ℕ → List Item → List Word → Type 0
AllFound e me xs fl = (ks : List ℕ) × are_sent ks e me xs fl

all_lift : (e me : ℕ) (xs : List Item) (fl gl : List Word) → ((x : Word) → Found x fl → Found x gl) → AllFound e me xs fl → AllFound e me xs gl
unfolding are_sent
all_lift e me [] fl gl f ([], h) = ([], tt)
all_lift e me [] fl gl f (k ∷ ks, h) = absurd h
all_lift e me (x ∷ xs) fl gl f ([], h) = absurd h
all_lift e me (x ∷ xs) fl gl f (k ∷ ks, h) =
    let p = f (told_word e me x) (k, h.0) in
    let q = all_lift e me xs fl gl f (ks, h.1) in
    (p.0 ∷ q.0, (p.1, q.1))

all_told : (e me : ℕ) (xs : List Item) → AllFound e me xs (told_words e me xs)
unfolding are_sent told_words nth_is
all_told e me [] = ([], tt)
all_told e me (x ∷ xs) =
    let p = found_right (told_word e me x) (told_words e me xs) (told_word e me x ∷ []) (0, refl) in
    let q = all_lift e me xs (told_words e me xs) (told_words e me xs ++ (told_word e me x ∷ [])) (λ y. found_left y (told_words e me xs) (told_word e me x ∷ [])) (all_told e me xs) in
    (p.0 ∷ q.0, (p.1, q.1))

-- the words of a frame that was sent are on their way
pub sent_found : (k : ℕ) (fs : List Sent) (f : Sent) (xs : List Item) → sent_nth k fs ≡ Some f → words_in f ≡ told_words f.by f.over.at xs → AllFound f.by f.over.at xs (on_way fs)
unfolding sent_nth
sent_found k [] f xs h w = let z : ◌≡◌ {A = ℕ} 0 1 = cc in absurd (omega arith)
sent_found zero (g ∷ gs) f xs h w =
    let e : g ≡ f = cc in
    all_lift f.by f.over.at xs (told_words f.by f.over.at xs) (words_in g ++ on_way gs)
    (λ y p. found_left y (words_in g) (on_way gs) (subst (Found y) (sym (ap words_in e ∙ w)) p)) (all_told f.by f.over.at xs)
sent_found (suc k) (g ∷ gs) f xs h w = all_lift f.by f.over.at xs (on_way gs) (words_in g ++ on_way gs) (λ y. found_right y (words_in g) (on_way gs)) (sent_found k gs f xs h w)

-- tags beyond those needed
pub takes_few : (fits : Bool) (e : ℕ) (xs : List Item) (ts : List ℕ) (b : Box) → takes_all fits e xs ts b ≡ takes_all fits e xs (take (length xs) ts) b
unfolding takes_all
takes_few fits e [] ts b = refl
takes_few fits e (x ∷ xs) [] b = refl
takes_few fits e (x ∷ xs) (t ∷ ts) b = takes_few fits e xs ts (marks_item fits e x (takes_item e x t b))

-- nor do they for what is stuck
pub stuck_few : (fits : Bool) (e : ℕ) (xs : List Item) (ts : List ℕ) (b : Box) → none_stuck fits e xs ts b ≡ none_stuck fits e xs (take (length xs) ts) b
unfolding none_stuck
stuck_few fits e [] ts b = refl
stuck_few fits e (x ∷ xs) [] b = refl
stuck_few fits e (x ∷ xs) (t ∷ ts) b = ap (λ c. not (is_stuck (told_word e b.me x) b) && c) (stuck_few fits e xs ts (marks_item fits e x (takes_item e x t b)))
