-- One to four of a kind with a drawn number, as words and what was seen have them: written and read, and only so.
use Rattle.std.proofs.Common.{◌≡◌, ℕ, zero, suc, ◌+◌, ◌-◌, ◌^◌, ◌<◌, ◌≤◌, Bool, true, ◌&&◌, leb, List, [], ◌∷◌, ◌++◌, length, get_or, take, drop, replicate, Ok, sym, refl, ap, ◌∙◌, subst, ap₂, ⊎_elim, append-nil, arith, length-append}
use Rattle.std.specs.List.{flat_map}
use Rattle.std.proofs.lemmas.Bool.{le-leb, leb-true, and_from, and_parts, cases_lt}
use Rattle.std.proofs.lemmas.List.{take-append-drop, take_all, take_at, drop_at, length-take-le, length-replicate, get_or-take, get_or-drop, get_or-replicate, get_or_past, get_or_append_left}
use Rattle.octets.specs.declared.Fault.TheVariants.{Form, Count}
use Rattle.octets.specs.Reads.{Read, onward, unless, give, byte, positive, many, end}
use Rattle.octets.specs.Writes.{Bytes, octets}
use Rattle.octets.proofs.Parts.{both, step, test, byte_read, end_read}
use Rattle.octets.proofs.Numbers.{positive_octets, positive_read}
use Rattle.octets.proofs.Many.{Item, many_joined, many_read}
use Rattle.wordframes.specs.Reading.{batch_in, each, how_many, padded}

each_from : {A : Type 0} (t : A → Bool) (d : A) (xs : List A) → ((i : ℕ) → i < length xs → t (get_or xs i d) ≡ true) → each t xs ≡ true
each_from t d [] h = refl
each_from t d (x ∷ xs) h = and_from (t x) (each t xs) (h 0 (omega arith)) (each_from t d xs (λ i l. h (suc i) (omega arith)))

each_to : {A : Type 0} (t : A → Bool) (d : A) (xs : List A) → each t xs ≡ true → (i : ℕ) → i < length xs → t (get_or xs i d) ≡ true
each_to t d [] h i l = absurd (omega arith)
each_to t d (x ∷ xs) h zero l = (and_parts (t x) (each t xs) h).0
each_to t d (x ∷ xs) h (suc i) l = each_to t d xs (and_parts (t x) (each t xs) h).1 i (omega arith)

pub how_again : (k : ℕ) (rest : List ℕ) → 1 ≤ k → k ≤ 4 → how_many (k ∷ rest) ≡ Ok (k, rest)
how_again k rest a b = let t : (leb 1 k && leb k 4) ≡ true = and_from _ _ (le-leb 1 k a) (le-leb k 4 b) in rw t

record How (bytes : List ℕ) (k : ℕ) (left : List ℕ) : Type 0 where
  is : bytes ≡ k ∷ left
  some : 1 ≤ k
  few : k ≤ 4
  bytes_left : Bytes left

how_only : (bytes : List ℕ) (k : ℕ) (left : List ℕ) → Bytes bytes → how_many bytes ≡ Ok (k, left) → How bytes k left
how_only bytes k left b h =
    let s = step (byte bytes) (λ x mid. onward (unless Form (leb 1 x && leb x 4) mid) (λ _. give x)) k left h in
    let r = byte_read bytes s.value s.left b s.was in
    let t = test Form (leb 1 s.value && leb s.value 4) (give s.value) s.left k left s.then in
    let a = and_parts (leb 1 s.value) (leb s.value 4) t.held in
    let e = both s.value k s.left left t.then in
    record {
      is = r.is ∙ ap₂ (λ x xs. x ∷ xs) e.0 e.1;
      some = subst (λ x. 1 ≤ x) e.0 (leb-true 1 s.value a.0);
      few = subst (λ x. x ≤ 4) e.0 (leb-true s.value 4 a.1);
      bytes_left = subst Bytes e.1 r.bytes_left;
    }

-- the bytes, after the kind and to the end
abbrev pub bytes_of_batch : {A : Type 0} → (A → List ℕ) → ℕ → ℕ → List A → List ℕ
bytes_of_batch w drawn count items = octets 8 drawn ++ (count ∷ flat_map w (take count items))

pub record BatchInRange {A : Type 0} (Good : A → Type 0) (blank : A) (drawn count : ℕ) (items : List A) : Type 0 where
  pub some_drawn : 0 < drawn
  pub drawn_fits : drawn < 2 ^ 64
  pub some : 1 ≤ count
  pub few : count ≤ 4
  pub four : length items ≡ 4
  pub good : (i : ℕ) → i < count → Good (get_or items i blank)
  pub blanks : drop count items ≡ replicate (4 - count) blank

-- what was read, and from which bytes
pub record BatchRead {A B : Type 0} (w : A → List ℕ) (Good : A → Type 0) (blank : A) (make : ℕ → ℕ → List A → B) (bytes : List ℕ) (x : B) (left : List ℕ) : Type 0 where
  pub drawn : ℕ
  pub count : ℕ
  pub items : List A
  pub value : make drawn count items ≡ x
  pub is : bytes ≡ bytes_of_batch w drawn count items
  pub none : left ≡ []
  pub good : BatchInRange Good blank drawn count items

module _ {A B : Type 0} (p : Read A) (w : A → List ℕ) (Fits Good : A → Type 0) (blank : A) (low : A → Bool) (make : ℕ → ℕ → List A → B)
    (low-blank : low blank ≡ true)
    (good-low : (x : A) → Good x → low x ≡ true)
    (low-good : (x : A) → Fits x → low x ≡ true → Good x)
    (again : (x : A) → Good x → (rest : List ℕ) → p (w x ++ rest) ≡ Ok (x, rest))
    (only : (bytes : List ℕ) (x : A) (left : List ℕ) → Bytes bytes → p bytes ≡ Ok (x, left) → Item w Fits bytes x left) where
  -- the blanks pass the test too
  all_low : (drawn count : ℕ) (items : List A) → BatchInRange Good blank drawn count items → each low items ≡ true
  all_low drawn count items r =
      each_from low blank items (λ i l.
      ⊎_elim
      (λ (q : i < count). good-low (get_or items i blank) (r.good i q))
      (λ (q : count ≤ i). subst (λ x. low x ≡ true) (sym (past i q)) low-blank)
      (cases_lt i count))
    where
      spare : (k j : ℕ) → get_or (replicate k blank) j blank ≡ blank
      spare k j = ⊎_elim (λ (q : j < k). get_or-replicate k j blank blank q) (λ (q : k ≤ j). get_or_past (replicate k blank) j blank (omega (arith, length-replicate k blank))) (cases_lt j k)

      past : (i : ℕ) → count ≤ i → get_or items i blank ≡ blank
      past i q =
          let e : i ≡ count + (i - count) = omega arith in
          ap (λ j. get_or items j blank) e
          ∙ (sym (get_or-drop count items (i - count) blank)
          ∙ (ap (λ ys. get_or ys (i - count) blank) r.blanks
          ∙ spare (4 - count) (i - count)))

  -- the first so many, written and read
  items_again : (drawn count : ℕ) (items : List A) → BatchInRange Good blank drawn count items → many count p (flat_map w (take count items)) ≡ Ok (take count items, [])
  items_again drawn count items r =
      let n : length (take count items) ≡ count = length-take-le count items (omega (arith, r.few, r.four)) in
      let whole : take count (take count items) ≡ take count items = take_all count (take count items) (omega arith) in
      let one : (k : ℕ) → k < length (take count items) → (rest : List ℕ) → p (w (get_or (take count items) k blank) ++ rest) ≡ Ok (get_or (take count items) k blank, rest) =
      λ k l rest. rw (get_or-take count items k blank (omega arith)) (again (get_or items k blank) (r.good k (omega arith)) rest) in
      ap (many count p) (sym (append-nil (flat_map w (take count items))))
      ∙ subst (λ ys. many count p (flat_map w ys ++ []) ≡ Ok (ys, [])) whole (many_joined p w (take count items) blank one count (omega arith) [])

  pub batch_again : (drawn count : ℕ) (items : List A) → BatchInRange Good blank drawn count items → batch_in p blank low make (bytes_of_batch w drawn count items) ≡ Ok (make drawn count items, [])
  batch_again drawn count items r =
      let n : length (take count items) ≡ count = length-take-le count items (omega (arith, r.few, r.four)) in
      let m = items_again drawn count items r in
      let fill : padded blank (take count items) ≡ items =
      ap (λ k. take count items ++ replicate (4 - k) blank) n ∙ (ap (λ ys. take count items ++ ys) (sym r.blanks) ∙ take-append-drop count items) in
      let t = all_low drawn count items r in
      rw (positive_octets 8 drawn (count ∷ flat_map w (take count items)) r.some_drawn r.drawn_fits, how_again count (flat_map w (take count items)) r.some r.few, m, fill, t)

  -- the items that were read, filled up to four
  filled : (drawn count : ℕ) (xs : List A) → 0 < drawn → drawn < 2 ^ 64 → 1 ≤ count → count ≤ 4 → length xs ≡ count → ((i : ℕ) → i < count → Fits (get_or xs i blank)) → each low (padded blank xs) ≡ true → BatchInRange Good blank drawn count (padded blank xs)
  filled drawn count xs a b c d n f t =
      record {
        some_drawn = a;
        drawn_fits = b;
        some = c;
        few = d;
        four = four;
        good = λ i l.
            let e : get_or (padded blank xs) i blank ≡ get_or xs i blank = get_or_append_left xs (replicate (4 - length xs) blank) blank i (omega arith) in
            subst Good (sym e) (low-good (get_or xs i blank) (f i l) (subst (λ x. low x ≡ true) e (each_to low blank (padded blank xs) t i (omega (arith, four)))));
        blanks = drop_at xs (replicate (4 - length xs) blank) count n ∙ ap (λ k. replicate (4 - k) blank) n;
      }
    where
      four : length (padded blank xs) ≡ 4
      four = length-append xs (replicate (4 - length xs) blank) ∙ omega (arith, length-replicate (4 - length xs) blank)

  pub batch_only : (bytes : List ℕ) (x : B) (left : List ℕ) → Bytes bytes → batch_in p blank low make bytes ≡ Ok (x, left) → BatchRead w Good blank make bytes x left
  batch_only bytes x left b h =
      let s = step (positive 8 bytes) (λ d mid. onward (how_many mid) (λ k mid. onward (onward (many k p mid) (λ xs. give (padded blank xs))) (λ items mid. onward (end mid) (λ _ mid. onward (unless Count (each low items) mid) (λ _. give (make d k items)))))) x left h in
      let r = positive_read 8 bytes s.value s.left b s.was in
      let t = step (how_many s.left) (λ k mid. onward (onward (many k p mid) (λ xs. give (padded blank xs))) (λ items mid. onward (end mid) (λ _ mid. onward (unless Count (each low items) mid) (λ _. give (make s.value k items))))) x left s.then in
      let q = how_only s.left t.value t.left r.bytes_left t.was in
      let u = step (onward (many t.value p t.left) (λ xs. give (padded blank xs))) (λ items mid. onward (end mid) (λ _ mid. onward (unless Count (each low items) mid) (λ _. give (make s.value t.value items)))) x left t.then in
      let m = step (many t.value p t.left) (λ xs. give (padded blank xs)) u.value u.left u.was in
      let i = many_read p w Fits blank only t.value t.left m.value m.left q.bytes_left m.was in
      let e = both (padded blank m.value) u.value m.left u.left m.then in
      let v = step (end u.left) (λ _ mid. onward (unless Count (each low u.value) mid) (λ _. give (make s.value t.value u.value))) x left u.then in
      let z = end_read u.left v.left v.value v.was in
      let y = test Count (each low u.value) (give (make s.value t.value u.value)) v.left x left v.then in
      let g = both (make s.value t.value u.value) x v.left left y.then in
      let items-is : flat_map w m.value ≡ flat_map w (take t.value u.value) =
      ap (flat_map w) (sym (take_at m.value (replicate (4 - length m.value) blank) t.value i.long) ∙ ap (take t.value) e.0) in
      record {
        drawn = s.value;
        count = t.value;
        items = u.value;
        value = g.0;
        is = r.is ∙ ap (λ ys. octets 8 s.value ++ ys) (q.is ∙ ap (λ ys. t.value ∷ ys) (i.is ∙ (ap (λ ys. flat_map w m.value ++ ys) (e.1 ∙ z.0) ∙ (append-nil (flat_map w m.value) ∙ items-is))));
        none = sym g.1 ∙ z.1;
        good = subst (BatchInRange Good blank s.value t.value) e.0
            (filled s.value t.value m.value r.more r.fits q.some q.few i.long i.good (subst (λ ys. each low ys ≡ true) (sym e.0) y.held));
      }
