-- Lists of numbers, and lists of such lists, as functions of a place.
use Rattle.std.proofs.Common.{◌≡◌, ℕ, zero, suc, Bool, true, false, cond, ltb, List, [], get_or, replicate, refl, ap, ◌∙◌, arith, ltb-true}
use Rattle.std.proofs.lemmas.List.{get_or-replicate}
use Rattle.messages.specs.Values.{at}
use Rattle.messages.proofs.Zeros.{at_zeros}
use Rattle.model.specs.Map.{Map, Never, Nowhere}
use Rattle.model.specs.Words.{Entry}
use Rattle.ways.specs.Numbers.{far_of, hop_of}
use Rattle.ways.specs.Table.{Found}
use Rattle.database.specs.State.{NoWay}

-- a table of zeros is 0 everywhere, past its end too
pub at_zero_rows : (m n i e : ℕ) → at (get_or (replicate m (replicate n 0)) i []) e ≡ 0
at_zero_rows zero n i e = refl
at_zero_rows (suc m) n zero e = at_zeros n e
at_zero_rows (suc m) n (suc i) e = at_zero_rows m n i e

-- words are the same if their parts are
pub same_entry : {x y : Entry} → x.number ≡ y.number → x.tag ≡ y.tag → ((e : ℕ) → x.road e ≡ y.road e) → x ≡ y
same_entry a b c = λ k. record { number = a k; tag = b k; road = λ e. c e k }

-- numbers that all stand for "never", and for "none"
abbrev pub nevers : List ℕ
nevers = replicate 64 4294967295

abbrev pub nones : List ℕ
nones = replicate 64 255

-- are the table of no boxes
pub found_nothing : (z : Map) (me : ℕ) (far next : List ℕ) → z.n ≡ 0 → far ≡ nevers → next ≡ nones → Found z me far next
found_nothing z me far next e d x = record {
  dists = λ i l. absurd (omega (arith, e, l));
  nexts = λ i l. absurd (omega (arith, e, l));
  no_dists = λ i l m. ap (λ row. get_or row i 0) d ∙ get_or-replicate 64 i 4294967295 0 m;
  no_nexts = λ i l m. ap (λ row. get_or row i 0) x ∙ get_or-replicate 64 i 255 0 m;
}

-- and have no way to anybody
pub no_way : (far next : List ℕ) → far ≡ nevers → next ≡ nones → NoWay record { far = far; next = next }
no_way far next d x i = (go (ltb i 64) refl, on (ltb i 64) refl)
  where
    go : (b : Bool) → ltb i 64 ≡ b → cond b (far_of (get_or far i 0)) Never ≡ Never
    go true q = ap far_of (ap (λ row. get_or row i 0) d ∙ get_or-replicate 64 i 4294967295 0 (ltb-true i 64 q))
    go false q = refl

    on : (b : Bool) → ltb i 64 ≡ b → cond b (hop_of (get_or next i 0)) Nowhere ≡ Nowhere
    on true q = ap hop_of (ap (λ row. get_or row i 0) x ∙ get_or-replicate 64 i 255 0 (ltb-true i 64 q))
    on false q = refl
