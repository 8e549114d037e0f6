-- The bytes of values are those of what they stand for.
use Rattle.std.proofs.Common.{◌≡◌, ℕ, zero, suc, ◌≤◌, cond, eqb, List, [], ◌∷◌, ◌++◌, length, get_or, take, sym, refl, ap, ◌∙◌, ap₂, arith}
use Rattle.std.specs.List.{flat_map}
use Rattle.octets.specs.Writes.{octets}
use Rattle.messages.specs.Values.{at, entry_of}
use Rattle.messages.specs.Packets.{Seens}
use Rattle.messages.specs.declared.values.Word.{Word}
use Rattle.messages.specs.Packets.{Words}
use Rattle.wordframes.specs.Writing.{bytes_of_id, bytes_of_road, bytes_of_seens, bytes_of_word, bytes_of_words, roads_to}
use Rattle.linkmodel.specs.Station.{Item, Shows, Station as Whole, Tells}
use Rattle.model.specs.Box.{Box}
use Rattle.model.specs.Words.{Entry as Heard}
use Rattle.station.specs.Packets.{first_in, seens_of, sight_of}
use Rattle.station.specs.Ticking.{bundle_of, item_of}
use Rattle.frames.specs.Writing.{bytes_of_entry, bytes_of_line}
use Rattle.frames.specs.declared.values.Entry.{Entry}
use Rattle.frames.specs.declared.values.Entry.TheVariants.{Began as BeganEntry, Refused as RefusedEntry, Said as SaidEntry, Taken as TakenEntry}
use Rattle.node.specs.Book.{line_bytes, note_bytes}
use Rattle.node.specs.Giving.{Full, noted, own_item}
use Rattle.node.specs.Hearing.{FullSeens}
use Rattle.node.specs.Wires.{frame_bytes, item_bytes, roads_of, sight_bytes}

roads_as : (costs : List ℕ) (k : ℕ) → roads_to costs k ≡ roads_of (at costs) k
unfolding roads_to roads_of
roads_as costs zero = refl
roads_as costs (suc k) = ap (λ z. z ++ cond (eqb (get_or costs k 0) 0) [] ((k, get_or costs k 0) ∷ [])) (roads_as costs k)

pub word_as : (w : Word) → bytes_of_word w ≡ item_bytes (item_of w)
word_as w = ap (λ z. bytes_of_id w.id ++ (length z ∷ flat_map bytes_of_road z)) (roads_as w.costs 64)

first_joined : {A B : Type 0} (f : A → B) (g : A → List ℕ) (h : B → List ℕ) → ((x : A) → g x ≡ h (f x)) → (k : ℕ) (xs : List A) → flat_map g (take k xs) ≡ flat_map h (first_in f k xs)
unfolding first_in
first_joined f g h e zero [] = refl
first_joined f g h e zero (x ∷ xs) = refl
first_joined f g h e (suc k) [] = refl
first_joined f g h e (suc k) (x ∷ xs) = ap₂ (λ a b. a ++ b) (e x) (first_joined f g h e k xs)

first_long : {A B : Type 0} (f : A → B) (k : ℕ) (xs : List A) → k ≤ length xs → length (first_in f k xs) ≡ k
unfolding first_in
first_long f zero [] h = refl
first_long f zero (x ∷ xs) h = refl
first_long f (suc k) [] h = absurd (omega arith)
first_long f (suc k) (x ∷ xs) h = ap suc (first_long f k xs (omega arith))

pub words_as : (p : Words) → p.count ≤ length p.items → bytes_of_words p ≡ frame_bytes (Tells (bundle_of p))
words_as p h =
    ap₂ (λ (k : ℕ) (z : List ℕ). 2 ∷ (octets 8 p.drawn ++ (k ∷ z))) (sym (first_long item_of p.count p.items h)) (first_joined item_of bytes_of_word item_bytes word_as p.count p.items)

pub seens_as : (p : Seens) → p.count ≤ length p.items → bytes_of_seens p ≡ frame_bytes (Shows (seens_of p))
seens_as p h =
    ap₂ (λ (k : ℕ) (z : List ℕ). 3 ∷ (octets 8 p.drawn ++ (k ∷ z))) (sym (first_long sight_of p.count p.items h)) (first_joined sight_of bytes_of_id sight_bytes (λ x. refl) p.count p.items)

pub noted_as : (e : Entry) → bytes_of_entry e ≡ note_bytes (noted e)
noted_as (BeganEntry n me) = refl
noted_as (SaidEntry word) = ap (λ z. 1 ∷ z) (word_as word)
noted_as (TakenEntry word) = ap (λ z. 2 ∷ z) (word_as word)
noted_as (RefusedEntry number) = refl

pub line_as : (t : ℕ) (e : Entry) → bytes_of_line (record { tick = t; what = e }) ≡ line_bytes t (noted e)
line_as t e = ap (λ z. 5 ∷ (octets 4 t ++ z)) (noted_as e)

first_short : {A B : Type 0} (f : A → B) (k : ℕ) (xs : List A) → length (first_in f k xs) ≤ length xs
unfolding first_in
first_short f zero [] = omega arith
first_short f zero (x ∷ xs) = omega arith
first_short f (suc k) [] = omega arith
first_short f (suc k) (x ∷ xs) = omega (arith, first_short f k xs)

pub few_words : (p : Words) → Full p → p.count ≤ length p.items
few_words p h = omega (arith, first_short item_of p.count p.items)

-- the word that a box has of itself
abbrev item : ℕ → Heard → Item
item k x = record { about = k; entry = x }

pub own_item_lem : (w : Word) (b : Box) (s : Whole) (me : ℕ) → b ≡ s.box → me ≡ b.me → w.id.about ≡ me → entry_of w ≡ b.word me → item_of w ≡ own_item s
own_item_lem w b s me e m a q =
    ap₂ (λ (k : ℕ) (x : Heard). item k x) a q
    ∙ (ap (λ (k : ℕ). item k (b.word k)) m ∙ ap (λ (x : Box). item x.me (x.word x.me)) e)

pub few_seens : (p : Seens) → FullSeens p → p.count ≤ length p.items
few_seens p h = omega (arith, first_short sight_of p.count p.items)
