-- What is joined to each end of a wire, how many things are lost there, and what the calls change. Assumes nothing.
use Rattle.std.specs.Prelude.{◌≡◌, ℕ, ◌+◌, ◌*◌, ◌-◌, ◌^◌, ◌<◌, ◌≤◌, Bool, true, false, cond, ◌&&◌, List, Some, None, Option, ◌==◌, nat_lt, min, is_some, slice_index, slice_index_or}
use Rattle.model.specs.Words.{at2}
use Rattle.linkmodel.specs.Links.{wires}
use Rattle.netmodel.specs.Net.{Plug}
use Rattle.ground.specs.declared.ends.Carried.{Carried}
use Rattle.ground.specs.declared.ends.Carried.TheVariants.{To, Lost, Nowhere}
use Rattle.ground.specs.declared.ends.End.{End}
use Rattle.ground.specs.declared.ends.Plug.{Plug as Across}
use Rattle.ground.specs.declared.state.Ground.{Ground}

-- the end at wire w of box a is one of eight for each of 64 boxes
abbrev pub is_end : ℕ → ℕ → Bool
is_end a w = nat_lt a 64 && nat_lt w wires

-- its place among all ends
abbrev pub place_of : ℕ → ℕ → Option ℕ
place_of a w = cond (is_end a w) (Some (a * 8 + w)) None

-- what is across, as the model has it
abbrev pub plug_of : Across → Plug
plug_of p = record { at = p.end.at; on = p.end.wire; laid = p.laid }

abbrev pub plug_if : Option Across → Option Plug
plug_if None = None
plug_if (Some p) = Some (plug_of p)

abbrev pub plug_in : List (Option Across) → Option ℕ → Option Plug
plug_in ps None = None
plug_in ps (Some i) = plug_if (slice_index_or ps i None)

abbrev pub lost_in : List ℕ → Option ℕ → ℕ
lost_in ls None = 0
lost_in ls (Some i) = slice_index ls i

-- what wire w of box a is joined to; nothing where there is no such end
abbrev pub plug_at : Ground → ℕ → ℕ → Option Plug
plug_at g a w = plug_in g.plugs (place_of a w)

-- how many of the next things that go out there are lost
abbrev pub lost_at : Ground → ℕ → ℕ → ℕ
lost_at g a w = lost_in g.losing (place_of a w)

-- how many wires were laid
abbrev pub laid_of : Ground → ℕ
laid_of g = g.laid

-- the last number drawn
abbrev pub drawn_of : Ground → ℕ
drawn_of g = g.drawn

-- the number that is drawn next: each once, but for the largest
abbrev pub next_number : ℕ → ℕ
next_number d = min (d + 1) (2 ^ 64 - 1)

-- all wires are as they were, and so is what they lose and how many were laid
pub record SameWires (old new : Ground) : Type 0 where
  pub joined : (a w : ℕ) → plug_at new a w ≡ plug_at old a w
  pub losing : (a w : ℕ) → lost_at new a w ≡ lost_at old a w
  pub laid : laid_of new ≡ laid_of old

-- one more number was drawn
pub record Drew (old new : Ground) : Type 0 where
  pub drawn : drawn_of new ≡ next_number (drawn_of old)
  pub rises : drawn_of old ≤ drawn_of new
  pub stays : SameWires old new

-- so many were laid, and this was the last number drawn
pub record Counts (k d : ℕ) (g : Ground) : Type 0 where
  pub laid : laid_of g ≡ k
  pub drawn : drawn_of g ≡ d

-- whether an end is joined to box e
abbrev pub leads_to : ℕ → Option Plug → Bool
leads_to e None = false
leads_to e (Some p) = p.at == e

-- the lowest wire of a that is joined to e, or none is
abbrev pub Between : ℕ → ℕ → Ground → Option End → Type 0
Between a e g None = (v : ℕ) → v < wires → leads_to e (plug_at g a v) ≡ false
Between a e g (Some end) = (end.at ≡ a) × (end.wire < wires) × (leads_to e (plug_at g a end.wire) ≡ true) × ((v : ℕ) → v < end.wire → leads_to e (plug_at g a v) ≡ false)

-- without the wire that has this end and this across from it
abbrev pub parted : {A : Type 0} → A → ℕ → ℕ → Option Plug → (ℕ → ℕ → A) → ℕ → ℕ → A
parted x a w None f = f
parted x a w (Some p) f = at2 a w x (at2 p.at p.on x f)

-- a wire was laid between two ends, and loses nothing
pub record Laid (a w e v : ℕ) (old new : Ground) : Type 0 where
  pub joined : (b u : ℕ) → plug_at new b u ≡ at2 a w (Some (record { at = e; on = v; laid = laid_of old })) (at2 e v (Some (record { at = a; on = w; laid = laid_of old })) (plug_at old)) b u
  pub losing : (b u : ℕ) → lost_at new b u ≡ at2 a w 0 (at2 e v 0 (lost_at old)) b u
  pub counts : Counts (laid_of old + 1) (drawn_of old) new

-- the wire with this end was taken away
pub record Parted (a w : ℕ) (old new : Ground) : Type 0 where
  pub joined : (b u : ℕ) → plug_at new b u ≡ parted None a w (plug_at old a w) (plug_at old) b u
  pub losing : (b u : ℕ) → lost_at new b u ≡ parted 0 a w (plug_at old a w) (lost_at old) b u
  pub counts : Counts (laid_of old) (drawn_of old) new

-- so many more of the next things that go out there are lost, 2^32 - 1 at most
pub record LosesMore (a w count : ℕ) (old new : Ground) : Type 0 where
  pub joined : (b u : ℕ) → plug_at new b u ≡ plug_at old b u
  pub losing : (b u : ℕ) → lost_at new b u ≡ cond (is_end a w) (at2 a w (min (lost_at old a w + count) (2 ^ 32 - 1)) (lost_at old)) (lost_at old) b u
  pub counts : Counts (laid_of old) (drawn_of old) new

-- what becomes of a thing where this is across and so many are to be lost
abbrev pub Carries : Option Plug → ℕ → Carried → Type 0
Carries None k c = c ≡ Nowhere
Carries (Some p) k (To q) = (plug_of q ≡ p) × (k ≡ 0)
Carries (Some p) k (Lost q) = (plug_of q ≡ p) × (0 < k)
Carries (Some p) k Nowhere = ⊥

-- one thing went out there
pub record WentOut (a w : ℕ) (old new : Ground) : Type 0 where
  pub joined : (b u : ℕ) → plug_at new b u ≡ plug_at old b u
  pub losing : (b u : ℕ) → lost_at new b u ≡ cond (is_some (plug_at old a w)) (at2 a w (lost_at old a w - 1) (lost_at old)) (lost_at old) b u
  pub counts : Counts (laid_of old) (drawn_of old) new
