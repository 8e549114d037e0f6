-- That a run of a net on wires leads just to given boxes, wires and numbers, and that just what was given out was then sent. Assumes nothing.
use Rattle.std.specs.Prelude.{◌≡◌, ℕ, ◌<◌, ◌≤◌, true, List, ◌∷◌, ◌++◌, Option}
use Rattle.std.specs.List.{flat_map}
use Rattle.model.specs.Words.{is_in}
use Rattle.linkmodel.specs.Station.{Out, Station as Whole}
use Rattle.netmodel.specs.Net.{Plug, Net, Move, net, Start, sent_by}
use Rattle.node.specs.Book.{Note, book_bytes}
use Rattle.node.specs.Wires.{out_bytes}

-- the first n boxes of a net are these, its wires are joined so, k of them were laid, and no tag or number was drawn above d
pub record LeadsTo (n : ℕ) (x : Net) (at : ℕ → Whole) (wired : ℕ → ℕ → Option Plug) (k d : ℕ) : Type 0 where
  pub boxes : (a : ℕ) → a < n → at a ≡ x.at a
  pub joined : (a w : ℕ) → wired a w ≡ x.joined a w
  pub laid : k ≡ x.laid
  pub tags : (t : ℕ) → is_in t x.tags ≡ true → t ≤ d
  pub drawn : (t : ℕ) → is_in t x.drawn ≡ true → t ≤ d

-- the run ms of n boxes that were switched on with these first numbers leads there
pub record PlaysAt (n : ℕ) (first : ℕ → ℕ) (ms : List Move) (at : ℕ → Whole) (wired : ℕ → ℕ → Option Plug) (k d : ℕ) : Type 0 where
  pub starts : Start n first
  pub now : LeadsTo n (net n first ms) at wired k d

-- box a gave out lines for its journal, and then frames; just these were sent at move m after ms, on the wires that are joined
pub record Posts (n : ℕ) (first : ℕ → ℕ) (m : Move) (ms : List Move) (a : ℕ) (given : List ℕ) : Type 0 where
  pub tick : ℕ
  pub notes : List Note
  pub outs : List Out
  pub gives : given ≡ flat_map (book_bytes tick) notes ++ flat_map out_bytes outs
  pub sent : (net n first (m ∷ ms)).sent ≡ sent_by a ((net n first ms).joined a) outs ++ (net n first ms).sent
