-- How a net that is left alone comes to rest: its run is cut into windows, of which all but as many as there can be news end at rest. Each promise is a type; a proof of the type is the theorem. Assumes nothing.
use Rattle.std.specs.Prelude.{◌≡◌, ℕ, false, ◌+◌, ◌*◌, ◌<◌, ◌≤◌, true, cond, T, ◌⊎◌, List, [], ◌∷◌, ◌++◌, length, Some}
use Rattle.model.specs.Spread.{joined}
use Rattle.model.specs.Promise.{Even}
use Rattle.model.specs.Settling.{at_rest}
use Rattle.model.specs.Box.{tells}
use Rattle.linkmodel.specs.Station.{Bundle, Frame, Tells, Shows, items_of, seens_for, teller}
use Rattle.linkmodel.specs.Telling.{AllShown}
use Rattle.linkmodel.specs.Calls.{all_fresh}
use Rattle.netmodel.specs.Net.{Sent, Net, Move, Ticks, Arrives, net, Start, sent_nth, is_there, is_fresh, all_small, all_counted}
use Rattle.netmodel.specs.Standing.{AllStays, on_way, world_in}

-- of all frames sent this one, which says f, is of a, over a wire to e that is still there and on which e knows a; and there are new tags for the words in it
pub record Reaches (x : Net) (which : ℕ) (tags : List ℕ) (a e : ℕ) (f : Frame) : Type 0 where
  pub sent : Sent
  pub is : sent_nth which x.sent ≡ Some sent
  pub by : sent.by ≡ a
  pub to : sent.over.at ≡ e
  pub says : sent.frame ≡ f
  pub there : is_there (x.joined sent.by sent.on) sent.over ≡ true
  pub known : teller sent.over.on (x.at e).links ≡ Some a
  pub small : all_small tags ≡ true
  pub fresh : all_fresh tags x.tags ≡ true

-- in rs, after ms, a frame of a that says f comes to e
pub record Brings (n : ℕ) (first : ℕ → ℕ) (a e : ℕ) (f : Frame) (rs ms : List Move) : Type 0 where
  pub later : List Move
  pub before : List Move
  pub which : ℕ
  pub tags : List ℕ
  pub split : rs ≡ later ++ (Arrives which tags ∷ before)
  pub reaches : Reaches (net n first (before ++ ms)) which tags a e f

-- in rs, after ms: what a has to tell e at some moment comes to e later, with a tag for each word; and the seens that e then answers, if there are any, come to a later still
pub record RoundTrip (n : ℕ) (first : ℕ → ℕ) (a e : ℕ) (rs ms : List Move) : Type 0 where
  pub later : List Move
  pub between : List Move
  pub before : List Move
  pub which : ℕ
  pub tags : List ℕ
  pub told : Bundle
  pub answer : ℕ
  pub split : rs ≡ later ++ (Arrives which tags ∷ (between ++ before))
  pub tells_it : told.items ≡ items_of (tells e ((net n first (before ++ ms)).at a).box) ((net n first (before ++ ms)).at a).box
  pub reaches : Reaches (net n first (between ++ (before ++ ms))) which tags a e (Tells told)
  pub enough : length told.items ≤ length tags
  pub returns :
      (seens_for told.items ((net n first (Arrives which tags ∷ (between ++ (before ++ ms)))).at e).box ≡ []) ⊎
      Brings n first e a (Shows (record { drawn = ((net n first (Arrives which tags ∷ (between ++ (before ++ ms)))).at e).links.drawn; items = seens_for told.items ((net n first (Arrives which tags ∷ (between ++ (before ++ ms)))).at e).box }))
      later (Arrives which tags ∷ (between ++ (before ++ ms)))

-- in rs, after ms, the box ticks
pub record TicksIn (n : ℕ) (first : ℕ → ℕ) (a : ℕ) (rs ms : List Move) : Type 0 where
  pub later : List Move
  pub before : List Move
  pub tag : ℕ
  pub split : rs ≡ later ++ (Ticks a tag ∷ before)
  pub fresh : is_fresh tag (net n first (before ++ ms)).tags ≡ true

-- one round: along each road that both its ends hold open, in each direction, all is already shown or there is a round trip
abbrev pub Round : ℕ → (ℕ → ℕ) → List Move → List Move → Type 0
Round n first rs ms =
    (a e : ℕ) → a < n → e < n → 0 < ((net n first ms).at a).box.cost e → 0 < ((net n first ms).at e).box.cost a →
    AllShown e ((net n first ms).at a).box ⊎ RoundTrip n first a e rs ms

unfoldable pub Rounds : ℕ → (ℕ → ℕ) → List (List Move) → List Move → Type 0
Rounds n first [] ms = Unit {0}
Rounds n first (rs ∷ rss) ms = Round n first rs (joined rss ++ ms) × Rounds n first rss ms

-- a window, after ms: as many rounds as there are boxes, in which roads and boxes stay as they are and each box ticks; and who has a road open to a box has heard the number that this has now
pub record Window (n : ℕ) (first : ℕ → ℕ) (rss : List (List Move)) (ms : List Move) : Type 0 where
  pub long : length rss ≡ n
  pub stays : AllStays n first (joined rss) ms
  pub known : (a e : ℕ) → a < n → e < n → 0 < ((net n first ms).at a).box.cost e → ((net n first ms).at a).links.last e ≡ ((net n first ms).at e).links.drawn
  pub ticks : (a : ℕ) → a < n → TicksIn n first a (joined rss) ms
  pub rounds : Rounds n first rss ms

-- all moves of these windows
unfoldable pub moves_of : List (List (List Move)) → List Move
moves_of [] = []
moves_of (w ∷ ws) = joined w ++ moves_of ws

unfoldable pub Windows : ℕ → (ℕ → ℕ) → List (List (List Move)) → List Move → Type 0
Windows n first [] ms = Unit {0}
Windows n first (w ∷ ws) ms = Window n first w (moves_of ws ++ ms) × Windows n first ws ms

-- how many of them don't end at rest
unfoldable pub restless_windows : ℕ → (ℕ → ℕ) → List (List (List Move)) → List Move → ℕ
restless_windows n first [] ms = 0
restless_windows n first (w ∷ ws) ms = restless_windows n first ws ms + cond (at_rest (world_in n (net n first (joined w ++ (moves_of ws ++ ms))))) 0 1

-- how many news there can be: by boxes, and by all words that were ever sent
abbrev pub most_news : ℕ → Net → ℕ
most_news n x = 2 * n * (n * n + length (on_way x.sent))

-- Left alone in a state in which both ends of each road agree, a net comes to rest: of any number of windows one after the other all but as many as there can be news end at rest.
abbrev pub WindowsRest : Type 0
WindowsRest =
    (n : ℕ) (first : ℕ → ℕ) (ms : List Move) (ws : List (List (List Move))) → Start n first → T (all_counted n first (moves_of ws ++ ms) []) →
    Even (world_in n (net n first ms)) → Windows n first ws ms → restless_windows n first ws ms ≤ most_news n (net n first ms)

-- Such a window can be had: of two boxes, in a state that a run leads to, in which both ends of their road agree and which isn't rest, and at the end of the window it is.
pub record CanWindow : Type 0 where
  pub first : ℕ → ℕ
  pub run : List Move
  pub window : List (List Move)
  pub starts : Start 2 first
  pub counted : T (all_counted 2 first (joined window ++ run) [])
  pub even : Even (world_in 2 (net 2 first run))
  pub is : Window 2 first window run
  pub shares : 0 < ((net 2 first run).at 0).box.cost 1
  pub restless : at_rest (world_in 2 (net 2 first run)) ≡ false
  pub rests : at_rest (world_in 2 (net 2 first (joined window ++ run))) ≡ true
