-- What the test of rest says of each run that leads to the boxes.
use Rattle.std.proofs.Common.{◌≡◌, ℕ, ◌≤◌, Bool, true, List, length, sym, ap, ◌∙◌, subst, leb-true}
use Rattle.model.specs.Boxes.{StandsAs}
use Rattle.model.specs.Promise.{Rest}
use Rattle.model.specs.Words.{Ev, world}
use Rattle.linkmodel.specs.Calls.{Joined}
use Rattle.linkmodel.specs.Station.{Station as Whole}
use Rattle.netmodel.specs.Net.{Move, Net, net}
use Rattle.netmodel.specs.Standing.{StandsFor}
use Rattle.netmodel.proofs.Laws.{placed}
use Rattle.netmodel.proofs.Simulated.{few_words, rest_is, simulates}
use Rattle.netmodel.proofs.Windowed.{windows_rest}
use Rattle.node.specs.declared.state.Node.{Node}
use Rattle.ground.specs.declared.state.Ground.{Ground}
use Rattle.net.specs.Nets.{Numbered, world_of}
use Rattle.net.specs.Plays.{Plays, whole_at}
use Rattle.net.specs.Resting.{FewWordsRest, LeftAlone, RestAfter, RestSo}

-- in a run each box's number is its place
pub numbered_in : (ss : List Node) (first : ℕ → ℕ) (ms : List Move) (g : Ground) → Plays first ms ss g → Numbered ss
numbered_in ss first ms g p a l =
    let k = placed (length ss) first ms a p.starts in
    let e = p.now.boxes a l in
    (ap (λ (s : Whole). s.box.n) e ∙ k.count, ap (λ (s : Whole). s.box.me) e ∙ k.number)

-- the run's net, of just these boxes
abbrev as_run : List Node → Net → Net
as_run ss x = record { at = whole_at ss; joined = x.joined; sent = x.sent; tags = x.tags; drawn = x.drawn; laid = x.laid }

-- it stands after the same events
stands_too : (ss : List Node) (first : ℕ → ℕ) (ms : List Move) (g : Ground) (es : List Ev) → Plays first ms ss g → StandsFor (length ss) (net (length ss) first ms) es → StandsFor (length ss) (as_run ss (net (length ss) first ms)) es
stands_too ss first ms g es p s = record {
  joined = λ a l. subst Joined (sym (p.now.boxes a l)) (s.joined a l);
  boxes = λ a l. subst (λ (w : Whole). StandsAs (length ss) a w.box es) (sym (p.now.boxes a l)) (s.boxes a l);
  flight = s.flight;
  tags = s.tags;
}

-- so the answer is whether the world after these is at rest
pub rest_after : (ss : List Node) (b : Bool) → (b ≡ true → Rest (world_of ss)) → (length ss ≤ 64 → Numbered ss → Rest (world_of ss) → b ≡ true) → RestAfter ss b
rest_after ss b f k first ms g es p s =
    let few : length ss ≤ 64 = leb-true (length ss) 64 p.starts.few in
    let r = (rest_is (length ss) (as_run ss (net (length ss) first ms)) es (stands_too ss first ms g es p s)).0 in
    (λ t. r.0 (f t), λ z. k few (numbered_in ss first ms g p) (r.1 z))

-- and there are such events
pub rest_so : (ss : List Node) (b : Bool) → RestAfter ss b → RestSo ss b
rest_so ss b k first ms g p c = go (simulates (length ss) first ms p.starts c)
  where
    go : (es : List Ev) × StandsFor (length ss) (net (length ss) first ms) es → (es : List Ev) × StandsFor (length ss) (net (length ss) first ms) es × (b ≡ true → Rest (world (length ss) es)) × (Rest (world (length ss) es) → b ≡ true)
    go (es, s) = let r = k first ms g es p s in (es, s, r.0, r.1)

-- few words bring rest
pub few_rest : (ss : List Node) → FewWordsRest ss
few_rest ss first ms g p c v = few_words (length ss) first ms p.starts c v

-- and so does time
pub left_rest : (ss : List Node) → LeftAlone ss
left_rest ss first ms g ws p c v h = windows_rest (length ss) first ms ws p.starts c v h
