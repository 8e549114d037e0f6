-- A frame that comes over a wire that is still there is taken by whose it is.
use Rattle.std.proofs.Common.{◌≡◌, ℕ, ◌≤◌, ◌&&◌, T, eqb, leb, List, ◌∷◌, length, Some, Option, sym, subst, le-leb}
use Rattle.model.specs.Flood.{row}
use Rattle.model.proofs.Tests.{cond-true}
use Rattle.linkmodel.proofs.Bools.{and_both}
use Rattle.linkmodel.proofs.Wires.{row_at}
use Rattle.linkmodel.specs.Station.{Station, Bundle, Seens, Frame, Tells, Shows, teller, heard_words, heard_seens, answers}
use Rattle.linkmodel.specs.Calls.{none_stuck, all_fresh}
use Rattle.netmodel.specs.Net.{Sent, Net, Move, Arrives, counts_at, counts_sent, counts_frame, counts_words, becomes, meets_words, meets_seens, meets, sent_nth, is_there, comes, all_small, move, net}
use Rattle.netmodel.specs.Windows.{Reaches}

-- box e is s then
became : (Q : Station → Type 0) (e : ℕ) (s : Station) (x : Net) → Q s → Q (row e s x.at e)
became Q e s x q = subst Q (sym (row_at e s x.at)) q

met_words : (Q : Station → Type 0) (x : Net) (e w a : ℕ) (p : Bundle) (ts : List ℕ) → teller w (x.at e).links ≡ Some a → length p.items ≤ length ts → Q (heard_words a p ts (x.at e)) → Q ((meets e w (Tells p) ts x).at e)
met_words Q x e w a p ts k l q =
    subst (λ (o : Option ℕ). Q ((meets_words e o p ts x).at e)) (sym k)
    (subst (λ (y : Net). Q (y.at e)) (sym (cond-true (leb (length p.items) (length ts)) (becomes e (heard_words a p ts (x.at e)) (answers a p (heard_words a p ts (x.at e))) ts x) x (le-leb (length p.items) (length ts) l)))
    (became Q e (heard_words a p ts (x.at e)) x q))

met_seens : (Q : Station → Type 0) (x : Net) (e w a : ℕ) (p : Seens) (ts : List ℕ) → teller w (x.at e).links ≡ Some a → Q (heard_seens a p (x.at e)) → Q ((meets e w (Shows p) ts x).at e)
met_seens Q x e w a p ts k q = subst (λ (o : Option ℕ). Q ((meets_seens e o p x).at e)) (sym k) (became Q e (heard_seens a p (x.at e)) x q)

-- a frame that reaches e is met there
reached : (Q : Net → Type 0) (n : ℕ) (x : Net) (k : ℕ) (ts : List ℕ) (a e : ℕ) (f : Frame) (r : Reaches x k ts a e f) → Q (meets e r.sent.over.on f ts x) → Q (move n (Arrives k ts) x)
reached Q n x k ts a e f r q =
    subst Q (sym (cond-true (all_small ts && all_fresh ts x.tags) (comes (sent_nth k x.sent) ts x) x (and_both (all_small ts) (all_fresh ts x.tags) r.small r.fresh)))
    (subst (λ (o : Option Sent). Q (comes o ts x)) (sym r.is)
    (subst Q (sym (cond-true (is_there (x.joined r.sent.by r.sent.on) r.sent.over) (meets r.sent.over.at r.sent.over.on r.sent.frame ts x) x r.there))
    (subst (λ (g : Frame). Q (meets r.sent.over.at r.sent.over.on g ts x)) (sym r.says) (subst (λ (b : ℕ). Q (meets b r.sent.over.on f ts x)) (sym r.to) q))))

-- after words of a came
pub words_came : (Q : Station → Type 0) (n : ℕ) (first : ℕ → ℕ) (ms : List Move) (k : ℕ) (ts : List ℕ) (a e : ℕ) (p : Bundle) → Reaches (net n first ms) k ts a e (Tells p) → length p.items ≤ length ts →
    Q (heard_words a p ts ((net n first ms).at e)) → Q ((net n first (Arrives k ts ∷ ms)).at e)
unfolding net
words_came Q n first ms k ts a e p r l q =
    reached (λ (y : Net). Q (y.at e)) n (net n first ms) k ts a e (Tells p) r (met_words Q (net n first ms) e r.sent.over.on a p ts r.known l q)

-- and after seens of a came
pub seens_came : (Q : Station → Type 0) (n : ℕ) (first : ℕ → ℕ) (ms : List Move) (k : ℕ) (ts : List ℕ) (a e : ℕ) (p : Seens) → Reaches (net n first ms) k ts a e (Shows p) →
    Q (heard_seens a p ((net n first ms).at e)) → Q ((net n first (Arrives k ts ∷ ms)).at e)
unfolding net
seens_came Q n first ms k ts a e p r q =
    reached (λ (y : Net). Q (y.at e)) n (net n first ms) k ts a e (Shows p) r (met_seens Q (net n first ms) e r.sent.over.on a p ts r.known q)

-- where such words count, none of them is stuck
pub words_count : (x : Net) (k : ℕ) (ts : List ℕ) (a e : ℕ) (p : Bundle) → Reaches x k ts a e (Tells p) → T (counts_at (Arrives k ts) x) → T (none_stuck (eqb p.drawn ((x.at e).links.last a)) a p.items ts (x.at e).box)
words_count x k ts a e p r h =
    let u : T (counts_sent (Some r.sent) ts x) = subst (λ (o : Option Sent). T (counts_sent o ts x)) r.is h in
    let v : T (counts_frame r.sent.over.on (Tells p) ts (x.at r.sent.over.at)) = subst (λ (g : Frame). T (counts_frame r.sent.over.on g ts (x.at r.sent.over.at))) r.says u in
    let w : T (counts_frame r.sent.over.on (Tells p) ts (x.at e)) = subst (λ (b : ℕ). T (counts_frame r.sent.over.on (Tells p) ts (x.at b))) r.to v in
    subst (λ (o : Option ℕ). T (counts_words o p ts (x.at e))) r.known w
