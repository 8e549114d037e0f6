-- One event of the world taken apart: whatever holds of each thing that an event can do holds of the event.
use Rattle.std.proofs.Common.{◌≡◌, ℕ, zero, suc, true, cond, not, ◌&&◌, eqb, ltb, List, [], ◌∷◌}
use Rattle.model.specs.Words.{Entry, Word, World, Ev, Road, Says, Sends, Comes, Falls, newer, unsaid, is_in, at2, own_entry, with_knows, says, told, comes, comes_nth, sends, step}
use Rattle.model.proofs.Tests.{of_cond}

-- the world with these costs
abbrev pub with_real : (ℕ → ℕ → ℕ) → World → World
with_real r w = record { n = w.n; real = r; knows = w.knows; flight = w.flight; drawn = w.drawn }

-- a word that comes to a router changes at most one thing that this router knows
pub of_comes : (Q : World → Type 0) (x : Word) (t : ℕ) (w : World) → Q w → ((i : ℕ) (y : Entry) (ts : List ℕ) → Q (with_knows (at2 x.to i y w.knows) ts w)) → Q (comes x t w)
of_comes Q x t w q f =
    let own : Entry = own_entry x.to x.entry.number t w in
    let said : World = with_knows (at2 x.to x.to own w.knows) (t ∷ []) w in
    let took : World = with_knows (at2 x.to x.about x.entry w.knows) [] w in
    of_cond Q (ltb 0 (w.real x.to x.from) && not (is_in t w.drawn)) (told x t w) w
    (λ _. of_cond Q (newer x.entry (w.knows x.to x.about)) (cond (eqb x.to x.about) said took) w
    (λ _. of_cond Q (eqb x.to x.about) said took (λ _. f x.to own (t ∷ [])) (λ _. f x.about x.entry []))
    (λ _. q))
    (λ _. q)

pub of_nth : (Q : World → Type 0) (i t : ℕ) (xs : List Word) (w : World) → Q w → ((k : ℕ → ℕ → Entry) (ts : List ℕ) → Q (with_knows k ts w)) → Q (comes_nth i t xs w)
unfolding comes_nth
of_nth Q i t [] w q f = q
of_nth Q zero t (x ∷ xs) w q f = of_comes Q x t w q (λ j y ts. f (at2 x.to j y w.knows) ts)
of_nth Q (suc i) t (x ∷ xs) w q f = of_nth Q i t xs w q f

-- an event changes nothing, a road, what is known, or what is on its way
pub of_step : (Q : World → Type 0) (w : World) → Q w →
    ((a e c : ℕ) → (ltb a w.n && (ltb e w.n && not (eqb a e))) ≡ true → Q (with_real (at2 a e c w.real) w)) →
    ((a e i : ℕ) → (ltb a w.n && (ltb e w.n && (ltb i w.n && ltb 0 (w.real a e)))) ≡ true → Q (sends a e i w)) →
    ((k : ℕ → ℕ → Entry) (ts : List ℕ) → Q (with_knows k ts w)) → (v : Ev) → Q (step v w)
of_step Q w q road send know (Road a e c) = of_cond Q (ltb a w.n && (ltb e w.n && not (eqb a e))) (with_real (at2 a e c w.real) w) w (road a e c) (λ _. q)
of_step Q w q road send know (Says a t) = of_cond Q (ltb a w.n && not (is_in t w.drawn)) (says a t w) w (λ _. know (at2 a a (own_entry a (w.knows a a).number t w) w.knows) (t ∷ [])) (λ _. q)
of_step Q w q road send know (Sends a e i) = of_cond Q (ltb a w.n && (ltb e w.n && (ltb i w.n && ltb 0 (w.real a e)))) (sends a e i w) w (send a e i) (λ _. q)
of_step Q w q road send know (Comes i t) = of_nth Q i t w.flight w q know
of_step Q w q road send know (Falls a) = of_cond Q (ltb a w.n) (with_knows (λ p j. cond (eqb p a) unsaid (w.knows p j)) [] w) w (λ _. know (λ p j. cond (eqb p a) unsaid (w.knows p j)) []) (λ _. q)
