-- How a command is written as a line, and what its numbers can be. Assumes nothing.
use Rattle.std.specs.Prelude.{◌≡◌, ℕ, ◌^◌, ◌<◌, ◌≤◌, List, [], ◌∷◌, ◌++◌, codes, decimal, ◌≢◌}
use Rattle.script.specs.declared.command.Command.{Command}
use Rattle.script.specs.declared.command.Command.TheVariants.{Boxes, Road, Fall, Lose, Tick, Send}

-- words with one blank between two
abbrev pub spaced : List ℕ → List (List ℕ) → List ℕ
spaced word [] = word
spaced word (next ∷ words) = word ++ (32 ∷ spaced next words)

-- the line that asks for a command: its word and its numbers, without zeros in front
abbrev pub line_of : Command → List ℕ
line_of (Boxes n) = spaced (codes "boxes") (decimal n ∷ [])
line_of (Road a e cost back) = spaced (codes "road") (decimal a ∷ (decimal e ∷ (decimal cost ∷ (decimal back ∷ []))))
line_of (Fall a) = spaced (codes "fall") (decimal a ∷ [])
line_of (Lose a e n) = spaced (codes "lose") (decimal a ∷ (decimal e ∷ (decimal n ∷ [])))
line_of (Tick n) = spaced (codes "tick") (decimal n ∷ [])
line_of (Send a e) = spaced (codes "send") (decimal a ∷ (decimal e ∷ []))

-- what the numbers of a command can be: up to 64 boxes, numbered from 0; a wire joins two of them, and costs both ways or neither
abbrev pub CanBe : Command → Type 0
CanBe (Boxes n) = (1 ≤ n) × (n ≤ 64)
CanBe (Road a e cost back) = (a ≤ 63) × (e ≤ 63) × (a ≢ e) × (cost ≤ 65535) × (back ≤ 65535) × (cost ≡ 0 → back ≡ 0) × (back ≡ 0 → cost ≡ 0)
CanBe (Fall a) = a ≤ 63
CanBe (Lose a e n) = (a ≤ 63) × (e ≤ 63) × (n < 2 ^ 32)
CanBe (Tick n) = n < 2 ^ 32
CanBe (Send a e) = (a ≤ 63) × (e ≤ 63)
