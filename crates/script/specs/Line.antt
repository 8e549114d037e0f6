-- How a line of a script is read, byte by byte. Assumes nothing.
use Rattle.std.specs.Prelude.{◌≡◌, ℕ, zero, suc, ◌+◌, ◌-◌, ◌*◌, Bool, cond, not, ◌&&◌, ◌||◌, List, [], ◌∷◌, Some, None, Ok, Err, codes, Option, Result, ◌==◌, nat_le}
use Rattle.std.specs.Str.{bytes_eq}
use Rattle.script.specs.declared.command.Command.{Command}
use Rattle.script.specs.declared.command.Command.TheVariants.{Boxes, Road, Fall, Lose, Tick, Send}
use Rattle.script.specs.declared.command.Fault.{Fault}
use Rattle.script.specs.declared.command.Fault.TheVariants.{Form}

-- a line of another form is fault 1
abbrev pub number_of_fault : Fault → ℕ
number_of_fault Form = 1

-- the part before the first blank
unfoldable pub before : List ℕ → List ℕ
before [] = []
before (b ∷ bs) = cond (b == 32) [] (b ∷ before bs)

-- the part behind it
unfoldable pub behind : List ℕ → List ℕ
behind [] = []
behind (b ∷ bs) = cond (b == 32) bs (behind bs)

-- the part behind so many blanks, up to the next one
unfoldable pub part_of : ℕ → List ℕ → List ℕ
part_of zero bs = before bs
part_of (suc k) bs = part_of k (behind bs)

-- how many parts there are
unfoldable pub parts_of : List ℕ → ℕ
parts_of [] = 1
parts_of (b ∷ bs) = parts_of bs + cond (b == 32) 1 0

abbrev pub is_digit : ℕ → Bool
is_digit b = nat_le 48 b && nat_le b 57

-- the number that digits write behind a number, none if one of them is no digit
unfoldable pub digits_of : ℕ → List ℕ → Option ℕ
digits_of n [] = Some n
digits_of n (b ∷ bs) = cond (is_digit b) (digits_of (n * 10 + (b - 48)) bs) None

abbrev pub at_most : ℕ → Option ℕ → Option ℕ
at_most most None = None
at_most most (Some n) = cond (nat_le n most) (Some n) None

-- one or more digits, whatever zeros stand first, that write a number up to a limit
abbrev pub number_of : ℕ → List ℕ → Option ℕ
number_of most [] = None
number_of most (b ∷ bs) = at_most most (digits_of 0 (b ∷ bs))

-- a number, or the refusal where there is none
abbrev pub Gives : Option ℕ → Result ℕ Fault → Type 0
Gives o (Ok n) = o ≡ Some n
Gives o (Err e) = (o ≡ None) × (e ≡ Form)

-- go on with the number, or refuse
abbrev pub given : Option ℕ → (ℕ → Result Command Fault) → Result Command Fault
given None go = Err Form
given (Some n) go = go n

-- boxes N, 1 to 64
abbrev pub boxes_in : List ℕ → Result Command Fault
boxes_in line = given (number_of 64 (part_of 1 line)) (λ n. cond (n == 0) (Err Form) (Ok (Boxes n)))

-- road A E COST BACK: between two boxes, and both costs are 0 or neither is
abbrev pub road_in : List ℕ → Result Command Fault
road_in line =
    given (number_of 63 (part_of 1 line)) (λ a. given (number_of 63 (part_of 2 line)) (λ e. given (number_of 65535 (part_of 3 line)) (λ cost. given (number_of 65535 (part_of 4 line)) (λ back.
    cond (a == e || (not (cost == 0) && back == 0) || (cost == 0 && not (back == 0))) (Err Form) (Ok (Road a e cost back))))))

-- fall A
abbrev pub fall_in : List ℕ → Result Command Fault
fall_in line = given (number_of 63 (part_of 1 line)) (λ a. Ok (Fall a))

-- lose A E N
abbrev pub lose_in : List ℕ → Result Command Fault
lose_in line = given (number_of 63 (part_of 1 line)) (λ a. given (number_of 63 (part_of 2 line)) (λ e. given (number_of 4294967295 (part_of 3 line)) (λ n. Ok (Lose a e n))))

-- tick N
abbrev pub tick_in : List ℕ → Result Command Fault
tick_in line = given (number_of 4294967295 (part_of 1 line)) (λ n. Ok (Tick n))

-- send A E
abbrev pub send_in : List ℕ → Result Command Fault
send_in line = given (number_of 63 (part_of 1 line)) (λ a. given (number_of 63 (part_of 2 line)) (λ e. Ok (Send a e)))

-- the line begins with this word and has so many parts, with one blank between two
abbrev pub has_form : List ℕ → List ℕ → ℕ → Bool
has_form line word count = bytes_eq (part_of 0 line) word && parts_of line == count

-- what a line asks for
abbrev pub command_in : List ℕ → Result Command Fault
command_in line =
    cond (has_form line (codes "boxes") 2) (boxes_in line)
    (cond (has_form line (codes "road") 5) (road_in line)
    (cond (has_form line (codes "fall") 2) (fall_in line)
    (cond (has_form line (codes "lose") 4) (lose_in line)
    (cond (has_form line (codes "tick") 2) (tick_in line)
    (cond (has_form line (codes "send") 3) (send_in line) (Err Form))))))
