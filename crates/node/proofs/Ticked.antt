-- What a tick gives, put together.
use Rattle.std.proofs.Common.{◌≡◌, ℕ, Bool, cond, List, [], ◌++◌, sym, ap, ◌∙◌, ap₂, append_assoc}
use Rattle.std.specs.List.{flat_map}
use Rattle.linkmodel.specs.Station.{Out, Station as Whole, tick_out}
use Rattle.node.specs.Book.{Said}
use Rattle.node.specs.Giving.{note_of, own_item, tick_gives}
use Rattle.node.specs.Wires.{out_bytes}
use Rattle.node.proofs.Steps.{joined_append}

pub tick_given : (before noted greeted told : List ℕ) (hs ts : List Out) (said spoken : Bool) (s r : Whole) → before ≡ [] → noted ≡ before ++ cond said (note_of s (Said (own_item s))) [] →
    greeted ≡ noted ++ flat_map out_bytes hs → told ≡ greeted ++ flat_map out_bytes ts → hs ++ ts ≡ tick_out s → said ≡ spoken → s ≡ r → told ≡ tick_gives spoken r
tick_given before noted greeted told hs ts said spoken s r e0 e1 e2 e3 out same is =
    e3
    ∙ (ap (λ z. z ++ flat_map out_bytes ts) (e2 ∙ ap (λ z. z ++ flat_map out_bytes hs) (e1 ∙ ap (λ z. z ++ cond said (note_of s (Said (own_item s))) []) e0))
    ∙ (append_assoc (cond said (note_of s (Said (own_item s))) []) (flat_map out_bytes hs) (flat_map out_bytes ts)
    ∙ (ap (λ z. cond said (note_of s (Said (own_item s))) [] ++ z) (sym (joined_append out_bytes hs ts) ∙ ap (λ z. flat_map out_bytes z) out)
    ∙ ap₂ (λ (b : Bool) (x : Whole). tick_gives b x) same is)))
