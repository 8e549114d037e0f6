use Rattle.std.specs.List.{flat_map}
use Rattle.node.specs.Giving.{Added, note_of}
use Rattle.node.specs.Hearing.{notes_for}
use Rattle.node.specs.State.{whole_of}
use Rattle.node.proofs.state.Node.note_words.Given as goal

abbrev pub invariant-loop-k : goal.invariant-loop-k
invariant-loop-k l = Added l.k (flat_map (note_of (whole_of l.self)) (notes_for l.outcomes l.fn.words.items l.tags (whole_of l.self) l.k)) l.initial.out l.out
