-- A box that was just switched on stands after nothing.
use Rattle.std.proofs.Common.{[], rules}
use Rattle.router.proofs.Stood.{stands_as_lem, begin_so}
use Rattle.router.proofs.state.Router.begin.Goals as goal

pub returns-then-n-le64 : goal.returns-then-n-le64
returns-then-n-le64 c =
    record { refused = search rules; is = c.blank.ensures; so = stands_as_lem [] c.blank.ensures (begin_so c.args.n c.args.me c.if-me-n.true) }
