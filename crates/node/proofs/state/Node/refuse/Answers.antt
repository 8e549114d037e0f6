use Rattle.std.proofs.Common.{◌++◌, Ok, sym, ap, ◌∙◌, arith}
use Rattle.packets.specs.Errors.{error_of}
use Rattle.station.specs.State.{station_of}
use Rattle.station.specs.declared.state.Station.{Station}
use Rattle.node.specs.Book.{Refused}
use Rattle.node.specs.Giving.{note_of}
use Rattle.node.specs.Passing.{Answered, error_parcel}
use Rattle.node.specs.Refusals.{number_of}
use Rattle.node.specs.State.{whole_of}
use Rattle.node.proofs.Passed.{refused_lem}
use Rattle.node.proofs.Steps.{added_more}
use Rattle.node.proofs.state.Node.refuse.Goals as goal

pub returns-in-Ok : goal.returns-in-Ok
returns-in-Ok c =
    let l = refused_lem c.args.refusal c.in-Some.trouble (whole_of c.args.self.now) c.args.self.now.quota c.error_to.new.self.quota c.args.packet.now (Ok c.in-Ok.port) c.in-Some.ensures c.in-Ok.ensures.is in
    record {
      gives = added_more _ _ c.note_refused-in-Ok.ensures c.give_error.ensures (omega arith)
          (ap (λ (x : Station). note_of (station_of x) (Refused (number_of c.args.refusal)) ++ error_parcel c.in-Ok.port (error_of (station_of x).links.me c.in-Some.trouble c.args.packet.now)) c.in-Ok.ensures.stays
          ∙ ap (λ (a : Answered). a.gives) (sym l));
      errors = ap (λ (a : Answered). a.errors) (sym l);
      stays = c.in-Ok.ensures.stays;
    }
