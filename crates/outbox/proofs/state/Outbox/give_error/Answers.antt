use Rattle.std.proofs.Common.{◌≡◌, ◌≤◌, ◌∷◌, ◌++◌, length, take, ap, ◌∙◌, arith, length-take, rules}
use Rattle.frames.proofs.Lines.{front_put}
use Rattle.packets.specs.Errors.{error_of}
use Rattle.outbox.specs.Parcels.{contents, parcel_bytes, sealed}
use Rattle.outbox.proofs.InPlace.{error_small}
use Rattle.outbox.proofs.state.Outbox.give_error.Goals as goal

-- there is always room for it
pub returns-in_default : goal.returns-in_default
returns-in_default c = absurd (omega (arith, c.in_default.ensures.wrote.0, error_small c.args.me c.args.trouble c.args.packet.now))

pub slice_bounds-error-end : goal.slice_bounds-error-end
slice_bounds-error-end c =
    let h : c.in-Some.long ≤ 56 = omega (arith, c.in-Some.ensures.wrote.0, error_small c.args.me c.args.trouble c.args.packet.now) in
    search rules

pub slice_bounds-give-end : goal.slice_bounds-give-end
slice_bounds-give-end c =
    let h : c.in-Some.long ≤ 56 = omega (arith, c.in-Some.ensures.wrote.0, error_small c.args.me c.args.trouble c.args.packet.now) in
    let l : length c.write_error.new.out ≡ 56 = search rules in
    simp length-take (omega arith)

pub returns : goal.returns
returns c =
    let whole : take c.in-Some.long c.write_error.new.out ≡ error_of c.args.me c.args.trouble c.args.packet.now =
    front_put c.in-Some.long (error_of c.args.me c.args.trouble c.args.packet.now) _ c.write_error.new.out c.in-Some.ensures.wrote.0 c.in-Some.ensures.wrote.1 in
    record {
      holds = c.give.ensures.holds ∙ ap (λ z. contents c.args.self.now ++ parcel_bytes c.args.wire (sealed (4 ∷ z))) whole;
      used = c.give.ensures.used;
    }
