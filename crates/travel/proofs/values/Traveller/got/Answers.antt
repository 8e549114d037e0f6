use Rattle.std.proofs.Common.{◌≡◌, ℕ, Some, None, Option, length, get_or, slice_set, sym, ap, subst, refl}
use Rattle.std.proofs.lemmas.Option.{slice_get_read}
use Rattle.node.specs.declared.state.Node.{Node}
use Rattle.outbox.specs.Parcels.{contents}
use Rattle.travel.specs.Steps.{Got}
use Rattle.travel.proofs.values.Traveller.got.Goals as goal

pub returns-in-None : goal.returns-in-None
returns-in-None c =
    let i = c.index-boxes-from in
    let a = c.args.self.now.at in
    let bs = c.args.boxes.now in
    record {
      before = i.result;
      after = c.house.new.self;
      was = slice_get_read bs (length bs) a i.result refl c.requires (subst (λ (k : ℕ). i.result ≡ get_or bs k i.result) c.from.ensures i.is);
      now = ap (λ (k : ℕ). slice_set bs k c.house.new.self) c.from.ensures;
      got = subst (λ (o : Option ℕ). Got o c.args.frame.now i.result c.house.new.self (contents c.house.new.out) c.house.new.frame c.house.result) (sym c.in-None.is)
          (subst (λ (b : Node). Got None c.args.frame.now b c.house.new.self (contents c.house.new.out) c.house.new.frame c.house.result) (sym i.is) c.house.ensures);
    }

pub returns-in-Some : goal.returns-in-Some
returns-in-Some c =
    let i = c.index-boxes-from in
    let a = c.args.self.now.at in
    let bs = c.args.boxes.now in
    let w = c.in-Some.wire in
    record {
      before = i.result;
      after = c.wire.new.self;
      was = slice_get_read bs (length bs) a i.result refl c.requires (subst (λ (k : ℕ). i.result ≡ get_or bs k i.result) c.from.ensures i.is);
      now = ap (λ (k : ℕ). slice_set bs k c.wire.new.self) c.from.ensures;
      got = subst (λ (o : Option ℕ). Got o c.args.frame.now i.result c.wire.new.self (contents c.wire.new.out) c.wire.new.frame c.wire.result) (sym c.in-Some.is)
          (subst (λ (b : Node). Got (Some w) c.args.frame.now b c.wire.new.self (contents c.wire.new.out) c.wire.new.frame c.wire.result) (sym i.is)
          (record { dropped = c.wire.ensures.dropped; unfit = c.wire.ensures.unfit; read = c.wire.ensures.read }));
    }
