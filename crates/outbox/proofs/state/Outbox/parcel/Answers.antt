use Rattle.std.proofs.Common.{◌≡◌, ◌+◌, ◌-◌, ◌<◌, ◌≤◌, length, take, drop, ap, ◌∙◌, arith, rules}
use Rattle.outbox.proofs.Taking.{cut_off, long_at, taken}
use Rattle.outbox.proofs.state.Outbox.parcel.Goals as goal
use Rattle.outbox.proofs.state.Outbox.parcel.Goals.{then-at-self-via-then-at-self, then-at-self-via-else-at-self+then-self-at-lt3}

pub returns-then-at-self : goal.returns-then-at-self
returns-then-at-self c =
    let l : length c.args.self.now.bytes ≡ 65536 = search rules in
    let u : c.args.self.now.used ≤ 65536 = search rules in
    let h : c.args.self.now.used < c.args.at + 3 =
    elim c.then-at-self.branch [ then-at-self-via-then-at-self w ↦ omega (arith, w.if-at-self.true) | then-at-self-via-else-at-self+then-self-at-lt3 w ↦ omega (arith, w.if-self-at-lt3.true) ] in
    cut_off c.args.self.now.bytes c.args.at c.args.self.now.used (omega arith) (omega (arith, h))

pub returns-then-self-at : goal.returns-then-self-at
returns-then-self-at c =
    let l : length c.args.self.now.bytes ≡ 65536 = search rules in
    let u : c.args.self.now.used ≤ 65536 = search rules in
    let n : c.from-long.result ≡ long_at c.args.self.now.bytes c.args.at = c.from-long.ensures ∙ c.from_be_bytes.ensures in
    cut_off c.args.self.now.bytes c.args.at c.args.self.now.used (omega arith) (omega (arith, c.if-self-at.true, n))

pub returns : goal.returns
returns c =
    let l : length c.args.self.now.bytes ≡ 65536 = search rules in
    let u : c.args.self.now.used ≤ 65536 = search rules in
    let n : c.from-long.result ≡ long_at c.args.self.now.bytes c.args.at = c.from-long.ensures ∙ c.from_be_bytes.ensures in
    let m : c.args.at + 3 + c.from-long.result - (c.args.at + 3) ≡ long_at c.args.self.now.bytes c.args.at = omega (arith, n) in
    taken c.args.self.now.bytes c.args.at c.args.self.now.used _ (omega arith) (omega (arith, n, c.if-at-self.false, c.if-self-at-lt3.false, c.if-self-at.false))
    (search rules) (search rules) c.from.ensures
    (ap (λ z. take z (drop (c.args.at + 3) c.args.self.now.bytes)) m)
    (omega (arith, n))
