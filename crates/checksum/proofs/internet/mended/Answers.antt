-- The laws of mending, at the value that is returned.
use Rattle.std.proofs.Common.{◌≡◌, ℕ, ◌-◌, ◌≤◌, sym, ap, ◌∙◌, subst, arith}
use Rattle.checksum.specs.Internet.{ones_add, mended_sum, MendFits, MendAnew, MendOnes, TtlFalls}
use Rattle.checksum.proofs.Mend.{mend_fits_lem, mend_anew_lem, mend_ones_lem, ttl_falls_lem}
use Rattle.checksum.proofs.internet.mended.Goals as goal

record All (sum old new r : ℕ) : Type 0 where
  value : r ≡ mended_sum sum old new
  fits : MendFits sum old new r
  anew : MendAnew sum old new r
  ttl : TtlFalls sum old new r
  ones : MendOnes sum old new r

all : (sum old new r : ℕ) → sum ≤ 65535 → old ≤ 65535 → new ≤ 65535 → r ≡ mended_sum sum old new → All sum old new r
all sum old new r hs ho h e =
    subst (λ (x : ℕ). All sum old new x) (sym e)
    (record {
      value = λ i. mended_sum sum old new;
      fits = mend_fits_lem sum old new h;
      anew = mend_anew_lem sum old new h;
      ttl = ttl_falls_lem sum old new h;
      ones = mend_ones_lem sum old new hs ho h;
    })

pub returns : goal.returns
returns c =
    let e : 65535 - c.ones_add-2.result ≡ mended_sum c.args.sum c.args.old c.args.new
    = ap (λ (x : ℕ). 65535 - x) (c.ones_add-2.ensures ∙ ap (λ (x : ℕ). ones_add x c.args.new) c.ones_add.ensures) in
    let a = all c.args.sum c.args.old c.args.new (65535 - c.ones_add-2.result) (omega arith) (omega arith) (omega arith) e in
    record { value = a.value; fits = a.fits; anew = a.anew; ttl = a.ttl; ones = a.ones }
