-- The last four bytes are compared with the sum of the body.
use Rattle.std.proofs.Common.{◌∙◌}
use Rattle.std.proofs.lemmas.Slice.Eq.{slice_eq-Decides}
use Rattle.std.proofs.lemmas.Bool.{false≢true}
use Rattle.checksum.proofs.Frame.{one_byte_changed_lem, run_caught_lem}
use Rattle.checksum.proofs.Sum.{short_unfit, fits_decides}
use Rattle.checksum.proofs.crc.sum_fits.Goals as goal
use Rattle.std.proofs.lemmas.Bool.Decides.{Decides-eqb}

pub returns-then-frame-lt4 : goal.returns-then-frame-lt4
returns-then-frame-lt4 c =
    record {
      fits = (λ e. absurd (false≢true e), λ h. absurd (short_unfit c.args.frame.now c.if-frame-lt4.true h));
      one_byte = one_byte_changed_lem;
      run = run_caught_lem;
    }

pub returns : goal.returns
returns c =
    record {
      fits =
          fits_decides c.args.frame.now c.split_at.result.0.now c.split_at.result.1.now c.crc.result c.as_slice.result.now c.eq.result
          c.split_at.ensures.front c.split_at.ensures.back c.crc.ensures.value (c.as_slice.ensures ∙ c.to_le_bytes.ensures)
          (slice_eq-Decides Decides-eqb c.split_at.result.1.now c.as_slice.result.now c.eq.result c.eq.ensures);
      one_byte = one_byte_changed_lem;
      run = run_caught_lem;
    }
