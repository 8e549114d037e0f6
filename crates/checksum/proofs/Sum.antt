-- A frame by its last four bytes and those before.
-- Assumes nothing.
use Rattle.std.proofs.Common.{◌≡◌, ℕ, ◌+◌, ◌-◌, ◌<◌, Bool, List, ◌++◌, length, take, drop, Decides, sym, ap, ap₂, ◌∙◌, arith, length-append, take-append-drop}
use Rattle.std.proofs.lemmas.Bool.Decides.{Decides-like}
use Rattle.std.proofs.lemmas.List.{take_at, drop_at}
use Rattle.checksum.specs.Crc.{crc_of, low_first, sum_bytes, SumFits}
use Rattle.checksum.specs.Refused.{body_of}

-- a sum has four bytes
fits_length : (f body : List ℕ) → f ≡ body ++ sum_bytes body → length f ≡ length body + 4
unfolding sum_bytes
fits_length f body e = ap length e ∙ length-append body (sum_bytes body)

pub short_unfit : (f : List ℕ) → length f < 4 → SumFits f → ⊥
short_unfit f h (body, e) = omega (arith, fits_length f body e)

pub fits_from : (f : List ℕ) → drop (length f - 4) f ≡ sum_bytes (body_of f) → SumFits f
fits_from f e = (body_of f, sym (take-append-drop (length f - 4) f) ∙ ap (λ (s : List ℕ). body_of f ++ s) e)

pub fits_to : (f : List ℕ) → SumFits f → drop (length f - 4) f ≡ sum_bytes (body_of f)
fits_to f (body, e) =
    let l : length body ≡ length f - 4 = omega (arith, fits_length f body e) in
    ap (drop (length f - 4)) e ∙ drop_at body (sum_bytes body) (length f - 4) l
    ∙ ap sum_bytes (sym (ap (take (length f - 4)) e ∙ take_at body (sum_bytes body) (length f - 4) l))

-- the test of the last four against the sum of the body
pub fits_decides : (f body sum : List ℕ) (s : ℕ) (last : List ℕ) (r : Bool)
    → body ≡ body_of f → sum ≡ drop (length f - 4) f → s ≡ crc_of body → last ≡ low_first s → Decides r (sum ≡ last)
    → Decides r (SumFits f)
unfolding sum_bytes
fits_decides f body sum s last r hb hs hc hl d =
    Decides-like r
    (λ e. fits_from f (sym hs ∙ e ∙ is))
    (λ fits. hs ∙ fits_to f fits ∙ sym is) d
  where
    is : last ≡ sum_bytes (body_of f)
    is = hl ∙ ap low_first (hc ∙ ap crc_of hb)

-- what is left where the sum was written
pub written : (f front after : List ℕ) (s : ℕ) → front ≡ body_of f → s ≡ crc_of front → after ≡ low_first s → front ++ after ≡ body_of f ++ sum_bytes (body_of f)
unfolding sum_bytes
written f front after s e c h = ap₂ (λ x y. x ++ y) e (h ∙ ap low_first (c ∙ ap crc_of e))
