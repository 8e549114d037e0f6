-- Numbers of words that fit are those of a packet that a frame can hold.
use Rattle.std.proofs.Common.{◌≡◌, ℕ, List, length, refl, ap}
use Rattle.messages.specs.Packets.{Seens}
use Rattle.messages.specs.declared.values.WordId.{WordId}
use Rattle.linkmodel.specs.Station.{Seens as Sights, Sight}
use Rattle.netmodel.specs.Fits.{IsDrawn, OneToFour, SightFits}
use Rattle.station.specs.Packets.{no_id, seens_of, sight_of}
use Rattle.wordframes.specs.Ranges.{IdInRange, SeensInRange}
use Rattle.netbytes.proofs.Fours.{four_back, four_blank, four_good, four_long, four_of}

-- the numbers of a sight
abbrev pub id_of : Sight → WordId
id_of x = record { about = x.about; count = x.number; tag = x.tag }

pub id_good : (n : ℕ) (x : Sight) → SightFits n x → IdInRange n (id_of x)
id_good n x h = record { box = h.box; some_count = h.some_count; count = h.count; tag = h.tag }

-- the packet of these
abbrev pub seens_to : Sights → Seens
seens_to p = record { drawn = p.drawn; count = length p.items; items = four_of id_of no_id p.items }

module _ (n : ℕ) (p : Sights) where
  pub sights_back : OneToFour (SightFits n) p.items → seens_of (seens_to p) ≡ p
  sights_back h = ap (λ (xs : List Sight). record { drawn = p.drawn; items = xs }) (four_back id_of no_id (SightFits n) sight_of (λ x _. refl) p.items h.2 _)

  pub seens_good : IsDrawn p.drawn → OneToFour (SightFits n) p.items → SeensInRange n (seens_to p)
  seens_good d h =
      record {
        some_drawn = d.0;
        drawn = d.1;
        some = h.0;
        few = h.1;
        four = four_long id_of no_id p.items h.1;
        each = four_good id_of no_id (SightFits n) (IdInRange n) (id_good n) p.items h.2;
        blank = four_blank id_of no_id p.items;
      }
