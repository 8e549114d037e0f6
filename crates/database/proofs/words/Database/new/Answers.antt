-- Tables of zeros hold no word.
use Rattle.messages.proofs.Zeros.{at_zeros}
use Rattle.database.proofs.Tables.{at_zero_rows, same_entry}
use Rattle.database.proofs.words.Database.new.Goals as goal

pub returns : goal.returns
returns c i = same_entry (at_zeros 64 i) (at_zeros 64 i) (at_zero_rows 64 64 i)
