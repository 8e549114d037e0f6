use Rattle.std.proofs.Common.{arith}
use Rattle.wordframes.proofs.Roads.{length_word, roads_few}
use Rattle.wordframes.proofs.words_bytes.word_length.Goals as goal

pub returns : goal.returns
returns c =
    record {
      known = omega (arith, length_word c.args.word, c.road_count.ensures, c.from.ensures);
      small = omega (arith, roads_few c.args.word.costs 64, c.road_count.ensures, c.from.ensures);
    }
