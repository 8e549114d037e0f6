-- The two kinds of packet. Assumes nothing.
use Rattle.messages.specs.declared.values.Packet.{Packet}
use Rattle.messages.specs.declared.values.Word.{Word}
use Rattle.messages.specs.declared.values.WordId.{WordId}

-- words that are told
abbrev pub Words : Type 0
Words = Packet Word

-- the numbers of words that were seen
abbrev pub Seens : Type 0
Seens = Packet WordId
