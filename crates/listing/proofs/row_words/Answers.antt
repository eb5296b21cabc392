use Rattle.std.proofs.Common.{rules}
use Rattle.listing.specs.Step.{row_plain, row_chunk}
use Rattle.listing.proofs.row_words.Goals as goal

pub returns-in-Form-Chunk : goal.returns-in-Form-Chunk
returns-in-Form-Chunk c = λ m vs l st fit own p q. row_chunk m _ _ vs l st fit own _ c.head_word.ensures (search rules) _ _ p q

pub returns : goal.returns
returns c = λ m vs l st fit own p q. row_plain m _ _ vs l st fit own _ c.head_word.ensures (search rules)

pub returns-2 : goal.returns-2
returns-2 c = λ m vs l st fit own p q. row_plain m _ _ vs l st fit own _ c.head_word.ensures (search rules)
