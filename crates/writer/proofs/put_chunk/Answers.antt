-- A whole chunk. Assumes nothing.
use Rattle.writer.proofs.Steps.{puts_chunk}
use Rattle.writer.proofs.put_chunk.Goals as goal

pub returns : goal.returns
returns c =
    let m = c.constants_of.ensures in
    let n = c.instructions_of.ensures in
    puts_chunk c.args.t.now c.args.k _ _ _ _ m.first_is m.count_is n.first_is n.count_is _ _ c.in_ok-put_line.ensures _ c.in_ok-put_rows.ensures _ _ _ c.in_ok-put_rows-2.ensures c.put_close.ensures
