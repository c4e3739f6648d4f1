use Rattle.std.proofs.Common.{◌-◌, rules, length, take}
use Rattle.multihash.proofs.ReadingLemmas.{Consumes-concatenated, take-put_mid_more}
use Rattle.multihash.proofs.no_std_io.traits.Read.read_exact.Goals as goal

pub loop-filled-preserved : goal.loop-filled-preserved
loop-filled-preserved g c =
    let filled = c.loop-filled.filled in
    let buf = c.loop-filled.buf in
    let front = take-put_mid_more filled (length buf - filled) c.in-Ok.n buf c.read.new.buf c.loop-filled.invariant.in_buffer
    (search rules) in
    let consumes = Consumes-concatenated _ (take filled buf) _ front c.loop-filled.invariant.consumes c.in-Ok.ensures.laws.consumes in
    search rules
