-- If `write` appended fewer bytes than there are, the slice is full, and they are a strict prefix (`AppendsPrefix-take`).
use Rattle.multihash.proofs.Common.{[], rules, refl, arith, common_steps}
use Rattle.multihash.proofs.WritingLemmas.{AppendsPrefix-take, filled_length}
use Rattle.multihash.proofs.no_std_io.slice_writer.SliceWriterWrite.write_all.Goals as goal

pub returns-else-branch-buf-clause-laws : goal.returns-else-branch-buf-clause-laws
returns-else-branch-buf-clause-laws c =
    let fills = c.in_ok-write.ensures.laws.ok.fills in
    let kept = filled_length fills in
    let part = AppendsPrefix-take _ [] c.args.buf.now c.in_ok-write.field-0 refl (search rules) c.in_ok-write.ensures.laws.ok in
    record { ok = tt; empty = search rules; err = part; faults = grind (arith, common_steps) }

pub returns-else-branch-buf-clause-filled : goal.returns-else-branch-buf-clause-filled
returns-else-branch-buf-clause-filled c =
    let filled = c.in_ok-write.ensures.laws.ok.fills in
    let kept = filled_length filled in
    grind (arith, common_steps)
