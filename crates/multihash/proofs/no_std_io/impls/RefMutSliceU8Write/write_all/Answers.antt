use Rattle.multihash.proofs.Common.{[], rules, refl, arith, common_steps}
use Rattle.multihash.proofs.WritingLemmas.{AppendsPrefix-take}
use Rattle.multihash.proofs.no_std_io.impls.RefMutSliceU8Write.write_all.Goals as goal

pub returns-else-branch-buf-clause-laws : goal.returns-else-branch-buf-clause-laws
returns-else-branch-buf-clause-laws c =
    let past = c.in_ok-write.ensures.laws.ok in
    let part = AppendsPrefix-take _ [] c.args.buf.now c.in_ok-write.field-0 refl (search rules) past in
    record { ok = tt; empty = search rules; err = part; faults = grind (arith, common_steps) }
