-- The bytes appended so far and those left are all bytes, so a call that fails, or returns 0, leaves a strict prefix appended
-- (`AppendsPrefix-take`).
use Rattle.multihash.proofs.Common.{◌++◌, rules, take, arith, common_steps}
use Rattle.multihash.proofs.WritingLemmas.{appends_both, concatenated-take-range, AppendsPrefix-take}
use Rattle.multihash.proofs.no_std_io.traits.Write.write_all.Goals as goal

pub loop-left-preserved : goal.loop-left-preserved
loop-left-preserved g c = let before = c.loop-left.invariant in record {
  done = before.done ++ take c.in-Ok.n c.loop-left.left.now;
  concatenated = concatenated-take-range _ _ c.in-Ok.n before.concatenated;
  appends = appends_both g.Self.Write.appended g.met.Self.Write.appends_concatenated before.appends c.in-Ok.ensures.laws.ok;
  unfailed = search rules;
}

pub returns-in-Ok-eq0 : goal.returns-in-Ok-eq0
returns-in-Ok-eq0 g c =
    let before = c.loop-left.invariant in
    let part = AppendsPrefix-take g.Self.Write.appended _ _ c.in-Ok-eq0.field-0 before.concatenated (search rules)
    (appends_both g.Self.Write.appended g.met.Self.Write.appends_concatenated before.appends c.in-Ok-eq0.ensures.laws.ok) in
    record { laws = record { ok = tt; empty = grind (arith, common_steps); err = part; faults = grind (arith, common_steps) } }

pub returns-in-Err : goal.returns-in-Err
returns-in-Err g c =
    let before = c.loop-left.invariant in
    let part = AppendsPrefix-take g.Self.Write.appended _ _ 0 before.concatenated (search rules)
    (appends_both g.Self.Write.appended g.met.Self.Write.appends_concatenated before.appends c.in-Err.ensures.laws.err) in
    record { laws = record { ok = tt; empty = grind (arith, common_steps); err = part; faults = grind (arith, common_steps) } }
