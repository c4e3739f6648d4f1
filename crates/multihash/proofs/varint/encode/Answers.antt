-- The loop keeps that the first bytes encode the digits written so far (`Wrote`); a rest below 128 is the last digit, and after
-- eight digits the rest is (`last_digit`).
use Rattle.multihash.proofs.Common.{◌≡◌, take, ◌∙◌, arith, rules, subst, sym, take_all, take_more_set, IsVarint}
use Rattle.std.proofs.Math.ListN.{length-set}
use Rattle.multihash.proofs.VarintWriteLemmas.{Wrote, none_wrote, wrote_more, wrote_last, last_digit}
use Rattle.multihash.proofs.varint.encode.Goals as goal

pub loop-len-init : goal.loop-len-init
loop-len-init c = record { wrote = none_wrote c.args.n; buffer = search rules }

pub returns-then-rest-lt128 : goal.returns-then-rest-lt128
returns-then-rest-lt128 c =
    let before = c.loop-len.invariant in
    rw (take_more_set c.loop-len.buffer c.loop-len.len c.loop-len.rest (omega (arith, c.loop-len-test.true, before.buffer)))
    (wrote_last before.wrote c.requires c.if-rest-lt128.true)

pub loop-len-preserved : goal.loop-len-preserved
loop-len-preserved c = grind (arith, wrote_more, take_more_set, length-set)

pub returns : goal.returns
returns c =
    let before = c.loop-len.invariant in
    let all : c.loop-len.len ≡ 8 = omega (arith, c.loop-len-test.false, c.loop-len.auto.len-end) in
    let wrote : Wrote (take 8 c.loop-len.buffer) 8 c.args.n c.loop-len.rest =
    subst (λ k. Wrote (take k c.loop-len.buffer) k c.args.n c.loop-len.rest) all before.wrote in
    let whole = take_all 9 _ (omega (arith, length-set c.loop-len.buffer 8 c.loop-len.rest, before.buffer)) in
    subst (IsVarint c.args.n) (sym (take_more_set c.loop-len.buffer 8 c.loop-len.rest (omega (arith, before.buffer))) ∙ whole)
    (wrote_last wrote c.requires (last_digit wrote c.requires))
