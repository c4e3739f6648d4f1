-- The loop keeps that the encodings of the items so far were consumed; an error of `read` stops after these, and a list that is
-- returned has as many as were asked for.
use Rattle.multihash.proofs.Common.{◌≡◌, ◌<◌, ℕ, List, Option, ◌⊎◌, Result, IfErr, length, map, inl, inr, arith, ◌∙◌, length-map, length_push, Refusal, IsOutOfMemory, ReadFails, ConsumesPairs, StopsAfterPairs, Fields, pair_of, passed_error}
use Rattle.std.specs.Result.{IsErrAnd}
use Rattle.multihash.proofs.StreamLemmas.{ConsumesPairs-more}
use Rattle.multihash.proofs.list.read_list.Goals as goal

-- `read` failed after some pairs
stopped : {A : Type 0} (S count : ℕ) (items : List (Fields S)) (r : Result A Refusal) (e : Refusal) {before between : ℕ} (after : ℕ)
    {old mid : Option (List ℕ)} (new : Option (List ℕ)) → IsErrAnd r (λ x. x ≡ e) → length items < count
    → ConsumesPairs S (map pair_of items) old mid → between ≡ before → ReadFails S between after e mid new
    → IfErr r (λ e. (IsOutOfMemory e × (after ≡ before) × (new ≡ old)) ⊎ StopsAfterPairs S count e before after old new)
stopped S count items r e after {mid = mid} new passed few pairs unrisen failed =
    rw (passed_error r e passed)
    (inr (record {
      pairs = map pair_of items;
      following = mid;
      fewer = omega (arith, length-map items pair_of, few);
      consumed = pairs;
      failed = rw unrisen at failed;
    }))

pub returns-in_err-read-clause-err : goal.returns-in_err-read-clause-err
returns-in_err-read-clause-err g c =
    stopped g.row.S c.args.count c.loop.list.items c.from_residual-in_err-read.result c.in_err-read.field-0.0 _ _
    c.from_residual-in_err-read.ensures.1
    (omega (arith, c.loop.invariant.count, c.loop-test.true)) c.loop.invariant.pairs c.loop.invariant.unfailed c.in_err-read.ensures

pub returns-in_err-read-clause-faults : goal.returns-in_err-read-clause-faults
returns-in_err-read-clause-faults g c =
    rw (passed_error c.from_residual-in_err-read.result _ c.from_residual-in_err-read.ensures.1)
    (elim (rw c.loop.invariant.unfailed at c.in_err-read.ensures.faults) [
      | inl own ↦ inl own
      | inr listed ↦ inr (listed.0, inl listed.1)
    ])

pub loop-preserved : goal.loop-preserved
loop-preserved g c =
    let before = c.loop.invariant in
    let met = c.in_ok-read.ensures in
    let m = c.in_ok-read.field-0 in
    let pushed = c.push_reserved.ensures in record {
      pairs = rw pushed.items (ConsumesPairs-more g.row.S c.loop.list.items m _ before.pairs met.ok.1 met.fits met.ok.2);
      count = rw pushed.items (omega (arith, length_push c.loop.list.items m, before.count));
      room = omega (arith, pushed.capacity, before.room);
      buffer = pushed.capacity ∙ before.buffer;
      unfailed = met.faults ∙ before.unfailed;
    }
