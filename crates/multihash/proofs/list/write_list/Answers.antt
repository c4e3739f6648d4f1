-- The loop keeps that the bytes appended so far and the encodings of the items that are left are those of all items, so a
-- failure at any item has appended a strict prefix of them.
use Rattle.multihash.proofs.Common.{arith, ◌+◌, ℕ, List, [], ◌++◌, map, drop, refl, ◌∙◌, append_assoc, append-nil, drop_more, drop_all, pair_of, IsEncoding, AreConcatenated, AppendsPrefix, OnErr-always}
use Rattle.multihash.proofs.EncodingLemmas.{encoding_same, have_stream}
use Rattle.multihash.proofs.StreamLemmas.{parts_same}
use Rattle.multihash.proofs.WritingLemmas.{appends_both, AppendsPrefix-append, AppendsPrefix-concatenated}
use Rattle.multihash.proofs.list.write_list.Given as given
use Rattle.multihash.proofs.list.write_list.Goals as goal
use Rattle.multihash.proofs.list.write_list.Goals.{After-item-item}

-- this item's encoding comes next
next : (g : given.Over) (c : After-item-item g) (e others : List ℕ) → IsEncoding (pair_of c.item-item.result) e
    → AreConcatenated (map pair_of (drop (c.loop-item.item-index + 1) c.args.items.now)) others
    → AreConcatenated (map pair_of c.args.items.now) (c.loop-item.invariant.bytes ++ (e ++ others))
next g c e others encodes h = grind (arith, drop_more)

pub loop-item-preserved : goal.loop-item-preserved
loop-item-preserved g c =
    let before = c.loop-item.invariant in
    let met = c.in_ok-write.ensures in
    record {
      bytes = before.bytes ++ met.ok.0;
      whole = λ others h.
          rw (append_assoc before.bytes met.ok.0 others)
          (next g (goal.at.loop-item-preserved g c).After-item-item met.ok.0 others met.ok.1 h);
      appends = appends_both g.W.Write.appended g.met.W.Write.appends_concatenated before.appends met.ok.3;
      unfailed = met.faults ∙ before.unfailed;
    }

-- a strict prefix of all encodings has been appended
stop : (g : given.Over) (c : goal.After-from_residual g)
    → (all : List ℕ) × AreConcatenated (map pair_of c.args.items.now) all × AppendsPrefix g.W.Write.appended c.args.w.now all c.write.new.w
stop g c =
    let before = c.loop-item.invariant in
    let met = c.in_err-write.ensures.err in
    let others = have_stream (drop (c.loop-item.item-index + 1) c.args.items.now) in (
      _,
      next g (goal.at.returns-in_err-write-clause-err g c).After-item-item met.0 others.0 met.1 others.1,
      AppendsPrefix-concatenated g.W.Write.appended g.met.W.Write.appends_concatenated before.appends
          (AppendsPrefix-append g.W.Write.appended others.0 met.2),
    )

pub returns-in_err-write-clause-err : goal.returns-in_err-write-clause-err
returns-in_err-write-clause-err g c = OnErr-always _ (stop g c)

pub returns-in_err-write-clause-any : goal.returns-in_err-write-clause-any
returns-in_err-write-clause-any g c =
    let (some, concatenated, part) = stop g c in
    let any : (all : List ℕ) → AreConcatenated (map pair_of c.args.items.now) all
    → AppendsPrefix g.W.Write.appended c.args.w.now all c.write.new.w =
    λ all h. rw (parts_same IsEncoding encoding_same _ all some h concatenated) part in
    OnErr-always _ any

pub returns-clause-ok : goal.returns-clause-ok
returns-clause-ok g c =
    let before = c.loop-item.invariant in
    let none = drop_all c.loop-item.item-index c.args.items.now c.loop-item-test.false in
    let all = before.whole [] (rw none refl) in
    (before.bytes, rw append-nil at all, before.appends)
