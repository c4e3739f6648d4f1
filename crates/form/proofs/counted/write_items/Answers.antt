-- The loop keeps that the bytes appended so far and those of the items that are left are the bytes of all items, so a failure at
-- any item has appended a strict prefix of them.
use Rattle.form.proofs.Common.{◌+◌, ℕ, List, [], ◌∷◌, ◌++◌, drop, refl, sym, ap, ◌∙◌, append_assoc, append-nil, drop_more, drop_all, AreParts, AppendsPrefixOfSome, items_exist}
use Rattle.multihash.proofs.OutcomeLemmas.{OnErr-always}
use Rattle.multihash.proofs.WritingLemmas.{appends_both, AppendsPrefix-append, AppendsPrefix-concatenated}
use Rattle.form.proofs.counted.write_items.Given as given
use Rattle.form.proofs.counted.write_items.Goals as goal
use Rattle.form.proofs.counted.write_items.Goals.{After-item-item}

-- this item's encoding comes next
next : (g : given.Over) (c : After-item-item g) (e others : List ℕ) → g.T.Form.is_form c.item-item.result e
    → AreParts g.T.Form.is_form (drop (c.loop-item.item-index + 1) c.args.items.now) others
    → AreParts g.T.Form.is_form c.args.items.now (c.loop-item.invariant.bytes ++ (e ++ others))
next g c e others encodes h =
    let items = c.args.items.now in
    let i = c.loop-item.item-index in
    let cut = drop_more items i c.item-item.result c.loop-item-test.true ∙ ap (λ (m : g.row.T.Denot). m ∷ drop (i + 1) items)
    (sym c.item-item.is) in
    c.loop-item.invariant.whole (e ++ others) (rw cut (e, others, encodes, h, refl))

pub loop-item-preserved : goal.loop-item-preserved
loop-item-preserved g c =
    let before = c.loop-item.invariant in
    let met = c.in_ok-write.ensures in
    record {
      bytes = before.bytes ++ met.ok.0;
      whole = λ others h.
          rw (append_assoc before.bytes met.ok.0 others)
          (next g (goal.at.loop-item-preserved g c).After-item-item met.ok.0 others met.ok.1 h);
      appends = appends_both g.W.Write.appended g.met.W.Write.appends_concatenated before.appends met.ok.2;
      unfailed = met.faults ∙ before.unfailed;
    }

pub returns-in_err-write-clause-err : goal.returns-in_err-write-clause-err
returns-in_err-write-clause-err g c =
    let before = c.loop-item.invariant in
    let met = c.in_err-write.ensures.err in
    let others = items_exist g.met.T.Form.exists (drop (c.loop-item.item-index + 1) c.args.items.now) in
    let stopped : AppendsPrefixOfSome g.W.Write.appended (AreParts g.T.Form.is_form c.args.items.now) c.args.w.now c.write.new.w = (
      _,
      next g (goal.at.returns-in_err-write-clause-err g c).After-item-item met.0 others.0 met.1 others.1,
      AppendsPrefix-concatenated g.W.Write.appended g.met.W.Write.appends_concatenated before.appends
          (AppendsPrefix-append g.W.Write.appended others.0 met.2),
    ) in
    OnErr-always _ stopped

pub returns-clause-ok : goal.returns-clause-ok
returns-clause-ok g c =
    let before = c.loop-item.invariant in
    let none = drop_all c.loop-item.item-index c.args.items.now c.loop-item-test.false in
    let all = before.whole [] (rw none refl) in
    (before.bytes, rw append-nil at all, before.appends)
