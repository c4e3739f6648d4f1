-- A choice is its tag and then its value, so writing stops as that of two parts (`BothLemmas`).
use Rattle.std.proofs.lemmas.Result.{on_ok_weaker, on_err_weaker}
use Rattle.multihash.proofs.OutcomeLemmas.{OnErr-always}
use Rattle.form.proofs.BothLemmas.{then_stops_first, then_stops_second, then_written}
use Rattle.form.proofs.choice.ChoiceForm.write.Goals as goal

pub returns-in_err-write-clause-err : goal.returns-in_err-write-clause-err
returns-in_err-write-clause-err g c =
    let stops = rw c.tag.ensures at c.in_err-write.ensures.err in
    OnErr-always c.from_residual.result
    (then_stops_first g.W.Write.appended stops (g.met.C.Cases.exists c.args.self.now.case))

pub returns-clause-ok : goal.returns-clause-ok
returns-clause-ok g c =
    let tag = rw c.tag.ensures at c.in_ok-write.ensures.ok in
    on_ok_weaker c.write_value.result
    (then_written g.W.Write.appended g.met.W.Write.appends_concatenated tag) c.write_value.ensures.ok

pub returns-clause-err : goal.returns-clause-err
returns-clause-err g c =
    let tag = rw c.tag.ensures at c.in_ok-write.ensures.ok in
    on_err_weaker c.write_value.result
    (then_stops_second g.W.Write.appended g.met.W.Write.appends_concatenated tag) c.write_value.ensures.err
