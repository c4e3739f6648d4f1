-- A block is its length and its bytes, one after the other, so two calls that succeed append it, and one that fails has appended
-- a strict prefix of it.
use Rattle.form.proofs.Common.{inl, inr, refl, ◌∙◌, arith, of_io}
use Rattle.multihash.proofs.OutcomeLemmas.{OnErr-always, passed_error}
use Rattle.form.proofs.BothLemmas.{then_stops_first, then_stops_second, then_written}
use Rattle.form.proofs.block.BlockForm.write.Goals as goal

pub returns-in_err-write-clause-err : goal.returns-in_err-write-clause-err
returns-in_err-write-clause-err g c =
    let block = c.args.self.now.bytes in
    elim c.in_err-write.ensures.err [
      | inl code ↦ absurd (omega (arith, code.1, c.args.self.now.in_range, c.len.ensures))
      | inr io ↦
          let stopped = rw (c.len.ensures ∙ block.ok.0) at io.1 in
          OnErr-always c.from_residual.result (then_stops_first g.W.Write.appended stopped (block.items, refl))
    ]

pub returns-in_err-write_all-clause-err : goal.returns-in_err-write_all-clause-err
returns-in_err-write_all-clause-err g c =
    let block = c.args.self.now.bytes in
    let len = rw (c.len.ensures ∙ block.ok.0) at c.in_ok-write.ensures.ok in
    let stopped = rw c.deref.ensures.value at c.in_err-write_all.ensures.laws.err in
    OnErr-always c.from_residual-in_err-write_all.result
    (then_stops_second g.W.Write.appended g.met.W.Write.appends_concatenated (len.0, len.1, len.3) (block.items, refl, stopped))

pub returns-clause-ok : goal.returns-clause-ok
returns-clause-ok g c =
    let block = c.args.self.now.bytes in
    let len = rw (c.len.ensures ∙ block.ok.0) at c.in_ok-write.ensures.ok in
    let appended = rw c.deref.ensures.value at c.in_ok-write_all.ensures.laws.ok in
    then_written g.W.Write.appended g.met.W.Write.appends_concatenated (len.0, len.1, len.3) (block.items, refl, appended)

pub returns-in_err-write_all-clause-faults : goal.returns-in_err-write_all-clause-faults
returns-in_err-write_all-clause-faults g c =
    let cause = of_io c.in_err-write_all.field-0.0 in
    rw (passed_error c.from_residual-in_err-write_all.result _ c.from_residual-in_err-write_all.ensures.1)
    (cause, refl, (c.in_err-write_all.field-0.0, refl, rw c.in_ok-write.ensures.ok.4 at c.in_err-write_all.ensures.laws.faults))
