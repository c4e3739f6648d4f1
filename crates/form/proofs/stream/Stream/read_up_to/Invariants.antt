-- The values so far were appended, and no read failed.
use Rattle.std.proofs.Common.{◌≡◌, length}
use Rattle.form.specs.Stream.{rest_from, AppendsValues}
use Rattle.form.proofs.stream.Stream.read_up_to.Given as goal

abbrev pub invariant-loop : goal.invariant-loop
invariant-loop g l = record {
  reads : AppendsValues g.T.Form.is_form l.initial.list.items l.list.items
      (rest_from l.initial.self.ahead (g.R.Read.rest l.initial.self.inner)) (rest_from l.self.ahead (g.R.Read.rest l.self.inner));
  count : length reads.values ≡ l.counter;
  unfailed : g.R.Read.failures l.self.inner ≡ g.R.Read.failures l.initial.self.inner;
}
