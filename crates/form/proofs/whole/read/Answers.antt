use Rattle.form.proofs.WholeLemmas.{form_truncated}
use Rattle.form.proofs.whole.read.Goals as goal

pub returns-clause-truncated : goal.returns-clause-truncated
returns-clause-truncated g c x bytes part is strict at same =
    form_truncated g.met.T.Form.unique g.met.T.Form.not_both same _ _
    c.read.ensures.ok c.read.ensures.err x bytes part is strict at
