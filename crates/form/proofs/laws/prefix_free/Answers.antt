use Rattle.std.proofs.Common.{[], sym, ◌∙◌, append-nil}
use Rattle.form.proofs.laws.prefix_free.Goals as goal

pub returns-clause-prefix : goal.returns-clause-prefix
returns-clause-prefix g c x y a b is is_b (more, some, cut) =
    some (g.met.T.Form.unique x y a b more [] is is_b (sym cut ∙ sym (append-nil b))).1
