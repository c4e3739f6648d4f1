-- The place is that of a first error, and there is only one.
use Rattle.form.proofs.Common.{◌++◌, ◌∷◌, [], ◌∙◌, ℕ, List, length, length-append, append_assoc, append-nil, ap, sym, inl, inr, subst, arith, AreParts}
use Rattle.multihash.proofs.ReadingLemmas.{Consumes-known}
use Rattle.multihash.proofs.StreamLemmas.{parts_push}
use Rattle.form.proofs.WholeLemmas.{not_empty, empty_is, known_is}
use Rattle.form.proofs.LocatedLemmas.{cause_of, found_memory, rejected_at, truncated_at, none_rejected, none_truncated}
use Rattle.form.proofs.located.first_error.Goals.{then-is_incomplete, else-is_incomplete}
use Rattle.form.proofs.located.first_error.Goals as goal

pub returns-in-Err-clause-some : goal.returns-in-Err-clause-some
returns-in-Err-clause-some g c =
    let before = c.loop-rest.invariant in
    record {
      items = before.items;
      front = before.front;
      rest = c.loop-rest.rest.now;
      are_items = before.are_items;
      parts = before.parts;
      some = not_empty c.loop-rest.rest.now _ c.is_empty.ensures c.loop-rest-test.true;
      item = before.count;
      start = omega (arith, ap length before.parts, length-append before.front c.loop-rest.rest.now);
      cause = cause_of g.met.T.Form.not_truncated c.args.bytes.now before.front
          c.loop-rest.rest.now c.read.new.r.now c.in-Err.error _ before.parts c.in-Err.ensures.err
          (elim c.if-is_incomplete.branch [
            | then-is_incomplete w ↦ inl (c.is_incomplete.ensures.0 w.if-is_incomplete.true, w.offset-is)
            | else-is_incomplete w ↦ inr (
              λ ends. let holds = c.is_incomplete.ensures.1 ends in cc (holds, w.if-is_incomplete.false),
              w.offset-is ∙ w.saturating_sub-offset.ensures,
            )
          ]);
    }

pub returns-in-Err-clause-found : goal.returns-in-Err-clause-found
returns-in-Err-clause-found g c =
    found_memory g.met.T.Form.unique g.met.T.Form.some g.met.T.Form.not_both g.met.T.Form.rejects_unique g.met.T.Form.rejects_some _ _ (returns-in-Err-clause-some g c)

pub returns-in-Err-clause-rejected : goal.returns-in-Err-clause-rejected
returns-in-Err-clause-rejected g c =
    rejected_at g.met.T.Form.unique g.met.T.Form.some g.met.T.Form.not_both g.met.T.Form.rejects_unique g.met.T.Form.rejects_some _ _ (returns-in-Err-clause-some g c)

pub returns-in-Err-clause-truncated : goal.returns-in-Err-clause-truncated
returns-in-Err-clause-truncated g c xs x front part whole are is strict left cut =
    truncated_at g.met.T.Form.unique g.met.T.Form.some g.met.T.Form.not_both g.met.T.Form.rejects_unique g.met.T.Form.rejects_some _ _ (returns-in-Err-clause-some g c) xs x front part whole are is strict cut

pub returns-clause-none : goal.returns-clause-none
returns-clause-none g c =
    let before = c.loop-rest.invariant in
    let none = empty_is c.loop-rest.rest.now _ c.is_empty.ensures c.loop-rest-test.false in (
      before.items,
      subst (AreParts g.T.Form.is_form before.items)
          (sym (before.parts ∙ ap (λ (l : List ℕ). before.front ++ l) none ∙ append-nil before.front)) before.are_items,
    )

pub loop-rest-preserved : goal.loop-rest-preserved
loop-rest-preserved g c =
    let before = c.loop-rest.invariant in
    let value = c.in_default.field-0 in
    let (one, is_one, consumes) = c.in_default.ensures.ok in
    let (left, is_left, cut) = Consumes-known c.loop-rest.rest.now one _ consumes in
    record {
      items = before.items ++ value ∷ [];
      front = before.front ++ one;
      are_items = parts_push g.T.Form.is_form before.items value before.front one before.are_items is_one;
      parts = before.parts ∙ ap (λ (l : List ℕ). before.front ++ l) (cut ∙ ap (λ (l : List ℕ). one ++ l) (sym (known_is _ left is_left)))
          ∙ sym (append_assoc before.front one c.read.new.r.now);
      count = omega (arith, before.count, length-append before.items (value ∷ []));
      few = omega (arith, before.few, length-append before.items (value ∷ []), length-append before.front one, g.met.T.Form.some value one is_one);
    }

pub returns-clause-rejected : goal.returns-clause-rejected
returns-clause-rejected g c xs e front shown more are rejects cut =
    none_rejected g.met.T.Form.unique g.met.T.Form.some g.met.T.Form.not_both g.met.T.Form.rejects_unique g.met.T.Form.rejects_some _ _ xs (returns-clause-none g c).1 e front shown more are rejects cut

pub returns-clause-truncated : goal.returns-clause-truncated
returns-clause-truncated g c xs x front part whole are is strict left cut =
    none_truncated g.met.T.Form.unique g.met.T.Form.some g.met.T.Form.not_both g.met.T.Form.rejects_unique g.met.T.Form.rejects_some _ _ xs (returns-clause-none g c).1 x front part whole are is strict left cut
