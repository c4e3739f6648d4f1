-- The loop keeps that the values so far are the front of the bytes; any other list of values with these bytes is the same so
-- far, has one more or is longer than the bytes (`parts_compared`).
use Rattle.form.proofs.Common.{◌≡◌, ◌++◌, ℕ, List, [], ◌∷◌, length, length-append, append_assoc, append-nil, inl, inr, sym, ap, ◌∙◌, arith, rules}
use Rattle.multihash.proofs.OutcomeLemmas.{passed_error}
use Rattle.multihash.proofs.StreamLemmas.{parts_push}
use Rattle.form.proofs.WholeLemmas.{parts_compared, empty_is, not_empty}
use Rattle.form.proofs.all.all_from_bytes.Goals as goal

pub returns-in_err-item-clause-found : goal.returns-in_err-item-clause-found
returns-in_err-item-clause-found g c xs all =
    let (front, parts, cut) = c.loop-rest.invariant in
    elim (parts_compared g.met.T.Form.unique g.met.T.Form.some c.loop-rest.items.items xs front
    c.loop-rest.rest.now c.args.bytes.now [] parts all (sym cut ∙ sym (append-nil c.args.bytes.now))) [
      | inl same ↦ absurd (not_empty c.loop-rest.rest.now _ c.is_empty.ensures c.loop-rest-test.true same.1)
      | inr (inl (_, next)) ↦ rw (passed_error c.from_residual.result _ c.from_residual.ensures.1)
          (c.in_err-item.ensures.found next.0 next.1 next.2 next.3 next.4)
      | inr (inr over) ↦ absurd (omega (arith, over.1))
    ]

pub loop-rest-preserved : goal.loop-rest-preserved
loop-rest-preserved g c =
    let (front, parts, cut) = c.loop-rest.invariant in
    let (one, is_one, split) = c.in_ok-item.ensures.ok in
    let items : c.push.new.self.items ≡ c.loop-rest.items.items ++ c.in_ok-item.item ∷ [] = search rules in (
      front ++ one,
      rw items (parts_push g.T.Form.is_form c.loop-rest.items.items c.in_ok-item.item front one parts is_one),
      cut ∙ (ap (λ (z : List ℕ). front ++ z) split ∙ sym (append_assoc front one c.in_ok-item.left.now)),
    )

pub returns-clause-found : goal.returns-clause-found
returns-clause-found g c xs all =
    let (front, parts, cut) = c.loop-rest.invariant in
    let none = empty_is c.loop-rest.rest.now _ c.is_empty.ensures c.loop-rest-test.false in
    elim (parts_compared g.met.T.Form.unique g.met.T.Form.some c.loop-rest.items.items xs front
    c.loop-rest.rest.now c.args.bytes.now [] parts all (sym cut ∙ sym (append-nil c.args.bytes.now))) [
      | inl same ↦ same.0
      | inr (inl (_, next)) ↦ absurd (omega (arith, g.met.T.Form.some next.0 next.1 next.3, ap length none, ap length next.4, length-append {A = ℕ}))
      | inr (inr over) ↦ absurd (omega (arith, over.1))
    ]
