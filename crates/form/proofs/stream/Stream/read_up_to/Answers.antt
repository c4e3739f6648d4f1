-- The loop keeps that the values so far were consumed, one after another; if the bytes of other values come first, these are the
-- same, or there is one more that comes next (`parts_compared`).
use Rattle.form.proofs.Common.{◌≡◌, ◌<◌, ◌≤◌, ◌⊎◌, ◌++◌, ℕ, List, [], ◌∷◌, inl, inr, length, length-append, append_assoc, append-nil, refl, sym, ap, subst, ◌∙◌, arith, rules, Option, Some, IsOutOfMemory, Consumes, AreParts, Determine, IsFailed}
use Rattle.multihash.proofs.OutcomeLemmas.{passed_error, if_given}
use Rattle.std.specs.Io.KnownBytes.{IsAtEnd}
use Rattle.multihash.proofs.ReadingLemmas.{Consumes-known, Consumes-none, Consumes-concatenated}
use Rattle.multihash.proofs.StreamLemmas.{parts_push}
use Rattle.form.specs.Stream.{rest_from, AppendsValues, AppendsSame}
use Rattle.form.proofs.WholeLemmas.{Next, parts_compared}
use Rattle.form.proofs.StopLemmas.{stops_later}
use Rattle.form.proofs.stream.Stream.read_up_to.Goals as goal

pub loop-init : goal.loop-init
loop-init g c = record {
  reads = record { values = []; appended = sym (append-nil c.args.list.now.items); consumed = ([], refl, Consumes-none _) };
  count = refl;
  unfailed = refl;
}

pub returns-in_err-value-clause-err : goal.returns-in_err-value-clause-err
returns-in_err-value-clause-err g c =
    let before = c.loop.invariant in
    rw (passed_error c.from_residual.result _ c.from_residual.ensures.1) (record {
      following = _;
      reads = before.reads;
      fewer = omega (arith, before.count, c.loop-test.true);
      failed = stops_later before.unfailed refl c.in_err-value.ensures.err;
    })

pub returns-in_err-value-clause-faults : goal.returns-in_err-value-clause-faults
returns-in_err-value-clause-faults g c =
    rw (passed_error c.from_residual.result _ c.from_residual.ensures.1)
    (elim (rw c.loop.invariant.unfailed at c.in_err-value.ensures.faults) [
      | inl own ↦ inl own
      | inr listed ↦ inr (listed.0, inl listed.1)
    ])

pub returns-in-None-clause-ok : goal.returns-in-None-clause-ok
returns-in-None-clause-ok g c =
    let before = c.loop.invariant in
    let ended = rw c.in-None.is at c.in_ok-value.ensures.end.none in
    record {
      reads = record { values = before.reads.values; appended = before.reads.appended; consumed = rw ended.1 before.reads.consumed };
      number = inr (omega (arith, before.count, c.loop-test.true), subst IsAtEnd (sym ended.1) ended.0);
    }

pub returns-in_err-push-clause-err : goal.returns-in_err-push-clause-err
returns-in_err-push-clause-err g c =
    let before = c.loop.invariant in
    let kept : c.push.new.self.items ≡ c.loop.list.items = search rules in
    if_given (IsFailed IsOutOfMemory) _ _ c.from_residual-in_err-push.result c.from_residual-in_err-push.ensures.1 (λ e memory. record {
      following = rest_from c.loop.self.ahead (g.R.Read.rest c.loop.self.inner);
      reads = record { values = before.reads.values; appended = kept ∙ before.reads.appended; consumed = before.reads.consumed };
      fewer = omega (arith, before.count, c.loop-test.true);
      failed = record { why = inl memory };
    })

pub loop-preserved : goal.loop-preserved
loop-preserved g c =
    let before = c.loop.invariant in
    let value = c.in-Some.value in
    let one = rw c.in-Some.is at c.in_ok-value.ensures.ok in
    let items : c.push.new.self.items ≡ c.loop.list.items ++ c.in-Some.value ∷ [] = search rules in
    record {
      reads = record {
        values = before.reads.values ++ value ∷ [];
        appended = items ∙ ap (λ l. l ++ value ∷ []) before.reads.appended ∙ append_assoc c.args.list.now.items before.reads.values
            (value ∷ []);
        consumed = (
          before.reads.consumed.0 ++ one.0,
          parts_push g.T.Form.is_form before.reads.values value _ _ before.reads.consumed.1 one.1,
          Consumes-concatenated _ before.reads.consumed.0 one.0 refl before.reads.consumed.2 one.2,
        );
      };
      count = omega (arith, length-append before.reads.values (value ∷ []), before.count);
      unfailed = c.in_ok-value.ensures.faults ∙ before.unfailed;
    }

pub returns-clause-ok : goal.returns-clause-ok
returns-clause-ok g c = record {
  reads = c.loop.invariant.reads;
  number = inl (omega (arith, c.loop.invariant.count, c.loop-test.false, c.loop.auto.counter-end));
}

-- the values so far, compared with those that come next: they are all that are asked for, or another one comes next
compared : {A : Type 0} {IsForm : A → List ℕ → Type 0} {Same : A → A → Type 0}
    → ((x y : A) → Determine (IsForm x) (IsForm y) (Same x y)) → ((x : A) (bytes : List ℕ) → IsForm x bytes → 0 < length bytes)
    → {before after : List A} {old mid : Option (List ℕ)} (reads : AppendsValues IsForm before after old mid)
    → (xs : List A) (bytes more : List ℕ) → AreParts IsForm xs bytes → old ≡ Some (bytes ++ more)
    → (n : ℕ) → (length xs ≡ n) ⊎ ((length xs < n) × (more ≡ [])) → length reads.values ≤ n
    → (AppendsSame Same xs before after × (mid ≡ Some more) × ((length reads.values ≡ n) ⊎ (more ≡ [])))
    ⊎ ((length reads.values < n) × (left : List ℕ) × (mid ≡ Some left) × Next IsForm left)
compared unique some {mid = mid} reads xs bytes more are at n number most =
    let (c, is_c, consumes) = reads.consumed in
    let (left, is_left, cut) = Consumes-known (bytes ++ more) c mid (subst (λ (o : Option (List ℕ)). Consumes o c mid) at consumes) in
    elim (parts_compared unique some reads.values xs c left bytes more is_c are (sym cut)) [
      | inl (same, rest, long) ↦ inl (
        (reads.values, reads.appended, same),
        is_left ∙ ap Some rest,
        elim number [ inl all ↦ inl (long ∙ all) | inr (_, none) ↦ inr none ],
      )
      | inr (inl (few, next)) ↦
          inr (elim number [ inl all ↦ omega (arith, few, all) | inr (less, _) ↦ omega (arith, few, less) ], left, is_left, next)
      | inr (inr (over, follows)) ↦ elim number [
        | inl all ↦ absurd (omega (arith, most, all, over))
        | inr (_, none) ↦ absurd (omega (arith, follows, ap length none))
      ]
    ]

pub returns-in_err-value-clause-found : goal.returns-in_err-value-clause-found
returns-in_err-value-clause-found g c xs bytes more are at number same =
    let before = c.loop.invariant in
    let unfailed = same ∙ sym before.unfailed in
    rw (passed_error c.from_residual.result _ c.from_residual.ensures.1)
    (elim (compared g.met.T.Form.unique g.met.T.Form.some before.reads xs bytes more are at c.args.n number
    (omega (arith, before.count, c.loop-test.true))) [
      | inl (_, ended, inl all) ↦ absurd (omega (arith, before.count, c.loop-test.true, all))
      | inl (_, ended, inr none) ↦ absurd (c.in_err-value.ensures.end.always unfailed (ended ∙ ap Some none))
      | inr (_, left, is_left, (x, part, rest, is, cut)) ↦ c.in_err-value.ensures.found x part rest is (is_left ∙ ap Some cut) unfailed
    ])

pub returns-in-None-clause-found : goal.returns-in-None-clause-found
returns-in-None-clause-found g c xs bytes more are at number same =
    let before = c.loop.invariant in
    let ended = rw c.in-None.is at c.in_ok-value.ensures.end.none in
    elim (compared g.met.T.Form.unique g.met.T.Form.some before.reads xs bytes more are at c.args.n number
    (omega (arith, before.count, c.loop-test.true))) [
      | inl (appends, rest, _) ↦ (appends, ended.1 ∙ rest)
      | inr (_, left, is_left, (x, part, rest, is, cut)) ↦ let none : left ≡ [] = subst IsAtEnd is_left ended.0 in
          absurd (omega (arith, g.met.T.Form.some x part is, ap length none, ap length cut, length-append part rest))
    ]

pub returns-clause-found : goal.returns-clause-found
returns-clause-found g c xs bytes more are at number same =
    let before = c.loop.invariant in
    elim (compared g.met.T.Form.unique g.met.T.Form.some before.reads xs bytes more are at c.args.n number
    (omega (arith, before.count, c.loop.auto.counter-end))) [
      | inl (appends, rest, _) ↦ (appends, rest)
      | inr (few, _, _, _) ↦ absurd (omega (arith, few, before.count, c.loop-test.false))
    ]
