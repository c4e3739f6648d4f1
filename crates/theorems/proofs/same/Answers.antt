-- Each clause is one of `prefix_free`, for the pairs that `same_as` compares.
use Rattle.std.proofs.Common.{inl, inr, sym, ◌∙◌, subst, arith, [], append-nil}
use Rattle.multihash.specs.Encoding.{IsEncoding}
use Rattle.multihash.specs.Multihash.{pair_of}
use Rattle.multihash.proofs.EncodingLemmas.{digest_fits}
use Rattle.theorems.proofs.same.Goals as goal

pub returns-clause-first : goal.returns-clause-first
returns-clause-first g c = grind (arith, digest_fits)

pub returns-clause-second : goal.returns-clause-second
returns-clause-second g c = grind (arith, digest_fits)

pub returns-clause-alike : goal.returns-clause-alike
returns-clause-alike g c x y a b = (
  (λ yes. c.prefix_free.ensures.same (pair_of c.args.b.now) x y (subst (λ p. IsEncoding p x) (c.same_as.ensures.0 yes) a) b),
  λ equal. c.same_as.ensures.1 (c.prefix_free.ensures.begins_no_other _ _ x y a b ([], sym equal ∙ sym (append-nil x))),
)

pub returns-clause-begins : goal.returns-clause-begins
returns-clause-begins g c x y a b (inl front) = c.same_as.ensures.1 (c.prefix_free.ensures.begins_no_other _ _ x y a b front)
returns-clause-begins g c x y a b (inr front) = c.same_as.ensures.1 (sym (c.prefix_free.ensures.begins_no_other _ _ y x b a front))
