-- Two encodings at the front of one input are equal (`encoding_unique`), and an input has one verdict (`verdict_unique`); the
-- other clauses follow.
use Rattle.multihash.proofs.Common.{[], refl, ◌++◌, sym, ◌∙◌, append-nil, arith, accepted}
use Rattle.multihash.proofs.VerdictLemmas.{verdict_unique}
use Rattle.multihash.proofs.laws.prefix_free.Goals as goal
use Rattle.multihash.proofs.EncodingLemmas.{encoding_exists, encoding_unique, encoding_same}

pub returns : goal.returns
returns c = record {
  one_encoding = λ p pair size.
      let e = encoding_exists p pair (omega arith) in
      record { value = e.0; holds = e.1; only = λ other h. encoding_same p other e.0 h e.1 };
  same = encoding_same;
  unique = encoding_unique;
  begins_no_other = λ p q a b e f begins. (encoding_unique p q a b begins.0 [] e f (sym begins.1 ∙ sym (append-nil b))).0;
  own_verdict = λ S p encoding rest e fits. (rest, record { encoding = encoding; encodes = e; cut = refl }, fits);
  no_other_verdict = λ S p encoding rest v e fits h.
      verdict_unique S (encoding ++ rest) v (accepted p) h (rest, record { encoding = encoding; encodes = e; cut = refl }, fits);
}
