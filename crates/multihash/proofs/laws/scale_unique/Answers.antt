-- An input has one verdict, the one that is computed, so a pair has one form and a form one pair: `ScaleLemmas` has each clause.
use Rattle.std.proofs.Common.{[], refl, sym, ◌∙◌, append-nil, arith}
use Rattle.multihash.proofs.ScaleLemmas.{scale_exists, scale_same, scale_found, scale_verdict_is, has_scale_found, scale_verdict_unique}
use Rattle.multihash.proofs.ScaleLemmas.{scale_split}
use Rattle.multihash.proofs.laws.scale_unique.Goals as goal

pub returns : goal.returns
returns c = record {
  one_form = λ p pair size.
      let e = scale_exists p pair (omega arith) in
      record { value = e.0; holds = e.1; only = λ other h. scale_same p other e.0 h e.1 };
  same = scale_same;
  unique = scale_split;
  one_verdict = λ S input bytes. record {
    value = scale_found S input;
    holds = has_scale_found S input bytes;
    only = scale_verdict_is S input;
  };
  verdict_unique = scale_verdict_unique;
  begins_no_other = λ p q a b h k begins. (scale_split p q a b begins.0 [] h k (sym begins.1 ∙ sym (append-nil b))).0;
  own_verdict = λ S p bytes rest h fits. (bytes, rest, h, omega arith, refl);
}
