-- An array determines its bytes (`array_unique`), and these encode the pair (`json_bytes`), so what holds of encodings holds of
-- arrays.
use Rattle.multihash.proofs.Common.{sym, ◌∙◌, accepted}
use Rattle.multihash.proofs.VerdictLemmas.{whole_verdict_unique}
use Rattle.multihash.proofs.JsonLemmas.{array_unique, json_same, json_bytes, json_is_array}
use Rattle.multihash.proofs.laws.json_unique.Goals as goal

pub returns : goal.returns
returns c = record {
  same = json_same;
  byte_array = λ p value bytes h.
      let b = json_is_array p value bytes h in
      record { value = b.0; holds = b.1; only = λ other k. array_unique other b.0 (sym k.array ∙ b.1.array) };
  own_verdict = λ S p value bytes h fits k. (json_bytes p value bytes h k, fits);
  no_other_verdict = λ S p value bytes v h fits k w.
      whole_verdict_unique S bytes v (accepted p) w (json_bytes p value bytes h k, fits);
}
