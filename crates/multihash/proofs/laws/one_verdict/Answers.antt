use Rattle.multihash.proofs.VerdictLemmas.{found, verdict_is, has_found, verdict_unique, whole_found, whole_is, has_whole_found}
use Rattle.multihash.proofs.VerdictLemmas.{whole_verdict_unique}
use Rattle.multihash.proofs.laws.one_verdict.Goals as goal

pub returns : goal.returns
returns c = record {
  read = λ S input bytes. record { value = found S input; holds = has_found S input bytes; only = verdict_is S input };
  whole = λ S input bytes. record { value = whole_found S input; holds = has_whole_found S input bytes; only = whole_is S input };
  read_unique = verdict_unique;
  whole_unique = whole_verdict_unique;
}
