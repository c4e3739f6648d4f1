use Rattle.multihash.specs.Encoding.{IsEncoding}
use Rattle.multihash.proofs.EncodingLemmas.{encoding_unique, encoding_same}
use Rattle.multihash.proofs.StreamLemmas.{parts_unique, parts_same, concatenated_whole}
use Rattle.multihash.proofs.laws.split_unique.Goals as goal

pub returns : goal.returns
returns c = record {
  as_many = λ ps qs a b r s many is_a is_b same.
      let told = parts_unique IsEncoding encoding_unique ps qs a b r s many is_a is_b same in (told.0, told.2);
  whole = concatenated_whole;
  one_stream = parts_same IsEncoding encoding_same;
}
