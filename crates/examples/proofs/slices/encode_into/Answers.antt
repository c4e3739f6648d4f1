use Rattle.multihash.specs.Multihash.{pair_of}
use Rattle.multihash.proofs.CallingLemmas.{write_of_encoded_len}
use Rattle.examples.proofs.slices.encode_into.Goals as goal

pub unwrap-requires : goal.unwrap-requires
unwrap-requires g c =
    write_of_encoded_len c.new-writer.result c.write.new.w (pair_of c.args.m.now) _ c.write.result c.encoded_len.ensures.encoding
    c.if-encoded_len-buffer.false c.new-writer.ensures.empty c.new-writer.ensures.kept c.write.ensures.err c.write.ensures.faults
