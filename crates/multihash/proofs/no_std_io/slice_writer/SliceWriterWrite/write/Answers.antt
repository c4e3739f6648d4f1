use Rattle.multihash.proofs.Common.{rules, refl, arith, common_steps}
use Rattle.multihash.proofs.WritingLemmas.{fills_slice}
use Rattle.multihash.proofs.no_std_io.slice_writer.SliceWriterWrite.write.Goals as goal

pub returns-clause-laws : goal.returns-clause-laws
returns-clause-laws c = record {
  count = search rules;
  ok = record { same_slice = search rules; fills = fills_slice (search rules) (search rules) (grind (arith, common_steps)) };
  stuck = search rules;
  err = tt;
  faults = refl;
}
