-- What `c` and `g` are in the folders of functions, `proofs/Lib.antt` of `multihash` says.
pub mod NamingLemmas
pub mod ShownExamples
