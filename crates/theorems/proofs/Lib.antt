-- What `c` and `g` are in the folders of functions, `proofs/Lib.antt` of `multihash` says.
mod ResultLemmas
