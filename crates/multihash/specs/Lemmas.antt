-- Proved lemmas, which no contract cites: the laws of writers, for each implementation of `Write`. Nothing has been appended at
-- first, and what two calls append is concatenated.
use Rattle.std.proofs.Common.{◌≡◌, ◌+◌, ◌<◌, ℕ, List, [], ◌++◌, length, take, drop, map, refl, sym, ap, ◌∙◌, arith, append_assoc, append-nil, length-append, length-drop}
use Rattle.std.proofs.lemmas.List.{drop-drop, map-append}
use Rattle.std.proofs.lemmas.List.Elements.{All-nil, All-append}
use Rattle.multihash.specs.Filling.{FillsSlice, Fills}
use Rattle.multihash.specs.Private.{AppendsMembers}
use Rattle.multihash.specs.Writing.{AdvancesPast, AppendsAtEnd}
use Rattle.multihash.specs.declared.no_std_io.slice_writer.SliceWriter.{SliceWriter}
use Rattle.serde_json.specs.Data.{number, unsigned}
use Rattle.serde_json.specs.View.{view}
use Rattle.serde_json.specs.declared.value.Value.{Value}

-- a slice that has advanced past nothing
pub AdvancesPast-none : (a : List ℕ) → AdvancesPast a [] a
AdvancesPast-none a = record { room = omega arith; left = refl }

-- a slice that has advanced past two lists
pub AdvancesPast-concatenated : (a b c x y : List ℕ)
    → AdvancesPast a x b → AdvancesPast b y c → AdvancesPast a (x ++ y) c
AdvancesPast-concatenated a b c x y first second =
    let sum : length (x ++ y) ≡ length x + length y = length-append x y in
    record {
      room = omega (arith, sum, length-drop (length x) a, ap length first.left);
      left = second.left ∙ ap (drop (length y)) first.left ∙ drop-drop (length y) (length x) a
          ∙ ap (λ n. drop n a) (sym sum);
    }

-- a vector to which nothing has been appended
pub AppendsAtEnd-none : (a : List ℕ) → AppendsAtEnd a [] a
AppendsAtEnd-none a = sym (append-nil a)

-- a vector to which two lists have been appended
pub AppendsAtEnd-concatenated : (a b c x y : List ℕ)
    → AppendsAtEnd a x b → AppendsAtEnd b y c → AppendsAtEnd a (x ++ y) c
AppendsAtEnd-concatenated a b c x y first second = second ∙ ap (λ l. l ++ y) first ∙ append_assoc a x y

-- a slice to which nothing has been appended
pub FillsSlice-none : (a : List ℕ) (n : ℕ) → FillsSlice a n [] a n
FillsSlice-none a n = record {
  appends = AppendsAtEnd-none (take n a);
  advances = AdvancesPast-none (drop n a);
  count = omega arith;
}

-- a slice to which two lists have been appended
pub FillsSlice-concatenated : (a b c x y : List ℕ) (n m k : ℕ)
    → FillsSlice a n x b m → FillsSlice b m y c k → FillsSlice a n (x ++ y) c k
FillsSlice-concatenated a b c x y n m k first second = record {
  appends = AppendsAtEnd-concatenated (take n a) (take m b) (take k c) x y first.appends second.appends;
  advances = AdvancesPast-concatenated (drop n a) (drop m b) (drop k c) x y first.advances second.advances;
  count = omega (arith, length-append x y, first.count, second.count);
}

-- a `SliceWriter` to which nothing has been appended
pub Fills-none : (w : SliceWriter) → Fills w [] w
Fills-none w = record { same_slice = refl; fills = FillsSlice-none w.buffer.now w.filled }

-- a `SliceWriter` to which two lists have been appended
pub Fills-concatenated : (a b c : SliceWriter) (x y : List ℕ) → Fills a x b → Fills b y c → Fills a (x ++ y) c
Fills-concatenated a b c x y first second = record {
  same_slice = second.same_slice ∙ first.same_slice;
  fills = FillsSlice-concatenated a.buffer.now b.buffer.now c.buffer.now x y
      a.filled b.filled c.filled first.fills second.fills;
}

-- a list to which no members have been appended
pub AppendsMembers-none : (a : List Value) → AppendsMembers a [] a
AppendsMembers-none a =
    record { following = sym (append-nil (map view a)); are_bytes = All-nil (λ byte. byte < 256) }

-- a list to which the members of two lists have been appended
pub AppendsMembers-concatenated : (a b c : List Value) (x y : List ℕ)
    → AppendsMembers a x b → AppendsMembers b y c → AppendsMembers a (x ++ y) c
AppendsMembers-concatenated a b c x y first second = record {
  following = second.following ∙ ap (λ l. l ++ map (λ n. number (unsigned n)) y) first.following
      ∙ append_assoc (map view a) (map (λ n. number (unsigned n)) x) (map (λ n. number (unsigned n)) y)
      ∙ ap (λ l. map view a ++ l) (sym (map-append (λ n. number (unsigned n)) x y));
  are_bytes = All-append (λ byte. byte < 256) x y first.are_bytes second.are_bytes;
}
