-- Parts in a stream, none of which is a prefix of another, can be split in one way only; one more pair has been
-- consumed.
use Rattle.multihash.proofs.Common.{◌≡◌, ℕ, ◌<◌, ◌≤◌, List, [], ◌∷◌, ◌++◌, length, refl, sym, ap, ◌∙◌, subst, arith, length-append, append_assoc, append-nil, Option, map, All, Pair, FitsBuffer, IsEncoding, AreParts, AreConcatenated, ConsumesPairs, map_push, nil_from_length, All-push, All-head, Consumes, Fields, pair_of}
use Rattle.multihash.proofs.DigitLemmas.{All-append_right}
use Rattle.multihash.proofs.VarintLemmas.{varint_some}
use Rattle.multihash.proofs.EncodingLemmas.{encoding_unique}
use Rattle.multihash.proofs.ReadingLemmas.{Consumes-concatenated}

module _ {A : Type 0} (IsPart : A → List ℕ → Type 0) where
  -- one more part after the parts of a list
  pub parts_push : (xs : List A) (x : A) (bytes part : List ℕ) → AreParts IsPart xs bytes → IsPart x part
      → AreParts IsPart (xs ++ x ∷ []) (bytes ++ part)
  parts_push [] x bytes part none is = (part, [], is, refl, ap (λ z. z ++ part) none ∙ sym (append-nil part))
  parts_push (y ∷ xs) x bytes part (first, rest, is_first, others, cut) is = grind (arith, append_assoc, parts_push xs x rest part others is)

  -- if each item has one part, a list of items has one stream
  pub parts_same : ((x : A) (a b : List ℕ) → IsPart x a → IsPart x b → a ≡ b) → (xs : List A) (a b : List ℕ) → AreParts IsPart xs a
      → AreParts IsPart xs b → a ≡ b
  parts_same same [] a b g h = g ∙ sym h
  parts_same same (x ∷ xs) a b (p, a', is_p, g, a_cut) (q, b', is_q, h, b_cut) = grind (arith, parts_same same xs a' b' g h)

  module _ (unique : (x y : A) (a b r s : List ℕ) → IsPart x a → IsPart y b → a ++ r ≡ b ++ s → (x ≡ y) × (a ≡ b) × (r ≡ s)) where
    -- of two streams at the front of one input, the one of fewer items is the front of the other
    pub parts_split : (xs ys : List A) (a b r s : List ℕ) → AreParts IsPart xs a → AreParts IsPart ys b → length xs ≤ length ys
        → a ++ r ≡ b ++ s
        → (zs : List A) × (c : List ℕ) × (ys ≡ xs ++ zs) × AreParts IsPart zs c × (b ≡ a ++ c) × (r ≡ c ++ s)
    parts_split [] ys a b r s none h few e = (ys, b, refl, h, ap (λ z. z ++ b) (sym none), sym (ap (λ z. z ++ r) none) ∙ e)
    parts_split (x ∷ xs) [] a b r s g h few e = absurd (omega arith)
    parts_split (x ∷ xs) (y ∷ ys) a b r s (p, a', is_p, g, a_cut) (q, b', is_q, h, b_cut) few e =
        let first = unique x y p q (a' ++ r) (b' ++ s) is_p is_q
        (sym (ap (λ z. z ++ r) a_cut ∙ append_assoc p a' r) ∙ (e ∙ (ap (λ z. z ++ s) b_cut ∙ append_assoc q b' s))) in
        let (zs, c, same, others, whole, left) = parts_split xs ys a' b' r s g h (omega arith) first.2 in
        (zs, c, cc (first.0, same), others, cc (a_cut, b_cut, whole, first.1, append_assoc p a' c), left)

    -- two lists of as many items at the front of one input are equal, and so are their parts and what follows them
    pub parts_unique : (xs ys : List A) (a b r s : List ℕ) → length xs ≡ length ys → AreParts IsPart xs a → AreParts IsPart ys b
        → a ++ r ≡ b ++ s → (xs ≡ ys) × (a ≡ b) × (r ≡ s)
    parts_unique xs ys a b r s long g h e = by (parts_split xs ys a b r s g h (omega arith) e)
      where
        by : (zs : List A) × (c : List ℕ) × (ys ≡ xs ++ zs) × AreParts IsPart zs c × (b ≡ a ++ c) × (r ≡ c ++ s)
            → (xs ≡ ys) × (a ≡ b) × (r ≡ s)
        by ([], c, same, none, cut, left) = (
          sym (same ∙ append-nil xs),
          sym (cut ∙ ap (λ z. a ++ z) none ∙ append-nil a),
          left ∙ ap (λ z. z ++ s) none,
        )
        by (z ∷ zs, c, same, _, _, _) = absurd (omega (arith, long, ap length same, length-append xs (z ∷ zs)))

    -- after the parts of fewer items comes the part of another item
    pub next_part : (xs ys : List A) (a b r s : List ℕ) → AreParts IsPart xs a → AreParts IsPart ys b → length xs < length ys
        → a ++ r ≡ b ++ s
        → (y : A) × (part : List ℕ) × (rest : List ℕ) × IsPart y part × (r ≡ part ++ rest) × ((P : A → Type 0) → All P ys → P y)
    next_part xs ys a b r s g h few e = by (parts_split xs ys a b r s g h (omega arith) e)
      where
        by : (zs : List A) × (c : List ℕ) × (ys ≡ xs ++ zs) × AreParts IsPart zs c × (b ≡ a ++ c) × (r ≡ c ++ s)
            → (y : A) × (part : List ℕ) × (rest : List ℕ) × IsPart y part × (r ≡ part ++ rest) × ((P : A → Type 0) → All P ys → P y)
        by ([], c, same, _, _, _) = absurd (omega (arith, few, ap length same, length-append xs []))
        by (z ∷ zs, c, same, (part, rest, is, _, cut), _, left) = (
          z,
          part,
          rest ++ s,
          is,
          left ∙ (ap (λ w. w ++ s) cut ∙ append_assoc part rest s),
          λ P all. All-head P z zs (All-append_right P xs (z ∷ zs) (subst (All P) same all)),
        )

    module _ (some : (x : A) (part : List ℕ) → IsPart x part → 0 < length part) where
      -- if no part is empty, the items of a stream at the front of a longer one are the first of its items
      pub prefix_of : (xs ys : List A) (a b r s : List ℕ) → AreParts IsPart xs a → AreParts IsPart ys b → length a ≤ length b
          → a ++ r ≡ b ++ s
          → (zs : List A) × (ys ≡ xs ++ zs)
      prefix_of [] ys a b r s none h longer e = (ys, refl)
      prefix_of (x ∷ xs) [] a b r s (p, a', is, g, cut) none longer e = grind (arith, length-append)
      prefix_of (x ∷ xs) (y ∷ ys) a b r s (p, a', is_p, g, a_cut) (q, b', is_q, h, b_cut) longer e =
          let first = unique x y p q (a' ++ r) (b' ++ s) is_p is_q
          (sym (ap (λ z. z ++ r) a_cut ∙ append_assoc p a' r) ∙ (e ∙ (ap (λ z. z ++ s) b_cut ∙ append_assoc q b' s))) in
          let shorter : length a' ≤ length b' = omega (
            arith,
            longer,
            ap length a_cut,
            ap length b_cut,
            ap length first.1,
            length-append p a',
            length-append q b',
          ) in
          let (zs, same) = prefix_of xs ys a' b' r s g h shorter first.2 in
          (zs, cc (first.0, same))

      -- if no part is empty, the bytes determine the items and their number
      pub parts_whole : (xs ys : List A) (bytes : List ℕ) → AreParts IsPart xs bytes → AreParts IsPart ys bytes → xs ≡ ys
      parts_whole xs ys bytes g h =
          let (zs, same) = prefix_of xs ys bytes bytes [] [] g h (omega arith) refl in
          let (ws, also) = prefix_of ys xs bytes bytes [] [] h g (omega arith) refl in
          let none : length zs ≡ 0 = omega (arith, ap length same, ap length also, length-append xs zs, length-append ys ws) in
          sym (same ∙ (ap (λ z. xs ++ z) (nil_from_length zs none) ∙ append-nil xs))

-- an encoding is not empty
pub encoding_some : (p : Pair) (bytes : List ℕ) → IsEncoding p bytes → 0 < length bytes
encoding_some p bytes e = omega (arith, varint_some p.code e.code e.is_code, ap length e.encoded, length-append e.code (e.size ++ p.digest))

-- the bytes of concatenated encodings determine the pairs
pub concatenated_whole : (ps qs : List Pair) (bytes : List ℕ) → AreConcatenated ps bytes → AreConcatenated qs bytes → ps ≡ qs
concatenated_whole = parts_whole IsEncoding encoding_unique encoding_some

-- one more pair was read after others
pub ConsumesPairs-more : (S : ℕ) (items : List (Fields S)) (m : Fields S) {encoding : List ℕ} {a b : Option (List ℕ)} (c : Option (List ℕ))
    → ConsumesPairs S (map pair_of items) a b
    → IsEncoding (pair_of m) encoding → FitsBuffer S (pair_of m) → Consumes b encoding c
    → ConsumesPairs S (map pair_of (items ++ m ∷ [])) a c
ConsumesPairs-more S items m {encoding = encoding} c before encodes fits consumes =
    rw (map_push pair_of items m) (record {
      bytes = before.bytes ++ encoding;
      concatenated = parts_push IsEncoding (map pair_of items) (pair_of m) before.bytes encoding before.concatenated encodes;
      fit = All-push (FitsBuffer S) (map pair_of items) (pair_of m) before.fit fits;
      consumes = Consumes-concatenated c before.bytes encoding refl before.consumes consumes;
    })
