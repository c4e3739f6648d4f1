-- An input settles its verdict exactly if that is not incomplete; the shortest prefix that does.
use Rattle.multihash.proofs.Common.{common_steps, ◌≡◌, ℕ, ◌⊎◌, List, [], ◌∷◌, ◌++◌, refl, inl, inr, ◌-◌, ◌<◌, ◌↔◌, length, replicate, sym, ap, ◌∙◌, subst, arith, length-append, append_assoc, append-nil, ◌+◌, ◌≤◌, get_or, IsStrictPrefix, IsBytes, IsPrefix, ExactlyOne, length-replicate, get_or_append_left, length-map, All-nil, All-cons, All-replicate, IsContinuation, VarintError, insufficient, overflow, not_minimal, IsInsufficient, IsNotMinimal, BeginsMalformed, max_continuation, continuation_bytes, IsVarint, Verdict, accepted, invalid_size, invalid_code, malformed, unexpected_eof, BeginsWithSize, BeginsWithCode, HasVerdict, IsIncomplete, BeginsWith, All, Pair, FitsBuffer, digest_limit, IsEncoding}
use Rattle.multihash.specs.Settling.{Settles, IsShortestSettling}
use Rattle.multihash.proofs.VerdictLemmas.{coded, sized, pair_begins, verdict_unique}
use Rattle.multihash.proofs.DigitLemmas.{All-continuation_bytes}
use Rattle.multihash.proofs.VarintLemmas.{varint_length, number_no_error}
use Rattle.multihash.proofs.WritingLemmas.{length_of_not_nil}

pub split_prefix : (f g p : List ℕ) → IsStrictPrefix p (f ++ g) → IsStrictPrefix p f ⊎ ((q : List ℕ) × (p ≡ f ++ q) × IsStrictPrefix q g)
split_prefix [] g p h = inr (p, refl, h)
split_prefix (c ∷ f) g [] h = inl (c ∷ f, (λ e. cc), refl)
split_prefix (c ∷ f) g (d ∷ p) (rest, some, e) =
    let heads : c ≡ d = cc in
    let tails : f ++ g ≡ p ++ rest = cc in
    elim (split_prefix f g p (rest, some, tails)) [
      | inl (q, more, cut) ↦ inl (q, more, cc (heads, cut))
      | inr (q, cut, more) ↦ inr (q, cc (heads, cut), more)
    ]

pub compare_prefixes : (a b r q : List ℕ) → a ++ r ≡ b ++ q → (a ≡ b) ⊎ IsStrictPrefix a b ⊎ IsStrictPrefix b a
compare_prefixes [] [] r q e = inl refl
compare_prefixes [] (c ∷ b) r q e = inr (inl (c ∷ b, (λ n. cc), refl))
compare_prefixes (c ∷ a) [] r q e = inr (inr (c ∷ a, (λ n. cc), refl))
compare_prefixes (c ∷ a) (d ∷ b) r q e =
    let heads : c ≡ d = cc in
    let tails : a ++ r ≡ b ++ q = cc in
    elim (compare_prefixes a b r q tails) [
      | inl same ↦ inl (cc (heads, same))
      | inr (inl (more, some, cut)) ↦ inr (inl (more, some, cc (heads, cut)))
      | inr (inr (more, some, cut)) ↦ inr (inr (more, some, cc (heads, cut)))
    ]

-- ---- a verdict that is not incomplete stays

append_more : (x a r more : List ℕ) → x ≡ a ++ r → x ++ more ≡ a ++ (r ++ more)
append_more x a r more e = ap (λ (z : List ℕ). z ++ more) e ∙ append_assoc a r more

size_kept : (size : ℕ) (x rest more : List ℕ) → BeginsWithSize size x rest → BeginsWithSize size (x ++ more) (rest ++ more)
size_kept size x rest more h = grind (arith, append_assoc)

code_kept : (x rest more : List ℕ) → BeginsWithCode x rest → BeginsWithCode (x ++ more) (rest ++ more)
code_kept x rest more c = coded c.code c.code_bytes (x ++ more) (rest ++ more) c.is_code (append_more x c.code_bytes rest more c.cut)

-- unless its end is missing, a malformed varint stays so whatever follows
pub error_kept : (f : VarintError) (x more : List ℕ) → ¬ (IsIncomplete (malformed f)) → BeginsMalformed f x → BeginsMalformed f (x ++ more)
error_kept f x more late h = grind (arith, common_steps)

-- so the front of an input that starts with a varint is malformed only if it ends within it
pub error_of_part : (n : ℕ) (bytes rest x more : List ℕ) (f : VarintError) → IsVarint n bytes → bytes ++ rest ≡ x ++ more
    → BeginsMalformed f x
    → f ≡ insufficient
error_of_part n bytes rest x more insufficient is same h = refl
error_of_part n bytes rest x more overflow is same h =
    absurd (number_no_error (x ++ more) n rest overflow (bytes, is, sym same) (error_kept overflow x more (λ e. e) h))
error_of_part n bytes rest x more not_minimal is same h =
    absurd (number_no_error (x ++ more) n rest not_minimal (bytes, is, sym same) (error_kept not_minimal x more (λ e. e) h))

pub verdict_kept : (S : ℕ) (x more : List ℕ) (v : Verdict) → ¬ (IsIncomplete v) → HasVerdict S x v → HasVerdict S (x ++ more) v
verdict_kept S x more (accepted p) late (rest, b, fits) =
    (rest ++ more, record { encoding = b.encoding; encodes = b.encodes; cut = append_more x b.encoding rest more b.cut }, fits)
verdict_kept S x more (invalid_size size) late (rest, h, over) = (rest ++ more, size_kept size x rest more h, over)
verdict_kept S x more (invalid_code code) late h = h
verdict_kept S x more (malformed f) late (inl h) = inl (error_kept f x more late h)
verdict_kept S x more (malformed f) late (inr (rest, c, h)) =
    inr (rest ++ more, code_kept x rest more c, error_kept f rest more late h)
verdict_kept S x more unexpected_eof late h = absurd (late tt)

-- ---- what settles

own_verdict : (S : ℕ) (x : List ℕ) (s : Settles S x) → HasVerdict S x s.verdict
own_verdict S x s =
    subst (λ (z : List ℕ). HasVerdict S z s.verdict) (append-nil x) (s.always [] (All-nil (λ b. b < 256)))

-- if an input settles its verdict, bytes after it leave the verdict unchanged
same_after : (S : ℕ) (x more : List ℕ) (v w : Verdict) → Settles S x → HasVerdict S x v → IsBytes more → HasVerdict S (x ++ more) w → v ≡ w
same_after S x more v w s h bytes k =
    verdict_unique S x v s.verdict h (own_verdict S x s) ∙ verdict_unique S (x ++ more) s.verdict w (s.always more bytes) k

-- a zero makes continuation bytes not minimal; if there are none, a continuation byte and a zero do
open_varint : (x : List ℕ) → IsInsufficient x → (more : List ℕ) × IsBytes more × IsNotMinimal (x ++ more)
open_varint [] h = (
  128 ∷ 0 ∷ [],
  All-cons (λ b. b < 256) 128 (0 ∷ []) (omega arith) (All-cons (λ b. b < 256) 0 [] (omega arith) (All-nil (λ b. b < 256))),
  record {
    front = 128 ∷ [];
    rest = [];
    all_continuation = All-cons IsContinuation 128 [] (omega arith) (All-nil IsContinuation);
    some = omega arith;
    few = omega arith;
    cut = refl;
  },
)
open_varint (m ∷ ms) h = (
  0 ∷ [],
  All-cons (λ b. b < 256) 0 [] (omega arith) (All-nil (λ b. b < 256)),
  record { front = m ∷ ms; rest = []; all_continuation = h.all_continuation; some = omega arith; few = h.few; cut = refl },
)

-- some bytes after an incomplete input change its verdict
pub incomplete_not_settles : (S : ℕ) (x : List ℕ) (v : Verdict) → IsIncomplete v → HasVerdict S x v → ¬ (Settles S x)
incomplete_not_settles S x (accepted p) incomplete h s = incomplete
incomplete_not_settles S x (invalid_size size) incomplete h s = incomplete
incomplete_not_settles S x (invalid_code code) incomplete h s = incomplete
incomplete_not_settles S x (malformed insufficient) incomplete (inl h) s =
    let (more, bytes, ends) = open_varint x h in
    let same : malformed insufficient ≡ malformed not_minimal =
    same_after S x more (malformed insufficient) (malformed not_minimal) s (inl h) bytes (inl ends) in cc
incomplete_not_settles S x (malformed insufficient) incomplete (inr (rest, c, h)) s =
    let (more, bytes, ends) = open_varint rest h in
    let same : malformed insufficient ≡ malformed not_minimal =
    same_after S x more (malformed insufficient) (malformed not_minimal) s (inr (rest, c, h)) bytes
    (inr (rest ++ more, code_kept x rest more c, ends)) in cc
incomplete_not_settles S x (malformed overflow) incomplete h s = incomplete
incomplete_not_settles S x (malformed not_minimal) incomplete h s = incomplete
incomplete_not_settles S x unexpected_eof incomplete (size, rest, h, within, short) s =
    let more : List ℕ = replicate (size - length rest) 0 in
    let digest : List ℕ = rest ++ more in
    let len : length digest ≡ size = omega (arith, length-append rest more, length-replicate {A = ℕ} (size - length rest) 0) in
    let whole = pair_begins size (x ++ more) digest (size_kept size x rest more h) digest [] len (sym (append-nil digest)) in
    let same = same_after S x more unexpected_eof (accepted (record { code = _; digest = digest })) s (size, rest, h, within, short)
    (All-replicate (λ b. b < 256) (size - length rest) 0 (omega arith)) ([], whole, omega (arith, len, within)) in cc

pub late_settles : (S : ℕ) (x : List ℕ) (v : Verdict) → ¬ (IsIncomplete v) → HasVerdict S x v → Settles S x
late_settles S x v late h = record { verdict = v; always = λ more _. verdict_kept S x more v late h }

pub settles_exactly : (S : ℕ) (x : List ℕ) (v : Verdict) → HasVerdict S x v → Settles S x ↔ ¬ (IsIncomplete v)
settles_exactly S x v h = (λ s incomplete. incomplete_not_settles S x v incomplete h s, λ late. late_settles S x v late h)

-- if an input's verdict is incomplete, no prefix of it settles one
pub none_settles : (S : ℕ) (x : List ℕ) (v : Verdict) → HasVerdict S x v → IsIncomplete v
    → (front : List ℕ) → IsPrefix front x → ¬ (Settles S front)
none_settles S x v h incomplete front (rest, cut) s =
    let own = own_verdict S front s in
    let late : ¬ (IsIncomplete s.verdict) = λ soon. incomplete_not_settles S front s.verdict soon own s in
    let kept = subst (λ (z : List ℕ). HasVerdict S z s.verdict) (sym cut) (verdict_kept S front rest s.verdict late own) in
    late (subst IsIncomplete (verdict_unique S x v s.verdict h kept) incomplete)

-- ---- incomplete inputs

-- at most as many continuation bytes as a varint may have, and one more byte
pub record IsContinuationThenByte (t : List ℕ) : Type 0 where
  pub front : List ℕ
  pub last : ℕ
  pub all_continuation : All IsContinuation front
  pub few : length front ≤ max_continuation
  pub cut : t ≡ front ++ last ∷ []

pub before_step : (t p : List ℕ) → IsContinuationThenByte t → IsStrictPrefix p t → IsInsufficient p
before_step t p s (rest, some, cut) = record { few = omega (arith, s.few, short); all_continuation = marks }
  where
    same : s.front ++ s.last ∷ [] ≡ p ++ rest
    same = sym s.cut ∙ cut

    short : length p ≤ length s.front
    short = omega (arith, ap length same, length-append s.front (s.last ∷ []), length-append p rest, length_of_not_nil rest some)

    marks : All IsContinuation p
    marks k d below =
        let value : get_or p k d ≡ get_or s.front k d =
        sym (get_or_append_left p rest d k below)
        ∙ (ap (λ (z : List ℕ). get_or z k d) (sym same) ∙ get_or_append_left s.front (s.last ∷ []) d k (omega (arith, short, below))) in
        rw value (s.all_continuation k d (omega (arith, short, below)))

-- every strict prefix is insufficient
abbrev pub NoSooner : List ℕ → Type 0
NoSooner t = (p : List ℕ) → IsStrictPrefix p t → IsInsufficient p

pub varint_no_sooner : (n : ℕ) (bytes : List ℕ) → IsVarint n bytes → NoSooner bytes
varint_no_sooner n bytes v p begins =
    let few : length (continuation_bytes v.front) ≤ max_continuation =
    omega (arith, (varint_length n bytes v).0, length-map v.front (λ d. d + 128)) in
    before_step bytes p (record {
      front = continuation_bytes v.front;
      last = v.last;
      all_continuation = All-continuation_bytes v.front;
      few = few;
      cut = v.encoded;
    }) begins

-- the input's verdict is incomplete
abbrev pub IsIncompleteInput : ℕ → List ℕ → Type 0
IsIncompleteInput S x = (v : Verdict) × HasVerdict S x v × IsIncomplete v

pub before_second : (S code : ℕ) (f t p : List ℕ) → IsVarint code f → NoSooner t → IsStrictPrefix p (f ++ t) → IsIncompleteInput S p
before_second S code f t p is_code no_sooner b =
    elim (split_prefix f t p b) [
      | inl sooner ↦ (malformed insufficient, inl (varint_no_sooner code f is_code p sooner), tt)
      | inr (q, cut, more) ↦ (malformed insufficient, inr (q, coded code f p q is_code cut, no_sooner q more), tt)
    ]

pub before_both : (S code size : ℕ) (f t p : List ℕ) → IsVarint code f → IsVarint size t → IsStrictPrefix p (f ++ t) → IsIncompleteInput S p
before_both S code size f t p is_code is_size = before_second S code f t p is_code (varint_no_sooner size t is_size)

pub before_digest : (S : ℕ) (p : Pair) (t x : List ℕ) → IsEncoding p t → FitsBuffer S p → IsStrictPrefix x t → IsIncompleteInput S x
before_digest S p t x e fits (rest, some, cut) =
    elim (split_prefix (e.code ++ e.size) p.digest x (rest, some, append_assoc e.code e.size p.digest ∙ (sym e.encoded ∙ cut))) [
      | inl sooner ↦ before_both S p.code (length p.digest) e.code e.size x e.is_code e.is_size sooner
      | inr (z, z_cut, (left, some, d_cut)) ↦
          let both = sized p.code (length p.digest) e.code e.size x z e.is_code e.is_size (z_cut ∙ append_assoc e.code e.size z) in
          let short : length z < length p.digest = omega (arith, ap length d_cut, length-append z left, length_of_not_nil left some) in
          (unexpected_eof, (length p.digest, z, both, fits, short), tt)
    ]

-- ---- the shortest prefix that settles

-- a prefix whose verdict is not incomplete, while all its strict prefixes are incomplete
pub shortest_from : (S : ℕ) (x t rest : List ℕ) (v : Verdict) → x ≡ t ++ rest → HasVerdict S t v → ¬ (IsIncomplete v)
    → ((p : List ℕ) → IsStrictPrefix p t → IsIncompleteInput S p) → IsShortestSettling S x t
shortest_from S x t rest v cut h late before = record {
  begins = (rest, cut);
  settles = late_settles S t v late h;
  shortest = λ p b. let e = before p b in incomplete_not_settles S p e.0 e.2 e.1;
}

-- the shortest prefix that shows that the varint is malformed
pub record ShowsError (f : VarintError) (x : List ℕ) : Type 0 where
  pub shown : List ℕ
  pub rest : List ℕ
  pub cut : x ≡ shown ++ rest
  pub step : IsContinuationThenByte shown
  pub has : BeginsMalformed f shown

pub shows_error : (f : VarintError) (x : List ℕ) → ¬ (IsIncomplete (malformed f)) → BeginsMalformed f x → ShowsError f x
shows_error insufficient x late h = absurd (late tt)
shows_error overflow x late h = record {
  shown = h.front ++ h.byte ∷ [];
  rest = h.rest;
  cut = h.cut ∙ sym (append_assoc h.front (h.byte ∷ []) h.rest);
  step = record { front = h.front; last = h.byte; all_continuation = h.all_continuation; few = omega (arith, h.most); cut = refl };
  has = record {
    front = h.front;
    byte = h.byte;
    rest = [];
    all_continuation = h.all_continuation;
    most = h.most;
    too_large = h.too_large;
    cut = refl;
  };
}
shows_error not_minimal x late h = record {
  shown = h.front ++ 0 ∷ [];
  rest = h.rest;
  cut = h.cut ∙ sym (append_assoc h.front (0 ∷ []) h.rest);
  step = record { front = h.front; last = 0; all_continuation = h.all_continuation; few = h.few; cut = refl };
  has = record { front = h.front; rest = []; all_continuation = h.all_continuation; some = h.some; few = h.few; cut = refl };
}

-- the shortest prefix that settles a pair is its encoding
pub shortest_pair : (S : ℕ) (p : Pair) (x rest : List ℕ) (b : BeginsWith p x rest) → FitsBuffer S p → IsShortestSettling S x b.encoding
shortest_pair S p x rest b fits =
    shortest_from S x b.encoding rest (accepted p) b.cut
    ([], record { encoding = b.encoding; encodes = b.encodes; cut = sym (append-nil b.encoding) }, fits) (λ e. e)
    (λ y before. before_digest S p b.encoding y b.encodes fits before)

-- for a size that is too large it is both varints
pub shortest_size : (S size : ℕ) (x rest : List ℕ) (h : BeginsWithSize size x rest) → digest_limit S < size
    → IsShortestSettling S x (h.code_bytes ++ h.size_bytes)
shortest_size S size x rest h over =
    let cut = ap (λ (z : List ℕ). h.code_bytes ++ z) (sym (append-nil h.size_bytes)) in
    let own = sized h.code size h.code_bytes h.size_bytes _ [] h.is_code h.is_size cut in
    shortest_from S x (h.code_bytes ++ h.size_bytes) rest (invalid_size size)
    (h.cut ∙ sym (append_assoc h.code_bytes h.size_bytes rest)) ([], own, over) (λ e. e)
    (λ y before. before_both S h.code size h.code_bytes h.size_bytes y h.is_code h.is_size before)

-- for a malformed code it is the prefix that shows it
pub shortest_code_error : (S : ℕ) (f : VarintError) (x : List ℕ) → ¬ (IsIncomplete (malformed f)) → (s : ShowsError f x)
    → IsShortestSettling S x s.shown
shortest_code_error S f x late s =
    shortest_from S x s.shown s.rest (malformed f) s.cut (inl s.has) late
    (λ y before. (malformed insufficient, inl (before_step s.shown y s.step before), tt))

-- for a malformed size it is the code and the prefix that shows it
pub shortest_size_error : (S : ℕ) (f : VarintError) (x rest : List ℕ) → ¬ (IsIncomplete (malformed f))
    → (c : BeginsWithCode x rest) (s : ShowsError f rest)
    → IsShortestSettling S x (c.code_bytes ++ s.shown)
shortest_size_error S f x rest late c s =
    shortest_from S x (c.code_bytes ++ s.shown) s.rest (malformed f)
    (c.cut ∙ (ap (λ (z : List ℕ). c.code_bytes ++ z) s.cut ∙ sym (append_assoc c.code_bytes s.shown s.rest)))
    (inr (s.shown, coded c.code c.code_bytes _ s.shown c.is_code refl, s.has)) late
    (λ y before. before_second S c.code c.code_bytes s.shown y c.is_code (λ p b. before_step s.shown p s.step b) before)

pub shortest_exists : (S : ℕ) (x : List ℕ) (v : Verdict) → HasVerdict S x v → ¬ (IsIncomplete v) → (t : List ℕ) × IsShortestSettling S x t
shortest_exists S x (accepted p) (rest, b, fits) late = (b.encoding, shortest_pair S p x rest b fits)
shortest_exists S x (invalid_size size) (rest, h, over) late = (h.code_bytes ++ h.size_bytes, shortest_size S size x rest h over)
shortest_exists S x (invalid_code code) h late = absurd h
shortest_exists S x (malformed f) (inl h) late =
    let s = shows_error f x late h in (s.shown, shortest_code_error S f x late s)
shortest_exists S x (malformed f) (inr (rest, c, h)) late =
    let s = shows_error f rest late h in (c.code_bytes ++ s.shown, shortest_size_error S f x rest late c s)
shortest_exists S x unexpected_eof h late = absurd (late tt)

pub shortest_unique : (S : ℕ) (x a b : List ℕ) → IsShortestSettling S x a → IsShortestSettling S x b → a ≡ b
shortest_unique S x a b s t =
    elim (compare_prefixes a b s.begins.0 t.begins.0 (sym s.begins.1 ∙ t.begins.1)) [
      | inl same ↦ same
      | inr (inl shorter) ↦ absurd (t.shortest a shorter s.settles)
      | inr (inr shorter) ↦ absurd (s.shortest b shorter t.settles)
    ]

pub one_shortest : (S : ℕ) (x : List ℕ) (v : Verdict) → HasVerdict S x v → ¬ (IsIncomplete v) → ExactlyOne (IsShortestSettling S x)
one_shortest S x v h late =
    let t = shortest_exists S x v h late in
    record { value = t.0; holds = t.1; only = λ other s. shortest_unique S x other t.0 s t.1 }

-- the law `settles`, for the tactics
pub ruleset settling = (settles_exactly, one_shortest, none_settles)
