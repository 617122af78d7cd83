-- A text's Python form is UTF-8.
use Rattle.native_containers.proofs.Below.{ℕ, suc, Bool, true, false, cond, List, [], length, get_or, inl, inr, refl, sym, ap₂, subst, arith, append-nil, IsUtf8, flat_map, and_parts, cases_lt, nat_tests, flat_map-append, IsUtf8-append, IsUtf8-nil, IsUtf8-encode, encode_ascii, inside_one, mark, repr_byte, repr_text}
use Rattle.std.proofs.Common.{◌≡◌, ◌<◌, ◌≤◌, ◌∷◌, ◌++◌}
use lib.Utf8.{scalar, scalars, encode, encodes, low_scalar}

-- a byte below 128 before a text
utf8_cons : (b : ℕ) (bs : List ℕ) → b < 128 → IsUtf8 bs → IsUtf8 (b ∷ bs)
utf8_cons b bs small rest =
    IsUtf8-append (b ∷ []) bs (subst IsUtf8 (encode_ascii b small) (IsUtf8-encode b (low_scalar b (omega arith)))) rest

utf8_mark : (b : ℕ) → b < 128 → IsUtf8 (mark b)
utf8_mark b small = utf8_cons 92 (b ∷ []) (omega arith) (utf8_cons b [] small IsUtf8-nil)

utf8_cond : (t : Bool) (xs ys : List ℕ) → IsUtf8 xs → IsUtf8 ys → IsUtf8 (cond t xs ys)
utf8_cond true xs ys p q = p
utf8_cond false xs ys p q = q

utf8_byte : (b : ℕ) → b < 128 → IsUtf8 (repr_byte b)
unfolding repr_byte
utf8_byte b small =
    let marked = λ (t : Bool) (c : ℕ) (rest : List ℕ) (h : c < 128) (u : IsUtf8 rest). utf8_cond t (mark c) rest (utf8_mark c h) u in
    let plain = utf8_cons b [] small IsUtf8-nil in
    marked _ 92 _ (omega arith) (marked _ 39 _ (omega arith) (marked _ 110 _ (omega arith) (marked _ 114 _ (omega arith) (marked _ 116 _ (omega arith) plain))))

-- bytes from 128 on stay as they are
high_byte : (b : ℕ) → 128 ≤ b → repr_byte b ≡ b ∷ []
unfolding repr_byte
high_byte b high = grind (arith, nat_tests)

high_bytes : (bs : List ℕ) → ((k : ℕ) → k < length bs → 128 ≤ get_or bs k 0) → flat_map repr_byte bs ≡ bs
high_bytes [] h = refl
high_bytes (b ∷ bs) h =
    ap₂ (λ (xs ys : List ℕ). xs ++ ys) (high_byte b (h 0 (omega arith))) (high_bytes bs (λ k below. h (suc k) (omega arith)))

-- each byte of a character from 128 on is from 128 on
bytes_of_high : (c : ℕ) → 128 ≤ c → (k : ℕ) → k < length (encode c) → 128 ≤ get_or (encode c) k 0
bytes_of_high c high k below = elim (cases_lt (get_or (encode c) k 0) 128) [
  | inl low ↦ absurd (omega (arith, inside_one c [] (encode c) k (sym (append-nil _)) below low))
  | inr h ↦ h
]

utf8_character : (c : ℕ) → scalar c ≡ true → IsUtf8 (flat_map repr_byte (encode c))
utf8_character c ok = elim (cases_lt c 128) [
  | inl small ↦ rw (encode_ascii c small, append-nil) (utf8_byte c small)
  | inr high ↦ subst IsUtf8 (sym (high_bytes (encode c) (bytes_of_high c high))) (IsUtf8-encode c ok)
]

utf8_characters : (cs : List ℕ) → scalars cs ≡ true → IsUtf8 (flat_map repr_byte (encodes cs))
utf8_characters [] e = IsUtf8-nil
utf8_characters (c ∷ cs) e =
    let p = and_parts _ _ e in
    subst IsUtf8 (sym (flat_map-append repr_byte (encode c) (encodes cs))) (IsUtf8-append _ _ (utf8_character c p.0) (utf8_characters cs p.1))

pub utf8_repr : (bs : List ℕ) → IsUtf8 bs → IsUtf8 (repr_text bs)
utf8_repr bs u =
    let marked = subst (λ xs. IsUtf8 (flat_map repr_byte xs)) u.1.1 (utf8_characters u.0 u.1.0) in
    IsUtf8-append (39 ∷ flat_map repr_byte bs) _ (utf8_cons 39 _ (omega arith) marked) (utf8_cons 39 [] (omega arith) IsUtf8-nil)
