-- A text's escapes are UTF-8.
use Rattle.script_text.proofs.Below.{ℕ, suc, Bool, true, false, cond, nat_lt, List, [], length, get_or, inl, inr, refl, sym, ap₂, subst, arith, append-nil, IsUtf8, digit_char, and_parts, cases_lt, nat_tests, flat_map-append, IsUtf8-append, IsUtf8-nil, IsUtf8-encode, encode_ascii, inside_one, escaped, escaped_byte, hexadecimal, mark, quoted}
use Rattle.std.proofs.Common.{◌≡◌, ◌/◌, ◌%◌, ◌<◌, ◌≤◌, ◌∷◌, ◌++◌}
use lib.Utf8.{scalar, scalars, encode, encodes, low_scalar}

-- a byte below 128 before a text
utf8_cons : (b : ℕ) (bs : List ℕ) → b < 128 → IsUtf8 bs → IsUtf8 (b ∷ bs)
utf8_cons b bs small rest =
    IsUtf8-append (b ∷ []) bs (subst IsUtf8 (encode_ascii b small) (IsUtf8-encode b (low_scalar b (omega arith)))) rest

utf8_mark : (b : ℕ) → b < 128 → IsUtf8 (mark b)
utf8_mark b small = utf8_cons 92 (b ∷ []) (omega arith) (utf8_cons b [] small IsUtf8-nil)

digit_small : (d : ℕ) → d < 16 → digit_char d < 128
digit_small d h = grind (arith, nat_tests)

utf8_hexadecimal : (b : ℕ) → b < 128 → IsUtf8 (hexadecimal b)
utf8_hexadecimal b small =
    let low = utf8_cons (digit_char (b % 16)) [] (digit_small (b % 16) (omega arith)) IsUtf8-nil in
    let both = utf8_cons (digit_char (b / 16)) _ (digit_small (b / 16) (omega arith)) low in
    utf8_cons 92 _ (omega arith) (utf8_cons 120 _ (omega arith) both)

utf8_cond : (t : Bool) (xs ys : List ℕ) → IsUtf8 xs → IsUtf8 ys → IsUtf8 (cond t xs ys)
utf8_cond true xs ys p q = p
utf8_cond false xs ys p q = q

utf8_escaped_byte : (b : ℕ) → b < 128 → IsUtf8 (escaped_byte b)
unfolding escaped_byte
utf8_escaped_byte b small =
    let marked = λ (t : Bool) (c : ℕ) (rest : List ℕ) (h : c < 128) (u : IsUtf8 rest). utf8_cond t (mark c) rest (utf8_mark c h) u in
    let plain = utf8_cond (nat_lt b 32) _ _ (utf8_hexadecimal b small) (utf8_cons b [] small IsUtf8-nil) in
    marked _ 34 _ (omega arith) (marked _ 92 _ (omega arith) (marked _ 110 _ (omega arith) (marked _ 114 _ (omega arith) (marked _ 116 _ (omega arith) plain))))

-- bytes from 128 on stay as they are
high_byte : (b : ℕ) → 128 ≤ b → escaped_byte b ≡ b ∷ []
unfolding escaped_byte
high_byte b high = grind (arith, nat_tests)

high_bytes : (bs : List ℕ) → ((k : ℕ) → k < length bs → 128 ≤ get_or bs k 0) → escaped bs ≡ bs
high_bytes [] h = refl
high_bytes (b ∷ bs) h =
    ap₂ (λ (xs ys : List ℕ). xs ++ ys) (high_byte b (h 0 (omega arith))) (high_bytes bs (λ k below. h (suc k) (omega arith)))

-- each byte of a character from 128 on is from 128 on
bytes_of_high : (c : ℕ) → 128 ≤ c → (k : ℕ) → k < length (encode c) → 128 ≤ get_or (encode c) k 0
bytes_of_high c high k below = elim (cases_lt (get_or (encode c) k 0) 128) [
  | inl low ↦ absurd (omega (arith, inside_one c [] (encode c) k (sym (append-nil _)) below low))
  | inr h ↦ h
]

utf8_character : (c : ℕ) → scalar c ≡ true → IsUtf8 (escaped (encode c))
utf8_character c ok = elim (cases_lt c 128) [
  | inl small ↦ rw (encode_ascii c small, append-nil) (utf8_escaped_byte c small)
  | inr high ↦ subst IsUtf8 (sym (high_bytes (encode c) (bytes_of_high c high))) (IsUtf8-encode c ok)
]

utf8_characters : (cs : List ℕ) → scalars cs ≡ true → IsUtf8 (escaped (encodes cs))
utf8_characters [] e = IsUtf8-nil
utf8_characters (c ∷ cs) e =
    let p = and_parts _ _ e in
    subst IsUtf8 (sym (flat_map-append escaped_byte (encode c) (encodes cs))) (IsUtf8-append _ _ (utf8_character c p.0) (utf8_characters cs p.1))

pub utf8_escaped : (bs : List ℕ) → IsUtf8 bs → IsUtf8 (escaped bs)
utf8_escaped bs u = subst (λ xs. IsUtf8 (escaped xs)) u.1.1 (utf8_characters u.0 u.1.0)

pub utf8_quoted : (bs : List ℕ) → IsUtf8 bs → IsUtf8 (quoted bs)
utf8_quoted bs u =
    IsUtf8-append (34 ∷ escaped bs) _ (utf8_cons 34 _ (omega arith) (utf8_escaped bs u)) (utf8_cons 34 [] (omega arith) IsUtf8-nil)
