-- Words and bytes, of any width: how many there are, how large they are, and that each gives the other back.
use Prim.Native.Nat.{ℕ, zero, suc, ◌+◌, ◌-◌, ◌*◌, ◌/◌, ◌%◌, ◌^◌, ◌≤◌, ◌<◌, suc-le-suc}
use native.Mathlib.Nat.{zero-lt-suc, not-suc-le-zero, le_of_suc-le-suc, zero-mul, suc-mul, pow-suc}
use native.Mathlib.Omega.{arith}
use mathlib.Core.Path.{◌≡◌, refl, sym, ap, ap₂, ◌∙◌, subst}
use mathlib.Core.Logic.{dite}
use native.Mathlib.Decide.{dec_lt}
use mathlib.Core.List.{List, [], ◌∷◌, ◌++◌}
use lib.ListN.{length, get_or, take, drop, length-append, length-take, length-drop, take-append-drop, get_or-append}
use lib.Seq.{length-take-le, take_at, drop_at, get_or-take, get_or-drop, get_or-append-add, drop-drop}
use Rattle.lists.proofs.Stretches.{next, part_length, stretch_within}
use Rattle.words.specs.Words.{word_of, bytes_of, words_of, all_bytes, Below}

-- ---- how many there are
pub length-bytes : (n word : ℕ) → length (bytes_of n word) ≡ n
unfolding bytes_of
length-bytes zero word = refl
length-bytes (suc n) word = ap suc (length-bytes n (word / 256))

pub length_words : (width n : ℕ) (bytes : List ℕ) → length (words_of width n bytes) ≡ n
unfolding words_of
length_words width zero bytes = refl
length_words width (suc n) bytes = ap suc (length_words width n (drop width bytes))

pub length_all : (width : ℕ) (words : List ℕ) → length (all_bytes width words) ≡ length words * width
unfolding all_bytes
length_all width [] = sym (zero-mul width)
length_all width (word ∷ words) =
    length-append (bytes_of width word) (all_bytes width words) ∙ omega (arith, length-bytes width word, length_all width words, suc-mul (length words) width)

-- ---- one word
pub word_below : (bytes : List ℕ) → Below 256 bytes → word_of bytes < 256 ^ length bytes
unfolding word_of
word_below [] h = zero-lt-suc 0
word_below (b ∷ bytes) h =
    let rest = word_below bytes (λ i l. h (suc i) (suc-le-suc l)) in
    omega (arith, h 0 (zero-lt-suc (length bytes)), pow-suc 256 (length bytes))

pub byte_below : (n word : ℕ) → Below 256 (bytes_of n word)
unfolding bytes_of
byte_below zero word i h = absurd (not-suc-le-zero h)
byte_below (suc n) word zero h = omega arith
byte_below (suc n) word (suc i) h = byte_below n (word / 256) i (le_of_suc-le-suc h)

pub word_back : (n word : ℕ) → word < 256 ^ n → word_of (bytes_of n word) ≡ word
unfolding word_of bytes_of
word_back zero word h = omega arith
word_back (suc n) word h =
    let rest = word_back n (word / 256) (omega (arith, pow-suc 256 n)) in
    omega arith

pub byte_back : (bytes : List ℕ) → Below 256 bytes → bytes_of (length bytes) (word_of bytes) ≡ bytes
unfolding word_of bytes_of
byte_back [] h = refl
byte_back (b ∷ bytes) h =
    let low = h 0 (zero-lt-suc (length bytes)) in
    let first : (b + 256 * word_of bytes) % 256 ≡ b = omega arith in
    let rest : (b + 256 * word_of bytes) / 256 ≡ word_of bytes = omega arith in
    ap₂ ◌∷◌ first (ap (bytes_of (length bytes)) rest ∙ byte_back bytes (λ i l. h (suc i) (suc-le-suc l)))

-- ---- the front of a list, its rest, and two lists in a row
pub below_take : (m k : ℕ) (l : List ℕ) → Below m l → Below m (take k l)
below_take m k l h i lt =
    let within : (i < k) × (i < length l) = omega (arith, length-take k l) in
    subst (λ (x : ℕ). x < m) (sym (get_or-take k l i 0 within.0)) (h i within.1)

pub below_drop : (m k : ℕ) (l : List ℕ) → Below m l → Below m (drop k l)
below_drop m k l h i lt = subst (λ (x : ℕ). x < m) (sym (get_or-drop k l i 0)) (h (k + i) (omega (arith, length-drop k l)))

below_append : (m : ℕ) (xs ys : List ℕ) → Below m xs → Below m ys → Below m (xs ++ ys)
below_append m xs ys h k i lt =
    dite
    (dec_lt i (length xs))
    (λ b. subst (λ (x : ℕ). x < m) (sym (get_or-append xs ys 0 i b)) (h i b))
    (λ b.
    let e : length xs + (i - length xs) ≡ i = omega arith in
    let there : get_or (xs ++ ys) i 0 ≡ get_or ys (i - length xs) 0 = ap (λ (j : ℕ). get_or (xs ++ ys) j 0) (sym e) ∙ get_or-append-add xs ys (i - length xs) 0 in
    subst (λ (x : ℕ). x < m) (sym there) (k (i - length xs) (omega (arith, length-append xs ys))))

-- ---- what stands at a place
pub word_there : (width n : ℕ) (bytes : List ℕ) (i : ℕ) → i < n → get_or (words_of width n bytes) i 0 ≡ word_of (take width (drop (i * width) bytes))
unfolding words_of
word_there width zero bytes i h = absurd (not-suc-le-zero h)
word_there width (suc n) bytes zero h = ap (λ (a : ℕ). word_of (take width (drop a bytes))) (sym (zero-mul width))
word_there width (suc n) bytes (suc i) h =
    let here : width + i * width ≡ suc i * width = omega (arith, suc-mul i width) in
    word_there width n (drop width bytes) i (le_of_suc-le-suc h) ∙ ap (λ (l : List ℕ). word_of (take width l)) (drop-drop (i * width) width bytes) ∙ ap (λ (a : ℕ). word_of (take width (drop a bytes))) here

pub byte_there : (width : ℕ) (words : List ℕ) (i k : ℕ) → i < length words → k < width → get_or (all_bytes width words) (i * width + k) 0 ≡ get_or (bytes_of width (get_or words i 0)) k 0
unfolding all_bytes
byte_there width [] i k h l = absurd (not-suc-le-zero h)
byte_there width (word ∷ words) zero k h l =
    let here : zero * width + k ≡ k = omega (arith, zero-mul width) in
    ap (λ (j : ℕ). get_or (bytes_of width word ++ all_bytes width words) j 0) here ∙ get_or-append (bytes_of width word) (all_bytes width words) 0 k (omega (arith, length-bytes width word))
byte_there width (word ∷ words) (suc i) k h l =
    let here : suc i * width + k ≡ length (bytes_of width word) + (i * width + k) = omega (arith, suc-mul i width, length-bytes width word) in
    ap (λ (j : ℕ). get_or (bytes_of width word ++ all_bytes width words) j 0) here ∙ get_or-append-add (bytes_of width word) (all_bytes width words) (i * width + k) 0 ∙ byte_there width words i k (le_of_suc-le-suc h) l

-- ---- how large they are
pub words_below : (width n : ℕ) (bytes : List ℕ) → Below 256 bytes → length bytes ≡ n * width → Below (256 ^ width) (words_of width n bytes)
words_below width n bytes h e i lt =
    let low : i < n = omega (arith, length_words width n bytes) in
    let fits : i * width + width ≤ length bytes = omega (arith, next i width, stretch_within i n width (length bytes) low e) in
    let small = subst (λ (k : ℕ). word_of (take width (drop (i * width) bytes)) < 256 ^ k) (part_length bytes (i * width) width fits) (word_below (take width (drop (i * width) bytes)) (below_take 256 width (drop (i * width) bytes) (below_drop 256 (i * width) bytes h))) in
    subst (λ (x : ℕ). x < 256 ^ width) (sym (word_there width n bytes i low)) small

pub bytes_below : (width : ℕ) (words : List ℕ) → Below 256 (all_bytes width words)
unfolding all_bytes
bytes_below width [] i h = absurd (not-suc-le-zero h)
bytes_below width (word ∷ words) i h = below_append 256 (bytes_of width word) (all_bytes width words) (byte_below width word) (bytes_below width words) i h

-- ---- there and back
pub words_back : (width : ℕ) (words : List ℕ) → Below (256 ^ width) words → words_of width (length words) (all_bytes width words) ≡ words
unfolding words_of all_bytes
words_back width [] h = refl
words_back width (word ∷ words) h =
    let first = bytes_of width word in
    let rest = all_bytes width words in
    ap₂
    ◌∷◌
    (ap word_of (take_at first rest width (length-bytes width word)) ∙ word_back width word (h 0 (zero-lt-suc (length words))))
    (ap (words_of width (length words)) (drop_at first rest width (length-bytes width word)) ∙ words_back width words (λ i l. h (suc i) (suc-le-suc l)))

pub bytes_back : (width n : ℕ) (bytes : List ℕ) → Below 256 bytes → length bytes ≡ n * width → all_bytes width (words_of width n bytes) ≡ bytes
unfolding words_of all_bytes
bytes_back width zero [] h e = refl
bytes_back width zero (b ∷ bytes) h e = absurd (omega (arith, zero-mul width))
bytes_back width (suc n) bytes h e =
    let fits : width ≤ length bytes = omega (arith, suc-mul n width) in
    let long : length (take width bytes) ≡ width = length-take-le width bytes fits in
    let first : bytes_of width (word_of (take width bytes)) ≡ take width bytes = ap (λ (k : ℕ). bytes_of k (word_of (take width bytes))) (sym long) ∙ byte_back (take width bytes) (below_take 256 width bytes h) in
    let rest = bytes_back width n (drop width bytes) (below_drop 256 width bytes h) (length-drop width bytes ∙ omega (arith, suc-mul n width)) in
    ap₂ ◌++◌ first rest ∙ take-append-drop width bytes
