-- Reading a text of bytes from left to right. Each step says what of the text is left behind it. Where the text does not go on as asked nothing is left, and from nothing no step reads on.
use Rattle.std.specs.Prelude.{ℕ, Bool, true, false, not, ◌&&◌, ◌||◌, cond, List, [], ◌∷◌, eqb, ltb, leb}
use Prim.Native.Char.{code}
use Prim.Native.String.{String}
use Rattle.text.specs.declared.Kind.{Kind}
use Rattle.text.specs.declared.Kind.TheVariants.{Blank, Spacing, Digit}

-- ---- a text in quotation marks, as bytes
abbrev pub bytes : String → List ℕ
bytes String.[] = []
bytes (String.◌∷◌ c cs) = code c ∷ bytes cs

-- ---- signs, by kind
abbrev pub is_blank : ℕ → Bool
is_blank x = eqb x (code " ") || eqb x (code "\t")

abbrev pub is_spacing : ℕ → Bool
is_spacing x = is_blank x || eqb x (code "\n")

abbrev pub is_digit : ℕ → Bool
is_digit x = not (ltb x (code "0")) && leb x (code "9")

abbrev pub is_quote : ℕ → Bool
is_quote x = eqb x (code "'") || eqb x (code "\"")

abbrev pub is_of : Kind → ℕ → Bool
is_of Blank x = is_blank x
is_of Spacing x = is_spacing x
is_of Digit x = is_digit x

-- all signs of a kind, be it none
unfoldable pub past : Kind → List ℕ → List ℕ
past kind [] = []
past kind (x ∷ xs) = cond (is_of kind x) (past kind xs) (x ∷ xs)

-- ---- this sign, and these signs
unfoldable pub is_at : ℕ → List ℕ → Bool
is_at sign [] = false
is_at sign (x ∷ xs) = eqb x sign

unfoldable pub expect : ℕ → List ℕ → List ℕ
expect sign [] = []
expect sign (x ∷ xs) = cond (eqb x sign) xs []

unfoldable pub literal : List ℕ → List ℕ → List ℕ
unfolding expect
literal [] text = text
literal (c ∷ cs) text = literal cs (expect c text)

-- ---- these signs in quotes: "each string chooses its own quotes"
unfoldable pub quoted : List ℕ → List ℕ → List ℕ
unfolding literal expect
quoted word [] = []
quoted word (x ∷ xs) = cond (is_quote x) (expect x (literal word xs)) []

-- whether something is left
abbrev pub found : List ℕ → Bool
found [] = false
found (x ∷ xs) = true
