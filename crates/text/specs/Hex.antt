-- Lower-case hexadecimal (document 01, "The line program"): a digit and its character, and two digits a byte.
use Rattle.std.specs.Prelude.{ℕ, ◌+◌, ◌-◌, ◌*◌, ◌/◌, ◌%◌, Bool, not, ◌&&◌, List, [], ◌∷◌, length, eqb, ltb, leb, Option, Some, None}
use Rattle.std.specs.List.{list_all}
use Rattle.cases.specs.Cases.{if}

-- the character of a digit: 48 is `0`, 97 is `a`
abbrev pub glyph : ℕ → ℕ
glyph d = if (ltb d 10) (48 + d) (87 + d)

abbrev pub is_between : ℕ → ℕ → ℕ → Bool
is_between low high c = leb low c && leb c high

-- the value of a digit, 0 to 9 and a to f; 16 for another character
unfoldable pub digit_value : ℕ → ℕ
digit_value c = if (is_between 48 57 c) (c - 48) (if (is_between 97 102 c) (c - 87) 16)

abbrev pub is_digit : ℕ → Bool
is_digit c = not (eqb (digit_value c) 16)

-- the value of a digit, where the character is one
abbrev pub digit_of : ℕ → Option ℕ
digit_of c = if (is_digit c) (Some (digit_value c)) None

-- each character is a digit
abbrev pub all_digits : List ℕ → Bool
all_digits text = list_all is_digit text

-- an even count of characters, each a digit
abbrev pub is_hex : List ℕ → Bool
is_hex text = eqb (length text % 2) 0 && all_digits text

-- the byte of two digits, the high one first; modulo 256, so that it is a byte whatever the characters are
abbrev pub hex_byte : ℕ → ℕ → ℕ
hex_byte high low = (digit_value high * 16 + digit_value low) % 256

unfoldable pub from_hex : List ℕ → List ℕ
from_hex [] = []
from_hex (a ∷ []) = []
from_hex (a ∷ b ∷ rest) = hex_byte a b ∷ from_hex rest

-- a byte's two digits
abbrev pub byte_digits : ℕ → List ℕ
byte_digits b = glyph (b / 16) ∷ glyph (b % 16) ∷ []

unfoldable pub to_hex : List ℕ → List ℕ
to_hex [] = []
to_hex (b ∷ bs) = glyph (b / 16) ∷ glyph (b % 16) ∷ to_hex bs
