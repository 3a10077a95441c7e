-- The lines of the report (document 01, "The line program"), each from what it shows: numbers, and a frame's bytes.
use Rattle.std.specs.Prelude.{ℕ, ◌/◌, ◌%◌, Bool, List, [], ◌∷◌, ◌++◌, length, ltb}
use Rattle.cases.specs.Cases.{if}
use Rattle.wire.specs.Packet.{header_length, read_header}
use Rattle.text.specs.Hex.{to_hex}
use Rattle.text.specs.Decimal.{decimal}
use Rattle.text.specs.Lines.{lf}
use Rattle.text.specs.Letters.{letters}

-- ---- words with a space between them, and LF at the end

abbrev pub space : ℕ
space = 32

abbrev pub row : List (List ℕ) → List ℕ
row [] = lf ∷ []
row (word ∷ []) = word ++ (lf ∷ [])
row (word ∷ next ∷ more) = word ++ (space ∷ row (next ∷ more))

-- ---- the frame's SID as four lower-case hex digits, the high byte first (`----` for frames under 16 bytes)

abbrev pub is_short : List ℕ → Bool
is_short frame = ltb (length frame) header_length

abbrev pub sid_digits : ℕ → List ℕ
sid_digits sid = to_hex (sid / 256 ∷ sid % 256 ∷ [])

unfoldable pub sid_text : List ℕ → List ℕ
sid_text frame = if (is_short frame) (letters "----") (sid_digits (read_header frame).sid)

-- ---- a frame's line: the line number, take's answer, the frame's SID and that session's unread packets

unfoldable pub frame_row : ℕ → ℕ → List ℕ → ℕ → List ℕ
frame_row n answer frame unread = row (decimal n ∷ decimal answer ∷ sid_text frame ∷ decimal unread ∷ [])

-- ---- or the line number and `bad`

unfoldable pub bad_text : ℕ → List ℕ
bad_text n = row (decimal n ∷ letters "bad" ∷ [])

-- ---- last comes `end`, `up` or `down`, and the sessions held

abbrev pub up_word : Bool → List ℕ
up_word up = if up (letters "up") (letters "down")

unfoldable pub end_row : Bool → ℕ → List ℕ
end_row up held = row (letters "end" ∷ up_word up ∷ decimal held ∷ [])
