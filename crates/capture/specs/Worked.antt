-- Worked reports: an input and its report. The first is document 01's listing, the others are edges of its text; the last is document 02's (ii).
use Rattle.std.specs.Prelude.{ℕ, List, [], ◌∷◌, ◌++◌}
use Rattle.text.specs.Letters.{letters}

pub record Example : Type 0 where
  pub input : List ℕ
  pub report : List ℕ

abbrev pub gives : List ℕ → List ℕ → Example
gives input report = record { input = input; report = report }

abbrev pub examples : List Example
examples =
    gives
    (letters "53010500100000000000000004000000\n"
    ++ (letters "53080500120000000100000004000000abcd\n"
    ++ (letters "53020500100000000100000004000000\n"
    ++ (letters "53080500100000000300000004000000\n"
    ++ letters "00\n"))))
    (letters "1 0 0005 0\n"
    ++ (letters "2 0 0005 1\n"
    ++ (letters "3 0 0005 1\n"
    ++ (letters "4 29 0005 0\n"
    ++ (letters "5 1 ---- 0\n"
    ++ letters "end down 0\n")))))
    -- no line
    ∷ gives [] (letters "end up 0\n")
    -- an empty line is a frame of no bytes; a last line without LF counts
    ∷ gives (letters "\n53010500100000000000000004000000") (letters "1 10 ---- 0\n2 0 0005 0\nend up 1\n")
    -- bytes after the first packet are dropped; the SID stands there whatever the answer
    ∷ gives (letters "53013412100000000000000004000000ff\n54013412100000000000000004000000") (letters "1 0 1234 0\n2 20 1234 0\nend down 0\n")
    -- an odd count of digits, upper case, CR, a space; each counts as a line
    ∷ gives (letters "0\nAB\n00\r\n 00\n00") (letters "1 bad\n2 bad\n3 bad\n4 bad\n5 10 ---- 0\nend up 0\n")
    -- a peer that grants 32 in its SYN, then 64, then 2,147,483,647, and one more than that
    ∷ gives
    (letters "53010500100000000000000020000000\n"
    ++ (letters "53020500100000000000000040000000\n"
    ++ (letters "53080500120000000100000040000000abcd\n"
    ++ (letters "530205001000000001000000ffffff7f\n"
    ++ letters "53020500100000000100000000000080\n"))))
    (letters "1 0 0005 0\n"
    ++ (letters "2 0 0005 0\n"
    ++ (letters "3 0 0005 1\n"
    ++ (letters "4 0 0005 1\n"
    ++ (letters "5 28 0005 0\n"
    ++ letters "end down 0\n")))))
    ∷ []
