-- Numbers little-endian as the library reads and writes them, and as the document's definitions do: the same.
use Rattle.std.proofs.Common.{ℕ, ◌+◌, ◌*◌, ◌/◌, ◌<◌, ◌≤◌, ◌≡◌, List, [], ◌∷◌, ◌++◌, length, get_or, w16, w32, refl, sym, ◌∙◌, arith}
use native.Mathlib.Nat.{mod-eq_of_lt}
use Rattle.std.specs.Int.{from_le_bytes, to_le_bytes}
use Rattle.wire.specs.declared.header.Header.{Header}
use Rattle.wire.specs.Packet.{bytes, field, header_length, header_bytes, read_header}
use Rattle.wire.proofs.Numbers.{field_one, field_add}

-- ---- read

-- what the library makes of four bytes
sum_of_four : (a b c d : ℕ) → from_le_bytes w32 (a ∷ b ∷ c ∷ d ∷ []) ≡ a + b * 256 + c * 65536 + d * 16777216
sum_of_four a b c d = refl

module _ (offset : ℕ) (b : List ℕ) where
  pub field_two : offset + 2 ≤ length b → from_le_bytes w16 (get_or b offset 0 ∷ get_or b (offset + 1) 0 ∷ []) ≡ field offset 2 b
  field_two h =
      omega (arith, field_add offset 1 b 1 (omega arith), field_one offset b (omega arith), field_one (offset + 1) b (omega arith))

  pub field_four : offset + 4 ≤ length b
      → from_le_bytes w32 (get_or b offset 0 ∷ get_or b (offset + 1) 0 ∷ get_or b (offset + 2) 0 ∷ get_or b (offset + 3) 0 ∷ []) ≡ field offset 4 b
  field_four h = sum_of_four (get_or b offset 0) (get_or b (offset + 1) 0) (get_or b (offset + 2) 0) (get_or b (offset + 3) 0) ∙ sum
    where
      sum : get_or b offset 0 + get_or b (offset + 1) 0 * 256 + get_or b (offset + 2) 0 * 65536 + get_or b (offset + 3) 0 * 16777216 ≡ field offset 4 b
      sum =
          omega (
            arith,
            field_add offset 3 b 1 (omega arith),
            field_add offset 2 b 1 (omega arith),
            field_add offset 1 b 1 (omega arith),
            field_one offset b (omega arith),
            field_one (offset + 1) b (omega arith),
            field_one (offset + 2) b (omega arith),
            field_one (offset + 3) b (omega arith),
          )

-- the header that sixteen bytes make, its numbers read by the library
pub header_read : (b : List ℕ) (sid long seqnum wndw : ℕ) → header_length ≤ length b → sid ≡ from_le_bytes w16 (get_or b 2 0 ∷ get_or b 3 0 ∷ [])
    → long ≡ field 4 4 b → seqnum ≡ field 8 4 b → wndw ≡ field 12 4 b
    → record { smid = get_or b 0 0; flags = get_or b 1 0; sid = sid; length = long; seqnum = seqnum; wndw = wndw } ≡ read_header b
unfolding read_header
header_read b sid long seqnum wndw h s l q w = λ i. record {
  smid = sym (field_one 0 b (omega arith)) i;
  flags = sym (field_one 1 b (omega arith)) i;
  sid = (s ∙ field_two 2 b (omega arith)) i;
  length = l i;
  seqnum = q i;
  wndw = w i;
}

-- ---- written

pub two_written : (n : ℕ) → to_le_bytes w16 n ≡ bytes 2 n
unfolding bytes
two_written n = refl

pub four_written : (n : ℕ) → to_le_bytes w32 n ≡ bytes 4 n
unfolding bytes
four_written n =
    let two : n / 65536 ≡ n / 256 / 256 = omega arith in
    let three : n / 16777216 ≡ n / 256 / 256 / 256 = omega arith in
    rw (two, three) refl

-- the bytes of a header's fields, each as the library writes them, are the header's
pub sixteen_written : (h : Header) → h.smid < 256 → h.flags < 256
    → h.smid ∷ h.flags ∷ (to_le_bytes w16 h.sid ++ to_le_bytes w32 h.length ++ to_le_bytes w32 h.seqnum ++ to_le_bytes w32 h.wndw) ≡ header_bytes h
unfolding header_bytes bytes
sixteen_written h s f =
    λ i. sym (mod-eq_of_lt {n = h.smid} {m = 256} s) i ∷ sym (mod-eq_of_lt {n = h.flags} {m = 256} f) i
    ∷ (two_written h.sid i ++ four_written h.length i ++ four_written h.seqnum i ++ four_written h.wndw i)
