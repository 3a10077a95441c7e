-- What an array holds once a call has written into the bytes that it was lent.
use Rattle.std.specs.Prelude.{ℕ, List, ◌++◌, drop}
use denote.Param.{number}
use Rattle.std.specs.Borrow.{Lends, MutBor, Fml, Array, u8}
use Rattle.fields.specs.Rooms.{Part}
use Rattle.fields.specs.contracts.rooms.Lent.{the_row}

-- the lent bytes are w now, and no other byte changed
abbrev pub written : Part → List ℕ → Part
written p w = record { bytes = w ++ drop p.count p.bytes; count = p.count }

-- so it is for an array of N bytes behind s, with w what r leaves
abbrev pub LendsFront : (N : ℕ) → MutBor Part → MutBor (List ℕ) → Fml
LendsFront N s r = Lends (the_row (number N)) (Array u8 0) s r (written s.now)
