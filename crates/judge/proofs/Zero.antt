-- Where take's number is 0, the whole packet is there.
use Prim.Native.Nat.{ℕ, ◌≤◌}
use native.Mathlib.Omega.{arith}
use mathlib.Core.Path.{◌≡◌}
use mathlib.Core.List.{List}
use lib.ListN.{length}
use Rattle.cases.specs.Cases.{first}
use Rattle.wire.specs.Packet.{read_header}
use Rattle.table.specs.declared.end.End.{End}
use Rattle.table.specs.Limits.{base}
use Rattle.judge.specs.Number.{take_number}
use Rattle.judge.specs.Parts.{whole_number}
use Rattle.judge.proofs.Numbers.{take_is}

pub zero_whole : (e : End) (bytes : List ℕ) (storage : ℕ) → take_number base e bytes storage ≡ 0 → (read_header bytes).length ≤ length bytes
unfolding whole_number first
zero_whole e bytes storage z =
    let w : whole_number (read_header bytes) (length bytes) ≡ 0 = grind (arith, take_is) in
    grind arith
