-- What a look found, beside what the table holds: the tests of both are the same.
use Rattle.std.specs.Prelude.{is_some, is_none}
use Prim.Native.Nat.{ℕ}
use native.Mathlib.Omega.{arith}
use mathlib.Core.Path.{◌≡◌}
use mathlib.Core.List.{List}
use Rattle.cases.specs.Cases.{first}
use Rattle.wire.specs.declared.header.Header.{Header}
use Rattle.wire.specs.declared.kind.Kind.{Kind}
use Rattle.session.specs.declared.record.Session.{Session}
use Rattle.table.specs.declared.end.End.{End}
use Rattle.table.specs.Limits.{base}
use Rattle.table.specs.Slots.{holds, session_of, full}
use Rattle.scan.specs.Look.{found_in, free_in}
use Rattle.judge.specs.Number.{other_cases}
use Rattle.judge.specs.Seen.{session_in}

pub found_some : (sid : ℕ) (xs : List Session) → is_some (found_in sid xs) ≡ holds sid xs
found_some sid xs = grind arith

pub free_none : (xs : List Session) → is_none (free_in xs) ≡ full xs
free_none xs = grind arith

-- where none was found, 23 comes before its record is asked
pub other_seen : (k : Kind) (h : Header) (e : End) → first (other_cases base k (holds h.sid e.slots) (session_of h.sid e.slots) h)
    ≡ first (other_cases base k (is_some (found_in h.sid e.slots)) (session_in (found_in h.sid e.slots)) h)
unfolding first
other_seen k h e = grind arith
