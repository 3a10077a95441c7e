-- A SYN changes no stored byte.
use Prim.Native.Nat.{ℕ}
use native.Mathlib.Omega.{arith}
use mathlib.Core.Path.{◌≡◌}
use mathlib.Core.List.{List}
use Rattle.wire.specs.declared.header.Header.{Header}
use Rattle.wire.specs.declared.kind.Kind.TheVariants.{Syn}
use Rattle.session.specs.declared.record.State.{State}
use Rattle.effect.specs.Taken.{cell_of}
use Rattle.table.specs.Limits.{Limits}
use Rattle.take.specs.Take.{kept}

pub syn_keeps : (lim : Limits) (st : State) (i : ℕ) (h : Header) (bytes lent : List ℕ) → kept lim (cell_of st Syn) i h bytes lent ≡ lent
syn_keeps lim st i h bytes lent = grind arith
