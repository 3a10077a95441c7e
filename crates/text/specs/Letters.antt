-- A text's characters as numbers, so that words stand in definitions as they are read.
use Rattle.std.specs.Prelude.{ℕ, List, [], ◌∷◌}
use Prim.Native.Char.{code}
use Prim.Native.String.{String}
use Prim.Native.String as string

abbrev pub letters : String → List ℕ
letters string.[] = []
letters (string.◌∷◌ c cs) = code c ∷ letters cs
