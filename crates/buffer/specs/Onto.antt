-- Emitted packets and payloads fill the front of the caller's buffer (document 01, "Calls").
use Rattle.std.specs.Prelude.{ℕ, ◌≤◌, ◌≡◌, List, ◌++◌, length, take, drop}

-- what is emitted fills the front, later bytes are untouched
abbrev pub onto : List ℕ → List ℕ → List ℕ
onto emitted buffer = emitted ++ drop (length emitted) buffer

-- n counts bytes at the front of a list. The second part follows from the first; the proof that Rattle makes of `&s[..n]` asks for both
abbrev pub Front : ℕ → List ℕ → Type 0
Front n xs = (n ≤ length xs) × (n ≡ length (take n xs))
