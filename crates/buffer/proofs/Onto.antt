-- Laws of what is written into the front of a lent buffer, for the code that writes it part by part.
use Prim.Native.Nat.{ℕ, ◌+◌, ◌≤◌}
use native.Mathlib.Omega.{arith}
use native.Mathlib.Nat.{zero-add}
use mathlib.Core.Path.{◌≡◌, sym, ap, ◌∙◌}
use mathlib.Core.List.{List, ◌++◌, append_assoc}
use lib.ListN.{length, drop, length-append}
use lib.Seq.{paste, take_at, take-length, length-take-le, drop-append-add, drop-drop}
use Rattle.buffer.specs.Onto.{onto, Front}

-- a first part
pub paste_first : (a d : List ℕ) → paste d 0 a (length a) ≡ onto a d
paste_first a d = rw (take-length, zero-add)

-- a second part, behind a first of n bytes
pub paste_behind : (a p d : List ℕ) (n : ℕ) → length a ≡ n → paste (onto a d) n p (length p) ≡ onto (a ++ p) d
paste_behind a p d n e =
    let later : drop (n + length p) (onto a d) ≡ drop (length a + length p) d =
    rw (sym e) (drop-append-add a (drop (length a) d) (length p) ∙ drop-drop (length p) (length a) d) in
    rw (take_at a (drop (length a) d) n e, take-length p, later, length-append, append_assoc)

-- what was put onto a buffer is at its front
pub onto_front : {n : ℕ} {exit : List ℕ} (bytes lent : List ℕ) → exit ≡ onto bytes lent → length bytes ≡ n → Front n exit
onto_front {n} {exit} bytes lent e l =
    let h : n ≤ length exit = omega (arith, simp length-append at (ap length e)) in
    (h, sym (length-take-le n exit h))
