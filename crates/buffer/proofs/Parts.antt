-- Laws of bytes that are written part by part: two parts in a row are one part, and one byte is a part.
use Prim.Native.Nat.{ℕ, ◌+◌, ◌<◌, ◌≤◌}
use native.Mathlib.Omega.{arith}
use native.Mathlib.Nat.{add-zero}
use mathlib.Core.Path.{◌≡◌, sym, ap, ◌∙◌}
use mathlib.Core.List.{List, [], ◌∷◌, ◌++◌, append_assoc}
use lib.ListN.{length, take, drop, set, length-append}
use lib.Seq.{paste, paste-zero, paste-suc, take-paste, drop-paste, take-length, drop-drop}

-- a second part right behind a first
pub paste_then : (d : List ℕ) (at : ℕ) (a b : List ℕ) → at ≤ length d
    → paste (paste d at a (length a)) (at + length a) b (length b) ≡ paste d at (a ++ b) (length (a ++ b))
paste_then d at a b h =
    let first : take (at + length a) (paste d at a (length a)) ≡ take at d ++ a =
    take-paste d at a (length a) h (omega arith) ∙ ap (λ (l : List ℕ). take at d ++ l) (take-length a) in
    let later : drop (at + length a + length b) (paste d at a (length a)) ≡ drop (at + length a + length b) d =
    sym (drop-drop (length b) (at + length a) (paste d at a (length a))) ∙ ap (drop (length b)) (drop-paste d at a (length a) h (omega arith))
    ∙ drop-drop (length b) (at + length a) d in
    let all : at + length (a ++ b) ≡ at + length a + length b = omega (arith, length-append a b) in
    rw (first, later, all, take-length b, take-length (a ++ b)) (ap (λ (l : List ℕ). l ++ drop (at + length a + length b) d) (append_assoc (take at d) a b))

-- one byte
pub paste_one : (d : List ℕ) (at x : ℕ) → at < length d → set d at x ≡ paste d at (x ∷ []) 1
paste_one d at x h =
    ap (λ (l : List ℕ). set l at x) (paste-zero d at (x ∷ []))
    ∙ ap (λ (k : ℕ). set (paste d at (x ∷ []) 0) k x) (sym (add-zero at))
    ∙ paste-suc d at (x ∷ []) 0 0 (omega arith) (omega arith)
