-- Ranges of a list of bytes, from an index on: a range goes by its elements, and a copy changes the range that it writes and no other.
use Prim.Native.Nat.{ℕ, ◌+◌, ◌-◌, ◌≤◌, ◌<◌}
use native.Mathlib.Omega.{arith}
use mathlib.Core.Path.{◌≡◌, sym, ap, ◌∙◌}
use mathlib.Core.List.{List, ◌++◌, append_assoc}
use lib.ListN.{length, get_or, take, drop, length-take, length-drop, take-append-drop, get_or-append}
use lib.Seq.{paste, get_or-take, get_or-drop, ext_get_or, take_at, take-append-le, drop-append-le, drop_at, drop-paste, length-take-le, length_paste_head}
use Rattle.buffer.specs.Ranges.{Outside, below, above, Agree}

-- two lists that agree in a range agree in a part of it
pub agree_within : {a n : ℕ} {l l' : List ℕ} (b m : ℕ) → a ≤ b → b + m ≤ a + n → Agree a n l l' → Agree b m l l'
agree_within b m low high g = record { long = g.long; same = λ k p q. g.same k (omega arith) (omega arith) }

pub part_agrees : (l l' : List ℕ) (o n : ℕ) → Agree o n l l' → take n (drop o l) ≡ take n (drop o l')
part_agrees l l' o n g = ext_get_or 0 (take n (drop o l)) (take n (drop o l')) (simp (length-take, length-drop) (rw g.long)) by
  where
    by : (k : ℕ) → k < length (take n (drop o l)) → get_or (take n (drop o l)) k 0 ≡ get_or (take n (drop o l')) k 0
    by k h =
        let b : k < n = omega (arith, length-take n (drop o l)) in
        get_or-take n (drop o l) k 0 b ∙ get_or-drop o l k 0 ∙ g.same (o + k) (omega arith) (omega arith)
        ∙ sym (get_or-drop o l' k 0) ∙ sym (get_or-take n (drop o l') k 0 b)

-- n elements of s copied to index `to` of d
module _ (d : List ℕ) (to : ℕ) (s : List ℕ) (n : ℕ) (inside : to + n ≤ length d) (enough : n ≤ length s) where
  pub paste_here : take n (drop to (paste d to s n)) ≡ take n s
  paste_here =
      let front : length (take to d) ≡ to = length-take-le to d (omega arith) in
      ap (take n) (drop-append-le to (take to d ++ take n s) (drop (to + n) d) (omega (arith, length_paste_head d to s n (omega arith) enough)))
      ∙ ap (λ (l : List ℕ). take n (l ++ drop (to + n) d)) (drop_at (take to d) (take n s) to front)
      ∙ take_at (take n s) (drop (to + n) d) n (length-take-le n s enough)

  pub paste_outside : (k : ℕ) → Outside to n k → get_or (paste d to s n) k 0 ≡ get_or d k 0
  paste_outside k (below h) =
      let front : length (take to d) ≡ to = length-take-le to d (omega arith) in
      get_or-append (take to d ++ take n s) (drop (to + n) d) 0 k (omega (arith, length_paste_head d to s n (omega arith) enough))
      ∙ get_or-append (take to d) (take n s) 0 k (omega arith)
      ∙ get_or-take to d k 0 h
  paste_outside k (above h) =
      let e : k ≡ to + n + (k - (to + n)) = omega arith in
      ap (λ (j : ℕ). get_or (paste d to s n) j 0) e
      ∙ sym (get_or-drop (to + n) (paste d to s n) (k - (to + n)) 0)
      ∙ ap (λ (l : List ℕ). get_or l (k - (to + n)) 0) (drop-paste d to s n (omega arith) enough)
      ∙ get_or-drop (to + n) d (k - (to + n)) 0
      ∙ ap (λ (j : ℕ). get_or d j 0) (sym e)

  -- the same in a longer list
  pub paste_append : (b : List ℕ) → paste d to s n ++ b ≡ paste (d ++ b) to s n
  paste_append b =
      append_assoc (take to d ++ take n s) (drop (to + n) d) b
      ∙ rw (take-append-le to d b (omega arith), drop-append-le (to + n) d b inside)

-- a part that lies in a front part
pub part_front : (from n lent : ℕ) (l : List ℕ) → from + n ≤ length (take lent l) → take n (drop from (take lent l)) ≡ take n (drop from l)
part_front from n lent l h = sym (ap (λ (s : List ℕ). take n (drop from s)) (sym (take-append-drop lent l))
    ∙ ap (take n) (drop-append-le from (take lent l) (drop lent l) (omega arith))
    ∙ take-append-le n (drop from (take lent l)) (drop lent l) (rw length-drop (omega arith)))
