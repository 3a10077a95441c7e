-- Laws of lines: line by line, as the code goes, and that the lines give the text back.
use Prim.Native.Nat.{ℕ, suc, ◌+◌, ◌-◌, ◌<◌, ◌≤◌}
use native.Mathlib.Omega.{arith}
use native.Mathlib.Nat.{not-suc-le-zero}
use mathlib.Core.Path.{◌≡◌, refl, sym, ap, ◌∙◌}
use mathlib.Core.Bool.{Bool, true, false, cond}
use mathlib.Core.List.{List, [], ◌∷◌}
use lib.ListN.{length, take, drop, length-drop}
use lib.Seq.{take_all, length-take-le}
use lib.Dec.{eqb}
use borrow.Author.Tests.{eqb-true, ltb-false}
use Rattle.std.specs.Prelude.{◌==◌, Option, Some, None, unwrap_or, nat_lt}
use Rattle.std.specs.List.{position, position_or_len}
use Rattle.std.proofs.lemmas.List.Recursion.{is_position_or_len}
use Rattle.cases.specs.Cases.{if}
use Rattle.text.specs.Lines.{lf, grow, lines, until, first_line, joined, ended}

-- ---- up to a character

-- it is the text's front
front_step : (b : Bool) (c : ℕ) (cs l : List ℕ) → l ≡ take (length l) cs → if b [] (c ∷ l) ≡ take (length (if b [] (c ∷ l))) (c ∷ cs)
front_step true c cs l p = refl
front_step false c cs l p = ap (λ (k : List ℕ). c ∷ k) p

pub until_front : (stop : ℕ) (t : List ℕ) → until stop t ≡ take (length (until stop t)) t
unfolding until
until_front stop [] = refl
until_front stop (c ∷ cs) = front_step (eqb c stop) c cs (until stop cs) (until_front stop cs)

-- no longer than the text
within_step : (b : Bool) (c : ℕ) (cs l : List ℕ) → length l ≤ length cs → length (if b [] (c ∷ l)) ≤ length (c ∷ cs)
within_step true c cs l h = omega arith
within_step false c cs l h = omega arith

pub until_within : (stop : ℕ) (t : List ℕ) → length (until stop t) ≤ length t
unfolding until
until_within stop [] = omega arith
until_within stop (c ∷ cs) = within_step (eqb c stop) c cs (until stop cs) (until_within stop cs)

-- so it ends within the text
pub until_inside : (stop : ℕ) (text : List ℕ) (i : ℕ) → i ≤ length text → i + length (until stop (drop i text)) ≤ length text
until_inside stop text i h = omega (arith, until_within stop (drop i text), length-drop i text)

-- it ends at the first such character, or with the text
place_step : (b : Bool) (c : ℕ) (l : List ℕ) → length (if b [] (c ∷ l)) ≡ cond b 0 (1 + length l)
place_step true c l = refl
place_step false c l = omega arith

until_place : (stop : ℕ) (t : List ℕ) → length (until stop t) ≡ position_or_len (λ c. c == stop) t
unfolding until
until_place stop t = is_position_or_len (λ t. length (until stop t)) (λ c. c == stop) refl (λ c cs. place_step (c == stop) c (until stop cs)) t

found_step : (b : Bool) (i n : ℕ) → nat_lt i n ≡ b → i ≤ n → unwrap_or (cond b (Some i) None) n ≡ i
found_step true i n e h = refl
found_step false i n e h = let l : n ≤ i = ltb-false i n e in omega arith

until_found : (stop : ℕ) (t : List ℕ) → unwrap_or (position (λ c. c == stop) t) (length t) ≡ length (until stop t)
until_found stop t =
    let e = until_place stop t in
    let h : position_or_len (λ c. c == stop) t ≤ length t = rw (sym e) (until_within stop t) in
    found_step (nat_lt (position_or_len (λ c. c == stop) t) (length t)) (position_or_len (λ c. c == stop) t) (length t) refl h ∙ sym e

-- as the code looks for it, in the part from an index on
pub found_from : (stop : ℕ) (text : List ℕ) (from : ℕ) (r : Option ℕ) (k : ℕ) → r ≡ position (λ c. c == stop) (take (length text - from) (drop from text))
    → k ≡ unwrap_or r (length text - from) → from + k ≡ from + length (until stop (drop from text))
found_from stop text from r k p q =
    let t : List ℕ = drop from text in
    let n : length t ≡ length text - from = length-drop from text in
    let w : take (length text - from) t ≡ t = take_all (length text - from) t (omega arith) in
    ap (λ (j : ℕ). from + j)
    (q
    ∙ ap (λ (o : Option ℕ). unwrap_or o (length text - from)) (p ∙ ap (position (λ c. c == stop)) w)
    ∙ ap (unwrap_or (position (λ c. c == stop) t)) (sym n)
    ∙ until_found stop t)

-- ---- line by line

pub first_front : (t : List ℕ) → first_line t ≡ take (length (first_line t)) t
first_front t = until_front lf t

pub end_within : (text : List ℕ) (i : ℕ) → i ≤ length text → i + length (first_line (drop i text)) ≤ length text
end_within text i h = until_inside lf text i h

-- the first line, and the lines behind its LF
lines_step : (b : Bool) (c : ℕ) (cs : List ℕ) → grow c (lines cs) ≡ (c ∷ first_line cs) ∷ lines (drop (suc (length (first_line cs))) cs)
    → if b ([] ∷ lines cs) (grow c (lines cs)) ≡ if b [] (c ∷ first_line cs) ∷ lines (drop (suc (length (if b [] (c ∷ first_line cs)))) (c ∷ cs))
lines_step true c cs p = refl
lines_step false c cs p = p

pub lines_first : (c : ℕ) (cs : List ℕ) → lines (c ∷ cs) ≡ first_line (c ∷ cs) ∷ lines (drop (suc (length (first_line (c ∷ cs)))) (c ∷ cs))
unfolding lines until
lines_first c [] = lines_step (eqb c lf) c [] refl
lines_first c (d ∷ ds) = lines_step (eqb c lf) c (d ∷ ds) (rw (lines_first d ds))

pub lines_next : (t : List ℕ) (n : ℕ) → n ≡ length (first_line t) → 0 < length t → lines t ≡ take n t ∷ lines (drop (n + 1) t)
lines_next [] n e h = absurd (not-suc-le-zero h)
lines_next (c ∷ cs) n e h =
    let k : suc (length (first_line (c ∷ cs))) ≡ n + 1 = omega arith in
    lines_first c cs
    ∙ ap (λ (l : List ℕ). l ∷ lines (drop (suc (length (first_line (c ∷ cs)))) (c ∷ cs))) (first_front (c ∷ cs) ∙ ap (λ (j : ℕ). take j (c ∷ cs)) (sym e))
    ∙ ap (λ (j : ℕ). take n (c ∷ cs) ∷ lines (drop j (c ∷ cs))) k

pub lines_fewer : (t : List ℕ) (n : ℕ) → n ≡ length (first_line t) → 0 < length t → length (lines (drop (n + 1) t)) < length (lines t)
lines_fewer t n e h = let k : length (lines t) ≡ suc (length (lines (drop (n + 1) t))) = ap length (lines_next t n e h) in omega arith

pub lines_none : (t : List ℕ) → length t ≡ 0 → lines t ≡ []
unfolding lines
lines_none [] h = refl
lines_none (c ∷ cs) h = absurd (omega arith)

pub first_within : (t : List ℕ) → length (first_line t) ≤ length t
first_within t = until_within lf t

pub first_length : (t : List ℕ) (n : ℕ) → n ≡ length (first_line t) → n ≡ length (take n t)
first_length t n e = sym (length-take-le n t (omega (arith, first_within t)))

-- no more lines than characters
most_step : (b : Bool) (c : ℕ) (ls : List (List ℕ)) → length (if b ([] ∷ ls) (grow c ls)) ≤ suc (length ls)
most_step true c ls = omega arith
most_step false c [] = omega arith
most_step false c (l ∷ ls) = omega arith

pub lines_most : (t : List ℕ) → length (lines t) ≤ length t
unfolding lines
lines_most [] = omega arith
lines_most (c ∷ cs) = omega (arith, most_step (eqb c lf) c (lines cs), lines_most cs)

-- ---- the text from its lines

joined_grow : (c : ℕ) (l : List ℕ) (ls : List (List ℕ)) → joined (grow c (l ∷ ls)) ≡ c ∷ joined (l ∷ ls)
unfolding joined
joined_grow c l ls = refl

join_step : (b : Bool) (c : ℕ) (ls : List (List ℕ)) (t : List ℕ) → eqb c lf ≡ b → joined ls ≡ t → joined (grow c ls) ≡ c ∷ t
    → joined (if b ([] ∷ ls) (grow c ls)) ≡ c ∷ t
unfolding joined
join_step true c ls t e p q = rw (eqb-true c lf e, p)
join_step false c ls t e p q = q

last_step : (b : Bool) (c : ℕ) → eqb c lf ≡ b → joined (if b ([] ∷ []) (grow c [])) ≡ if b (c ∷ []) (c ∷ lf ∷ [])
unfolding joined
last_step true c e = rw (eqb-true c lf e)
last_step false c e = refl

pub joined_lines : (t : List ℕ) → joined (lines t) ≡ ended t
unfolding lines joined ended
joined_lines [] = refl
joined_lines (c ∷ []) = last_step (eqb c lf) c refl
joined_lines (c ∷ d ∷ ds) =
    let p : lines (d ∷ ds) ≡ first_line (d ∷ ds) ∷ lines (drop (suc (length (first_line (d ∷ ds)))) (d ∷ ds)) = lines_first d ds in
    join_step (eqb c lf) c (lines (d ∷ ds)) (ended (d ∷ ds)) refl (joined_lines (d ∷ ds))
    (ap (λ (l : List (List ℕ)). joined (grow c l)) p
    ∙ joined_grow c (first_line (d ∷ ds)) (lines (drop (suc (length (first_line (d ∷ ds)))) (d ∷ ds)))
    ∙ ap (λ (l : List (List ℕ)). c ∷ joined l) (sym p)
    ∙ ap (λ (l : List ℕ). c ∷ l) (joined_lines (d ∷ ds)))
