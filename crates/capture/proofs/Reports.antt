-- Laws of the report, and what the code's loop keeps.
use Prim.Native.Nat.{ℕ, suc, min, ◌+◌, ◌*◌, ◌≤◌, ◌<◌}
use native.Mathlib.Omega.{arith}
use native.Mathlib.Decide.{dec_lt}
use mathlib.Core.Path.{◌≡◌, sym, ap, ◌∙◌}
use mathlib.Core.List.{List, [], ◌∷◌, ◌++◌, append_assoc}
use lib.ListN.{length, take}
use lib.Seq.{take_all}
use Rattle.buffer.specs.Onto.{onto}
use Rattle.text.specs.declared.writer.Writer.{Writer}
use Rattle.text.specs.Lines.{lines}
use Rattle.text.specs.Writing.{Written}
use Rattle.text.proofs.Lines.{lines_most}
use Rattle.text.proofs.Writing.{nothing, then, front}
use Rattle.report.specs.declared.Line.{Line}
use Rattle.report.specs.Rows.{end_row}
use Rattle.report.specs.Lines.{row_limit, line_row}
use Rattle.table.specs.declared.end.End.{End}
use Rattle.table.specs.declared.end.Role.TheVariants.{Server}
use Rattle.table.specs.End.{start_of}
use Rattle.table.specs.Slots.{held_count}
use Rattle.fed.specs.Line.{line_text, end_after}
use Rattle.fed.specs.Parts.{line_told}
use Rattle.fed.proofs.Frames.{line_fed}
use Rattle.capture.specs.Feed.{input_limit, report, feed_text}

-- the report on all lines of a text
abbrev pub reported : List ℕ → List ℕ
reported text = report 1 (start_of Server) (lines text)

-- what the loop keeps after k lines: what is written and what is to come make the whole report, and there is room for the rest
pub record Going (all : List ℕ) (w₀ w : Writer) (e : End) (k : ℕ) (more : List (List ℕ)) : Type 0 where
  pub done : List ℕ
  pub written : Written w₀ done w
  pub whole : done ++ report (suc k) e more ≡ all
  pub few : k + length more ≤ input_limit
  pub narrow : w.at ≤ row_limit * k

pub go_first : (text : List ℕ) {w : Writer} {e : End} {k : ℕ} {more : List (List ℕ)} → length text ≤ input_limit → w.at ≡ 0 → e ≡ start_of Server → k ≡ 0
    → more ≡ lines text → Going (reported text) w w e k more
go_first text {w} {e} {k} {more} h p q z m = record {
  done = [];
  written = nothing w;
  whole = rw (q, z, m);
  few = omega (arith, lines_most text, ap length m);
  narrow = omega arith;
}

module _ {all : List ℕ} {w₀ w : Writer} {e : End} {k : ℕ} {lines : List (List ℕ)} where
  -- one line more
  pub go_on : {line : List ℕ} {more : List (List ℕ)} {i j : ℕ} {l : Line} {e' : End} {w' : Writer} → Going all w₀ w e k lines → lines ≡ line ∷ more → i ≡ k
      → j ≡ k + 1 → l ≡ line_told e line → e' ≡ end_after e line → Written w (line_row (i + 1) l) w' → length (line_row (i + 1) l) ≤ row_limit
      → Going all w₀ w' e' j more
  unfolding report
  go_on {line} {more} {i} {j} {l} {e'} {w'} g s c d p q u h =
      let t : List ℕ = line_row (i + 1) l in
      let n : i + 1 ≡ suc k = omega arith in
      let m : suc j ≡ suc (suc k) = omega arith in
      let v : t ≡ line_text (suc k) e line = ap (line_row (i + 1)) p ∙ line_fed (i + 1) e line ∙ ap (λ (x : ℕ). line_text x e line) n in
      let o : t ++ report (suc j) e' more ≡ report (suc k) e (line ∷ more) = rw (v, q, m) in
      record {
        done = g.done ++ t;
        written = then g.written u;
        whole =
            append_assoc g.done t (report (suc j) e' more)
            ∙ ap (λ (x : List ℕ). g.done ++ x) (o ∙ ap (report (suc k) e) (sym s))
            ∙ g.whole;
        few = omega (arith, g.few, ap length s);
        narrow = omega (arith, g.narrow, u.wrote.behind, h);
      }

  -- the last line, with which the report is at the buffer's front
  pub go_last : {held : ℕ} {w' : Writer} → Going all w₀ w e k lines → lines ≡ [] → w₀.at ≡ 0 → held ≡ held_count e.slots → Written w (end_row e.up held) w'
      → (w'.out.now ≡ onto all w₀.out.now) × (w'.at ≡ length all)
  unfolding report
  go_last {held} {w'} g s z h u =
      let t : List ℕ = g.done ++ end_row e.up held in
      let p : t ≡ all = ap (λ (m : ℕ). g.done ++ end_row e.up m) h ∙ ap (λ (l : List (List ℕ)). g.done ++ report (suc k) e l) (sym s) ∙ g.whole in
      front (rw p at (then g.written u)) z

-- the bytes that count are the first of the input
pub counted : (input : List ℕ) (n : ℕ) → n ≡ min (length input) input_limit → reported (take n input) ≡ feed_text input
unfolding feed_text
counted input n p = ap reported (by (dec_lt (length input) input_limit))
  where
    by : Dec (length input < input_limit) → take n input ≡ take input_limit input
    by (yes h) = take_all n input (omega arith) ∙ sym (take_all input_limit input (omega arith))
    by (no h) = let q : n ≡ input_limit = omega arith in ap (λ (k : ℕ). take k input) q
