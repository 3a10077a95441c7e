-- Laws of a text that a writer makes part by part: nothing is a part, and two parts in a row are one.
use Prim.Native.Nat.{ℕ, ◌+◌}
use native.Mathlib.Omega.{arith}
use native.Mathlib.Nat.{add-zero, zero-add}
use mathlib.Core.Path.{◌≡◌, refl, sym, ap, ◌∙◌}
use mathlib.Core.List.{List, [], ◌++◌}
use lib.ListN.{length}
use lib.Seq.{paste, paste-zero}
use Rattle.buffer.specs.Onto.{onto}
use Rattle.buffer.proofs.Onto.{paste_first}
use Rattle.buffer.proofs.Wrote as parts
use Rattle.text.specs.declared.writer.Writer.{Writer}
use Rattle.text.specs.Writing.{Written}

pub nothing : (w : Writer) → Written w [] w
nothing w = record {
  same = refl;
  long = refl;
  wrote = record { written = paste-zero w.out.now w.at []; behind = sym (add-zero w.at); room = omega (arith, w.within) };
}

pub then : {w : Writer} {a : List ℕ} {w' : Writer} {b : List ℕ} {w'' : Writer} → Written w a w' → Written w' b w'' → Written w (a ++ b) w''
then u v = record { same = v.same ∙ u.same; long = v.long ∙ u.long; wrote = parts.then u.wrote v.wrote }

-- what is written from the buffer's front on stands at its front
pub front : {w : Writer} {t : List ℕ} {w' : Writer} → Written w t w' → w.at ≡ 0 → (w'.out.now ≡ onto t w.out.now) × (w'.at ≡ length t)
front {w} {t} {w'} u z = (
  u.wrote.written ∙ ap (λ (k : ℕ). paste w.out.now k t (length t)) z ∙ paste_first t w.out.now,
  u.wrote.behind ∙ ap (λ (k : ℕ). k + length t) z ∙ zero-add (length t),
)
