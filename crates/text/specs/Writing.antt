-- A text in the making: what a writer's buffer and place are before and after a part of it.
use Rattle.std.specs.Prelude.{◌≡◌, ℕ, List, length}
use Rattle.buffer.specs.Wrote.{Wrote}
use Rattle.text.specs.declared.writer.Writer.{Writer}

-- the part is written from w's place on, in the same buffer, and the place of w' is behind it
pub record Written (w : Writer) (part : List ℕ) (w' : Writer) : Type 0 where
  pub same : w'.out.ghost_name ≡ w.out.ghost_name
  pub long : length w'.out.now ≡ length w.out.now
  pub wrote : Wrote w.out.now w.at part w'.out.now w'.at
