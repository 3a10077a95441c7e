-- Laws of texts that are written one behind the other: each is a promise `Wrote`, and two of them make one.
use Prim.Native.Nat.{ℕ, ◌+◌}
use native.Mathlib.Omega.{arith}
use mathlib.Core.Path.{◌≡◌, ap, ◌∙◌}
use mathlib.Core.List.{List, ◌++◌}
use lib.ListN.{length, length-append}
use lib.Seq.{paste, length-paste}
use Rattle.buffer.specs.Wrote.{Wrote}
use Rattle.buffer.proofs.Parts.{paste_then}

-- the buffer stays as long as it is
pub same : {d : List ℕ} {at : ℕ} {t d' : List ℕ} {at' : ℕ} → Wrote d at t d' at' → length d' ≡ length d
same {d} {at} {t} w = ap length w.written ∙ length-paste d at t (length t) w.room (omega arith)

-- one text behind another
pub then : {d : List ℕ} {at : ℕ} {a d' : List ℕ} {at' : ℕ} {b d'' : List ℕ} {at'' : ℕ} → Wrote d at a d' at'
    → Wrote d' at' b d'' at'' → Wrote d at (a ++ b) d'' at''
then {d} {at} {a} {d'} {at'} {b} {d''} {at''} v w =
    let n : length (a ++ b) ≡ length a + length b = length-append a b in
    let l : length d' ≡ length d = same v in
    record {
      written =
          w.written
          ∙ ap (λ (x : List ℕ). paste x at' b (length b)) v.written
          ∙ ap (λ (k : ℕ). paste (paste d at a (length a)) k b (length b)) v.behind
          ∙ paste_then d at a b (omega (arith, v.room));
      behind = omega (arith, v.behind, w.behind);
      room = omega (arith, v.behind, w.room);
    }
