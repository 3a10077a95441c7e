-- A call's answer and its buffers by its number m: what the code gives with a refusal, or when done, is what the definition says.
use Rattle.std.proofs.Common.{ℕ, ◌<◌, ◌≡◌, List, [], sym, ap, ◌∙◌, arith}
use Rattle.cases.specs.declared.refusal.Refusal.{Refusal}
use Rattle.cases.specs.Cases.{done, refusal_number}
use Rattle.cases.proofs.First.{done_0, done_not}
use Rattle.cases.proofs.Refused.{positive}
use Rattle.buffer.specs.Onto.{onto}

module _ (r : Refusal) {m : ℕ} (number : refusal_number r ≡ m) where
  more : 0 < m
  more = omega (arith, number, positive r)

  pub refused : {A : Type 0} (d : A) (ref : ℕ → A) → ref (refusal_number r) ≡ done m d (ref m)
  refused d ref = ap ref number ∙ sym (done_not _ _ _ more)

  pub untouched : (emitted b : List ℕ) → b ≡ onto (done m emitted []) b
  untouched emitted b = ap (λ (o : List ℕ). onto o b) (sym (done_not _ _ _ more))

module _ {m : ℕ} (zero : 0 ≡ m) where
  pub answered : {A : Type 0} (d e : A) → d ≡ done m d e
  answered d e = sym (done_0 _ _ _ (sym zero))

  pub filled : (emitted b : List ℕ) → onto emitted b ≡ onto (done m emitted []) b
  filled emitted b = ap (λ (o : List ℕ). onto o b) (sym (done_0 _ _ _ (sym zero)))
