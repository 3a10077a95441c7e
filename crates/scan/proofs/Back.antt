-- A slice gone through from its last element to its first: what is left is its front, and the element that was taken stands behind it.
use Rattle.std.proofs.Common.{suc, ◌≤◌, ◌≡◌, List, [], ◌∷◌, ◌++◌, length, get_or, take, arith, sym, ap, ◌∙◌, length-append, take-take}
use Rattle.std.proofs.Math.Seq.{take-length, take-append_seam, get_or-append_seam}
use Rattle.std.proofs.lemmas.List.{get_or-take}

-- r is left of xs
pub record Front {X : Type 0} (xs r : List X) : Type 0 where
  pub front : r ≡ take (length r) xs
  pub within : length r ≤ length xs

pub whole : {X : Type 0} {xs r : List X} → r ≡ xs → Front xs r
whole {xs = xs} e = rw e (record { front = sym (take-length xs); within = omega arith })

module _ {X : Type 0} (xs r t : List X) (x d : X) (f : Front xs r) (e : r ≡ t ++ x ∷ []) where
  pub shorter : length r ≡ suc (length t)
  shorter = omega (arith, ap length e, length-append t (x ∷ []))

  pub rest : Front xs t
  rest = record {
    front = sym (take-append_seam t (x ∷ [])) ∙ ap (take (length t)) (sym e ∙ f.front) ∙ take-take (length t) (length r) xs (omega (arith, shorter));
    within = omega (arith, shorter, f.within);
  }

  pub taken : x ≡ get_or xs (length t) d
  taken =
      sym (get_or-append_seam t x [] d) ∙ ap (λ (l : List X). get_or l (length t) d) (sym e ∙ f.front)
      ∙ get_or-take (length r) xs (length t) d (omega (arith, shorter))
