-- What one look at the table gives to a call that names a SID.
use Rattle.std.proofs.Common.{◌≡◌, ◌∙◌, ap₂, sym, refl, arith, ℕ, Bool, true, false, Ok, Err}
use Rattle.cases.specs.declared.refusal.Refusal.{Refusal}
use Rattle.cases.specs.declared.refusal.Refusal.TheVariants.{IllMade}
use Rattle.cases.specs.Cases.{if}
use Rattle.session.specs.declared.record.Session.{Session}
use Rattle.table.specs.declared.end.End.{End}
use Rattle.table.specs.End.{put_of, changed_of}
use Rattle.table.proofs.Slots.{changed_end}
use Rattle.table.specs.Limits.{Limits}
use Rattle.table.specs.Well.{well_made}
use Rattle.scan.specs.declared.Found.{Found}
use Rattle.scan.specs.declared.Look.{Look}
use Rattle.scan.specs.Look.{seen, look_of}
use Rattle.calling.specs.Calling.{IsThat}

-- what is put at the slot found changes the session found
pub put_back : {f : Found} {e : End} {sid : ℕ} → IsThat f e sid → (g : Session → Session) → put_of f.slot (g f.session) e ≡ changed_of sid g e
put_back {f} {e} {sid} that g = ap₂ (λ (i : ℕ) (x : Session). put_of i (g x) e) that.slot that.session ∙ sym (changed_end sid g e)

-- ---- what scan's answer says of the end

-- where it looked, the end is well made, and what was seen is what the table holds
pub looked : (lim : Limits) (e : End) (sid : ℕ) {l : Look} → Ok l ≡ look_of lim e sid → (well_made lim e ≡ true) × (l ≡ seen e sid)
unfolding look_of
looked lim e sid {l} q = by (well_made lim e) refl q
  where
    by : (t : Bool) → well_made lim e ≡ t → Ok l ≡ if t (Ok (seen e sid)) (Err IllMade) → (well_made lim e ≡ true) × (l ≡ seen e sid)
    by true w p = (w, cc)
    by false w p = let z : ◌≡◌ {A = ℕ} 0 1 = cc in absurd (omega arith)

-- where it refused, the end isn't
pub unlooked : (lim : Limits) (e : End) (sid : ℕ) {r : Refusal} → Err r ≡ look_of lim e sid → (well_made lim e ≡ false) × (r ≡ IllMade)
unfolding look_of
unlooked lim e sid {r} q = by (well_made lim e) refl q
  where
    by : (t : Bool) → well_made lim e ≡ t → Err r ≡ if t (Ok (seen e sid)) (Err IllMade) → (well_made lim e ≡ false) × (r ≡ IllMade)
    by true w p = let z : ◌≡◌ {A = ℕ} 0 1 = cc in absurd (omega arith)
    by false w p = (w, cc)
