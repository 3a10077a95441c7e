-- A side after a step, where its slots stay, and where a new lane comes into the lowest free slot: it stands for the world after the step, if
-- the step kept what its lanes were and its channel stands for its items.
use Prim.Native.Nat.{ℕ, ◌<◌}
use native.Mathlib.Omega.{arith}
use mathlib.Core.Path.{◌≡◌, refl, sym, ap, ◌∙◌}
use mathlib.Core.Logic.{◌≢◌, ◌⊎◌, inl, inr}
use mathlib.Core.Bool.{true, false}
use mathlib.Core.List.{List, ◌∷◌}
use mathlib.Core.Option.{some}
use lib.ListN.{length-set}
use lib.Seq.{get_or-set_same, get_or-set_other}
use lib.Dec.{T, eqb}
use borrow.Author.Tests.{eq-eqb}
use Rattle.cases.proofs.Tests.{never}
use Rattle.session.specs.declared.record.Session.{Session}
use Rattle.session.specs.Record.{in_use, free, fresh_of}
use Rattle.table.specs.Slots.{lowest_free, full}
use Rattle.table.specs.End.{put_of}
use Rattle.table.specs.Limits.{Limits}
use Rattle.table.proofs.Lowest.{lowest_within, lowest_unused}
use Rattle.pair.specs.Side.{Side}
use Rattle.pair.proofs.Lane.Half.{est, fresh}
use Rattle.pair.proofs.Lane.Lane.{half, st_of}
use Rattle.pair.proofs.Lane.Tables.{has, has_head, has_cons, or_right, Eq?, same, differ, eq?}
use Rattle.pair.proofs.Lane.World.{World}
use Rattle.pair.proofs.Lane.Sides.{Kept}
use Rattle.pair.specs.World.{Party}
use Rattle.pair.specs.Whose.{Marked, Notes, given}
use Rattle.pair.proofs.Record.Stands.{fresh_stands}
use Rattle.pair.proofs.Mirror.Scene.{slot, Filled, SlotFor, MirrorAt}
use Rattle.pair.proofs.Mirror.Channels.{Channel}

-- a slot that stays, with its lane
filled_kept : {lim : Limits} {W W' : World} {k : Side} {p p' : Party} {i n : ℕ} → slot p' i ≡ slot p i → p'.storage ≡ p.storage → Kept W W' k n
    → T (has n (W'.table k))
    → Filled lim W k p i n → Filled lim W' k p' i n
filled_kept e s c t f = record { listed = t; stands = rw (e, s, c.sid, c.st, c.body) f.stands }

module _ {slots : ℕ} {lim : Limits} {W : World} {k : Side} {p : Party} {b : Notes} (a : MirrorAt slots lim W k p b)
    (W' : World) (kept : (j : ℕ) → T (has j (W.table k)) → Kept W W' k j)
    {coming : List ℕ} {ms : List Marked} (c : Channel lim W' k coming ms) where
  -- ---- the slots stay

  pub stays_at : W'.table k ≡ W.table k
      → MirrorAt slots lim W' k (record { end = p.end; storage = p.storage; coming = coming }) (record { coming = ms; owner = b.owner })
  stays_at e = record {
    role = a.role;
    up = a.up;
    many = a.many;
    filled = λ i h u. let f = a.filled i h u in filled_kept refl refl (kept (b.owner i) f.listed) (rw e f.listed) f;
    unused = a.unused;
    found = λ n t. let f = a.found n (rw e at t) in record { index = f.index; within = f.within; used = f.used; owner = f.owner };
    once = a.once;
    marks = c.marks;
    bytes = c.bytes;
    small = c.small;
  }

  -- ---- a new lane, fresh, comes into the lowest free slot

  module _ {n sid : ℕ} (name : W'.sid n ≡ sid) (room : full p.end.slots ≡ false) (new : has n (W.table k) ≡ false) (table : W'.table k ≡ n ∷ W.table k)
      (st : st_of k (W'.lanes n) ≡ est) (body : half k (W'.lanes n) ≡ fresh) where
    abbrev i : ℕ
    i = lowest_free p.end.slots

    abbrev p' : Party
    p' = record { end = put_of (lowest_free p.end.slots) (fresh_of sid) p.end; storage = p.storage; coming = coming }

    abbrev owner' : ℕ → ℕ
    owner' = given (lowest_free p.end.slots) (some n) b.owner

    slot_new : slot p' i ≡ fresh_of sid
    slot_new = get_or-set_same p.end.slots i (fresh_of sid) free (lowest_within p.end.slots room)

    slot_old : (j : ℕ) → j ≢ i → slot p' j ≡ slot p j
    slot_old j d = get_or-set_other p.end.slots i j (fresh_of sid) free d

    -- a slot in use is the new one, or was in use
    data Used (j : ℕ) : Type 0 where
      now : j ≡ i → owner' j ≡ n → Used j
      before : j ≢ i → in_use (slot p j).state ≡ true → owner' j ≡ b.owner j → Used j

    used? : (j : ℕ) → in_use (slot p' j).state ≡ true → Used j
    used? j u = by (eq? j i)
      where
        by : Eq? j i (eqb j i) → Used j
        by (same q e) = now q (rw e)
        by (differ q e) = before q (rw (slot_old j q) at u) (rw e)

    listed' : (j : ℕ) → T (has j (W.table k)) → T (has j (W'.table k))
    listed' j t = rw table (or_right (eqb j n) (has j (W.table k)) t)

    filled' : (j : ℕ) → j < slots → Used j → Filled lim W' k p' j (owner' j)
    filled' j h (now q o) = rw o (record {
      listed = rw table (has_head n (W.table k));
      stands = rw (ap (slot p') q ∙ slot_new, name, st, body) (fresh_stands lim j p.storage sid);
    })
    filled' j h (before q u o) = rw o (let f = a.filled j h u in filled_kept (slot_old j q) refl (kept (b.owner j) f.listed)
        (listed' (b.owner j) f.listed) f)

    new_within : i < slots
    new_within = omega (arith, lowest_within p.end.slots room, a.many)

    -- no slot in use had it
    not_new : (j : ℕ) → j < slots → in_use (slot p j).state ≡ true → b.owner j ≢ n
    not_new j h u q = rw new at (rw q at (a.filled j h u).listed)

    once' : (j l : ℕ) → j < slots → l < slots → Used j → Used l → owner' j ≡ owner' l → j ≡ l
    once' j l h g (now q o) (now r s) e = q ∙ sym r
    once' j l h g (now q o) (before r v s) e = absurd (not_new l g v (sym s ∙ sym e ∙ o))
    once' j l h g (before q u o) (now r s) e = absurd (not_new j h u (sym o ∙ e ∙ s))
    once' j l h g (before q u o) (before r v s) e = a.once j l h g u v (sym o ∙ e ∙ s)

    unused' : (j : ℕ) → j < slots → in_use (slot p' j).state ≡ false → slot p' j ≡ free
    unused' j h u = by (eq? j i)
      where
        by : Eq? j i (eqb j i) → slot p' j ≡ free
        by (same q e) = never (sym u ∙ ap (λ (x : Session). in_use x.state) (ap (slot p') q ∙ slot_new))
        by (differ q e) = slot_old j q ∙ a.unused j h (rw (slot_old j q) at u)

    found' : (m : ℕ) → (m ≡ n) ⊎ T (has m (W.table k)) → SlotFor slots p' (record { coming = ms; owner = owner' }) m
    found' m (inl q) = record {
      index = i;
      within = new_within;
      used = ap (λ (x : Session). in_use x.state) slot_new;
      owner = rw (eq-eqb i i refl) (sym q);
    }
    found' m (inr t) = let f = a.found m t in by f (eq? f.index i)
      where
        by : (f : SlotFor slots p b m) → Eq? f.index i (eqb f.index i) → SlotFor slots p' (record { coming = ms; owner = owner' }) m
        by f (same q e) = never (sym (lowest_unused p.end.slots room) ∙ (rw q at f.used))
        by f (differ q e) = record { index = f.index; within = f.within; used = rw (slot_old f.index q) f.used; owner = rw e f.owner }

    pub new_at : MirrorAt slots lim W' k
        (record { end = put_of (lowest_free p.end.slots) (fresh_of sid) p.end; storage = p.storage; coming = coming })
        (record { coming = ms; owner = given (lowest_free p.end.slots) (some n) b.owner })
    new_at = record {
      role = a.role;
      up = a.up;
      many = length-set p.end.slots i (fresh_of sid) ∙ a.many;
      filled = λ j h u. filled' j h (used? j u);
      unused = unused';
      found = λ m t. found' m (has_cons m n (W.table k) (rw table at t));
      once = λ j l h g u v e. once' j l h g (used? j u) (used? l v) e;
      marks = c.marks;
      bytes = c.bytes;
      small = c.small;
    }
