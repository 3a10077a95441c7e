-- One look through the slots, from the last to the first: what is known once those from i on were seen.
use Prim.Native.Nat.{ℕ, suc, ◌+◌, ◌%◌, ◌<◌, ◌≤◌}
use native.Mathlib.Omega.{arith}
use native.Mathlib.Nat.{zero-add}
use borrow.Author.Tests.{eq-eqb, ne_eqb}
use mathlib.Core.Logic.{◌≢◌}
use mathlib.Core.Path.{◌≡◌, refl, sym, ap, ◌∙◌, subst}
use mathlib.Core.Bool.{Bool, true, false, ◌&&◌, ◌||◌}
use mathlib.Core.List.{List, [], ◌∷◌, ◌++◌}
use lib.ListN.{length, length-set, length-drop, get_or, set, drop, drop_of_length-le}
use lib.Seq.{drop-cons}
use lib.Dec.{eqb}
use Rattle.std.specs.Prelude.{Option, Some, None, Ok, Err}
use Rattle.std.specs.Option.{option_map}
use Rattle.cases.specs.declared.refusal.Refusal.TheVariants.{IllMade}
use Rattle.cases.specs.Cases.{if}
use Rattle.cases.proofs.Tests.{never, and_both, and_split, or_split, is_false}
use Rattle.session.specs.declared.record.Session.{Session}
use Rattle.session.specs.Record.{in_use, free}
use Rattle.session.specs.Well.{in_order}
use Rattle.table.specs.declared.end.End.{End}
use Rattle.table.specs.Limits.{Limits}
use Rattle.table.specs.Slots.{holds, session_of, slot_of, lowest_free, full}
use Rattle.table.specs.Well.{every, sids_differ, is_free, well_made}
use Rattle.scan.specs.declared.Found.{Found}
use Rattle.scan.specs.Look.{found_in, free_in, look_of}
use Rattle.session.proofs.Past.{past}
use Rattle.table.proofs.Slots.{session_at, in_range, within}
use Rattle.table.proofs.Made.{every_at, parts}
use Rattle.scan.proofs.Back.{Front, whole, shorter, taken, rest}
use Rattle.scan.proofs.Marks.{Marked, marked_none, marked_free, marked_used, unmarked}

-- where the slots from i on hold a SID, and the lowest free one of them
abbrev slot_from : ℕ → List Session → ℕ → Option ℕ
slot_from sid xs i = if (holds sid (drop i xs)) (Some (i + slot_of sid (drop i xs))) None

abbrev free_from : List Session → ℕ → Option ℕ
free_from xs i = if (full (drop i xs)) None (Some (i + lowest_free (drop i xs)))

pub record Seen (lim : Limits) (up : Bool) (xs : List Session) (sid : ℕ) (slot free : Option ℕ) (marks : List Bool) (twice : Bool) (i : ℕ) : Type 0 where
  pub ordered : every (in_order lim.window lim.place) (drop i xs) ≡ true
  pub apart : twice ≡ false → sids_differ (drop i xs) ≡ true
  pub down : up || every is_free (drop i xs) ≡ true
  pub at : slot ≡ slot_from sid xs i
  pub lowest : free ≡ free_from xs i
  pub many : 64 ≡ length marks
  pub marked : Marked marks (drop i xs)

or_true : (a : Bool) → a || true ≡ true
or_true true = refl
or_true false = refl

-- nothing yet
pub seen_none : (lim : Limits) (up : Bool) (xs : List Session) (sid n : ℕ) (marks : List Bool) → length xs ≤ n → 64 ≡ length marks
    → Seen lim up xs sid None None marks false n
unfolding every sids_differ holds full
seen_none lim up xs sid n marks e w =
    let d : drop n xs ≡ [] = drop_of_length-le xs {i = n} e in
    record {
      ordered = rw d;
      apart = λ p. rw d;
      down = rw d (or_true up);
      at = rw d;
      lowest = rw d;
      many = w;
      marked = rw d (marked_none marks);
    }

-- slot n is seen besides
module _ (lim : Limits) (up : Bool) (xs : List Session) (sid n : ℕ) {slot free : Option ℕ} {marks : List Bool} {twice : Bool}
    (s : Seen lim up xs sid slot free marks twice (suc n)) (h : n < length xs)
    (stands : in_order lim.window lim.place (get_or xs n past) && (up || is_free (get_or xs n past)) ≡ true) where
  both : (in_order lim.window lim.place (get_or xs n past) ≡ true) × (up || is_free (get_or xs n past) ≡ true)
  both = and_split (in_order lim.window lim.place (get_or xs n past)) (up || is_free (get_or xs n past)) stands

  step : drop n xs ≡ get_or xs n past ∷ drop (suc n) xs
  step = drop-cons xs n past h

  ordered : every (in_order lim.window lim.place) (drop n xs) ≡ true
  unfolding every
  ordered = rw (step, both.0) s.ordered

  down : up || every is_free (drop n xs) ≡ true
  unfolding every
  down = rw step (by up (is_free (get_or xs n past)) (every is_free (drop (suc n) xs)) both.1 s.down)
    where
      by : (u a b : Bool) → u || a ≡ true → u || b ≡ true → u || (a && b) ≡ true
      by true a b p q = refl
      by false a b p q = rw p q

  at_step : (a b : Bool) → slot ≡ (if b (Some (suc n + slot_of sid (drop (suc n) xs))) None)
      → if a (Some n) slot ≡ if (a || b) (Some (n + if a 0 (suc (slot_of sid (drop (suc n) xs))))) None
  at_step true b p = ap Some (omega arith)
  at_step false true p = p ∙ ap Some (omega arith)
  at_step false false p = p

  low_step : (b : Bool) → free ≡ (if b None (Some (suc n + lowest_free (drop (suc n) xs)))) → free ≡ if b None (Some (n + suc (lowest_free (drop (suc n) xs))))
  low_step true p = p
  low_step false p = p ∙ ap Some (omega arith)

  used : in_use (get_or xs n past).state ≡ true → (k : ℕ) → k ≡ (get_or xs n past).sid % 64 → (b : Bool) → eqb (get_or xs n past).sid sid ≡ b
      → Seen lim up xs sid (if b (Some n) slot) free (set marks k true) (twice || get_or marks k false) n
  unfolding sids_differ holds slot_of full lowest_free
  used u k q b e = record {
    ordered = ordered;
    apart = λ t. let no = or_split twice (get_or marks k false) t in
        let m : get_or marks ((get_or xs n past).sid % 64) false ≡ false = rw q at no.1 in
        rw (step, u, unmarked marks (drop (suc n) xs) s.marked (get_or xs n past).sid m) (s.apart no.0);
    down = down;
    at = rw (step, u, e) (at_step b (holds sid (drop (suc n) xs)) s.at);
    lowest = rw (step, u) (low_step (full (drop (suc n) xs)) s.lowest);
    many = s.many ∙ sym (length-set marks k true);
    marked = rw q (marked_used marks xs n h s.marked s.many);
  }

  unused : in_use (get_or xs n past).state ≡ false → Seen lim up xs sid slot (Some n) marks twice n
  unfolding sids_differ holds slot_of full lowest_free
  unused u = record {
    ordered = ordered;
    apart = λ q. rw (step, u) (s.apart q);
    down = down;
    at = rw (step, u) (at_step false (holds sid (drop (suc n) xs)) s.at);
    lowest = rw (step, u) (ap Some (omega arith));
    many = s.many;
    marked = marked_free marks xs n h s.marked u;
  }

-- ---- in the words of the code

-- so many slots were passed over at the front, none; r is left of the slots, and those behind r were seen
pub record Going (lim : Limits) (up : Bool) (xs : List Session) (sid : ℕ) (slot free : Option ℕ) (marks : List Bool) (twice : Bool) (passed : ℕ)
    (r : List Session) : Type 0 where
  pub none : passed ≡ 0
  pub front : Front xs r
  pub seen : Seen lim up xs sid slot free marks twice (length r)

pub going_none : (lim : Limits) (up : Bool) (xs : List Session) (sid : ℕ) (marks : List Bool) → 64 ≡ length marks → {passed : ℕ} → passed ≡ 0
    → {r : List Session} → r ≡ xs → Going lim up xs sid None None marks false passed r
going_none lim up xs sid marks w z e =
    record { none = z; front = whole e; seen = rw e (seen_none lim up xs sid (length xs) marks (omega arith) w) }

-- x is taken from the back of what is left: it holds the SID, another one, or none
module _ {lim : Limits} {up : Bool} {xs : List Session} {sid : ℕ} {slot free : Option ℕ} {marks : List Bool} {twice : Bool} {passed : ℕ}
    {r : List Session} (g : Going lim up xs sid slot free marks twice passed r) (t : List Session) (x : Session) (e : r ≡ t ++ x ∷ [])
    {passed' i : ℕ} (same : passed' ≡ passed) (at : i ≡ passed + length t)
    (stands : in_order lim.window lim.place x && (up || is_free x) ≡ true) where
  here : x ≡ get_or xs (length t) past
  here = taken xs r t x past g.front e

  before : Seen lim up xs sid slot free marks twice (suc (length t))
  before = rw (shorter xs r t x past g.front e) at g.seen

  inside : length t < length xs
  inside = let f = g.front in omega (arith, shorter xs r t x past f e, f.within)

  place : length t ≡ i
  place = omega (arith, at, g.none)

  on : {slot' free' : Option ℕ} {marks' : List Bool} {twice' : Bool} → Seen lim up xs sid slot' free' marks' twice' (length t)
      → Going lim up xs sid slot' free' marks' twice' passed' t
  on s = record { none = same ∙ g.none; front = rest xs r t x past g.front e; seen = s }

  with_sid : in_use x.state ≡ true → (k : ℕ) → k ≡ x.sid % 64 → (b : Bool) → eqb x.sid sid ≡ b
      → Seen lim up xs sid (if b (Some (length t)) slot) free (set marks k true) (twice || get_or marks k false) (length t)
  with_sid u k q b d =
      used lim up xs sid (length t) before inside (rw here at stands) (rw here at u) k (rw here at q) b (rw here at d)

  pub going_that : in_use x.state ≡ true → {k : ℕ} → k ≡ x.sid % 64 → x.sid ≡ sid
      → Going lim up xs sid (Some i) free (set marks k true) (twice || get_or marks k false) passed' t
  going_that u {k} q d =
      on (subst (λ (j : ℕ). Seen lim up xs sid (Some j) free (set marks k true) (twice || get_or marks k false) (length t)) place
      (with_sid u k q true (eq-eqb _ _ d)))

  pub going_other : in_use x.state ≡ true → {k : ℕ} → k ≡ x.sid % 64 → x.sid ≢ sid
      → Going lim up xs sid slot free (set marks k true) (twice || get_or marks k false) passed' t
  going_other u {k} q d = on (with_sid u k q false (ne_eqb _ _ d))

  pub going_free : in_use x.state ≡ false → Going lim up xs sid slot (Some i) marks twice passed' t
  going_free u =
      on (subst (λ (j : ℕ). Seen lim up xs sid slot (Some j) marks twice (length t)) place
      (unused lim up xs sid (length t) before inside (rw here at stands) (rw here at u)))

-- ---- the answers

-- where one was found it is one of the table
pub slot_within : {lim : Limits} {up : Bool} {xs : List Session} {sid i : ℕ} {slot free : Option ℕ} {marks : List Bool} {twice : Bool}
    → Seen lim up xs sid slot free marks twice i → {k : ℕ} → slot ≡ Some k → k < length xs
slot_within {xs = xs} {sid = sid} {i = i} s {k} p = by (holds sid (drop i xs)) refl (sym p ∙ s.at)
  where
    by : (b : Bool) → holds sid (drop i xs) ≡ b → Some k ≡ (if b (Some (i + slot_of sid (drop i xs))) None) → k < length xs
    by true e q = let r : k ≡ i + slot_of sid (drop i xs) = cc in omega (arith, within sid (drop i xs) e, length-drop i xs)
    by false e q = absurd cc

-- the record is the one at the slot found
at_slot : List Session → ℕ → Found
at_slot xs k = record { slot = k; session = get_or xs k past }

found_whole : (sid : ℕ) (xs : List Session) → option_map (at_slot xs) (slot_from sid xs 0) ≡ found_in sid xs
unfolding at_slot
found_whole sid xs = by (holds sid xs) refl
  where
    by : (b : Bool) → holds sid xs ≡ b
        → option_map (at_slot xs) (if b (Some (0 + slot_of sid xs)) None) ≡ if b (Some (record { slot = slot_of sid xs; session = session_of sid xs })) None
    by true e =
        rw (zero-add, session_at)
        (ap (λ (x : Session). Some (record { slot = slot_of sid xs; session = x })) (in_range xs (slot_of sid xs) past free (within sid xs e)))
    by false e = refl

free_whole : (xs : List Session) → free_from xs 0 ≡ free_in xs
free_whole xs = rw zero-add

either : {A : Type 0} (b : Bool) → (b ≡ true → A) → (b ≡ false → A) → A
either true f g = f refl
either false f g = g refl

pub look_made : (lim : Limits) (e : End) (sid : ℕ) {slot lowest : Option ℕ} {marks : List Bool} {twice : Bool} {passed : ℕ} {r : List Session}
    → Going lim e.up e.slots sid slot lowest marks twice passed r → length r ≡ 0 → (twice ≡ true → sids_differ e.slots ≡ true)
    → {found : Option Found} → found ≡ option_map (λ k. record { slot = k; session = get_or e.slots k past }) slot
    → Ok (record { found = found; free = lowest }) ≡ look_of lim e sid
unfolding look_of at_slot
look_made lim e sid {slot} {lowest} {marks} {twice} g z d {found} f =
    let s : Seen lim e.up e.slots sid slot lowest marks twice 0 = rw z at g.seen in
    let w : well_made lim e ≡ true = and_both _ _ s.ordered (and_both _ _ (either twice d s.apart) s.down) in
    let a : found ≡ found_in sid e.slots = f ∙ ap (option_map (at_slot e.slots)) s.at ∙ found_whole sid e.slots in
    let b : lowest ≡ free_in e.slots = s.lowest ∙ free_whole e.slots in
    rw w (rw (a, b))

not_made : (lim : Limits) (e : End) (sid : ℕ) → (well_made lim e ≡ true → ⊥) → Err IllMade ≡ look_of lim e sid
unfolding look_of
not_made lim e sid f = rw (is_false _ f)

pub look_alike : (lim : Limits) (e : End) (sid : ℕ) → sids_differ e.slots ≡ false → Err IllMade ≡ look_of lim e sid
look_alike lim e sid p = not_made lim e sid (λ w. never (sym p ∙ (parts lim e w).1))

-- x, from the back of what is left, may not stand where it does
pub look_ill : (lim : Limits) (e : End) (sid : ℕ) {slot lowest : Option ℕ} {marks : List Bool} {twice : Bool} {passed : ℕ} {r : List Session}
    → Going lim e.up e.slots sid slot lowest marks twice passed r → (t : List Session) (x : Session) → r ≡ t ++ x ∷ []
    → in_order lim.window lim.place x && (e.up || is_free x) ≡ false → Err IllMade ≡ look_of lim e sid
look_ill lim e sid {r = r} g t x q p = not_made lim e sid (λ w. never (sym p ∙ and_both _ _ (ordered w) (down e.up refl w)))
  where
    here : x ≡ get_or e.slots (length t) past
    here = taken e.slots r t x past g.front q

    inside : length t < length e.slots
    inside = let f = g.front in omega (arith, shorter e.slots r t x past f q, f.within)

    ordered : well_made lim e ≡ true → in_order lim.window lim.place x ≡ true
    ordered w = rw here (every_at (in_order lim.window lim.place) e.slots past (parts lim e w).0 (length t) inside)

    down : (up : Bool) → e.up ≡ up → well_made lim e ≡ true → up || is_free x ≡ true
    down true u w = refl
    down false u w = rw here (every_at is_free e.slots past (rw u at (parts lim e w).2) (length t) inside)
