-- A record with its four places in the storage stands for a half of a session, whose counters don't wrap: what that says, and what it gives.
-- In use, such a record is in order; a fresh one stands for a fresh half.
use Prim.Native.Nat.{ℕ, ◌+◌, ◌-◌, ◌*◌, ◌%◌, ◌^◌, ◌≤◌, ◌<◌}
use native.Mathlib.Omega.{arith}
use native.Mathlib.Nat.{mod-lt}
use mathlib.Core.Path.{◌≡◌, refl, sym, ap, ◌∙◌}
use mathlib.Core.Bool.{true, false}
use mathlib.Core.List.{List, [], ◌∷◌}
use lib.ListN.{length, get_or, set, take, drop, get_or-replicate}
use lib.Dec.{T}
use Rattle.cases.proofs.Tests.{never}
use Rattle.session.specs.declared.record.State.{State}
use Rattle.session.specs.declared.record.State.TheVariants.{Closed, Established, FinSent, FinReceived}
use Rattle.session.specs.declared.record.Session.{Session}
use Rattle.session.specs.Counter.{minus, plus}
use Rattle.session.specs.Record.{window, in_use, fin_sent, fresh_of, unread, unread_in, place}
use Rattle.session.specs.Well.{InOrder}
use Rattle.session.specs.Changes.{with_state}
use Rattle.session.proofs.Wrap.{minus_counts, plus_counts}
use Rattle.table.specs.Storage.{place_start}
use Rattle.table.specs.Limits.{Limits}
use Rattle.pair.proofs.Lane.Half.{Bytes, St, est, fs, fr, gone, Body, s_of, g_of, r_of, fresh}
use Rattle.pair.proofs.Lane.Inv.{keeps, Ranges}
use Rattle.pair.proofs.Lane.Story.{Opened}
use Rattle.pair.proofs.Lane.World.{live}

abbrev pub state_of : St → State
state_of est = Established
state_of fs = FinSent
state_of fr = FinReceived
state_of gone = Closed

abbrev st_for : State → St
st_for Established = est
st_for FinSent = fs
st_for FinReceived = fr
st_for Closed = gone

st_back : (s : St) → st_for (state_of s) ≡ s
st_back est = refl
st_back fs = refl
st_back fr = refl
st_back gone = refl

-- a state is one half's
pub state_one : (s t : St) → state_of s ≡ state_of t → s ≡ t
state_one s t e = sym (st_back s) ∙ ap st_for e ∙ st_back t

-- a half is in use unless it is gone
pub live_used : (s : St) → T (live s) → in_use (state_of s) ≡ true
live_used est t = refl
live_used fs t = refl
live_used fr t = refl
live_used gone t = absurd t

pub used_live : (s : St) → in_use (state_of s) ≡ true → T (live s)
used_live est u = tt
used_live fs u = tt
used_live fr u = tt
used_live gone u = never u

-- and keeps what arrives unless it has closed
pub open_keeps : (s : St) → fin_sent (state_of s) ≡ false → in_use (state_of s) ≡ true → T (keeps s)
open_keeps est f u = tt
open_keeps fr f u = tt
open_keeps fs f u = never (sym f)
open_keeps gone f u = never u

-- the payload p lies in the place of SEQNUM q in slot i: its length stands in the record, its bytes in the storage
pub record Lies (lim : Limits) (i : ℕ) (storage lens : List ℕ) (q : ℕ) (p : Bytes) : Type 0 where
  pub long : get_or lens (place q) 0 ≡ length p
  pub bytes : take (length p) (drop (place_start lim.place i q) storage) ≡ p

-- the counters of a record, one after the other, and what they are for a half. A new counter is one more in both; what a step doesn't change
-- of them needs no word, since both lists compute.
abbrev pub counters : Session → List ℕ
counters x = x.s ∷ x.h ∷ x.r ∷ x.g ∷ x.l ∷ []

abbrev pub wrapped : Body → List ℕ
wrapped B = s_of B % 2 ^ 32 ∷ B.high % 2 ^ 32 ∷ r_of B % 2 ^ 32 ∷ g_of B % 2 ^ 32 ∷ B.last % 2 ^ 32 ∷ []

-- the four lengths
pub record Lengths (lim : Limits) (lens : List ℕ) : Type 0 where
  pub four : length lens ≡ 4
  pub small : (k : ℕ) → k < 4 → get_or lens k 0 ≤ lim.place

-- the payloads unread lie in their places
abbrev pub Ring : Limits → ℕ → List ℕ → List ℕ → Body → Type 0
Ring lim i storage lens B = (j : ℕ) → j < length B.unread → Lies lim i storage lens (length B.got + 1 + j) (get_or B.unread j [])

-- the record x of slot i stands under the SID `name` for the half st, B
pub record Stands (lim : Limits) (i : ℕ) (storage : List ℕ) (x : Session) (name : ℕ) (st : St) (B : Body) : Type 0 where
  pub sid : x.sid ≡ name
  pub state : x.state ≡ state_of st
  pub counts : counters x ≡ wrapped B
  pub lengths : Lengths lim x.lens
  pub ring : Ring lim i storage x.lens B

-- ---- one counter: what it is, and the counters where it becomes another

counted : (n : ℕ) {l m : List ℕ} → l ≡ m → get_or l n 0 ≡ get_or m n 0
counted n e = ap (λ (l : List ℕ). get_or l n 0) e

becomes : (n : ℕ) {a b : ℕ} {l m : List ℕ} → a ≡ b → l ≡ m → set l n a ≡ set m n b
becomes n e f = cc

module _ {lim : Limits} {i : ℕ} {storage : List ℕ} {x : Session} {sid : ℕ} {st : St} {B : Body} (a : Stands lim i storage x sid st B) where
  pub s_is : x.s ≡ s_of B % 2 ^ 32
  s_is = counted 0 a.counts

  pub h_is : x.h ≡ B.high % 2 ^ 32
  h_is = counted 1 a.counts

  pub r_is : x.r ≡ r_of B % 2 ^ 32
  r_is = counted 2 a.counts

  pub g_is : x.g ≡ g_of B % 2 ^ 32
  g_is = counted 3 a.counts

  pub l_is : x.l ≡ B.last % 2 ^ 32
  l_is = counted 4 a.counts

pub s_becomes : {a b : ℕ} {l m : List ℕ} → a ≡ b → l ≡ m → set l 0 a ≡ set m 0 b
s_becomes e f = becomes 0 e f

pub h_becomes : {a b : ℕ} {l m : List ℕ} → a ≡ b → l ≡ m → set l 1 a ≡ set m 1 b
h_becomes e f = becomes 1 e f

pub r_becomes : {a b : ℕ} {l m : List ℕ} → a ≡ b → l ≡ m → set l 2 a ≡ set m 2 b
r_becomes e f = becomes 2 e f

pub g_becomes : {a b : ℕ} {l m : List ℕ} → a ≡ b → l ≡ m → set l 3 a ≡ set m 3 b
g_becomes e f = becomes 3 e f

pub l_becomes : {a b : ℕ} {l m : List ℕ} → a ≡ b → l ≡ m → set l 4 a ≡ set m 4 b
l_becomes e f = becomes 4 e f

-- a place goes by its SEQNUM modulo 4
pub lies_place : {lim : Limits} {i : ℕ} {storage lens : List ℕ} (q q' : ℕ) {p : Bytes} → place q ≡ place q' → Lies lim i storage lens q' p
    → Lies lim i storage lens q p
lies_place {lim} {i} {storage} {lens} q q' {p} e a = record {
  long = ap (λ (k : ℕ). get_or lens k 0) e ∙ a.long;
  bytes = ap (λ (k : ℕ). take (length p) (drop (4 * lim.place * i + lim.place * k) storage)) e ∙ a.bytes;
}

-- an unread payload is no longer than its place
pub unread_bound : {lim : Limits} {i : ℕ} {storage : List ℕ} {x : Session} {sid : ℕ} {st : St} {B : Body} → Stands lim i storage x sid st B
    → (j : ℕ) → j < length B.unread → length (get_or B.unread j []) ≤ lim.place
unread_bound {B = B} a j h = omega
    (arith, (a.ring j h).long, a.lengths.small (place (length B.got + 1 + j)) (mod-lt (length B.got + 1 + j) (omega arith)))

-- ---- a fresh record

pub fresh_stands : (lim : Limits) (i : ℕ) (storage : List ℕ) (sid : ℕ) → Stands lim i storage (fresh_of sid) sid est fresh
fresh_stands lim i storage sid = record {
  sid = refl;
  state = refl;
  counts = refl;
  lengths = record { four = refl; small = λ k h. omega (arith, get_or-replicate {A = ℕ} 4 k 0 0 h) };
  ring = λ j h. absurd (omega arith);
}

-- ---- only the state changes

pub turned_stands : {lim : Limits} {i : ℕ} {storage : List ℕ} {x : Session} {sid : ℕ} {st : St} {B : Body} (t : St) → Stands lim i storage x sid st B
    → Stands lim i storage (with_state (state_of t) x) sid t B
turned_stands t a = record { sid = a.sid; state = refl; counts = a.counts; lengths = a.lengths; ring = a.ring }

-- ---- in use, and its counters' differences over numbers that don't wrap

pub stands_used : {lim : Limits} {i : ℕ} {storage : List ℕ} {x : Session} {sid : ℕ} {st : St} {B : Body} → Stands lim i storage x sid st B
    → in_use (state_of st) ≡ true → in_use x.state ≡ true
stands_used a u = ap in_use a.state ∙ u

module _ {lim : Limits} {i : ℕ} {storage : List ℕ} {x : Session} {sid : ℕ} {st : St} {B : Body} (a : Stands lim i storage x sid st B) (b : Ranges B) where
  -- what the peer still lets us send
  pub window_counts : minus x.h x.s ≡ B.high - s_of B
  window_counts = rw (h_is a, s_is a) (minus_counts (s_of B) B.high b.fit (omega (arith, b.high)))

  pub opened_window : Opened B → (3 ≤ minus x.h x.s) × (minus x.h x.s ≤ window)
  opened_window o = (omega (arith, window_counts, o.three), omega (arith, window_counts, o.four))

  -- what we still let the peer send
  pub room_counts : minus x.g x.r ≡ g_of B - r_of B
  room_counts = rw (g_is a, r_is a) (minus_counts (r_of B) (g_of B) b.room (omega arith))

  -- how far our G is past the window last announced
  pub notice_counts : minus x.g x.l ≡ g_of B - B.last
  notice_counts = rw (g_is a, l_is a) (minus_counts B.last (g_of B) b.said (omega (arith, b.near)))

  waiting : minus (plus x.r window) x.g ≡ length B.unread
  waiting = rw (g_is a, r_is a, plus_counts (r_of B) window) (minus_counts (g_of B) (r_of B + window) (omega arith) (omega (arith, b.room)) ∙ omega arith)

  -- the packets unread, in ESTABLISHED and in FIN RECEIVED
  pub unread_counts : fin_sent (state_of st) ≡ false → in_use (state_of st) ≡ true → unread x ≡ length B.unread
  unread_counts f u = ap (λ (t : State). unread_in t x) a.state ∙ by st f u
    where
      by : (t : St) → fin_sent (state_of t) ≡ false → in_use (state_of t) ≡ true → unread_in (state_of t) x ≡ length B.unread
      by est f u = waiting
      by fr f u = waiting
      by fs f u = never (sym f)
      by gone f u = never u

  -- it is in order
  pub stands_order : window ≤ lim.window → in_use (state_of st) ≡ true → InOrder lim.window lim.place x
  stands_order wide u = record {
    used = λ _. record {
      send = omega (arith, window_counts, b.high);
      receive = omega (arith, room_counts);
      notice = omega (arith, notice_counts, b.near);
      lengths = a.lengths.small;
    };
    free = λ e. never (sym e ∙ stands_used a u);
  }
