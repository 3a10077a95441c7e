-- One half of a session with counters that don't wrap: what each call and each packet does to it. It stands for a record in the proof of demand 3.
-- The counters are not stored: S is the number of payloads that went out, G is 4 more than those handed over by read,
-- R is those handed over and those unread. H (high) and L (last, the window last announced) are stored.
use Prim.Native.Nat.{ℕ, suc, ◌+◌}
use mathlib.Core.Path.{◌≡◌, refl}
use mathlib.Core.Bool.{Bool, true, false, not, cond, ◌&&◌, ◌||◌}
use mathlib.Core.List.{List, [], ◌∷◌, ◌++◌}
use mathlib.Core.Option.{Option, none, some}
use lib.ListN.{length}
use lib.Dec.{T, leb, ltb, eqb}

abbrev pub Bytes : Type 0
Bytes = List ℕ

pub data St : Type 0 where
  est fs fr gone : St

pub data Packet : Type 0 where
  dat : ℕ → ℕ → Bytes → Packet
  ack : ℕ → ℕ → Packet
  fin : ℕ → ℕ → Packet

abbrev pub seqnum_of : Packet → ℕ
seqnum_of (dat q v p) = q
seqnum_of (ack q v) = q
seqnum_of (fin q v) = q

abbrev pub wndw_of : Packet → ℕ
wndw_of (dat q v p) = v
wndw_of (ack q v) = v
wndw_of (fin q v) = v

-- sent: the payloads that went out as DATA
pub record Body : Type 0 where
  pub sent : List Bytes
  pub got : List Bytes
  pub unread : List Bytes
  pub high : ℕ
  pub last : ℕ

-- the payloads accepted, in their order: each goes out at once
abbrev pub acc_of : Body → List Bytes
acc_of B = B.sent

abbrev pub s_of : Body → ℕ
s_of B = length B.sent

abbrev pub g_of : Body → ℕ
g_of B = length B.got + 4

abbrev pub r_of : Body → ℕ
r_of B = length B.got + length B.unread

abbrev pub fresh : Body
fresh = record { sent = []; got = []; unread = []; high = 4; last = 4 }

-- L set to G: after a packet, whose WNDW is G, went out, and after a read in FIN RECEIVED
abbrev pub said : Body → Body
said B = record { sent = B.sent; got = B.got; unread = B.unread; high = B.high; last = g_of B }

-- what a step gives back: the number, the half, the packet emitted, the payload handed over
pub record Out : Type 0 where
  pub ans : ℕ
  pub st : St
  pub body : Body
  pub emit : Option Packet
  pub pay : Option Bytes

abbrev pub refuse : ℕ → St → Body → Out
refuse n s B = record { ans = n; st = s; body = B; emit = none; pay = none }

-- a refusal if the test holds
abbrev pub unless : Bool → ℕ → St → Body → Out → Out
unless true n s B o = refuse n s B
unless false n s B o = o

pub unless_all : (P : Out → Type 0) (b : Bool) (n : ℕ) (s : St) (B : Body) (o : Out) → P (refuse n s B) → (T (not b) → P o) → P (unless b n s B o)
unless_all P true n s B o x y = x
unless_all P false n s B o x y = y tt

pub unless_past : (b : Bool) (n : ℕ) (s : St) (B : Body) (o : Out) → T (not b) → unless b n s B o ≡ o
unless_past true n s B o t = absurd t
unless_past false n s B o t = refl

-- what a half sees of the things lent: room for the packet and for the payload read, whether the storage is too short,
-- and whether the payload to send is over the limit
pub record Room : Type 0 where
  pub buf : ℕ
  pub pay : ℕ
  pub short : Bool
  pub big : Bool

-- ---- send: 6, 7, 9

-- p goes out as DATA
abbrev pub goes : Body → Bytes → Out
goes B p = record {
  ans = 0;
  st = est;
  body = record { sent = B.sent ++ (p ∷ []); got = B.got; unread = B.unread; high = B.high; last = g_of B };
  emit = some (dat (suc (s_of B)) (g_of B) p);
  pay = none;
}

abbrev pub shut : Body → Bool
shut B = leb B.high (s_of B)

abbrev pub tight : Room → Bytes → Bool
tight R p = ltb R.buf (16 + length p)

abbrev pub send : Bytes → Room → St → Body → Out
send p R est B = unless R.big 6 est B (unless (shut B) 7 est B (unless (tight R p) 9 est B (goes B p)))
send p R fs B = refuse 5 fs B
send p R fr B = refuse 5 fr B
send p R gone B = refuse 4 gone B

-- ---- read: 8 or 11, 9

abbrev pub later : Body → Bytes → List Bytes → Body
later B p u = record { sent = B.sent; got = B.got ++ (p ∷ []); unread = u; high = B.high; last = B.last }

-- of the half after a read in ESTABLISHED: does an ACK go out? Its G is two or more past L
abbrev pub due : Body → Bool
due B = leb (2 + B.last) (g_of B)

abbrev pub cramped : Room → Bytes → Bool
cramped R p = ltb R.pay (length p) || R.short

-- what a read gives, by the half after it: with an ACK, in silence, and in FIN RECEIVED
abbrev pub noticed : Body → Bytes → Out
noticed B p = record { ans = 0; st = est; body = said B; emit = some (ack (s_of B) (g_of B)); pay = some p }

abbrev pub quiet : Body → Bytes → Out
quiet B p = record { ans = 0; st = est; body = B; emit = none; pay = some p }

abbrev pub read_one : Body → Bytes → Out
read_one B p = cond (due B) (noticed B p) (quiet B p)

abbrev pub read_last : Body → Bytes → Out
read_last B p = record { ans = 0; st = fr; body = said B; emit = none; pay = some p }

abbrev pub read_e : List Bytes → Room → Body → Out
read_e [] R B = refuse 8 est B
read_e (p ∷ u) R B = unless (cramped R p || (due (later B p u) && ltb R.buf 16)) 9 est B (read_one (later B p u) p)

abbrev pub read_r : List Bytes → Room → Body → Out
read_r [] R B = refuse 11 fr B
read_r (p ∷ u) R B = unless (cramped R p) 9 fr B (read_last (later B p u) p)

abbrev pub read : Room → St → Body → Out
read R est B = read_e B.unread R B
read R fs B = refuse 5 fs B
read R fr B = read_r B.unread R B
read R gone B = refuse 4 gone B

-- ---- close: 9

abbrev pub ending : St → Body → Out
ending s B = record { ans = 0; st = s; body = said B; emit = some (fin (s_of B) (g_of B)); pay = none }

abbrev pub close : Room → St → Body → Out
close R est B = unless (ltb R.buf 16) 9 est B (ending fs B)
close R fs B = refuse 5 fs B
close R fr B = unless (ltb R.buf 16) 9 fr B (ending gone B)
close R gone B = refuse 4 gone B

-- ---- take

abbrev pub win_ok : Body → ℕ → Bool
win_ok B v = leb B.high v && leb v (s_of B + 4)

abbrev pub next_ok : Body → ℕ → Bool
next_ok B q = eqb q (suc (r_of B)) && not (eqb (r_of B) (g_of B))

abbrev pub seq_ok : Body → ℕ → Bool
seq_ok B q = leb (r_of B) q && leb q (g_of B)

-- the two range checks, in the document's order; a fault ends the half
abbrev pub checked : Bool → Bool → Body → Out → Out
checked false b B o = refuse 28 gone B
checked true false B o = refuse 29 gone B
checked true true B o = o

abbrev pub plain : St → Body → Out
plain s B = record { ans = 0; st = s; body = B; emit = none; pay = none }

abbrev pub stored : Body → ℕ → Bytes → Body
stored B v p = record { sent = B.sent; got = B.got; unread = B.unread ++ (p ∷ []); high = v; last = B.last }

abbrev pub raised : Body → ℕ → Body
raised B v = record { sent = B.sent; got = B.got; unread = B.unread; high = v; last = B.last }

abbrev pub take : St → Packet → Body → Out
take est (dat q v p) B = checked (win_ok B v) (next_ok B q) B (plain est (stored B v p))
take est (ack q v) B = checked (win_ok B v) (seq_ok B q) B (plain est (raised B v))
take est (fin q v) B = checked (win_ok B v) (seq_ok B q) B (plain fr (raised B v))
take fs (dat q v p) B = checked (win_ok B v) (seq_ok B q) B (plain fs B)
take fs (ack q v) B = checked (win_ok B v) (seq_ok B q) B (plain fs B)
take fs (fin q v) B = checked (win_ok B v) (seq_ok B q) B (plain gone B)
take fr p B = refuse 30 gone B
take gone p B = refuse 23 gone B
