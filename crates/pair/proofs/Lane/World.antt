-- Means of proof. All sessions of a pair at once: a lane for each session ever opened, the tables of the two ends as lists of
-- lane numbers, and the two channels as lists of items marked with their lane. Here are the steps and the invariant.
-- A step names the lane that it belongs to; that an end, which knows only SIDs, finds that very lane follows from Heads.
use Prim.Native.Nat.{ℕ, suc, ◌≤◌, ◌<◌}
use mathlib.Core.Path.{◌≡◌}
use mathlib.Core.Bool.{Bool, true, false, cond, ◌||◌}
use mathlib.Core.List.{List, [], ◌∷◌, ◌++◌}
use mathlib.Core.Option.{Option, none, some}
use lib.ListN.{length}
use lib.Dec.{T, eqb, leb}
use Rattle.pair.specs.Side.{Side, client, server, other}
use Rattle.pair.proofs.Lane.Half.{Packet, St, est, fs, fr, gone, fresh}
use Rattle.pair.proofs.Lane.Lane.{Call, put, get, shut, deliver, Lane, begin, st_of, toward, moved, land}
use Rattle.pair.proofs.Lane.Inv.{Good}
use Rattle.pair.proofs.Lane.Tables.{has, remove, NoDup, Apart}

-- a SYN, or a packet, of a lane
pub data Item : Type 0 where
  syn : ℕ → Item
  pkt : ℕ → Packet → Item

-- the packets of one lane in a channel
abbrev pub pick : ℕ → List Item → List Packet
pick n [] = []
pick n (syn j ∷ l) = pick n l
pick n (pkt j p ∷ l) = cond (eqb j n) (p ∷ pick n l) (pick n l)

abbrev pub live : St → Bool
live est = true
live fs = true
live fr = true
live gone = false

-- the lanes by number; the SID of each; what the client's table held when it opened each; how many the client has opened and
-- the server has met; each side's table; the channel to each side
pub record World : Type 0 where
  pub lanes : ℕ → Lane
  pub sid : ℕ → ℕ
  pub held : ℕ → List ℕ
  pub born : ℕ
  pub known : ℕ
  pub table : Side → List ℕ
  pub chan : Side → List Item

abbrev pub bound : World → Side → ℕ
bound W client = W.born
bound W server = W.known

-- ---- the steps

abbrev pub set_num {ℓ} : {A : Type ℓ} → ℕ → A → (ℕ → A) → ℕ → A
set_num n a f j = cond (eqb j n) a (f j)

abbrev pub set_at {ℓ} : {A : Type ℓ} → Side → A → (Side → A) → Side → A
set_at client a f client = a
set_at client a f server = f server
set_at server a f client = f client
set_at server a f server = a

-- a table after a step of lane n to state s
abbrev pub keep : St → ℕ → List ℕ → List ℕ
keep s n t = cond (live s) t (remove n t)

abbrev pub push_item : ℕ → Option Packet → List Item → List Item
push_item n none l = l
push_item n (some p) l = l ++ (pkt n p ∷ [])

abbrev pub rest : List Item → List Item
rest [] = []
rest (i ∷ l) = l

-- a channel after a call at its end
abbrev pub after : Call → List Item → List Item
after (put p R) l = l
after (get R) l = l
after (shut R) l = l
after deliver l = rest l

-- a session's own step at one side
abbrev pub own : World → Side → ℕ → Call → World
own W k n c = let m = moved k c (W.lanes n) in record {
  lanes = set_num n (land k (W.lanes n) m) W.lanes;
  sid = W.sid;
  held = W.held;
  born = W.born;
  known = W.known;
  table = set_at k (keep m.out.st n (W.table k)) W.table;
  chan = set_at (other k) (push_item n m.out.emit (W.chan (other k))) (set_at k (after c (W.chan k)) W.chan);
}

-- the client opens a session under the SID x
abbrev pub opened : World → ℕ → World
opened W x = record {
  lanes = W.lanes;
  sid = set_num W.born x W.sid;
  held = set_num W.born (W.table client) W.held;
  born = suc W.born;
  known = W.known;
  table = set_at client (W.born ∷ W.table client) W.table;
  chan = set_at server (W.chan server ++ (syn W.born ∷ [])) W.chan;
}

-- the server takes the SYN at the head
abbrev pub welcomed : World → World
welcomed W = record {
  lanes = W.lanes;
  sid = W.sid;
  held = W.held;
  born = W.born;
  known = suc W.known;
  table = set_at server (W.known ∷ W.table server) W.table;
  chan = set_at server (rest (W.chan server)) W.chan;
}

-- the fresh pair
abbrev pub dawn : World
dawn = record {
  lanes = λ n. begin;
  sid = λ n. 0;
  held = λ n. [];
  born = 0;
  known = 0;
  table = λ k. [];
  chan = λ k. [];
}

-- ---- the invariant

-- a side's table, whose lanes are numbered below b: it holds those whose half is live, each once, under different SIDs
pub record Table (b : ℕ) (sid : ℕ → ℕ) (st : ℕ → St) (t : List ℕ) : Type 0 where
  pub below : (n : ℕ) → T (has n t) → n < b
  pub alive : (n : ℕ) → T (has n t) → T (live (st n))
  pub all : (n : ℕ) → n < b → T (live (st n)) → T (has n t)
  pub nodup : NoDup t
  pub apart : Apart sid t

-- what the client's table held when it opened lane n: all earlier lanes that are live there now, with room for one more
pub record Held (slots n : ℕ) (sid : ℕ → ℕ) (st : ℕ → St) (hs : List ℕ) : Type 0 where
  pub all : (j : ℕ) → j < n → T (live (st j)) → T (has j hs)
  pub old : (j : ℕ) → T (has j hs) → j < n
  pub few : length hs < slots
  pub apart : Apart sid (n ∷ hs)

-- what stands behind the SYN of lane n: packets of lanes that the client held when it opened n, or of n and later lanes
abbrev pub Only : ℕ → List ℕ → List Item → Type 0
Only n hs [] = Unit
Only n hs (syn j ∷ l) = Only n hs l
Only n hs (pkt j p ∷ l) = T (has j hs || leb n j) × Only n hs l

-- the SYNs on their way to the server are those of the lanes from n on, in order; a packet comes after its lane's SYN
abbrev pub Line : (ℕ → List ℕ) → ℕ → ℕ → List Item → Type 0
Line held b n [] = n ≡ b
Line held b n (syn j ∷ l) = (j ≡ n) × Only n (held n) l × Line held b (suc n) l
Line held b n (pkt j p ∷ l) = (j < n) × Line held b n l

-- the channel to the client holds no SYN
abbrev pub NoSyn : List Item → Type 0
NoSyn [] = Unit
NoSyn (syn n ∷ l) = ⊥
NoSyn (pkt n p ∷ l) = NoSyn l

pub record WInv (slots : ℕ) (W : World) : Type 0 where
  pub good : (n : ℕ) → Good (W.lanes n)
  pub queue : (k : Side) (n : ℕ) → pick n (W.chan k) ≡ toward k (W.lanes n)
  pub unborn : (n : ℕ) → W.born ≤ n → W.lanes n ≡ begin
  pub unknown : (n : ℕ) → W.known ≤ n → ((W.lanes n).ss ≡ est) × ((W.lanes n).S ≡ fresh)
  pub line : Line W.held W.born W.known (W.chan server)
  pub no_syn : NoSyn (W.chan client)
  pub tables : (k : Side) → Table (bound W k) W.sid (λ n. st_of k (W.lanes n)) (W.table k)
  pub helds : (n : ℕ) → n < W.born → Held slots n W.sid (λ j. (W.lanes j).sc) (W.held n)
