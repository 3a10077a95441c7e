-- Short runs of the pair, each with what it should show, worked out from document 01. The checker evaluates them (proofs/Runs.antt).
-- They have small places and few slots, so that they are quick to evaluate; the theorems hold of every size.
use Rattle.std.specs.Prelude.{ℕ, ◌≡◌, List, [], ◌∷◌, ◌++◌, map, replicate, take}
use Rattle.std.proofs.Math.Option.{Option, none, some}
use Rattle.cases.specs.Cases.{if, done}
use Rattle.session.specs.declared.record.Session.{Session}
use Rattle.session.specs.Counter.{minus}
use Rattle.session.specs.Record.{highest, stated_of}
use Rattle.table.specs.declared.end.Role.{Role}
use Rattle.table.specs.declared.end.Role.TheVariants.{Client, Server}
use Rattle.table.specs.Slots.{held_count}
use Rattle.table.specs.End.{started_of, put_of}
use Rattle.table.specs.Limits.{Limits}
use Rattle.pair.specs.Side.{Side, client, server}
use Rattle.pair.specs.World.{Party}
use Rattle.pair.specs.Step.{Call, Open, Send, Read, Close, Take, shape, Step}
use Rattle.pair.specs.History.{Scene, Entry, dawn, history, final}
use Rattle.pair.specs.Claims.{own, accepted, received, slot_at}

-- a step, the number that it should get and the session that it should belong to
pub record Line : Type 0 where
  pub step : Step
  pub number : ℕ
  pub whose : Option ℕ

abbrev pub steps : List Line → List Step
steps lines = map (λ (l : Line). l.step) lines

abbrev pub numbers : List Line → List ℕ
numbers lines = map (λ (l : Line). l.number) lines

abbrev pub sessions : List Line → List (Option ℕ)
sessions lines = map (λ (l : Line). l.whose) lines

abbrev pub numbers_in : List Entry → List ℕ
numbers_in h = map (λ (e : Entry). e.reply.number) h

abbrev pub sessions_in : List Entry → List (Option ℕ)
sessions_in h = map (λ (e : Entry). e.whose) h

-- the kind and the SID that each take with 0 answered; the kinds are SYN 1, ACK 2, FIN 4, DATA 8
unfoldable pub taken_in : List Entry → List (ℕ × ℕ)
taken_in [] = []
taken_in (e ∷ h) = if (shape e.step.call).takes (done e.reply.number ((e.reply.kind, e.reply.sid) ∷ []) []) [] ++ taken_in h

abbrev pub is : Side → Call → ℕ → Option ℕ → Line
is k c n who = record { step = record { side = k; call = c }; number = n; whose = who }

-- the highest window, and places of that size
abbrev pub sized : ℕ → Limits
sized place = record { window = highest; place = place }

-- two slots with places of four bytes, and storages of 32
abbrev pub two : Scene
two = dawn 2 (λ k. replicate 32 0)

-- a row sent and read; the writer closes; the reader is told 8 before the FIN is taken, and 11 after
abbrev pub row : List Line
row =
    is client (Open 16) 0 (some 0)
    ∷ is client (Send 0 (7 ∷ 8 ∷ []) 18) 0 (some 0)
    ∷ is server (Take 100 32) 0 (some 0)
    ∷ is server (Take 17 32) 10 none
    ∷ is server (Take 18 32) 0 (some 0)
    ∷ is server (Read 0 2 16 32) 0 (some 0)
    ∷ is client (Close 0 16) 0 (some 0)
    ∷ is server (Read 0 2 16 32) 8 (some 0)
    ∷ is server (Take 16 32) 0 (some 0)
    ∷ is server (Read 0 2 16 32) 11 (some 0)
    ∷ []

-- a FIN meets unread rows: the writer has sent two and closed before the reader takes anything; he reads both, and no ACK is emitted and no room
-- for one is needed; then he is told 11
abbrev pub unread_rows : List Line
unread_rows =
    is client (Open 16) 0 (some 0)
    ∷ is client (Send 0 (5 ∷ []) 17) 0 (some 0)
    ∷ is client (Send 0 (6 ∷ 7 ∷ []) 18) 0 (some 0)
    ∷ is client (Close 0 16) 0 (some 0)
    ∷ is server (Take 100 32) 0 (some 0)
    ∷ is server (Take 100 32) 0 (some 0)
    ∷ is server (Take 100 32) 0 (some 0)
    ∷ is server (Take 100 32) 0 (some 0)
    ∷ is server (Read 0 4 0 32) 0 (some 0)
    ∷ is server (Read 0 4 0 32) 0 (some 0)
    ∷ is server (Read 0 4 0 32) 11 (some 0)
    ∷ is client (Take 16 32) 10 none
    ∷ []

-- fewer notices: the first row is read in silence, with no room for an ACK; then the ACK is due, and a read without room for it is refused
abbrev pub notices : List Line
notices =
    is client (Open 16) 0 (some 0)
    ∷ is client (Send 0 (5 ∷ []) 17) 0 (some 0)
    ∷ is client (Send 0 (6 ∷ []) 17) 0 (some 0)
    ∷ is server (Take 100 32) 0 (some 0)
    ∷ is server (Take 100 32) 0 (some 0)
    ∷ is server (Take 100 32) 0 (some 0)
    ∷ is server (Read 0 4 0 32) 0 (some 0)
    ∷ is client (Take 16 32) 10 none
    ∷ is server (Read 0 4 0 32) 9 (some 0)
    ∷ is server (Read 0 4 16 32) 0 (some 0)
    ∷ is client (Take 16 32) 0 (some 0)
    ∷ []

-- one row, sent, taken and read, with room for an ACK
abbrev pub row_read : ℕ → List Line
row_read n = is client (Send 0 (n ∷ []) 17) 0 (some 0) ∷ is server (Take 17 32) 0 (some 0) ∷ is server (Read 0 1 16 32) 0 (some 0) ∷ []

-- two rows read one after the other; the client takes the ACK of the second
abbrev pub two_read : ℕ → ℕ → List Line
two_read n m = row_read n ++ (row_read m ++ (is client (Take 16 32) 0 (some 0) ∷ []))

abbrev pub begun : List Line
begun = is client (Open 16) 0 (some 0) ∷ is server (Take 16 32) 0 (some 0) ∷ []

-- eight rows read one after the other, with four ACKs and no more
abbrev pub eight_rows : List Line
eight_rows = begun ++ (two_read 1 2 ++ (two_read 3 4 ++ (two_read 5 6 ++ (two_read 7 8 ++ (is client (Take 16 32) 10 none ∷ [])))))

-- DATA going back announces the window, and the next read emits no ACK
abbrev pub back_announces : List Line
back_announces =
    begun
    ++ (row_read 1
    ++ (is server (Send 0 (9 ∷ []) 17) 0 (some 0)
    ∷ is client (Take 17 32) 0 (some 0)
    ∷ (row_read 2 ++ (is client (Take 16 32) 10 none ∷ []))))

-- a SID used again while the server still holds the old session under it: the FIN and the SYN both carry SID 0
abbrev pub again : List Line
again =
    is client (Open 16) 0 (some 0)
    ∷ is server (Take 16 32) 0 (some 0)
    ∷ is server (Close 0 16) 0 (some 0)
    ∷ is client (Take 16 32) 0 (some 0)
    ∷ is client (Close 0 16) 0 (some 0)
    ∷ is client (Open 16) 0 (some 1)
    ∷ is client (Send 0 (9 ∷ []) 17) 0 (some 1)
    ∷ is server (Read 0 4 16 32) 5 (some 0)
    ∷ is server (Take 100 32) 0 (some 0)
    ∷ is server (Take 100 32) 0 (some 1)
    ∷ is server (Take 100 32) 0 (some 1)
    ∷ is server (Read 0 4 16 32) 0 (some 1)
    ∷ []

-- both sides close at once: each takes the other's FIN in FIN SENT, and both slots are free
abbrev pub crossing : List Line
crossing =
    is client (Open 16) 0 (some 0)
    ∷ is server (Take 16 32) 0 (some 0)
    ∷ is client (Close 0 16) 0 (some 0)
    ∷ is server (Close 0 16) 0 (some 0)
    ∷ is client (Take 16 32) 0 (some 0)
    ∷ is server (Take 16 32) 0 (some 0)
    ∷ is client (Read 0 4 16 32) 4 none
    ∷ is server (Read 0 4 16 32) 4 none
    ∷ []

-- sixteen sessions, and a seventeenth that is refused; sixteen slots with places of one byte
abbrev pub sixteen : Scene
sixteen = dawn 16 (λ k. replicate 64 0)

abbrev pub many : List Step
many = replicate 17 (record { side = client; call = Open 16 }) ++ replicate 17 (record { side = server; call = Take 16 64 })

-- A session that has sent 4,294,967,294 packets. This is no run from a fresh pair: it starts from a world that was written down here,
-- and shows the wrap computed. That runs from a fresh pair get past it is what the theorems say, since they bound no run's length.
abbrev pub late : Scene
late = record {
  world = world_at;
  book = record { opened = 1; notes = λ k. record { coming = []; owner = λ i. 0 } };
}
  where
    at : Role → Session → Party
    at role x = record { end = put_of 0 x (started_of 2 role); storage = replicate 32 0; coming = [] }

    world_at : Side → Party
    world_at client = at Client (stated_of 0 0xfffffffe 2 0 4 4)
    world_at server = at Server (stated_of 0 0 4 0xfffffffe 2 2)

abbrev pub wrapping : List Line
wrapping =
    is client (Send 0 (1 ∷ []) 17) 0 (some 0)
    ∷ is client (Send 0 (2 ∷ []) 17) 0 (some 0)
    ∷ is client (Send 0 (3 ∷ []) 17) 0 (some 0)
    ∷ is server (Take 17 32) 0 (some 0)
    ∷ is server (Take 17 32) 0 (some 0)
    ∷ is server (Take 17 32) 0 (some 0)
    ∷ is server (Read 0 1 16 32) 0 (some 0)
    ∷ is server (Read 0 1 16 32) 0 (some 0)
    ∷ is server (Read 0 1 16 32) 0 (some 0)
    ∷ is client (Take 16 32) 0 (some 0)
    ∷ []

-- ---- what they show

-- each step has its number and belongs to its session
abbrev pub Goes : Scene → List Line → Type 0
Goes x lines = (numbers_in (history (sized 4) x (steps lines)) ≡ numbers lines) × (sessions_in (history (sized 4) x (steps lines)) ≡ sessions lines)

-- what the client's sends of session n were accepted with, and what the server received of it
abbrev pub Accepts : Scene → List Line → ℕ → List (List ℕ) → Type 0
Accepts x lines n payloads = accepted client (own n (history (sized 4) x (steps lines))) ≡ payloads

abbrev pub Arrives : Scene → List Line → ℕ → List (List ℕ) → Type 0
Arrives x lines n payloads = received server (own n (history (sized 4) x (steps lines))) ≡ payloads

-- what the takes with 0 answered, at either side
abbrev pub Takes : Scene → List Line → List (ℕ × ℕ) → Type 0
Takes x lines kinds = taken_in (history (sized 4) x (steps lines)) ≡ kinds

-- how many sessions client and server hold where it ends
abbrev pub held_at : Side → Scene → ℕ
held_at k x = held_count (x.world k).end.slots

abbrev pub Leaves : Scene → List Line → ℕ → ℕ → Type 0
Leaves x lines n m = (held_at client (final (sized 4) x (steps lines)) ≡ n) × (held_at server (final (sized 4) x (steps lines)) ≡ m)

-- what the client's window is, in its slot 0, after the first n steps
abbrev pub Opens : Scene → List Line → ℕ → ℕ → Type 0
Opens x lines n w =
    let s = slot_at (final (sized 4) x (take n (steps lines))) client 0 in
    minus s.h s.s ≡ w

abbrev pub ShownRow : Type 0
ShownRow =
    Goes two row
    × Accepts two row 0 ((7 ∷ 8 ∷ []) ∷ [])
    × Arrives two row 0 ((7 ∷ 8 ∷ []) ∷ [])
    × Takes two row ((1, 0) ∷ (8, 0) ∷ (4, 0) ∷ [])
    × Leaves two row 1 1

abbrev pub ShownUnread : Type 0
ShownUnread =
    Goes two unread_rows
    × Accepts two unread_rows 0 ((5 ∷ []) ∷ (6 ∷ 7 ∷ []) ∷ [])
    × Arrives two unread_rows 0 ((5 ∷ []) ∷ (6 ∷ 7 ∷ []) ∷ [])
    × Takes two unread_rows ((1, 0) ∷ (8, 0) ∷ (8, 0) ∷ (4, 0) ∷ [])
    × Leaves two unread_rows 1 1

abbrev pub ShownNotices : Type 0
ShownNotices =
    Goes two notices
    × Accepts two notices 0 ((5 ∷ []) ∷ (6 ∷ []) ∷ [])
    × Arrives two notices 0 ((5 ∷ []) ∷ (6 ∷ []) ∷ [])
    × Takes two notices ((1, 0) ∷ (8, 0) ∷ (8, 0) ∷ (2, 0) ∷ [])
    × Leaves two notices 1 1
    × Opens two row 6 3
    × Opens two notices 11 4

abbrev pub ShownEight : Type 0
ShownEight =
    Goes two eight_rows
    × Arrives two eight_rows 0 ((1 ∷ []) ∷ (2 ∷ []) ∷ (3 ∷ []) ∷ (4 ∷ []) ∷ (5 ∷ []) ∷ (6 ∷ []) ∷ (7 ∷ []) ∷ (8 ∷ []) ∷ [])
    × Takes two eight_rows ((1, 0) ∷ (8, 0) ∷ (8, 0) ∷ (2, 0) ∷ (8, 0) ∷ (8, 0) ∷ (2, 0) ∷ (8, 0) ∷ (8, 0) ∷ (2, 0) ∷ (8, 0) ∷ (8, 0) ∷ (2, 0) ∷ [])
    × Opens two eight_rows 31 4

abbrev pub ShownBack : Type 0
ShownBack =
    Goes two back_announces
    × Arrives two back_announces 0 ((1 ∷ []) ∷ (2 ∷ []) ∷ [])
    × Takes two back_announces ((1, 0) ∷ (8, 0) ∷ (8, 0) ∷ (8, 0) ∷ [])
    × Opens two back_announces 11 3

abbrev pub ShownAgain : Type 0
ShownAgain =
    Goes two again
    × Accepts two again 0 []
    × Arrives two again 0 []
    × Accepts two again 1 ((9 ∷ []) ∷ [])
    × Arrives two again 1 ((9 ∷ []) ∷ [])
    × Takes two again ((1, 0) ∷ (4, 0) ∷ (4, 0) ∷ (1, 0) ∷ (8, 0) ∷ [])
    × Leaves two again 1 1

abbrev pub ShownCrossing : Type 0
ShownCrossing = Goes two crossing × Takes two crossing ((1, 0) ∷ (4, 0) ∷ (4, 0) ∷ []) × Leaves two crossing 0 0

abbrev pub ShownWrapping : Type 0
ShownWrapping =
    Goes late wrapping
    × Accepts late wrapping 0 ((1 ∷ []) ∷ (2 ∷ []) ∷ (3 ∷ []) ∷ [])
    × Arrives late wrapping 0 ((1 ∷ []) ∷ (2 ∷ []) ∷ (3 ∷ []) ∷ [])
    × Takes late wrapping ((8, 0) ∷ (8, 0) ∷ (8, 0) ∷ (2, 0) ∷ [])
    × Leaves late wrapping 1 1

abbrev pub ShownMany : Type 0
ShownMany =
    (numbers_in (history (sized 1) sixteen many) ≡ replicate 16 0 ++ (3 ∷ replicate 16 0 ++ (10 ∷ [])))
    × (map (λ (t : ℕ × ℕ). t.0) (taken_in (history (sized 1) sixteen many)) ≡ replicate 16 1)
    × (map (λ (t : ℕ × ℕ). t.1) (taken_in (history (sized 1) sixteen many))
    ≡ 0 ∷ 1 ∷ 2 ∷ 3 ∷ 4 ∷ 5 ∷ 6 ∷ 7 ∷ 8 ∷ 9 ∷ 10 ∷ 11 ∷ 12 ∷ 13 ∷ 14 ∷ 15 ∷ [])
    × (held_at client (final (sized 1) sixteen many) ≡ 16)
    × (held_at server (final (sized 1) sixteen many) ≡ 16)

abbrev pub Shown : Type 0
Shown = ShownRow × ShownUnread × ShownNotices × ShownEight × ShownBack × ShownAgain × ShownCrossing × ShownWrapping × ShownMany
