-- Each number exactly in its case: for each call, with the call's own promise as the hypothesis, the number that comes back is that of the
-- first case of laws/specs/Whens.antt that applies, and 0 exactly where none does.
use Rattle.std.specs.Prelude.{None, Option, Some}
use Prim.Native.Nat.{ℕ, ◌+◌, ◌≤◌, ◌<◌}
use native.Mathlib.Omega.{arith}
use mathlib.Core.Path.{◌≡◌, refl, sym, ap, ◌∙◌}
use mathlib.Core.Logic.{◌⊎◌, inl, inr}
use mathlib.Core.Bool.{Bool, true, false, not, ◌&&◌, ◌||◌}
use mathlib.Core.List.{List, ◌∷◌, ◌++◌}
use lib.ListN.{length}
use lib.Dec.{eqb, ltb}
use borrow.Author.Tests.{ltb-true, ltb-false, eqb-true, eq-eqb, eqb-false}
use Rattle.cases.specs.Cases.{Case, if, done}
use Rattle.cases.proofs.Tests.{never, and_split, and_both, or_split}
use Rattle.wire.specs.declared.header.Header.{Header}
use Rattle.wire.specs.declared.kind.Kind.{Kind}
use Rattle.wire.specs.declared.kind.Kind.TheVariants.{Syn, Ack, Fin, Data}
use Rattle.wire.specs.Packet.{header_length, smid_value, flags_value, flags_of, is_kind, read_header}
use Rattle.wire.proofs.Flags.{flags_named, value_of_flags}
use Rattle.session.specs.declared.record.State.{State}
use Rattle.session.specs.declared.record.State.TheVariants.{Closed, Established, FinSent, FinReceived}
use Rattle.session.specs.declared.record.Session.{Session}
use Rattle.session.specs.Record.{highest, payload_limit, established, fin_sent, fin_received, unread}
use Rattle.session.specs.Notice.{due}
use Rattle.effect.specs.Taken.{grant_in_range}
use Rattle.table.specs.declared.end.Role.{Role}
use Rattle.table.specs.declared.end.Role.TheVariants.{Client, Server}
use Rattle.table.specs.declared.end.End.{End}
use Rattle.table.specs.Slots.{holds, session_of, full}
use Rattle.table.specs.Well.{WellMade, well_made}
use Rattle.table.proofs.Made.{made, tested}
use Rattle.open.specs.Open.{OpenAnswer}
use Rattle.send.specs.Send.{SendAnswer}
use Rattle.read.specs.Read.{ReadAnswer}
use Rattle.close.specs.Close.{CloseAnswer as ClosedAnswer}
use Rattle.shutdown.specs.Shutdown.{ShutdownAnswer}
use Rattle.take.specs.Take.{TakeAnswer}
use Rattle.table.specs.Limits.{base}
use Rattle.calling.specs.Calling.{short_storage, calling}
use Rattle.open.specs.Open.{is_server, open_cases, open_number, open_of, OpenPromise}
use Rattle.send.specs.Send.{send_cases, send_number, send_of, SendPromise}
use Rattle.read.specs.Read.{oldest_length, read_cases, read_number, read_of, ReadPromise}
use Rattle.close.specs.Close.{close_cases, close_number, close_of, ClosePromise}
use Rattle.shutdown.specs.Shutdown.{shutdown_cases, shutdown_number, shutdown_of, ShutdownPromise}
use Rattle.judge.specs.Number.{is_client, syn_cases, other_cases, kind_cases, packet_cases, take_cases, take_number}
use Rattle.take.specs.Take.{take_of, TakePromise}
use Rattle.take.proofs.Answered.{take_told}
use Rattle.laws.specs.When.{When, when, Exactly}
use Rattle.laws.specs.Plain.{MayGrant, Due}
use Rattle.laws.specs.Whens.{is_well, is_up, is_held, Short, Enough, open_whens, send_whens, read_whens, close_whens, shutdown_whens, syn_whens}
use Rattle.laws.specs.Whens.{other_whens, kind_whens, packet_whens, take_whens}
use Rattle.laws.proofs.Plain.{Tells, held, fully, sized, windowed, granted, sequenced, in_established, noticed}
use Rattle.laws.proofs.Matching.{Is, Match, ends, goes, exactly, is, isnt, plainly, below, equal}

-- ---- an answer gives its number

pub told : {A : Type 0} (number : A → ℕ) (n : ℕ) (a b : A) → number a ≡ 0 → number b ≡ n → number (done n a b) ≡ n
told number n a b p q = by (eqb n 0) refl
  where
    by : (t : Bool) → eqb n 0 ≡ t → number (if t a b) ≡ n
    by true e = p ∙ sym (eqb-true n 0 e)
    by false e = q

-- a number that isn't 0, by computation
some : (n : ℕ) → eqb n 0 ≡ false → n ≡ 0 → ⊥
some n p = eqb-false n 0 p

-- ---- tests of states and roles

state_is : {n : ℕ} (test : State → Bool) (st : State) → test st ≡ true → ((s : State) → test s ≡ true → s ≡ st) → (s : State)
    → Is (test s) (when n (s ≡ st) (s ≡ st → ⊥))
state_is test st p f s = is (test s) (f s) (λ q e. never (sym q ∙ ap test e ∙ p)) (λ a b. b a)

in_fin_sent : (s : State) → fin_sent s ≡ true → s ≡ FinSent
in_fin_sent Closed p = never p
in_fin_sent Established p = never p
in_fin_sent FinSent p = refl
in_fin_sent FinReceived p = never p

in_fin_received : (s : State) → fin_received s ≡ true → s ≡ FinReceived
in_fin_received Closed p = never p
in_fin_received Established p = never p
in_fin_received FinSent p = never p
in_fin_received FinReceived p = refl

-- a test and its equation: the state is st and the number is 0
state_and : {n : ℕ} (test : State → Bool) (st : State) → test st ≡ true → ((s : State) → test s ≡ true → s ≡ st) → (s : State) (u : ℕ)
    → Is (test s && eqb u 0) (when n ((s ≡ st) × (u ≡ 0)) ((s ≡ st) × (u ≡ 0) → ⊥))
state_and test st p f s u =
    is (test s && eqb u 0)
    (λ q. let t = and_split (test s) (eqb u 0) q in (f s t.0, eqb-true u 0 t.1))
    (λ q a. never (sym q ∙ and_both (test s) (eqb u 0) (ap test a.0 ∙ p) (eq-eqb u 0 a.1)))
    (λ a b. b a)

server : {n : ℕ} (ρ : Role) → Is (is_server ρ) (when n (ρ ≡ Server) (ρ ≡ Client))
server Client = is false (λ p. never p) (λ _. refl) (λ p q. never (ap is_server p))
server Server = is true (λ _. refl) (λ p. never (sym p)) (λ p q. never (sym (ap is_server q)))

client : {n : ℕ} (ρ : Role) → Is (is_client ρ) (when n (ρ ≡ Client) (ρ ≡ Server))
client Client = is true (λ _. refl) (λ p. never (sym p)) (λ p q. never (sym (ap is_client q)))
client Server = is false (λ p. never p) (λ _. refl) (λ p q. never (ap is_client p))

-- a test by its plain words
told_is : {n : ℕ} {b : Bool} {P : Type 0} → Tells b P → Is b (when n P (P → ⊥))
told_is {b = b} t = is b t.to (λ p q. never (sym p ∙ t.back q)) (λ p f. f p)

told_not : {n : ℕ} {b : Bool} {P : Type 0} → Tells b P → Is (not b) (when n (P → ⊥) P)
told_not {b = b} t = isnt b (λ p q. never (sym p ∙ t.back q)) t.to (λ f p. f p)

-- ---- 12, 1, 4

well : {n : ℕ} (e : End) → Is (not (well_made base e)) (when n (WellMade base e → ⊥) (WellMade base e))
well e = isnt (well_made base e) (λ p w. never (sym p ∙ tested base e w)) (made base e) (λ f w. f w)

before_call : {cs : List Case} {ws : List When} (e : End) (sid : ℕ) → Match cs ws → Match (calling base e sid ++ cs) (is_well e ∷ is_up e ∷ is_held e sid ∷ ws)
before_call e sid m = goes refl (some 12 refl) (well e) (goes refl (some 1 refl) (plainly e.up) (goes refl (some 4 refl) (told_not (held sid e)) m))

-- ---- open, send, read, close, shutdown

open_match : (e : End) (room : ℕ) → Match (open_cases (well_made base e) e.up e.role (full e.slots) room) (open_whens e room)
open_match e room =
    goes refl (some 12 refl) (well e)
    (goes refl (some 1 refl) (plainly e.up)
    (goes refl (some 2 refl) (server e.role)
    (goes refl (some 3 refl) (told_is (fully e))
    (goes refl (some 9 refl) (below room header_length) ends))))

pub open_exact : {e : End} {lent exit : List ℕ} {r : OpenAnswer} → OpenPromise e lent r exit → Exactly r.number (open_whens e (length lent))
unfolding open_of open_number
open_exact {e} {lent} p = exactly (open_match e (length lent)) (ap (λ (r : OpenAnswer). r.number) p.answer ∙ told (λ (r : OpenAnswer). r.number) _ _ _ refl refl)

send_match : (e : End) (sid n room : ℕ) → Match (calling base e sid ++ send_cases base (session_of sid e.slots) n room) (send_whens e sid n room)
send_match e sid n room =
    let x = session_of sid e.slots in
    before_call e sid
    (goes refl (some 5 refl) (isnt (established x.state) (λ p q. never (sym p ∙ ap established q)) (in_established x.state) (λ f q. f q))
    (goes refl (some 6 refl) (below payload_limit n)
    (goes refl (some 7 refl) (equal x.s x.h)
    (goes refl (some 9 refl) (below room (header_length + n)) ends))))

pub send_exact : {e : End} {sid : ℕ} {payload lent exit : List ℕ} {r : SendAnswer} → SendPromise e sid payload lent r exit
    → Exactly r.number (send_whens e sid (length payload) (length lent))
unfolding send_of send_number
send_exact {e} {sid} {payload} {lent} p =
    exactly (send_match e sid (length payload) (length lent)) (ap (λ (r : SendAnswer). r.number) p.answer ∙ told (λ (r : SendAnswer). r.number) _ _ _ refl refl)

-- 9 in read: one of three buffers is too short
short_read : {n : ℕ} (e : End) (x : Session) (room ack storage : ℕ)
    → Is (ltb room (oldest_length x) || (due x && ltb ack header_length || short_storage base e storage))
    (when n ((room < oldest_length x) ⊎ ((Due x × (ack < header_length)) ⊎ Short e storage))
    ((oldest_length x ≤ room) × (Due x → header_length ≤ ack) × Enough e storage))
short_read e x room ack storage = is _ one (λ p. let a = or_split (ltb room (oldest_length x)) _ p in let b =
    or_split (due x && ltb ack header_length) _ a.1 in
    (ltb-false _ _ a.0, (λ q. ltb-false _ _ (rw ((noticed x).back q) at b.0)), ltb-false _ _ b.1)) apart
  where
    two : (s : Bool) → (due x && ltb ack header_length) ≡ s → s || short_storage base e storage ≡ true → (Due x × (ack < header_length)) ⊎ Short e storage
    two true q p = let t = and_split (due x) (ltb ack header_length) q in inl ((noticed x).to t.0, ltb-true _ _ t.1)
    two false q p = inr (ltb-true _ _ p)

    by : (s : Bool) → ltb room (oldest_length x) ≡ s → s || (due x && ltb ack header_length || short_storage base e storage) ≡ true
        → (room < oldest_length x) ⊎ ((Due x × (ack < header_length)) ⊎ Short e storage)
    by true q p = inl (ltb-true _ _ q)
    by false q p = inr (two _ refl p)

    one : ltb room (oldest_length x) || (due x && ltb ack header_length || short_storage base e storage) ≡ true
        → (room < oldest_length x) ⊎ ((Due x × (ack < header_length)) ⊎ Short e storage)
    one p = by _ refl p

    apart : (room < oldest_length x) ⊎ ((Due x × (ack < header_length)) ⊎ Short e storage)
        → (oldest_length x ≤ room) × (Due x → header_length ≤ ack) × Enough e storage → ⊥
    apart (inl a) f = omega (arith, a, f.0)
    apart (inr (inl a)) f = omega (arith, a.1, f.1 a.0)
    apart (inr (inr a)) f = omega (arith, a, f.2)

read_match : (e : End) (sid room ack storage : ℕ)
    → Match (calling base e sid ++ read_cases (session_of sid e.slots) room ack (short_storage base e storage)) (read_whens e sid room ack storage)
read_match e sid room ack storage =
    let x = session_of sid e.slots in
    before_call e sid
    (goes refl (some 5 refl) (state_is fin_sent FinSent refl in_fin_sent x.state)
    (goes refl (some 8 refl) (state_and established Established refl in_established x.state (unread x))
    (goes refl (some 11 refl) (state_and fin_received FinReceived refl in_fin_received x.state (unread x))
    (goes refl (some 9 refl) (short_read e x room ack storage) ends))))

pub read_exact : {e : End} {sid : ℕ} {storage lent lentAck exit exitAck : List ℕ} {r : ReadAnswer} → ReadPromise e sid storage lent lentAck r exit exitAck
    → Exactly r.number (read_whens e sid (length lent) (length lentAck) (length storage))
unfolding read_of read_number
read_exact {e} {sid} {storage} {lent} {lentAck} p =
    exactly (read_match e sid (length lent) (length lentAck) (length storage))
    (ap (λ (r : ReadAnswer). r.number) p.answer ∙ told (λ (r : ReadAnswer). r.number) _ _ _ refl refl)

close_match : (e : End) (sid room : ℕ) → Match (calling base e sid ++ close_cases (session_of sid e.slots) room) (close_whens e sid room)
close_match e sid room =
    before_call e sid
    (goes refl (some 5 refl) (state_is fin_sent FinSent refl in_fin_sent (session_of sid e.slots).state)
    (goes refl (some 9 refl) (below room header_length) ends))

pub close_exact : {e : End} {sid : ℕ} {lent exit : List ℕ} {r : ClosedAnswer} → ClosePromise e sid lent r exit
    → Exactly r.number (close_whens e sid (length lent))
unfolding close_of close_number
close_exact {e} {sid} {lent} p =
    exactly (close_match e sid (length lent)) (ap (λ (r : ClosedAnswer). r.number) p.answer ∙ told (λ (r : ClosedAnswer). r.number) _ _ _ refl refl)

shutdown_match : (e : End) → Match (shutdown_cases (well_made base e) e.up) (shutdown_whens e)
shutdown_match e = goes refl (some 12 refl) (well e) (goes refl (some 1 refl) (plainly e.up) ends)

pub shutdown_exact : {e : End} {r : ShutdownAnswer} → ShutdownPromise e r → Exactly r.number (shutdown_whens e)
unfolding shutdown_of shutdown_number
shutdown_exact {e} p = exactly (shutdown_match e) (ap (λ (r : ShutdownAnswer). r.number) p.answer ∙ told (λ (r : ShutdownAnswer). r.number) _ _ _ refl refl)

-- ---- take

fresh_syn : {n : ℕ} (q w : ℕ) → Is (not (eqb q 0 && grant_in_range highest w)) (when n ((q ≡ 0) × MayGrant w → ⊥) ((q ≡ 0) × MayGrant w))
fresh_syn q w =
    isnt (eqb q 0 && grant_in_range highest w)
    (λ p a. never (sym p ∙ and_both (eqb q 0) (grant_in_range highest w) (eq-eqb _ _ a.0) ((granted w).back a.1)))
    (λ p. let t = and_split (eqb q 0) (grant_in_range highest w) p in (eqb-true _ _ t.0, (granted w).to t.1))
    (λ f a. f a)

syn_match : (e : End) (h : Header) → Match (syn_cases base e.role (holds h.sid e.slots) (full e.slots) h) (syn_whens e h)
syn_match e h =
    goes refl (some 24 refl) (client e.role)
    (goes refl (some 25 refl) (told_is (held h.sid e))
    (goes refl (some 26 refl) (told_is (fully e))
    (goes refl (some 27 refl) (fresh_syn h.seqnum h.wndw) ends)))

other_match : (k : Kind) (e : End) (h : Header) (x : Session) → Match (other_cases base k (holds h.sid e.slots) x h) (other_whens k e h x)
other_match k e h x =
    goes refl (some 23 refl) (told_not (held h.sid e))
    (goes refl (some 30 refl) (state_is fin_received FinReceived refl in_fin_received x.state)
    (goes refl (some 28 refl) (told_not (windowed x h.wndw))
    (goes refl (some 29 refl) (told_not (sequenced x k h.seqnum)) ends)))

kind_match : (f : Option Kind) (e : End) (h : Header)
    → Match (kind_cases base f e.role (holds h.sid e.slots) (full e.slots) (session_of h.sid e.slots) h) (kind_whens f e h)
kind_match (Some Syn) e h = syn_match e h
kind_match (Some Ack) e h = other_match Ack e h (session_of h.sid e.slots)
kind_match (Some Fin) e h = other_match Fin e h (session_of h.sid e.slots)
kind_match (Some Data) e h = other_match Data e h (session_of h.sid e.slots)
kind_match None e h = ends

named : {n : ℕ} (f : ℕ) → Is (not (is_kind (flags_of f))) (when n ((k : Kind) → f ≡ flags_value k → ⊥) ((k : Kind) × (f ≡ flags_value k)))
named f = by (flags_of f) refl
  where
    by : {n : ℕ} (g : Option Kind) → flags_of f ≡ g → Is (not (is_kind g)) (when n ((k : Kind) → f ≡ flags_value k → ⊥) ((k : Kind) × (f ≡ flags_value k)))
    by (Some k) e = is false (λ p. never p) (λ _. (k, value_of_flags f k e)) (λ none s. none s.0 s.1)
    by None e = is true (λ _ k p. let q : flags_of f ≡ Some k = flags_named f k p in let z : ◌≡◌ {A = ℕ} 0 1 = cc in omega arith) (λ p. never (sym p))
        (λ none s. none s.0 s.1)

packet_match : (e : End) (h : Header) (given : ℕ)
    → Match (packet_cases base e.role (holds h.sid e.slots) (full e.slots) (session_of h.sid e.slots) h given) (packet_whens e h given)
packet_match e h given =
    goes refl (some 20 refl) (isnt (eqb h.smid smid_value) (eqb-false _ _) (eqb-true _ _) (λ f q. f q))
    (goes refl (some 21 refl) (named h.flags)
    (goes refl (some 22 refl) (told_not (sized h.flags h.length))
    (goes refl (some 10 refl) (below given h.length) (kind_match (flags_of h.flags) e h))))

take_match : (e : End) (bytes : List ℕ) (storage : ℕ)
    → Match (take_cases (well_made base e) e.up (short_storage base e storage) (length bytes)
    ++ packet_cases base e.role (holds (read_header bytes).sid e.slots) (full e.slots) (session_of (read_header bytes).sid e.slots) (read_header bytes)
    (length bytes))
    (take_whens e bytes storage)
take_match e bytes storage =
    goes refl (some 12 refl) (well e)
    (goes refl (some 1 refl) (plainly e.up)
    (goes refl (some 9 refl) (below storage _)
    (goes refl (some 10 refl) (below (length bytes) header_length) (packet_match e (read_header bytes) (length bytes)))))

pub take_exact : {e : End} {bytes lent exit : List ℕ} {r : TakeAnswer} → TakePromise e bytes lent r exit → Exactly r.number (take_whens e bytes (length lent))
unfolding take_of take_number
take_exact {e} {bytes} {lent} p =
    exactly (take_match e bytes (length lent)) (ap (λ (r : TakeAnswer). r.number) p.answer ∙ take_told _ bytes e)
