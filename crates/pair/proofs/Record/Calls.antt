-- Send, close and read on a record are send, close and read on the half that it stands for: the same number, and what becomes of the record, the
-- packet and the payload are the half's. The payload that is read is the oldest unread one.
use Prim.Native.Nat.{ℕ, suc, ◌+◌, ◌-◌, ◌%◌, ◌^◌, ◌≤◌, ◌<◌}
use native.Mathlib.Omega.{arith}
use native.Mathlib.Decide.{dec_lt}
use mathlib.Core.Path.{◌≡◌, refl, sym, ap, ◌∙◌, subst}
use mathlib.Core.Bool.{true, not, Bool, false, ◌&&◌, ◌||◌, or_comm, or_assoc}
use mathlib.Core.List.{List, [], ◌∷◌, append-nil, ◌++◌}
use lib.ListN.{length, length-append, get_or, take, drop}
use lib.Dec.{ltb, leb, eqb}
use borrow.Author.Tests.{eq-eqb, ne_eqb, le-leb, lt-leb}
use Rattle.cases.specs.Cases.{if}
use Rattle.cases.proofs.Tests.{never}
use Rattle.wire.specs.declared.header.Header.{Header}
use Rattle.wire.specs.declared.kind.Kind.{Kind}
use Rattle.wire.specs.declared.kind.Kind.TheVariants.{Data, Fin, Ack}
use Rattle.wire.specs.Packet.{header_length, packet_bytes, header_bytes, header_of}
use Rattle.session.specs.declared.record.State.{State}
use Rattle.session.specs.declared.record.State.TheVariants.{Established}
use Rattle.session.specs.declared.record.Session.{Session}
use Rattle.session.specs.Counter.{plus, minus}
use Rattle.session.specs.Record.{in_use, established, fin_sent, fin_received, unread, oldest, place}
use Rattle.session.specs.Notice.{new_g}
use Rattle.session.specs.Notice as notice
use Rattle.session.specs.Changes.{sent_on, closed_in, closed_on, read_on}
use Rattle.session.proofs.Wrap.{minus_counts, plus_counts, same_counts, place_counts, back_counts}
use Rattle.table.specs.Storage.{place_start}
use Rattle.table.specs.Limits.{Limits}
use Rattle.send.specs.Send.{send_cases, data_header}
use Rattle.read.specs.Read.{oldest_length, read_cases, ack_header, ack_on, oldest_in}
use Rattle.close.specs.Close.{close_cases, fin_header}
use Rattle.pair.proofs.Lane.Half.{Bytes, St, est, fs, fr, gone, Body, s_of, g_of, r_of, dat, Out, Room, goes, shut, tight, send, fin, ending, close, ack}
use Rattle.pair.proofs.Lane.Half.{said, later, due, cramped, noticed, quiet, read_one, read_last, read_e, read_r, read}
use Rattle.pair.proofs.Lane.Outcomes.{one_all}
use Rattle.pair.proofs.Lane.Inv.{Ranges}
use Rattle.pair.proofs.Lane.Tables.{T_true, T_not}
use Rattle.pair.proofs.Bytes.Encoded.{packet_for, header_for, handed}
use Rattle.pair.proofs.Record.Stands.{state_of, Stands, s_is, h_is, r_is, g_is, l_is, s_becomes, r_becomes, g_becomes, l_becomes, unread_counts, Lies}
use Rattle.pair.proofs.Record.Stands.{lies_place}
use Rattle.pair.proofs.Record.Does.{stands, Done, Does, does_skip, does_stop, does_test, does_done, freed}

-- the headers of two packets of one kind and length
header_counts : (k : Kind) (n : ℕ) {sid sid' q q' w w' : ℕ} → sid ≡ sid' → q ≡ q' → w ≡ w' → header_of k sid n q w ≡ header_of k sid' n q' w'
header_counts k n a b c = cc

-- ---- send

module _ {lim : Limits} {i : ℕ} {storage : List ℕ} {x : Session} {sid : ℕ} {B : Body} where
  -- the next SEQNUM
  next : {st : St} → Stands lim i storage x sid st B → plus x.s 1 ≡ suc (s_of B) % 2 ^ 32
  next a = rw (s_is a) (plus_counts (s_of B) 1 ∙ ap (λ (n : ℕ). n % 2 ^ 32) (omega arith))

  sent_stands : Stands lim i storage x sid est B → (p : Bytes) → Stands lim i storage (sent_on x) sid est (goes B p).body
  sent_stands a p = record {
    sid = a.sid;
    state = a.state;
    counts = l_becomes (g_is a) (s_becomes (next a ∙ ap (λ (n : ℕ). n % 2 ^ 32) (omega (arith, length-append B.sent (p ∷ [])))) a.counts);
    lengths = a.lengths;
    ring = a.ring;
  }

  sent_packet : Stands lim i storage x sid est B → (p : Bytes) → packet_bytes (data_header x (length p)) p ≡ packet_for sid (dat (suc (s_of B)) (g_of B) p)
  sent_packet a p = ap (λ (h : Header). packet_bytes h p) (header_counts Data (header_length + length p) a.sid (next a) (g_is a))

  pub send_does : (s : St) → Stands lim i storage x sid s B → Ranges B → in_use (state_of s) ≡ true → (p : Bytes) (R : Room)
      → R.big ≡ ltb lim.place (length p)
      → Does (Done lim i storage (sent_on x) sid (packet_bytes (data_header x (length p)) p) []) s B
      (send_cases lim x (length p) R.buf) (send p R s B)
  send_does est a b u p R big =
      does_skip (ap (λ (st : State). not (established st)) a.state)
      (does_test R.big _ (sym big) (omega arith)
      (does_test (shut B) _ (rw (s_is a, h_is a) (same_counts (s_of B) B.high b.fit b.high)) (omega arith)
      (does_test (tight R p) _ refl (omega arith)
      (does_done (goes B p) refl (record { after = stands refl (sent_stands a p); packet = sent_packet a p; payload = refl })))))
  send_does fs a b u p R big = does_stop (ap (λ (st : State). not (established st)) a.state) (omega arith)
  send_does fr a b u p R big = does_stop (ap (λ (st : State). not (established st)) a.state) (omega arith)
  send_does gone a b u p R big = never u

-- ---- close

module _ {lim : Limits} {i : ℕ} {storage : List ℕ} {x : Session} {sid : ℕ} {B : Body} where
  closed_stands : Stands lim i storage x sid est B → Stands lim i storage (closed_in Established x) sid fs (said B)
  closed_stands a = record { sid = a.sid; state = refl; counts = l_becomes (g_is a) a.counts; lengths = a.lengths; ring = a.ring }

  closed_packet : {s : St} → Stands lim i storage x sid s B → header_bytes (fin_header x) ≡ packet_for sid (fin (s_of B) (g_of B))
  closed_packet a = ap header_bytes (header_counts Fin header_length a.sid (s_is a) (g_is a))
      ∙ sym (append-nil (header_bytes (header_for sid (fin (s_of B) (g_of B)))))

  pub close_does : (s : St) → Stands lim i storage x sid s B → in_use (state_of s) ≡ true → (R : Room)
      → Does (Done lim i storage (closed_on x) sid (header_bytes (fin_header x)) []) s B (close_cases x R.buf) (close R s B)
  close_does est a u R =
      does_skip (ap fin_sent a.state)
      (does_test (ltb R.buf 16) _ refl (omega arith)
      (does_done (ending fs B) refl (record { after = stands refl (rw closes (closed_stands a)); packet = closed_packet a; payload = refl })))
    where
      closes : closed_on x ≡ closed_in Established x
      closes = ap (λ (st : State). closed_in st x) a.state
  close_does fs a u R = does_stop (ap fin_sent a.state) (omega arith)
  close_does fr a u R =
      does_skip (ap fin_sent a.state)
      (does_test (ltb R.buf 16) _ refl (omega arith)
      (does_done (ending gone B) refl (record {
        after = freed refl (ap (λ (st : State). closed_in st x) a.state);
        packet = closed_packet a;
        payload =
            refl;
      })))
  close_does gone a u R = never u

-- ---- read

-- the record, the ACK and the payload that a read makes are those of the half's step, and the length that it tells is the payload's
pub record Reads (lim : Limits) (i : ℕ) (storage : List ℕ) (x : Session) (sid : ℕ) (o : Out) : Type 0 where
  pub done : Done lim i storage (read_on x) sid (ack_on x) (oldest_in lim i x storage) o
  pub long : oldest_length x ≡ length (handed o.pay)

-- two or more past, by the difference
two_past : (l g : ℕ) → l ≤ g → leb 2 (g - l) ≡ leb (2 + l) g
two_past l g h = by (dec_lt g (2 + l))
  where
    by : Dec (g < 2 + l) → leb 2 (g - l) ≡ leb (2 + l) g
    by (yes k) = lt-leb 2 (g - l) (omega arith) ∙ sym (lt-leb (2 + l) g k)
    by (no k) = le-leb 2 (g - l) (omega arith) ∙ sym (le-leb (2 + l) g (omega arith))

-- the test of 9, in the half's order
in_turn : (a b c : Bool) → a || (b || c) ≡ (a || c) || b
in_turn a b c = ap (λ (d : Bool). a || d) (or_comm b c) ∙ sym (or_assoc a c b)

module _ {lim : Limits} {i : ℕ} {storage : List ℕ} {x : Session} {sid : ℕ} {B : Body} where
  module _ {st : St} (a : Stands lim i storage x sid st B) where
    -- G after the read
    later_g : (p : Bytes) (u : List Bytes) → new_g x ≡ g_of (later B p u) % 2 ^ 32
    later_g p u = rw (g_is a) (plus_counts (g_of B) 1 ∙ ap (λ (n : ℕ). n % 2 ^ 32) (omega (arith, length-append B.got (p ∷ []))))

    -- the place of the oldest
    oldest_place : place (oldest x) ≡ place (length B.got + 1 + 0)
    oldest_place =
        ap (λ (n : ℕ). place (minus n 3)) (g_is a ∙ ap (λ (n : ℕ). n % 2 ^ 32) (omega arith))
        ∙ ap place (back_counts (length B.got + 1 + 0) 3 (omega arith))
        ∙ place_counts (length B.got + 1 + 0)

    -- where p is the oldest unread payload
    module _ (p : Bytes) (u : List Bytes) (e : B.unread ≡ p ∷ u) where
      -- its length stands in the record, its bytes in the storage
      oldest_holds : Lies lim i storage x.lens (oldest x) p
      oldest_holds =
          lies_place (oldest x) (length B.got + 1 + 0) oldest_place
          (subst (λ (q : Bytes). Lies lim i storage x.lens (length B.got + 1 + 0) q) (ap (λ (l : List Bytes). get_or l 0 []) e)
          (a.ring 0 (omega (arith, ap length e))))

      oldest_bytes : oldest_in lim i x storage ≡ p
      oldest_bytes = ap (λ (n : ℕ). take n (drop (place_start lim.place i (oldest x)) storage)) oldest_holds.long ∙ oldest_holds.bytes

      -- n is what L becomes
      read_stands : (n : ℕ) → (read_on x).l ≡ n % 2 ^ 32
          → Stands lim i storage (read_on x) sid st (record { sent = B.sent; got = B.got ++ (p ∷ []); unread = u; high = B.high; last = n })
      read_stands n q = record {
        sid = a.sid;
        state = a.state;
        counts = l_becomes q (g_becomes (later_g p u) (r_becomes same_r a.counts));
        lengths = a.lengths;
        ring = ring;
      }
        where
          same_r : x.r ≡ r_of (later B p u) % 2 ^ 32
          same_r = r_is a ∙ ap (λ (n : ℕ). n % 2 ^ 32) (omega (arith, length-append B.got (p ∷ []), ap length e))

          ring : (j : ℕ) → j < length u → Lies lim i storage x.lens (length (B.got ++ (p ∷ [])) + 1 + j) (get_or u j [])
          ring j h =
              let n : length B.got + 1 + suc j ≡ length (B.got ++ (p ∷ [])) + 1 + j = omega (arith, length-append B.got (p ∷ [])) in
              subst (λ (k : ℕ). Lies lim i storage x.lens k (get_or u j [])) n
              (subst (λ (q : Bytes). Lies lim i storage x.lens (length B.got + 1 + suc j) q) (ap (λ (l : List Bytes). get_or l (suc j) []) e)
              (a.ring (suc j) (omega (arith, ap length e))))

      -- an ACK is due where the half says so
      pub due_is : Ranges B → notice.due x ≡ established (state_of st) && due (later B p u)
      unfolding notice.due
      due_is b =
          let more : g_of (later B p u) ≡ suc (g_of B) = omega (arith, length-append B.got (p ∷ [])) in
          let past : minus (new_g x) x.l ≡ g_of (later B p u) - B.last =
          rw (later_g p u, l_is a) (minus_counts B.last (g_of (later B p u)) (omega (arith, b.said)) (omega (arith, b.near))) in
          ap (λ (t : State). established t && leb 2 (minus (new_g x) x.l)) a.state
          ∙ ap (λ (n : ℕ). established (state_of st) && leb 2 n) past
          ∙ ap (λ (t : Bool). established (state_of st) && t) (two_past B.last (g_of (later B p u)) (omega (arith, b.said)))

      -- 9's test goes by the payload's length, and by whether an ACK is due
      nine : (R : Room) (t : Bool) → notice.due x ≡ t → ltb R.pay (oldest_length x) || (notice.due x && ltb R.buf header_length || R.short)
          ≡ ltb R.pay (length p) || (t && ltb R.buf header_length || R.short)
      nine R t d =
          ap (λ (n : ℕ). ltb R.pay n || (notice.due x && ltb R.buf header_length || R.short)) oldest_holds.long
          ∙ ap (λ (t : Bool). ltb R.pay (length p) || (t && ltb R.buf header_length || R.short)) d

      some_unread : Ranges B → fin_sent (state_of st) ≡ false → in_use (state_of st) ≡ true → eqb (unread x) 0 ≡ false
      some_unread b f v = ne_eqb (unread x) 0 (λ z. omega (arith, unread_counts a b f v, ap length e))

    no_unread : Ranges B → fin_sent (state_of st) ≡ false → in_use (state_of st) ≡ true → B.unread ≡ [] → eqb (unread x) 0 ≡ true
    no_unread b f v e = eq-eqb (unread x) 0 (unread_counts a b f v ∙ ap length e)

    -- the tests of 8 and 11 go by the half's state
    eight : established x.state && eqb (unread x) 0 ≡ established (state_of st) && eqb (unread x) 0
    eight = ap (λ (t : State). established t && eqb (unread x) 0) a.state

    eleven : fin_received x.state && eqb (unread x) 0 ≡ fin_received (state_of st) && eqb (unread x) 0
    eleven = ap (λ (t : State). fin_received t && eqb (unread x) 0) a.state

    -- what is emitted, and what L becomes, go by whether an ACK is due
    emits : (t : Bool) → notice.due x ≡ t → ack_on x ≡ if t (header_bytes (ack_header x)) []
    emits t d = ap (λ (t : Bool). if t (header_bytes (ack_header x)) []) d

    new_l : (t : Bool) → notice.due x ≡ t → (read_on x).l ≡ if (t || fin_received (state_of st)) (new_g x) x.l
    new_l t d =
        ap (λ (t : Bool). if (t || fin_received x.state) (new_g x) x.l) d
        ∙ ap (λ (s : State). if (t || fin_received s) (new_g x) x.l) a.state

  read_est : (R : Room) → Ranges B → Stands lim i storage x sid est B → (l : List Bytes) → B.unread ≡ l
      → Does (Reads lim i storage x sid) est B (read_cases x R.pay R.buf R.short) (read_e l R B)
  read_est R b a [] e = does_skip (ap fin_sent a.state) (does_stop (eight a ∙ no_unread a b refl refl e) (omega arith))
  read_est R b a (p ∷ u) e =
      does_skip (ap fin_sent a.state)
      (does_skip (eight a ∙ some_unread a p u e b refl refl)
      (does_skip (eleven a)
      (does_test (cramped R p || (due (later B p u) && ltb R.buf 16)) (read_one (later B p u) p)
      (nine a p u e R (due (later B p u)) is ∙ in_turn (ltb R.pay (length p)) (due (later B p u) && ltb R.buf 16) R.short) (omega arith)
      (one_all (Does (Reads lim i storage x sid) est B []) B (later B p u) p
      (λ t. does_done (noticed (later B p u) p) refl (record {
        done = record {
          after = stands refl (read_stands a p u e _ (new_l a true (is ∙ T_true _ t) ∙ later_g a p u));
          packet = packet (is ∙ T_true _ t);
          payload = oldest_bytes a p u e;
        };
        long = (oldest_holds a p u e).long;
      }))
      (λ t. does_done (quiet (later B p u) p) refl (record {
        done = record {
          after = stands refl (read_stands a p u e _ (new_l a false (is ∙ T_not _ t) ∙ l_is a));
          packet = emits a false (is ∙ T_not _ t);
          payload = oldest_bytes a p u e;
        };
        long = (oldest_holds a p u e).long;
      }))))))
    where
      is : notice.due x ≡ due (later B p u)
      is = due_is a p u e b

      packet : notice.due x ≡ true → ack_on x ≡ packet_for sid (ack (s_of B) (g_of (later B p u)))
      packet d =
          emits a true d
          ∙ ap header_bytes (header_counts Ack header_length a.sid (s_is a) (later_g a p u))
          ∙ sym (append-nil (header_bytes (header_for sid (ack (s_of B) (g_of (later B p u))))))

  read_fr : (R : Room) → Ranges B → Stands lim i storage x sid fr B → (l : List Bytes) → B.unread ≡ l
      → Does (Reads lim i storage x sid) fr B (read_cases x R.pay R.buf R.short) (read_r l R B)
  read_fr R b a [] e =
      does_skip (ap fin_sent a.state) (does_skip (eight a) (does_stop (eleven a ∙ no_unread a b refl refl e) (omega arith)))
  read_fr R b a (p ∷ u) e =
      does_skip (ap fin_sent a.state)
      (does_skip (eight a)
      (does_skip (eleven a ∙ some_unread a p u e b refl refl)
      (does_test (cramped R p) (read_last (later B p u) p) (nine a p u e R false is) (omega arith)
      (does_done (read_last (later B p u) p) refl (record {
        done = record {
          after = stands refl (read_stands a p u e _ (new_l a false is ∙ later_g a p u));
          packet = emits a false is;
          payload = oldest_bytes a p u e;
        };
        long = (oldest_holds a p u e).long;
      })))))
    where
      is : notice.due x ≡ false
      is = due_is a p u e b

  pub read_does : (s : St) → Stands lim i storage x sid s B → Ranges B → in_use (state_of s) ≡ true → (R : Room)
      → Does (Reads lim i storage x sid) s B (read_cases x R.pay R.buf R.short) (read R s B)
  read_does est a b u R = read_est R b a B.unread refl
  read_does fr a b u R = read_fr R b a B.unread refl
  read_does fs a b u R = does_stop (ap fin_sent a.state) (omega arith)
  read_does gone a b u R = never u
