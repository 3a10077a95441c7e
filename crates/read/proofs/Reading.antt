-- Read: from what the code found to its promise.
use Prim.Native.Nat.{ℕ, ◌<◌, ◌≤◌}
use mathlib.Core.Path.{◌≡◌, refl, sym, ap, ◌∙◌, subst}
use mathlib.Core.Bool.{Bool, true, false, not, ◌&&◌}
use mathlib.Core.List.{List, []}
use lib.ListN.{length, take, drop}
use lib.Dec.{ltb}
use borrow.Author.Tests.{ltb-false, not-true, not-false}
use Rattle.std.specs.Prelude.{Result, Ok, Err, IsErr}
use Rattle.cases.specs.declared.refusal.Refusal.{Refusal}
use Rattle.cases.specs.Cases.{first, refusal_number, number_in}
use Rattle.cases.proofs.First.{numbered}
use Rattle.cases.proofs.Tests.{never}
use Rattle.cases.proofs.Refused.{positive, stops, passes}
use Rattle.wire.specs.declared.header.Header.{Header}
use Rattle.wire.specs.Packet.{header_length, header_bytes}
use Rattle.buffer.specs.Onto.{onto}
use Rattle.session.specs.declared.record.Session.{Session}
use Rattle.session.specs.Record.{payload_limit, oldest}
use Rattle.session.specs.Notice.{due}
use Rattle.session.specs.Changes.{read_on}
use Rattle.table.specs.declared.end.End.{End}
use Rattle.table.specs.Slots.{session_of, slot_of}
use Rattle.table.specs.Storage.{storage_length, place_start}
use Rattle.table.specs.End.{slot_count, put_of, changed_of}
use Rattle.table.specs.Limits.{base}
use Rattle.table.proofs.Slots.{within}
use Rattle.scan.specs.declared.Found.{Found}
use Rattle.calling.specs.Calling.{calling, short_storage, IsThat}
use Rattle.calling.proofs.Looked.{put_back}
use Rattle.calling.proofs.Told.{refused, untouched, answered, filled}
use Rattle.read.specs.declared.Got.{Got}
use Rattle.read.specs.Read.{oldest_length, read_cases, read_number, ack_header, ack_on, oldest_in, read_done, read_refused, read_of, read_payload}
use Rattle.read.specs.Read.{read_ack, read_says, ReadPromise}
use Rattle.read.proofs.ReadZero.{zero_limit, zero_room}

-- ---- the ACK

pub ack_none : (x : Session) (a : List ℕ) → not (due x) ≡ true → (0 ≡ length (ack_on x)) × (a ≡ onto (ack_on x) a)
ack_none x a p =
    let e : ack_on x ≡ [] = rw (not-true (due x) p) in
    (ap length (sym e), ap (λ (o : List ℕ). onto o a) (sym e))

pub ack_some : (x : Session) (a : List ℕ) {h : Header} {a' : List ℕ} → not (due x) ≡ false → h ≡ ack_header x → a' ≡ onto (header_bytes h) a
    → (header_length ≡ length (ack_on x)) × (a' ≡ onto (ack_on x) a)
unfolding header_bytes Rattle.wire.specs.Packet.bytes
ack_some x a p ph pa =
    let e : ack_on x ≡ header_bytes (ack_header x) = rw (not-false (due x) p) in
    (ap length (sym e), pa ∙ ap (λ (g : Header). onto (header_bytes g) a) ph ∙ ap (λ (o : List ℕ). onto o a) (sym e))

pub ack_room : (x : Session) (a : List ℕ) → due x && ltb (length a) header_length ≡ false → not (due x) ≡ false
    → header_length ≤ length a
ack_room x a p q = ltb-false _ _ (rw (not-false (due x) q) at p)

pub record Fits (slot : ℕ) (x : Session) (st b a : List ℕ) : Type 0 where
  pub within : slot < slot_count
  pub short : oldest_length x ≤ payload_limit
  pub room : oldest_length x ≤ length b
  pub ack : due x && ltb (length a) header_length ≡ false
  pub storage : storage_length payload_limit slot_count ≤ length st

-- for the storage st, the payload buffer b and the ACK buffer a
module _ (e : End) (sid : ℕ) (st b a : List ℕ) where
  refusal : (r : Refusal) → refusal_number r ≡ read_number base e sid (length b) (length a) (length st) → ReadPromise e sid st b a (read_says (Err r) e) b a
  unfolding read_of read_payload read_ack
  refusal r q = record { answer = refused r q _ (λ (k : ℕ). read_refused k e); payload = untouched r q _ b; ack = untouched r q _ a }

  -- the session isn't found
  pub unfound : (s : Result Got Refusal) → IsErr s → number_in s ≡ first (calling base e sid) → ReadPromise e sid st b a (read_says s e) b a
  unfolding read_number numbered
  unfound (Ok g) i q = never i
  unfound (Err r) i q =
      refusal r (stops (calling base e sid) (read_cases (session_of sid e.slots) (length b) (length a) (short_storage base e (length st))) refl (positive r) q)

  module _ (sixteen : length e.slots ≡ slot_count) {short : Bool} (is_short : short ≡ short_storage base e (length st)) {f : Found} (that : IsThat f e sid)
      (zero : 0 ≡ first (calling base e sid)) where
    number_is : {n : ℕ} → n ≡ first (read_cases f.session (length b) (length a) short)
        → n ≡ read_number base e sid (length b) (length a) (length st)
    unfolding read_number numbered
    number_is q =
        passes (calling base e sid) (read_cases (session_of sid e.slots) (length b) (length a) (short_storage base e (length st))) refl zero
        (q
        ∙ ap (λ (x : Session). first (read_cases x (length b) (length a) short)) that.session
        ∙ ap (λ (t : Bool). first (read_cases (session_of sid e.slots) (length b) (length a) t)) is_short)

    -- it is found, and refuses
    pub unread_lem : (s : Result Got Refusal) → IsErr s → number_in s ≡ first (read_cases f.session (length b) (length a) short)
        → ReadPromise e sid st b a (read_says s e) b a
    unread_lem (Ok g) i q = never i
    unread_lem (Err r) i q = refusal r (number_is q)

    module _ (z : 0 ≡ first (read_cases f.session (length b) (length a) short)) where
      none : read_number base e sid (length b) (length a) (length st) ≡ 0
      none = sym (number_is z)

      pub fits : Fits f.slot f.session st b a
      fits =
          let x : session_of sid e.slots ≡ f.session = sym that.session in
          let nine = zero_room base e sid (length b) (length a) (length st) none in
          let i : slot_of sid e.slots < slot_count = subst (λ (k : ℕ). slot_of sid e.slots < k) sixteen (within sid e.slots that.held) in
          record {
            within = subst (λ (k : ℕ). k < slot_count) (sym that.slot) i;
            short = subst (λ (y : Session). oldest_length y ≤ payload_limit) x (zero_limit base e sid (length b) (length a) (length st) none);
            room = subst (λ (y : Session). oldest_length y ≤ length b) x nine.0;
            ack = subst (λ (y : Session). due y && ltb (length a) header_length ≡ false) x nine.1;
            storage = subst (λ (k : ℕ). storage_length payload_limit k ≤ length st) sixteen nine.2;
          }

      pub read_lem : {n k m : ℕ} {y : Session} {d : End} {b' a' : List ℕ} → n ≡ oldest_length f.session → k ≡ oldest f.session
          → b' ≡ onto (take n (drop (place_start payload_limit f.slot k) st)) b → m ≡ length (ack_on f.session) → a' ≡ onto (ack_on f.session) a
          → y ≡ read_on f.session → d ≡ put_of f.slot y e → ReadPromise e sid st b a (read_done n m d) b' a'
      unfolding read_of read_payload read_ack
      read_lem {n} {k} {m} {y} {d} {b'} {a'} pn pk pb pm pa py pd = record {
        answer =
            ap (read_done n m) (pd ∙ ap (λ (x : Session). put_of f.slot x e) py ∙ put_back that read_on)
            ∙ ap (λ (i : ℕ). read_done i m (changed_of sid read_on e)) pn
            ∙ ap (λ (i : ℕ). read_done (oldest_length f.session) i (changed_of sid read_on e)) pm
            ∙ ap (λ (x : Session). read_done (oldest_length x) (length (ack_on x)) (changed_of sid read_on e)) that.session
            ∙ answered (number_is z) _ _;
        payload =
            pb
            ∙ ap (λ (i : ℕ). onto (take i (drop (place_start payload_limit f.slot k) st)) b) pn
            ∙ ap (λ (i : ℕ). onto (take (oldest_length f.session) (drop (place_start payload_limit f.slot i) st)) b) pk
            ∙ ap (λ (i : ℕ). onto (oldest_in base i f.session st) b) that.slot
            ∙ ap (λ (x : Session). onto (oldest_in base (slot_of sid e.slots) x st) b) that.session
            ∙ filled (number_is z) _ b;
        ack = pa ∙ ap (λ (x : Session). onto (ack_on x) a) that.session ∙ filled (number_is z) _ a;
      }
