-- A lane's packet as the bytes that stand for it in a channel, under a SID; and a SYN. Each is one packet, as take reads it back.
use Rattle.std.specs.Prelude.{Some}
use Prim.Native.Nat.{ℕ, ◌+◌, ◌%◌, ◌^◌, ◌≤◌, ◌<◌}
use native.Mathlib.Omega.{arith}
use mathlib.Core.Path.{◌≡◌, refl, sym}
use mathlib.Core.Bool.{true, false}
use mathlib.Core.List.{List, [], append-nil}
use mathlib.Core.Option.{Option, none, some}
use lib.ListN.{length}
use lib.Dec.{leb, eqb}
use borrow.Author.Tests.{le-leb}
use Rattle.cases.proofs.Tests.{and_both}
use Rattle.wire.specs.declared.header.Header.{Header}
use Rattle.wire.specs.declared.kind.Kind.{Kind}
use Rattle.wire.specs.declared.kind.Kind.TheVariants.{Syn, Ack, Fin, Data}
use Rattle.wire.specs.Packet.{header_length, header_of, header_bytes, packet_bytes, length_fits, flags_value}
use Rattle.wire.proofs.Headers.{header_length_lem, packet_length_lem}
use Rattle.wire.proofs.Whole.{Whole, header_whole}
use Rattle.open.specs.Open.{syn_header}
use Rattle.pair.proofs.Lane.Half.{Bytes, Packet, dat, ack, fin, seqnum_of, wndw_of}

abbrev pub kind_of : Packet → Kind
kind_of (dat q v p) = Data
kind_of (ack q v) = Ack
kind_of (fin q v) = Fin

abbrev pub payload_of : Packet → Bytes
payload_of (dat q v p) = p
payload_of (ack q v) = []
payload_of (fin q v) = []

abbrev pub header_for : ℕ → Packet → Header
header_for sid p = header_of (kind_of p) sid (header_length + length (payload_of p)) (seqnum_of p % 2 ^ 32) (wndw_of p % 2 ^ 32)

abbrev pub packet_for : ℕ → Packet → List ℕ
packet_for sid p = packet_bytes (header_for sid p) (payload_of p)

abbrev pub syn_for : ℕ → List ℕ
syn_for sid = header_bytes (syn_header sid)

-- the bytes of what a half emits, under a SID, and of what it hands over
abbrev pub emitted : ℕ → Option Packet → List ℕ
emitted sid none = []
emitted sid (some p) = packet_for sid p

abbrev pub handed : Option Bytes → List ℕ
handed none = []
handed (some p) = p

-- ---- their lengths

pub packet_size : (sid : ℕ) (p : Packet) → length (packet_for sid p) ≡ header_length + length (payload_of p)
packet_size sid p = packet_length_lem (header_for sid p) (payload_of p)

pub syn_size : (sid : ℕ) → length (syn_for sid) ≡ header_length
syn_size sid = header_length_lem (syn_header sid)

-- a lane's packet is no SYN
pub not_syn : (p : Packet) → eqb (flags_value (kind_of p)) (flags_value Syn) ≡ false
not_syn (dat q v b) = refl
not_syn (ack q v) = refl
not_syn (fin q v) = refl

-- a SYN's bytes, as a packet without payload
pub syn_bytes : (sid : ℕ) → syn_for sid ≡ packet_bytes (syn_header sid) []
syn_bytes sid = sym (append-nil (syn_for sid))

-- ---- each is one packet, as take reads it back

module _ (place : ℕ) (small : header_length + place < 2 ^ 32) (sid : ℕ) (low : sid < 2 ^ 16) where
  pub packet_whole : (p : Packet) → length (payload_of p) ≤ place → Whole place (header_for sid p) (kind_of p) (payload_of p)
  packet_whole p l =
      header_whole place small (kind_of p) sid (payload_of p) (seqnum_of p % 2 ^ 32) (wndw_of p % 2 ^ 32) low l (omega arith) (omega arith) (fits p l)
    where
      fits : (p : Packet) → length (payload_of p) ≤ place → length_fits place (Some (kind_of p)) (header_length + length (payload_of p)) ≡ true
      fits (dat q v b) l =
          and_both (leb 16 (16 + length b)) (leb (16 + length b) (16 + place)) (le-leb 16 (16 + length b) (omega arith))
          (le-leb (16 + length b) (16 + place) (omega arith))
      fits (ack q v) l = refl
      fits (fin q v) l = refl

  pub syn_whole : Whole place (syn_header sid) Syn []
  syn_whole = header_whole place small Syn sid [] 0 (syn_header sid).wndw low (omega arith) (omega arith) (omega arith) refl
