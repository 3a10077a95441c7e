-- A step of the pair: one side makes one call. "What a call emits goes whole to the tail of that direction's channel. Take is given some
-- front part of what the channel holds, and the bytes it used leave" (document 01). Each call is the definition that its contract cites.
use Rattle.std.specs.Prelude.{ℕ, Bool, true, false, List, [], ◌++◌, length, take, drop}
use Rattle.std.proofs.Math.Option.{Option, none, some}
use Rattle.table.specs.declared.end.End.{End}
use Rattle.table.specs.Limits.{Limits}
use Rattle.open.specs.Open.{open_of, open_packet}
use Rattle.send.specs.Send.{send_of, send_packet}
use Rattle.read.specs.Read.{read_of, read_payload, read_ack}
use Rattle.close.specs.Close.{close_of, close_packet}
use Rattle.take.specs.Take.{take_of, take_storage}
use Rattle.pair.specs.Side.{Side, other}
use Rattle.pair.specs.World.{Party, World, with}

-- Every call but start and shutdown, at either side, with any arguments. A room is the length of a lent buffer. Read and take are lent some
-- front part of the storage, and take is given some front part of the bytes on their way.
pub data Call : Type 0 where
  -- room
  Open : ℕ → Call
  -- SID, payload, room
  Send : ℕ → List ℕ → ℕ → Call
  -- SID, room, room for the ACK, bytes of the storage
  Read : ℕ → ℕ → ℕ → ℕ → Call
  -- SID, room
  Close : ℕ → ℕ → Call
  -- bytes given, bytes of the storage
  Take : ℕ → ℕ → Call

-- what a call is to Whose and Claims: they read off it all that they ask of a call
pub record Shape : Type 0 where
  -- the SID that it names
  pub names : Option ℕ
  -- the payload that it offers
  pub offers : Option (List ℕ)
  -- it begins a session, hands over a payload, ends what its side writes, takes a packet
  pub opens : Bool
  pub reads : Bool
  pub closes : Bool
  pub takes : Bool

abbrev pub shape : Call → Shape
shape (Open room) = record { names = none; offers = none; opens = true; reads = false; closes = false; takes = false }
shape (Send sid payload room) = record { names = some sid; offers = some payload; opens = false; reads = false; closes = false; takes = false }
shape (Read sid room ack lent) = record { names = some sid; offers = none; opens = false; reads = true; closes = false; takes = false }
shape (Close sid room) = record { names = some sid; offers = none; opens = false; reads = false; closes = true; takes = false }
shape (Take given lent) = record { names = none; offers = none; opens = false; reads = false; closes = false; takes = true }

pub record Step : Type 0 where
  pub side : Side
  pub call : Call

-- all that the caller sees: the answer's fields, the payload and the packet (or ACK) that he finds in his buffers
pub record Reply : Type 0 where
  pub number : ℕ
  pub sid : ℕ
  pub used : ℕ
  pub kind : ℕ
  pub missing : ℕ
  pub payload_length : ℕ
  pub payload : List ℕ
  pub packet_length : ℕ
  pub packet : List ℕ

-- the reply to a call that may emit a packet: number, SID, length, packet
abbrev pub emitting : ℕ → ℕ → ℕ → List ℕ → Reply
emitting number sid length packet = record {
  number = number;
  sid = sid;
  used = 0;
  kind = 0;
  missing = 0;
  payload_length = 0;
  payload = [];
  packet_length = length;
  packet = packet;
}

-- the reply to a read: number, length, payload, length, ACK
abbrev pub reading : ℕ → ℕ → List ℕ → ℕ → List ℕ → Reply
reading number payload_length payload ackLength ack = record {
  number = number;
  sid = 0;
  used = 0;
  kind = 0;
  missing = 0;
  payload_length = payload_length;
  payload = payload;
  packet_length = ackLength;
  packet = ack;
}

-- the reply to a take: number, used, kind, SID, missing
abbrev pub taking : ℕ → ℕ → ℕ → ℕ → ℕ → Reply
taking number used kind sid missing = record {
  number = number;
  sid = sid;
  used = used;
  kind = kind;
  missing = missing;
  payload_length = 0;
  payload = [];
  packet_length = 0;
  packet = [];
}

-- what a call does at its side
pub record Done : Type 0 where
  pub reply : Reply
  pub end : End
  pub storage : List ℕ

abbrev pub did : Limits → Call → Party → Done
did lim (Open room) p =
    let r = open_of lim p.end room in record {
      reply = emitting r.number r.sid r.length (open_packet lim p.end room);
      end = r.end;
      storage = p.storage;
    }
did lim (Send sid payload room) p =
    let r = send_of lim p.end sid payload room in record {
      reply = emitting r.number 0 r.length (send_packet lim p.end sid payload room);
      end = r.end;
      storage = p.storage;
    }
did lim (Read sid room ack lent) p =
    let r = read_of lim p.end sid room ack (length (take lent p.storage)) in record {
      reply = reading r.number r.payload_length (read_payload lim p.end sid room ack (take lent p.storage))
          r.ack_length (read_ack lim p.end sid room ack (length (take lent p.storage)));
      end = r.end;
      storage = p.storage;
    }
did lim (Close sid room) p =
    let r = close_of lim p.end sid room in record {
      reply = emitting r.number 0 r.length (close_packet lim p.end sid room);
      end = r.end;
      storage = p.storage;
    }
did lim (Take given lent) p =
    let r = take_of lim p.end (take given p.coming) (length (take lent p.storage)) in record {
      reply = taking r.number r.used r.kind r.sid r.missing;
      end = r.end;
      storage = take_storage lim p.end (take given p.coming) (take lent p.storage) ++ drop lent p.storage;
    }

abbrev pub reply_to : Limits → Step → World → Reply
reply_to lim s w = (did lim s.call (w s.side)).reply

-- the bytes that take used leave
abbrev pub acted : Done → Party → Party
acted d p = record { end = d.end; storage = d.storage; coming = drop d.reply.used p.coming }

-- what the other side emitted goes whole to the tail
abbrev pub reached : List ℕ → Party → Party
reached packet p = record { end = p.end; storage = p.storage; coming = p.coming ++ packet }

abbrev pub next : Limits → Step → World → World
next lim s w =
    let d = did lim s.call (w s.side) in
    with s.side (acted d (w s.side)) (with (other s.side) (reached d.reply.packet (w (other s.side))) w)
