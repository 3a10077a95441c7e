-- What the caller of a call has in hand when it returns: the fields of the answer, and at the front of his buffers as many bytes as the answer
-- says. A step of the pair (Step) makes just this of the call's promise, for any bytes that the buffers held: the laws "in the buffer".
use Rattle.std.specs.Prelude.{ℕ, List, ◌++◌, take, drop}
use Rattle.open.specs.Open.{OpenAnswer}
use Rattle.send.specs.Send.{SendAnswer}
use Rattle.read.specs.Read.{ReadAnswer}
use Rattle.close.specs.Close.{CloseAnswer}
use Rattle.take.specs.Take.{TakeAnswer}
use Rattle.pair.specs.World.{Party}
use Rattle.pair.specs.Step.{emitting, reading, taking, Done}

-- for the answer and the packet buffer at exit
abbrev pub open_seen : Party → OpenAnswer → List ℕ → Done
open_seen p r exit = record { reply = emitting r.number r.sid r.length (take r.length exit); end = r.end; storage = p.storage }

abbrev pub send_seen : Party → SendAnswer → List ℕ → Done
send_seen p r exit = record { reply = emitting r.number 0 r.length (take r.length exit); end = r.end; storage = p.storage }

abbrev pub close_seen : Party → CloseAnswer → List ℕ → Done
close_seen p r exit = record { reply = emitting r.number 0 r.length (take r.length exit); end = r.end; storage = p.storage }

-- for the answer, the payload buffer and the ACK buffer at exit
abbrev pub read_seen : Party → ReadAnswer → List ℕ → List ℕ → Done
read_seen p r exit exitAck = record {
  reply = reading r.number r.payload_length (take r.payload_length exit) r.ack_length (take r.ack_length exitAck);
  end = r.end;
  storage = p.storage;
}

-- for the answer and the lent front part of the storage at exit, n bytes of it
abbrev pub take_seen : Party → ℕ → TakeAnswer → List ℕ → Done
take_seen p n r exit = record {
  reply = taking r.number r.used r.kind r.sid r.missing;
  end = r.end;
  storage = exit ++ drop n p.storage;
}
