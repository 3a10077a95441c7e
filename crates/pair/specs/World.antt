-- The pair in demand 3 (document 01): one client and one server, each started once at the beginning, joined by two faithful channels.
-- The number of slots and the limits are arguments; the calls' own are 16 slots, places of 512 bytes and a highest window of 2,147,483,647.
use Rattle.std.specs.Prelude.{ℕ, ◌+◌, ◌^◌, ◌≤◌, ◌<◌, List, []}
use Rattle.wire.specs.Packet.{header_length}
use Rattle.session.specs.Record.{window}
use Rattle.table.specs.declared.end.Role.{Role}
use Rattle.table.specs.declared.end.Role.TheVariants.{Client, Server}
use Rattle.table.specs.declared.end.End.{End}
use Rattle.table.specs.End.{started_of}
use Rattle.table.specs.Limits.{Limits}
use Rattle.pair.specs.Side.{Side, client, server}

abbrev pub role_of : Side → Role
role_of client = Client
role_of server = Server

-- one side: its end, the storage that it lends, and the bytes on their way to it
pub record Party : Type 0 where
  pub end : End
  pub storage : List ℕ
  pub coming : List ℕ

abbrev pub World : Type 0
World = Side → Party

-- one side replaced
abbrev pub with : {A : Type 0} → Side → A → (Side → A) → Side → A
with client a w client = a
with client a w server = w server
with server a w client = w client
with server a w server = a

-- SIDs have two bytes, LENGTH has four, and our window is within the highest that a peer may grant
pub record Sizes (slots : ℕ) (lim : Limits) : Type 0 where
  pub few : slots ≤ 2 ^ 16
  pub fits : header_length + lim.place < 2 ^ 32
  pub wide : window ≤ lim.window

-- both ends fresh, storages of any length and content, both channels empty
abbrev pub fresh : ℕ → (Side → List ℕ) → World
fresh slots storage k = record { end = started_of slots (role_of k); storage = storage k; coming = [] }
