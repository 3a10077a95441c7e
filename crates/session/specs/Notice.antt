-- When a read sends a notice of the window (document 02, (i)). Every emitted packet sets L to its WNDW, so in ESTABLISHED L is what the peer
-- knows of G: the WNDW of the last packet that went out, 4 before the first.
use Rattle.std.specs.Prelude.{ℕ, Bool, ◌&&◌, nat_le}
use Rattle.session.specs.declared.record.Session.{Session}
use Rattle.session.specs.Counter.{minus, plus}
use Rattle.session.specs.Record.{established}

-- G after a read
abbrev pub new_g : Session → ℕ
new_g x = plus x.g 1

-- a read emits ACK: in ESTABLISHED, where the new G is 2 or more past L
unfoldable pub due : Session → Bool
due x = established x.state && nat_le 2 (minus (new_g x) x.l)
