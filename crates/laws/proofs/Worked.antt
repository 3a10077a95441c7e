-- The worked packets of 002, section 4: our headers write those bytes, and are read from them.
use mathlib.Core.Path.{◌≡◌, refl}
use mathlib.Core.List.{map}
use Rattle.wire.specs.Packet.{number, bytes, read_header, header_bytes}
use Rattle.laws.specs.Worked.{Example, examples}

pub written : map (λ (x : Example). header_bytes x.header) examples ≡ map (λ (x : Example). x.bytes) examples
unfolding header_bytes bytes
written = refl

pub read : map (λ (x : Example). read_header x.bytes) examples ≡ map (λ (x : Example). x.header) examples
unfolding read_header number
read = refl
