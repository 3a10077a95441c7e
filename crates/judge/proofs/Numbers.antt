-- Take's number by its three parts, as the code asks them.
use Prim.Native.Nat.{ℕ, ◌≤◌, ◌<◌}
use native.Mathlib.Omega.{arith}
use mathlib.Core.Path.{◌≡◌, refl, ap, ◌∙◌}
use mathlib.Core.Bool.{Bool, true}
use mathlib.Core.List.{List, [], ◌∷◌, ◌++◌}
use lib.ListN.{length}
use lib.Dec.{ltb}
use Rattle.std.specs.Prelude.{is_some, is_none, Option, Some, None}
use Rattle.cases.specs.declared.fault.Fault.{Fault}
use Rattle.cases.specs.Cases.{Case, ◌⇒◌, first, done, fault_number}
use Rattle.cases.proofs.First.{numbered, first_append}
use Rattle.cases.proofs.Refused.{positive}
use Rattle.wire.specs.declared.header.Header.{Header}
use Rattle.wire.specs.declared.kind.Kind.{Kind}
use Rattle.wire.specs.declared.kind.Kind.TheVariants.{Syn, Ack, Fin, Data}
use Rattle.wire.specs.Packet.{read_header, flags_of, header_cases}
use Rattle.session.specs.Record.{payload_limit}
use Rattle.table.specs.declared.end.Role.{Role}
use Rattle.table.specs.declared.end.End.{End}
use Rattle.table.specs.Limits.{base}
use Rattle.table.specs.Slots.{holds, session_of, full}
use Rattle.table.specs.Well.{well_made}
use Rattle.scan.specs.declared.Look.{Look}
use Rattle.scan.specs.Look.{seen}
use Rattle.calling.specs.Calling.{short_storage}
use Rattle.judge.specs.declared.stop.Stop.{Stop}
use Rattle.judge.specs.Stops.{stop_number}
use Rattle.judge.specs.Number.{kind_cases, take_cases, take_number}
use Rattle.judge.specs.Seen.{session_in, seen_number}
use Rattle.judge.specs.Parts.{gate_number, whole_number, kind_number, seen_gate_number, seen_kind_number}
use Rattle.judge.proofs.Seen.{found_some, free_none, other_seen}

-- ---- no stop has the number 0

-- faults are numbers from 20 on
pub fault_least : (f : Fault) → 20 ≤ fault_number f
fault_least f = grind arith

pub stop_positive : (s : Stop) → 0 < stop_number s
stop_positive s = grind (arith, positive, fault_least)

-- ---- the three parts

-- the gate's number g, then 20, 21, 22 and 10, then the kind's number k
abbrev pub parts : ℕ → List ℕ → ℕ → ℕ
parts g bytes k = done g (done (whole_number (read_header bytes) (length bytes)) k (whole_number (read_header bytes) (length bytes))) g

-- so where they stand between other cases
in_parts : (gate kinds : List Case) (bytes : List ℕ) → numbered gate ≡ true
    → first (gate ++ (header_cases payload_limit (read_header bytes) ++ (ltb (length bytes) (read_header bytes).length ⇒ 10 ∷ kinds)))
    ≡ parts (first gate) bytes (first kinds)
unfolding whole_number numbered
in_parts gate kinds bytes p =
    let h = read_header bytes in
    let whole = header_cases payload_limit h ++ (ltb (length bytes) h.length ⇒ 10 ∷ []) in
    first_append gate (whole ++ kinds) p ∙ ap (λ (n : ℕ). done (first gate) n (first gate)) (first_append whole kinds refl)

-- of an end
pub number_is : (e : End) (bytes : List ℕ) (storage : ℕ) → take_number base e bytes storage
    ≡ done (gate_number e bytes storage)
    (done (whole_number (read_header bytes) (length bytes)) (kind_number (flags_of (read_header bytes).flags) (read_header bytes) e)
    (whole_number (read_header bytes) (length bytes)))
    (gate_number e bytes storage)
unfolding take_number gate_number kind_number numbered
number_is e bytes storage =
    let h = read_header bytes in
    let gate = take_cases (well_made base e) e.up (short_storage base e storage) (length bytes) in
    let kinds = kind_cases base (flags_of h.flags) e.role (holds h.sid e.slots) (full e.slots) (session_of h.sid e.slots) h in
    in_parts gate kinds bytes refl

-- for what was seen
pub seen_is : (look : Look) (up : Bool) (role : Role) (short : Bool) (bytes : List ℕ) → seen_number base look up role short bytes
    ≡ parts (seen_gate_number up short (length bytes)) bytes (seen_kind_number (flags_of (read_header bytes).flags) look role (read_header bytes))
unfolding seen_number seen_gate_number seen_kind_number numbered
seen_is look up role short bytes =
    let h = read_header bytes in
    let gate = take_cases true up short (length bytes) in
    let kinds = kind_cases base (flags_of h.flags) role (is_some look.found) (is_none look.free) (session_in look.found) h in
    in_parts gate kinds bytes refl

-- by kind the table is asked as what was seen of it
kind_seen : (k : Option Kind) (h : Header) (e : End) → kind_number k h e ≡ seen_kind_number k (seen e h.sid) e.role h
unfolding kind_number seen_kind_number
kind_seen (Some Syn) h e = rw (found_some, free_none)
kind_seen (Some Ack) h e = other_seen Ack h e
kind_seen (Some Fin) h e = other_seen Fin h e
kind_seen (Some Data) h e = other_seen Data h e
kind_seen None h e = refl

-- of an end, by what was seen of it
pub take_is : (e : End) (bytes : List ℕ) (storage : ℕ) → take_number base e bytes storage
    ≡ parts (first (take_cases (well_made base e) e.up (short_storage base e storage) (length bytes))) bytes
    (seen_kind_number (flags_of (read_header bytes).flags) (seen e (read_header bytes).sid) e.role (read_header bytes))
unfolding gate_number
take_is e bytes storage =
    number_is e bytes storage ∙ ap (parts (gate_number e bytes storage) bytes) (kind_seen (flags_of (read_header bytes).flags) (read_header bytes) e)
