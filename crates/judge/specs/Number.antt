-- The number that take gives: 12, 1, 9 (storage); 10 if under 16 bytes; 20, 21, 22; 10 if under LENGTH; then for SYN 24, 25, 26, 27, for
-- others 23, 30, 28, 29 (document 01, "Numbers that come back"); and 10's count.
use Rattle.std.specs.Prelude.{ℕ, ◌-◌, Bool, true, false, not, ◌&&◌, List, [], ◌∷◌, ◌++◌, length, eqb, ltb, Option, Some, None}
use Rattle.cases.specs.Cases.{Case, ◌⇒◌, if, first}
use Rattle.wire.specs.declared.header.Header.{Header}
use Rattle.wire.specs.declared.kind.Kind.{Kind}
use Rattle.wire.specs.declared.kind.Kind.TheVariants.{Syn, Ack, Fin, Data}
use Rattle.wire.specs.Packet.{header_length, read_header, flags_of, header_cases}
use Rattle.session.specs.declared.record.Session.{Session}
use Rattle.session.specs.Record.{fin_received}
use Rattle.effect.specs.Taken.{window_in_range, grant_in_range, seqnum_in_range}
use Rattle.table.specs.declared.end.Role.{Role}
use Rattle.table.specs.declared.end.Role.TheVariants.{Client, Server}
use Rattle.table.specs.declared.end.End.{End}
use Rattle.table.specs.Slots.{holds, session_of, full}
use Rattle.table.specs.Limits.{Limits}
use Rattle.table.specs.Well.{well_made}
use Rattle.calling.specs.Calling.{short_storage}

abbrev pub is_client : Role → Bool
is_client Client = true
is_client Server = false

-- for SYN 24, 25, 26, 27
abbrev pub syn_cases : Limits → Role → Bool → Bool → Header → List Case
syn_cases lim role held none h =
    is_client role ⇒ 24
    ∷ held ⇒ 25
    ∷ none ⇒ 26
    ∷ not (eqb h.seqnum 0 && grant_in_range lim.window h.wndw) ⇒ 27
    ∷ []

-- for others 23, 30, 28, 29
abbrev pub other_cases : Limits → Kind → Bool → Session → Header → List Case
other_cases lim k held x h =
    not held ⇒ 23
    ∷ fin_received x.state ⇒ 30
    ∷ not (window_in_range lim.window x h.wndw) ⇒ 28
    ∷ not (seqnum_in_range x k h.seqnum) ⇒ 29
    ∷ []

abbrev pub kind_cases : Limits → Option Kind → Role → Bool → Bool → Session → Header → List Case
kind_cases lim (Some Syn) role held none x h = syn_cases lim role held none h
kind_cases lim (Some Ack) role held none x h = other_cases lim Ack held x h
kind_cases lim (Some Fin) role held none x h = other_cases lim Fin held x h
kind_cases lim (Some Data) role held none x h = other_cases lim Data held x h
kind_cases lim None role held none x h = []

-- 20, 21, 22, 10 if under LENGTH, then by kind, for a header and so many bytes given
abbrev pub packet_cases : Limits → Role → Bool → Bool → Session → Header → ℕ → List Case
packet_cases lim role held none x h given =
    header_cases lim.place h ++ (ltb given h.length ⇒ 10 ∷ kind_cases lim (flags_of h.flags) role held none x h)

-- 12, 1, 9 (storage), 10 if under 16 bytes
abbrev pub take_cases : Bool → Bool → Bool → ℕ → List Case
take_cases made up short given = not made ⇒ 12 ∷ not up ⇒ 1 ∷ short ⇒ 9 ∷ ltb given header_length ⇒ 10 ∷ []

unfoldable pub take_number : Limits → End → List ℕ → ℕ → ℕ
take_number lim e bytes storage =
    first
    (take_cases (well_made lim e) e.up (short_storage lim e storage) (length bytes)
    ++ packet_cases lim e.role (holds (read_header bytes).sid e.slots) (full e.slots)
    (session_of (read_header bytes).sid e.slots) (read_header bytes) (length bytes))

-- 10's count: 16 less those given, or the rest of LENGTH
abbrev pub missing : List ℕ → ℕ
missing bytes = if (ltb (length bytes) header_length) (header_length - length bytes) ((read_header bytes).length - length bytes)
