-- So far the digits spell n, and what all spell is spelled from there on.
use Rattle.std.proofs.Common.{◌≡◌, ◌^◌, ◌<◌, drop}
use Rattle.words.specs.Words.{digits_from}
use Rattle.words.proofs.number.Given as goal

abbrev pub invariant-loop-c : goal.invariant-loop-c
invariant-loop-c l = record {
  short : l.n < 10 ^ l.c-index;
  rest : digits_from 0 l.chars ≡ digits_from l.n (drop l.c-index l.chars);
}
