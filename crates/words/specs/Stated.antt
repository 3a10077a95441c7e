-- The record that the words of a `record` line state.
use Rattle.std.specs.Prelude.{ℕ, List, [], ◌∷◌, get_or}
use Rattle.session.specs.declared.record.State.{State}
use Rattle.session.specs.declared.record.Session.{Session}
use Rattle.words.specs.Words.{short, counter, last_state, value_of}

-- the states in the order of their numbers
abbrev pub state_of : ℕ → State
state_of n = get_or (State.Closed ∷ State.Established ∷ State.FinSent ∷ State.FinReceived ∷ []) n State.Closed

abbrev pub stated_of : List ℕ → Session
stated_of line =
    record {
      state = state_of (value_of line 2 last_state);
      sid = value_of line 3 short;
      s = value_of line 4 counter;
      h = value_of line 5 counter;
      r = value_of line 6 counter;
      g = value_of line 7 counter;
      l = value_of line 8 counter;
      lens = value_of line 9 short ∷ value_of line 10 short ∷ value_of line 11 short ∷ value_of line 12 short ∷ [];
    }
