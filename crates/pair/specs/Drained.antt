-- Nothing gets stuck: what takes and then reads of one side, with no help of anyone else, bring it of a session.
use Rattle.std.specs.Prelude.{ℕ, ◌≡◌, List, [], ◌++◌, length, replicate}
use Rattle.table.specs.Limits.{Limits}
use Rattle.pair.specs.Side.{Side, other}
use Rattle.pair.specs.Step.{Take, Read, Step, reply_to}
use Rattle.pair.specs.History.{Scene, history, final}
use Rattle.pair.specs.Claims.{own, accepted, received, Some, Ended, slot_at}
use Rattle.pair.specs.Placed.{on_way, unread_in}

-- as many takes as packets are on their way
abbrev pub takes : Scene → Side → ℕ → ℕ → List Step
takes x k given lent = replicate (length (x.book.notes k).coming) (record { side = k; call = Take given lent })

-- as many reads of the session in slot i, session n, as payloads of it are unread or on their way
abbrev pub reads : ℕ → Scene → Side → ℕ → ℕ → ℕ → ℕ → ℕ → List Step
reads place x k i n room ack lent =
    replicate (length (unread_in place x k i ++ on_way x k n)) (record { side = k; call = Read (slot_at x k i).sid room ack lent })

-- of a run of these steps from a scene, with more steps behind them
pub record Drained (lim : Limits) (first : Scene) (steps more : List Step) (k : Side) (n : ℕ) (next : Step) : Type 0 where
  -- nothing is on its way to that side
  pub nothing : ((final lim first (steps ++ more)).world k).coming ≡ []
  -- it has received all that the other side's sends had been accepted with, and none was accepted since
  pub all : received k (own n (history lim first (steps ++ more))) ≡ accepted (other k) (own n (history lim first steps))
  pub same : accepted (other k) (own n (history lim first (steps ++ more))) ≡ accepted (other k) (own n (history lim first steps))
  -- and if the other side had closed, the next read answers 11
  pub told : Some (Ended (other k)) (own n (history lim first steps)) → (reply_to lim next (final lim first (steps ++ more)).world).number ≡ 11
