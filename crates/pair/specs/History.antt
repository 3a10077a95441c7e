-- A history of the pair: any steps in any order from a fresh pair, each with the world before it, whose it is, its reply and the world after.
use Rattle.std.specs.Prelude.{ℕ, List, [], ◌∷◌}
use Rattle.std.proofs.Math.Option.{Option}
use Rattle.table.specs.End.{start_of}
use Rattle.table.specs.Limits.{Limits}
use Rattle.pair.specs.Side.{Side}
use Rattle.pair.specs.World.{role_of, World, fresh}
use Rattle.pair.specs.Step.{Step, Reply, reply_to, next}
use Rattle.pair.specs.Whose.{Book, empty, whose, noted}

-- a world, and the book beside it
pub record Scene : Type 0 where
  pub world : World
  pub book : Book

abbrev pub dawn : ℕ → (Side → List ℕ) → Scene
dawn slots storage = record { world = fresh slots storage; book = empty }

-- both ends just started, any storages, nothing on its way
abbrev pub start : (Side → List ℕ) → Scene
start storage = record { world = λ k. record { end = start_of (role_of k); storage = storage k; coming = [] }; book = empty }

pub record Entry : Type 0 where
  pub before : Scene
  pub step : Step
  pub whose : Option ℕ
  pub reply : Reply
  pub after : Scene

abbrev pub whose_in : Limits → Scene → Step → Option ℕ
whose_in lim x s =
    whose s.call (x.world s.side) x.book (x.book.notes s.side) (reply_to lim s x.world)

abbrev pub entry : Limits → Scene → Step → Entry
entry lim x s = record {
  before = x;
  step = s;
  whose = whose_in lim x s;
  reply = reply_to lim s x.world;
  after = record {
    world = next lim s x.world;
    book = noted s x.world (whose_in lim x s) (reply_to lim s x.world) x.book;
  };
}

unfoldable pub history : Limits → Scene → List Step → List Entry
history lim x [] = []
history lim x (s ∷ ss) = entry lim x s ∷ history lim (entry lim x s).after ss

-- where it ends
unfoldable pub final : Limits → Scene → List Step → Scene
final lim x [] = x
final lim x (s ∷ ss) = final lim (entry lim x s).after ss
